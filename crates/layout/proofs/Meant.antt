-- The file's bytes by places in the rows are the meaning's. Assumes nothing.
use Prim.Native.Nat.{ℕ, zero, suc, ◌+◌, ◌-◌, ◌*◌, ◌≤◌, ◌<◌}
use Prim.Native.String.{String}
use native.Mathlib.Omega.{arith}
use mathlib.Core.List.{List, [], ◌∷◌, ◌++◌, map, append_assoc, append-nil}
use mathlib.Core.Bool.{Bool, true, false, cond, ◌&&◌}
use mathlib.Core.Option.{none, some}
use mathlib.Core.Path.{◌≡◌, refl, sym, ap, ◌∙◌, subst}
use lib.ListN.{length, take, drop, get_or, length-map}
use lib.Seq.{get_or-drop, drop-drop}
use lib.Dec.{eqb}
use Rattle.meaning.specs.Columns.{object_width, component_width, rank_column, shape_column, format_column, format_length_column, attributes_column, attributes_length_column, count_column, dtype_column, type_column, type_length_column, offset_column, length_column, digest_column, digest_length_column}
use Rattle.meaning.specs.Text.{ascii, all}
use Rattle.meaning.specs.Read.{joined}
use Rattle.meaning.specs.Notes.{map_option}
use Rattle.meaning.specs.Types.{storage_of}
use Rattle.meaning.specs.Layouts.{root_names, object_names, component_names, magic}
use Rattle.meaning.specs.Asked.{AskedComponent, each_row, asked_object, asked_component, asked, present_at}
use Rattle.meaning.specs.Sound.{component_sound, rows_sound}
use Rattle.meaning.specs.Described.{DescribedComponent, DescribedObject, Described, blobs, described_component, described_object, described_objects, described}
use Rattle.meaning.specs.Manifest.{Keyed, under, given, entry_bytes, map_bytes, shortest_head, number_bytes, text_bytes, list_bytes, component_bytes, manifest_bytes}
use Rattle.meaning.specs.WrittenFile.{little_bytes, over, blobs_over, closing, file_of}
use Rattle.meaning.proofs.Lengths.{each-row-length, described-counted}
use Rattle.rows.specs.Turns.{begun, offset_at, stepped, reached, offsets_from, blob_lengths, entries_from, object_from, objects_from, counted}
use Rattle.rows.proofs.EachRow.{later_rows, all-dropped}
use Rattle.rows.proofs.Turns.{manifest-placed}
use Rattle.rows.proofs.Whole.{sound-components}
use Rattle.rows.proofs.Steps.{next-object, own-sound}
use Rattle.rows.proofs.Describes as describes
use Rattle.rows.proofs.Describes.{counted_next, rows-counted}
use Rattle.layout.specs.Pieces.{presence, range, optional, component_fields, component_at, object_front, object_rest, blobs_of, components_of, reached_past, objects_of, root_front, manifest_from, whole_of}
use Rattle.layout.specs.Rows.{Within, ComponentRow, ComponentRows, ObjectRows, WholeRows}
use Rattle.layout.proofs.RowLoop.{within-length, first-component, next-components, its-components, next-objects}
use Rattle.sizes.proofs.Exact.{entries-many}

abbrev pub field : String → List ℕ → List ℕ
field key value = text_bytes (ascii key) ++ value

-- ---- one map of the format: its fields, by which of the optional ones are there

component-fields : (t g : Bool) (D T O L G : List ℕ)
    → map_bytes (given component_names (some D ∷ map_option text_bytes (cond t none (some T)) ∷ some O ∷ some L ∷ none ∷ none ∷ map_option text_bytes (cond g none (some G)) ∷ []))
    ≡ shortest_head 5 (3 + cond t 0 1 + cond g 0 1)
    ++ (field "dtype" D ++ (cond t [] (field "type" (text_bytes T)) ++ (field "offset" O ++ (field "length" L ++ cond g [] (field "digest" (text_bytes G))))))
unfolding map_bytes given entry_bytes
component-fields true true D T O L G = refl
component-fields true false D T O L G = simp append-nil
component-fields false true D T O L G = refl
component-fields false false D T O L G = simp append-nil

object-fields : (t : Bool) (S F A C : List ℕ)
    → map_bytes (given object_names (some S ∷ some F ∷ cond t none (some A) ∷ some C ∷ []))
    ≡ shortest_head 5 (3 + cond t 0 1) ++ (field "shape" S ++ (field "format" F ++ (cond t [] (field "attributes" A) ++ field "components" C)))
unfolding map_bytes given entry_bytes
object-fields true S F A C = simp append-nil
object-fields false S F A C = simp append-nil

pub root-fields : (t : Bool) (N A O : List ℕ)
    → map_bytes (given root_names (some N ∷ cond t none (some A) ∷ some O ∷ []))
    ≡ shortest_head 5 (2 + cond t 0 1) ++ (field "version" N ++ (cond t [] (field "attributes" A) ++ field "objects" O))
unfolding map_bytes given entry_bytes
root-fields true N A O = simp append-nil
root-fields false N A O = simp append-nil

module _ (buffer : List ℕ) where
  -- ---- components

  -- as long as its row says
  blob-long : (rows : List ℕ) (row : ℕ) → ComponentRow buffer (drop row rows) → get_or rows (row + length_column) 0 ≡ length (described_component buffer (asked_component (drop row rows))).blob
  unfolding described_component asked_component
  blob-long rows row c = sym (get_or-drop row rows length_column 0) ∙ sym (within-length c.blob)

  component-meant : (row : List ℕ) (offset : ℕ) → Within buffer (get_or row offset_column 0) (get_or row length_column 0)
      → component_at buffer row offset ≡ entry_bytes (under (described_component buffer (asked_component row)).name (component_bytes offset (described_component buffer (asked_component row))))
  unfolding component_at component_fields optional presence entry_bytes component_bytes described_component asked_component present_at
  component-meant row offset w =
      ap (λ (z : List ℕ). text_bytes (range buffer (get_or row 0 0) (get_or row 1 0)) ++ z)
      (sym (ap (λ (n : ℕ). map_bytes (given component_names (some (text_bytes (storage_of (get_or row dtype_column 0)).called)
      ∷ map_option text_bytes (cond (eqb (get_or row type_column 0) 0 && eqb (get_or row type_length_column 0) 0) none (some (range buffer (get_or row type_column 0) (get_or row type_length_column 0))))
      ∷ some (number_bytes offset) ∷ some (number_bytes n) ∷ none ∷ none
      ∷ map_option text_bytes (cond (eqb (get_or row digest_column 0) 0 && eqb (get_or row digest_length_column 0) 0) none (some (range buffer (get_or row digest_column 0) (get_or row digest_length_column 0)))) ∷ []))) (within-length w)
      ∙ component-fields (eqb (get_or row type_column 0) 0 && eqb (get_or row type_length_column 0) 0) (eqb (get_or row digest_column 0) 0 && eqb (get_or row digest_length_column 0) 0) (text_bytes (storage_of (get_or row dtype_column 0)).called)
      (range buffer (get_or row type_column 0) (get_or row type_length_column 0)) (number_bytes offset) (number_bytes (get_or row length_column 0)) (range buffer (get_or row digest_column 0) (get_or row digest_length_column 0))))

  components-meant : (plan rows : List ℕ) (n row place : ℕ) → ComponentRows buffer plan rows n row place
      → components_of buffer plan rows n row place ≡ joined (map entry_bytes (entries_from plan place (map (described_component buffer) (each_row asked_component component_width n (drop row rows)))))
  unfolding components_of entries_from each_row
  components-meant plan rows zero row place rs = refl
  components-meant plan rows (suc n) row place rs =
      let some_left : 0 < suc n = omega arith in
      let e : suc n - 1 ≡ n = omega arith in
      let c : DescribedComponent = described_component buffer (asked_component (drop row rows)) in
      let l : stepped plan place (get_or rows (row + length_column) 0) ≡ stepped plan place (length c.blob) = ap (stepped plan place) (blob-long rows row (first-component rs some_left)) in
      ap (λ (z : List ℕ). z ++ components_of buffer plan rows n (row + component_width) (stepped plan place (get_or rows (row + length_column) 0))) (component-meant (drop row rows) (offset_at plan place) (first-component rs some_left).blob)
      ∙ ap (λ (z : List ℕ). entry_bytes (under c.name (component_bytes (offset_at plan place) c)) ++ z)
      (components-meant plan rows n (row + component_width) (stepped plan place (get_or rows (row + length_column) 0))
      (subst (λ (k : ℕ). ComponentRows buffer plan rows k (row + component_width) (stepped plan place (get_or rows (row + length_column) 0))) e (next-components rs some_left))
      ∙ ap (λ (s : List ℕ). joined (map entry_bytes (entries_from plan (stepped plan place (get_or rows (row + length_column) 0)) (map (described_component buffer) (each_row asked_component component_width n s))))) (sym (drop-drop component_width row rows))
      ∙ ap (λ (k : ℕ). joined (map entry_bytes (entries_from plan k (map (described_component buffer) (each_row asked_component component_width n (drop component_width (drop row rows))))))) l)

  -- ---- blobs

  blob-same : (rows : List ℕ) (row : ℕ) → range buffer (get_or rows (row + offset_column) 0) (get_or rows (row + length_column) 0) ≡ (described_component buffer (asked_component (drop row rows))).blob
  unfolding described_component asked_component
  blob-same rows row = ap (λ (k : ℕ). range buffer k (get_or rows (row + length_column) 0)) (sym (get_or-drop row rows offset_column 0)) ∙ ap (λ (k : ℕ). range buffer (get_or (drop row rows) offset_column 0) k) (sym (get_or-drop row rows length_column 0))

  abbrev blobs-in : List AskedComponent → List (List ℕ)
  blobs-in cs = describes.blobs_of buffer cs

  pub blobs-meant : (plan rows file : List ℕ) (n row turn : ℕ) → ComponentRows buffer plan rows n row turn
      → blobs_of buffer plan rows file n row turn
      ≡ blobs_over file (offsets_from plan turn (map length (blobs-in (each_row asked_component component_width n (drop row rows))))) (blobs-in (each_row asked_component component_width n (drop row rows)))
  unfolding blobs_of blobs_over offsets_from each_row described_component
  blobs-meant plan rows file zero row turn rs = refl
  blobs-meant plan rows file (suc n) row turn rs =
      let some_left : 0 < suc n = omega arith in
      let e : suc n - 1 ≡ n = omega arith in
      let b : List ℕ = (described_component buffer (asked_component (drop row rows))).blob in
      let k : ℕ = stepped plan turn (get_or rows (row + length_column) 0) in
      let l : k ≡ stepped plan turn (length b) = ap (stepped plan turn) (blob-long rows row (first-component rs some_left)) in
      ap (λ (z : List ℕ). blobs_of buffer plan rows (over file (offset_at plan turn) z) n (row + component_width) k) (blob-same rows row)
      ∙ blobs-meant plan rows (over file (offset_at plan turn) b) n (row + component_width) k (subst (λ (j : ℕ). ComponentRows buffer plan rows j (row + component_width) k) e (next-components rs some_left))
      ∙ ap (λ (s : List ℕ). blobs_over (over file (offset_at plan turn) b) (offsets_from plan k (map length (blobs-in (each_row asked_component component_width n s)))) (blobs-in (each_row asked_component component_width n s))) (sym (drop-drop component_width row rows))
      ∙ ap (λ (j : ℕ). blobs_over (over file (offset_at plan turn) b) (offsets_from plan j (map length (blobs-in (each_row asked_component component_width n (drop component_width (drop row rows)))))) (blobs-in (each_row asked_component component_width n (drop component_width (drop row rows))))) l

  -- ---- objects

  pub objects-counted : (plan : List ℕ) (n : ℕ) (os : List DescribedObject) → length (objects_from plan n os) ≡ length os
  unfolding objects_from
  objects-counted plan n [] = refl
  objects-counted plan n (o ∷ os) = ap suc (objects-counted plan (reached plan n (blob_lengths o.components)) os)

  regrouped : (N H s S f F A k h E : List ℕ) → (N ++ (H ++ (s ++ S))) ++ (((f ++ F) ++ (A ++ (k ++ h))) ++ E) ≡ N ++ (H ++ ((s ++ S) ++ ((f ++ F) ++ (A ++ (k ++ (h ++ E))))))
  regrouped N H s S f F A k h E = simp append_assoc

  module _ (plan rows : List ℕ) where
    module _ (row from place : ℕ) where
      abbrev count : ℕ
      count = get_or rows (row + count_column) 0

      abbrev its : List AskedComponent
      its = each_row asked_component component_width count (drop from rows)

      abbrev object : DescribedObject
      object = described_object buffer (asked_object (drop row rows)) its

      components-map : ComponentRows buffer plan rows count from place
          → map_bytes (entries_from plan place (map (described_component buffer) its)) ≡ shortest_head 5 (get_or (drop row rows) count_column 0) ++ components_of buffer plan rows count from place
      unfolding map_bytes
      components-map rs =
          ap (λ (k : ℕ). shortest_head 5 k ++ joined (map entry_bytes (entries_from plan place (map (described_component buffer) its))))
          (entries-many plan buffer place (map (described_component buffer) its) ∙ length-map its (described_component buffer) ∙ each-row-length asked_component component_width count (drop from rows) ∙ sym (get_or-drop row rows count_column 0))
          ∙ ap (λ (z : List ℕ). shortest_head 5 (get_or (drop row rows) count_column 0) ++ z) (sym (components-meant plan rows count from place rs))

      object-meant : ComponentRows buffer plan rows count from place
          → object_front buffer (drop row rows) ++ (object_rest buffer (drop row rows) ++ components_of buffer plan rows count from place) ≡ entry_bytes (under object.name (object_from plan place object))
      unfolding object_front object_rest optional presence entry_bytes object_from described_object asked_object present_at
      object-meant rs =
          let r : List ℕ = drop row rows in
          let t : Bool = eqb (get_or r attributes_column 0) 0 && eqb (get_or r attributes_length_column 0) 0 in
          regrouped (text_bytes (range buffer (get_or r 0 0) (get_or r 1 0))) (shortest_head 5 (3 + cond t 0 1)) (text_bytes (ascii "shape")) (list_bytes (take (get_or r rank_column 0) (drop shape_column r)))
          (text_bytes (ascii "format")) (text_bytes (range buffer (get_or r format_column 0) (get_or r format_length_column 0)))
          (cond t [] (text_bytes (ascii "attributes") ++ range buffer (get_or r attributes_column 0) (get_or r attributes_length_column 0))) (text_bytes (ascii "components")) (shortest_head 5 (get_or r count_column 0))
          (components_of buffer plan rows count from place)
          ∙ ap (λ (z : List ℕ). text_bytes (range buffer (get_or r 0 0) (get_or r 1 0)) ++ z)
          (sym (object-fields t (list_bytes (take (get_or r rank_column 0) (drop shape_column r))) (text_bytes (range buffer (get_or r format_column 0) (get_or r format_length_column 0))) (range buffer (get_or r attributes_column 0) (get_or r attributes_length_column 0))
          (shortest_head 5 (get_or r count_column 0) ++ components_of buffer plan rows count from place))
          ∙ ap (λ (z : List ℕ). map_bytes (given object_names (some (list_bytes (take (get_or r rank_column 0) (drop shape_column r))) ∷ some (text_bytes (range buffer (get_or r format_column 0) (get_or r format_length_column 0)))
          ∷ cond t none (some (range buffer (get_or r attributes_column 0) (get_or r attributes_length_column 0))) ∷ some z ∷ []))) (sym (components-map rs)))

    -- n objects from the place `row` on, with the components that they count from the place `from` on
    abbrev pub all-counted : ℕ → ℕ → ℕ
    all-counted n row = counted (each_row asked_object object_width n (drop row rows))

    abbrev pub asked-from : ℕ → ℕ → List AskedComponent
    asked-from m from = each_row asked_component component_width m (drop from rows)

    abbrev pub described-from : ℕ → ℕ → ℕ → ℕ → List DescribedObject
    described-from n m row from = described_objects buffer (each_row asked_object object_width n (drop row rows)) (asked-from m from)

    module _ (n row from place : ℕ) (rs : ObjectRows buffer plan rows (suc n) row from place)
        (sound : all (component_sound buffer) (asked-from (all-counted (suc n) row) from) ≡ true) where
      abbrev k : ℕ
      k = get_or rows (row + count_column) 0

      abbrev q : ℕ
      q = from + component_width * k

      one_less : suc n - 1 ≡ n
      one_less = omega arith

      some_left : 0 < suc n
      some_left = omega arith

      counts : all-counted (suc n) row ≡ k + all-counted n (row + object_width)
      counts = counted_next rows (suc n) row some_left ∙ ap (λ (j : ℕ). k + all-counted j (row + object_width)) one_less

      few : k ≤ all-counted (suc n) row
      few = omega (arith, counts)

      left_over : all-counted (suc n) row - k ≡ all-counted n (row + object_width)
      left_over = omega (arith, counts)

      others-sound : all (component_sound buffer) (asked-from (all-counted n (row + object_width)) q) ≡ true
      others-sound =
          sym (ap (all (component_sound buffer)) (later_rows asked_component component_width (all-counted (suc n) row) k from rows few ∙ ap (λ (j : ℕ). asked-from j q) left_over))
          ∙ all-dropped (component_sound buffer) k (asked-from (all-counted (suc n) row) from) sound

      first_entry : objects_from plan place (described-from (suc n) (all-counted (suc n) row) row from)
          ≡ under (object row from place).name (object_from plan place (object row from place))
          ∷ objects_from plan (reached_past plan rows k from place) (described-from n (all-counted n (row + object_width)) (row + object_width) q)
      unfolding described_object
      first_entry =
          next-object plan buffer rows rows (suc n) (all-counted (suc n) row) row from place some_left few
          (own-sound plan buffer rows rows (suc n) (all-counted (suc n) row) row from place few sound)
          ∙ ap (λ (j : ℕ). under (object row from place).name (object_from plan place (object row from place))
          ∷ objects_from plan (reached_past plan rows k from place) (described-from j (all-counted (suc n) row - k) (row + object_width) q)) one_less
          ∙ ap (λ (j : ℕ). under (object row from place).name (object_from plan place (object row from place))
          ∷ objects_from plan (reached_past plan rows k from place) (described-from n j (row + object_width) q)) left_over

      others : ObjectRows buffer plan rows n (row + object_width) q (reached_past plan rows k from place)
      others = subst (λ (j : ℕ). ObjectRows buffer plan rows j (row + object_width) q (reached_past plan rows k from place)) one_less (next-objects rs some_left)

      first-meant : objects_of buffer plan rows (suc n) row from place
          ≡ entry_bytes (under (object row from place).name (object_from plan place (object row from place))) ++ objects_of buffer plan rows n (row + object_width) q (reached_past plan rows k from place)
      unfolding objects_of
      first-meant =
          together (object_front buffer (drop row rows)) (object_rest buffer (drop row rows)) (components_of buffer plan rows k from place)
          (objects_of buffer plan rows n (row + object_width) q (reached_past plan rows k from place))
          ∙ ap (λ (z : List ℕ). z ++ objects_of buffer plan rows n (row + object_width) q (reached_past plan rows k from place)) (object-meant row from place (its-components rs some_left))
        where
          together : (A B C D : List ℕ) → A ++ (B ++ (C ++ D)) ≡ (A ++ (B ++ C)) ++ D
          together A B C D = simp append_assoc

    pub objects-meant : (n row from place : ℕ) → ObjectRows buffer plan rows n row from place → all (component_sound buffer) (asked-from (all-counted n row) from) ≡ true
        → objects_of buffer plan rows n row from place ≡ joined (map entry_bytes (objects_from plan place (described-from n (all-counted n row) row from)))
    unfolding objects_of objects_from each_row described_objects
    objects-meant zero row from place rs e = refl
    objects-meant (suc n) row from place rs e =
        first-meant n row from place rs e
        ∙ ap (λ (z : List ℕ). entry_bytes (under (object row from place).name (object_from plan place (object row from place))) ++ z)
        (objects-meant n (row + object_width) (from + component_width * get_or rows (row + count_column) 0) (reached_past plan rows (get_or rows (row + count_column) 0) from place) (others n row from place rs e)
        (others-sound n row from place rs e))
        ∙ ap (λ (es : List (Keyed (List ℕ))). joined (map entry_bytes es)) (sym (first_entry n row from place rs e))

-- ---- all of it, of sound rows

module _ (buffer plan rows : List ℕ) (objects components place size : ℕ) (sound : rows_sound buffer rows objects components (record { place = place; size = size }) ≡ true)
    (whole : WholeRows buffer plan rows objects components place size) where
  abbrev d : Described
  d = described buffer (asked rows objects components (record { place = place; size = size }))

  abbrev offsets : List ℕ
  offsets = offsets_from plan (begun plan) (map length (blobs d))

  abbrev cs : List AskedComponent
  cs = each_row asked_component component_width components (drop (object_width * objects) rows)

  all_sound : all (component_sound buffer) cs ≡ true
  all_sound = sound-components buffer rows objects components (record { place = place; size = size }) sound

  all_there : counted (each_row asked_object object_width objects rows) ≡ components
  all_there = rows-counted buffer rows objects components (record { place = place; size = size }) sound

  objects-map : map_bytes (objects_from plan (begun plan) d.objects) ≡ shortest_head 5 objects ++ objects_of buffer plan rows objects 0 (object_width * objects) (begun plan)
  unfolding map_bytes described asked
  objects-map =
      ap (λ (k : ℕ). shortest_head 5 k ++ joined (map entry_bytes (objects_from plan (begun plan) d.objects)))
      (objects-counted buffer plan (begun plan) d.objects ∙ described-counted buffer (each_row asked_object object_width objects rows) cs ∙ each-row-length asked_object object_width objects rows)
      ∙ ap (λ (z : List ℕ). shortest_head 5 objects ++ z)
      (sym (objects-meant buffer plan rows objects 0 (object_width * objects) (begun plan) whole.each
      (subst (λ (m : ℕ). all (component_sound buffer) (each_row asked_component component_width m (drop (object_width * objects) rows)) ≡ true) (sym all_there) all_sound)
      ∙ ap (λ (m : ℕ). joined (map entry_bytes (objects_from plan (begun plan) (described_objects buffer (each_row asked_object object_width objects rows) (each_row asked_component component_width m (drop (object_width * objects) rows))))))
      all_there))

  pub manifest-meant : manifest_from buffer plan rows objects (object_width * objects) place size ≡ manifest_bytes d offsets
  unfolding manifest_from root_front optional presence described asked present_at
  manifest-meant =
      let t : Bool = eqb place 0 && eqb size 0 in
      joined-up (shortest_head 5 (2 + cond t 0 1)) (text_bytes (ascii "version")) (text_bytes (ascii "1.2.0")) (cond t [] (text_bytes (ascii "attributes") ++ range buffer place size))
      (text_bytes (ascii "objects")) (shortest_head 5 objects) (objects_of buffer plan rows objects 0 (object_width * objects) (begun plan))
      ∙ sym (root-fields t (text_bytes (ascii "1.2.0")) (range buffer place size) (shortest_head 5 objects ++ objects_of buffer plan rows objects 0 (object_width * objects) (begun plan)))
      ∙ ap (λ (z : List ℕ). map_bytes (given root_names (some (text_bytes (ascii "1.2.0")) ∷ cond t none (some (range buffer place size)) ∷ some z ∷ []))) (sym objects-map)
      ∙ sym (manifest-placed plan d)
    where
      joined-up : (H v w A o h E : List ℕ) → (H ++ (v ++ (w ++ (A ++ (o ++ h))))) ++ E ≡ H ++ ((v ++ w) ++ (A ++ (o ++ (h ++ E))))
      joined-up H v w A o h E = simp append_assoc

  blobs-placed : blobs_of buffer plan rows magic components (object_width * objects) (begun plan) ≡ blobs_over magic offsets (blobs d)
  blobs-placed =
      blobs-meant buffer plan rows magic components (object_width * objects) (begun plan) whole.blobs
      ∙ ap (λ (bs : List (List ℕ)). blobs_over magic (offsets_from plan (begun plan) (map length bs)) bs) (sym (describes.blobs-are buffer rows objects components (record { place = place; size = size }) sound))

  pub whole-meant : whole_of buffer plan rows objects components place size ≡ file_of d offsets
  unfolding whole_of file_of closing
  whole-meant =
      ap (λ (m : List ℕ). blobs_of buffer plan rows magic components (object_width * objects) (begun plan) ++ (m ++ (little_bytes 8 (length m) ++ magic))) manifest-meant
      ∙ ap (λ (b : List ℕ). b ++ (manifest_bytes d offsets ++ (little_bytes 8 (length (manifest_bytes d offsets)) ++ magic))) blobs-placed
      ∙ ap (λ (z : List ℕ). blobs_over magic offsets (blobs d) ++ z) (sym (append_assoc (manifest_bytes d offsets) (little_bytes 8 (length (manifest_bytes d offsets))) magic))
