-- The bytes of two files in one are those of the writer's file of both descriptions in one. Assumes nothing.
use Prim.Native.Nat.{ℕ, ◌+◌, ◌*◌}
use mathlib.Core.List.{List, [], ◌∷◌, ◌++◌, map, append_assoc}
use mathlib.Core.Bool.{Bool, true, cond, ◌&&◌}
use mathlib.Core.Option.{Option, some}
use mathlib.Core.Path.{◌≡◌, refl, sym, ap, ap₂, ◌∙◌, subst}
use lib.ListN.{length, drop, length-append}
use lib.Dec.{eqb}
use Rattle.meaning.specs.Columns.{object_width, component_width}
use Rattle.meaning.specs.Text.{ascii, all}
use Rattle.meaning.specs.Read.{Span, joined}
use Rattle.meaning.specs.Layouts.{magic, root_names}
use Rattle.meaning.specs.Asked.{each_row, asked_object, asked_component, asked, present_at}
use Rattle.meaning.specs.Sound.{component_sound, rows_sound}
use Rattle.meaning.specs.Described.{DescribedComponent, DescribedObject, Described, blobs_in, blobs, described_objects, described}
use Rattle.meaning.specs.Manifest.{Keyed, under, given, entry_bytes, map_bytes, shortest_head, text_bytes, manifest_bytes}
use Rattle.meaning.specs.Placement.{placement}
use Rattle.meaning.specs.WrittenFile.{little_bytes, over, blobs_over, closing, file_of}
use Rattle.meaning.proofs.Lengths.{map_both, each-row-length, described-counted}
use Rattle.rows.specs.Turns.{begun, offset_at, stepped, reached, offsets_from, blob_lengths, object_from, objects_from, counted}
use Rattle.rows.proofs.Turns.{manifest-placed, offsets-by-rule, reached-joined}
use Rattle.rows.proofs.Whole.{sound-components}
use Rattle.rows.proofs.Describes as describes
use Rattle.layout.specs.Pieces.{presence, range, optional, blobs_of, objects_of, root_front}
use Rattle.layout.proofs.Meant as meant
use Rattle.roundtrip.specs.Again.{plain_file}
use Rattle.merging.specs.Merge.{or_else, merged}
use Rattle.joint.specs.Joint.{Rows, front_of, manifest_of, whole_of}

-- ---- lists, one after the other

joined-both : {A : Type 0} (f : A → List ℕ) (xs ys : List A) → joined (map f (xs ++ ys)) ≡ joined (map f xs) ++ joined (map f ys)
joined-both f [] ys = refl
joined-both f (x ∷ xs) ys = ap (λ (r : List ℕ). f x ++ r) (joined-both f xs ys) ∙ sym (append_assoc (f x) (joined (map f xs)) (joined (map f ys)))

pub blobs-both : (os ps : List DescribedObject) → blobs_in (os ++ ps) ≡ blobs_in os ++ blobs_in ps
unfolding blobs_in
blobs-both [] ps = refl
blobs-both (o ∷ os) ps =
    ap (λ (r : List (List ℕ)). map (λ c. c.blob) o.components ++ r) (blobs-both os ps) ∙ sym (append_assoc (map (λ c. c.blob) o.components) (blobs_in os) (blobs_in ps))

pub lengths-both : (os ps : List DescribedObject) → map length (blobs_in (os ++ ps)) ≡ map length (blobs_in os) ++ map length (blobs_in ps)
lengths-both os ps = ap (map length) (blobs-both os ps) ∙ map_both length (blobs_in os) (blobs_in ps)

offsets-both : (n : ℕ) (ks ls : List ℕ) → offsets_from [] n (ks ++ ls) ≡ offsets_from [] n ks ++ offsets_from [] (reached [] n ks) ls
unfolding offsets_from reached
offsets-both n [] ls = refl
offsets-both n (k ∷ ks) ls = ap (λ (r : List ℕ). offset_at [] n ∷ r) (offsets-both (stepped [] n k) ks ls)

over-both : (file : List ℕ) (n : ℕ) (bs cs : List (List ℕ)) (os : List ℕ)
    → blobs_over file (offsets_from [] n (map length bs) ++ os) (bs ++ cs) ≡ blobs_over (blobs_over file (offsets_from [] n (map length bs)) bs) os cs
unfolding offsets_from blobs_over
over-both file n [] cs os = refl
over-both file n (b ∷ bs) cs os = over-both (over file (offset_at [] n) b) (stepped [] n (length b)) bs cs os

blob-lengths : (cs : List DescribedComponent) → map length (map (λ c. c.blob) cs) ≡ blob_lengths cs
blob-lengths [] = refl
blob-lengths (c ∷ cs) = ap (λ (r : List ℕ). length c.blob ∷ r) (blob-lengths cs)

pub objects-both : (n : ℕ) (os ps : List DescribedObject) → objects_from [] n (os ++ ps) ≡ objects_from [] n os ++ objects_from [] (reached [] n (map length (blobs_in os))) ps
unfolding objects_from reached blobs_in
objects-both n [] ps = refl
objects-both n (o ∷ os) ps =
    let turn : ℕ = reached [] n (blob_lengths o.components) in
    let e : reached [] n (map length (map (λ c. c.blob) o.components ++ blobs_in os)) ≡ reached [] turn (map length (blobs_in os)) =
    ap (reached [] n) (map_both length (map (λ c. c.blob) o.components) (blobs_in os)) ∙ reached-joined [] n (map length (map (λ c. c.blob) o.components)) (map length (blobs_in os))
    ∙ ap (λ (ls : List ℕ). reached [] (reached [] n ls) (map length (blobs_in os))) (blob-lengths o.components) in
    ap (λ (r : List (Keyed (List ℕ))). under o.name (object_from [] n o) ∷ r) (objects-both turn os ps ∙ ap (λ (t : ℕ). objects_from [] turn os ++ objects_from [] t ps) (sym e))

-- ---- of sound rows, where a turn is reached

module _ (buffer rows : List ℕ) (objects components : ℕ) (attributes : Span) (sound : rows_sound buffer rows objects components attributes ≡ true) (turn : ℕ)
    (fit : Rows buffer rows objects components turn) where
  abbrev of-rows : Described
  of-rows = described buffer (asked rows objects components attributes)

  all_there : counted (each_row asked_object object_width objects rows) ≡ components
  all_there = describes.rows-counted buffer rows objects components attributes sound

  pub objects-are : objects_of buffer [] rows objects 0 (object_width * objects) turn ≡ joined (map entry_bytes (objects_from [] turn of-rows.objects))
  unfolding described asked
  objects-are =
      meant.objects-meant buffer [] rows objects 0 (object_width * objects) turn fit.objects
      (subst (λ (m : ℕ). all (component_sound buffer) (each_row asked_component component_width m (drop (object_width * objects) rows)) ≡ true) (sym all_there)
      (sound-components buffer rows objects components attributes sound))
      ∙ ap (λ (m : ℕ). joined (map entry_bytes (objects_from [] turn (described_objects buffer (each_row asked_object object_width objects rows) (each_row asked_component component_width m (drop (object_width * objects) rows))))))
      all_there

  pub objects-counted : length of-rows.objects ≡ objects
  unfolding described asked
  objects-counted =
      described-counted buffer (each_row asked_object object_width objects rows) (each_row asked_component component_width components (drop (object_width * objects) rows)) ∙ each-row-length asked_object object_width objects rows

  pub blobs-placed : (file : List ℕ) → blobs_of buffer [] rows file components (object_width * objects) turn ≡ blobs_over file (offsets_from [] turn (map length (blobs of-rows))) (blobs of-rows)
  blobs-placed file =
      meant.blobs-meant buffer [] rows file components (object_width * objects) turn fit.blobs
      ∙ ap (λ (bs : List (List ℕ)). blobs_over file (offsets_from [] turn (map length bs)) bs) (sym (describes.blobs-are buffer rows objects components attributes sound))

-- ---- both

module _ (attributes : List ℕ) (place size : ℕ) (a b : Described) (n k turn : ℕ) (n-is : length a.objects ≡ n) (k-is : length b.objects ≡ k)
    (turn_is : turn ≡ reached [] 8 (map length (blobs a))) (kept : present_at attributes (record { place = place; size = size }) ≡ or_else a.attributes b.attributes) where
  abbrev d : Described
  d = merged a b

  abbrev E : List ℕ
  E = joined (map entry_bytes (objects_from [] 8 a.objects)) ++ joined (map entry_bytes (objects_from [] turn b.objects))

  entries-are : map_bytes (objects_from [] 8 d.objects) ≡ shortest_head 5 (n + k) ++ E
  unfolding map_bytes merged
  entries-are =
      let o = objects-both 8 a.objects b.objects ∙ ap (λ (t : ℕ). objects_from [] 8 a.objects ++ objects_from [] t b.objects) (sym turn_is) in
      let c : length (objects_from [] 8 a.objects ++ objects_from [] turn b.objects) ≡ n + k =
      length-append (objects_from [] 8 a.objects) (objects_from [] turn b.objects)
      ∙ ap₂ (λ (x y : ℕ). x + y) (meant.objects-counted [] [] 8 a.objects ∙ n-is) (meant.objects-counted [] [] turn b.objects ∙ k-is) in
      ap (λ (es : List (Keyed (List ℕ))). shortest_head 5 (length es) ++ joined (map entry_bytes es)) o
      ∙ ap₂ (λ (l : ℕ) (z : List ℕ). shortest_head 5 l ++ z) c (joined-both entry_bytes (objects_from [] 8 a.objects) (objects_from [] turn b.objects))

  pub manifest-meant : root_front attributes (n + k) place size ++ E ≡ manifest_bytes d (placement (map length (blobs d)))
  unfolding root_front optional presence present_at begun merged magic
  manifest-meant =
      let t : Bool = eqb place 0 && eqb size 0 in
      joined-up (shortest_head 5 (2 + cond t 0 1)) (text_bytes (ascii "version")) (text_bytes (ascii "1.2.0")) (cond t [] (text_bytes (ascii "attributes") ++ range attributes place size))
      (text_bytes (ascii "objects")) (shortest_head 5 (n + k)) E
      ∙ sym (meant.root-fields t (text_bytes (ascii "1.2.0")) (range attributes place size) (shortest_head 5 (n + k) ++ E))
      ∙ ap₂ (λ (x : Option (List ℕ)) (z : List ℕ). map_bytes (given root_names (some (text_bytes (ascii "1.2.0")) ∷ x ∷ some z ∷ []))) kept (sym entries-are)
      ∙ sym (manifest-placed [] d) ∙ ap (manifest_bytes d) (offsets-by-rule (map length (blobs d)))
    where
      joined-up : (H v w A o h E : List ℕ) → (H ++ (v ++ (w ++ (A ++ (o ++ h))))) ++ E ≡ H ++ ((v ++ w) ++ (A ++ (o ++ (h ++ E))))
      joined-up H v w A o h E = simp append_assoc

  pub front-meant : blobs_over (blobs_over magic (offsets_from [] 8 (map length (blobs a))) (blobs a)) (offsets_from [] turn (map length (blobs b))) (blobs b)
      ≡ blobs_over magic (placement (map length (blobs d))) (blobs d)
  unfolding merged begun magic
  front-meant =
      sym (over-both magic 8 (blobs a) (blobs b) (offsets_from [] turn (map length (blobs b))))
      ∙ ap (λ (t : ℕ). blobs_over magic (offsets_from [] 8 (map length (blobs a)) ++ offsets_from [] t (map length (blobs b))) (blobs a ++ blobs b)) turn_is
      ∙ ap₂ (λ (os : List ℕ) (bs : List (List ℕ)). blobs_over magic os bs)
      (sym (offsets-both 8 (map length (blobs a)) (map length (blobs b))) ∙ ap (offsets_from [] 8) (sym (lengths-both a.objects b.objects)) ∙ offsets-by-rule (map length (blobs d)))
      (sym (blobs-both a.objects b.objects))

module _ (attributes : List ℕ) (place size : ℕ) (first rows : List ℕ) (n c : ℕ) (A : Span) (second others : List ℕ) (k e turn : ℕ) (B : Span)
    (sound : rows_sound first rows n c A ≡ true) (sound' : rows_sound second others k e B ≡ true) (fit : Rows first rows n c 8) (fit' : Rows second others k e turn) where
  abbrev a : Described
  a = described first (asked rows n c A)

  abbrev b : Described
  b = described second (asked others k e B)

  pub whole-meant : turn ≡ reached [] 8 (map length (blobs a)) → present_at attributes (record { place = place; size = size }) ≡ or_else a.attributes b.attributes
      → whole_of attributes place size first rows n c second others k e turn ≡ plain_file (merged a b)
  unfolding whole_of front_of manifest_of plain_file file_of closing
  whole-meant turn_is kept =
      let d : Described = merged a b in
      let offsets : List ℕ = placement (map length (blobs d)) in
      let m : manifest_of attributes place size first rows n second others k turn ≡ manifest_bytes d offsets =
      ap₂ (λ (x y : List ℕ). root_front attributes (n + k) place size ++ (x ++ y)) (objects-are first rows n c A sound 8 fit) (objects-are second others k e B sound' turn fit')
      ∙ manifest-meant attributes place size a b n k turn (objects-counted first rows n c A sound 8 fit) (objects-counted second others k e B sound' turn fit') turn_is kept in
      let f : front_of first rows n c second others k e turn ≡ blobs_over magic offsets (blobs d) =
      blobs-placed second others k e B sound' turn fit' (blobs_of first [] rows magic c (object_width * n) 8)
      ∙ ap (λ (z : List ℕ). blobs_over z (offsets_from [] turn (map length (blobs b))) (blobs b)) (blobs-placed first rows n c A sound 8 fit magic)
      ∙ front-meant attributes place size a b n k turn (objects-counted first rows n c A sound 8 fit) (objects-counted second others k e B sound' turn fit') turn_is kept in
      ap₂ (λ (x y : List ℕ). x ++ (y ++ (little_bytes 8 (length y) ++ magic))) f m
      ∙ ap (λ (z : List ℕ). blobs_over magic offsets (blobs d) ++ z) (sym (append_assoc (manifest_bytes d offsets) (little_bytes 8 (length (manifest_bytes d offsets))) magic))
