-- The pieces of the manifest are read as their trees, or DEEP is met in their attributes.
use Prim.Native.Nat.{ℕ, zero, suc, ◌^◌, ◌≤◌}
use native.Mathlib.Omega.{arith}
use mathlib.Core.List.{List, [], ◌∷◌, ◌++◌, map, append_assoc, append-nil}
use mathlib.Core.Bool.{Bool, true, false}
use mathlib.Core.Option.{Option, none, some}
use mathlib.Core.Path.{◌≡◌, refl, ap, sym, ◌∙◌, subst}
use lib.Dec.{eqb, ltb}
use lib.ListN.{length, take, drop, get_or, length-map}
use borrow.Author.Tests.{eqb-true, ltb-true}
use Rattle.meaning.specs.Refusal.{DEEP}
use Rattle.meaning.specs.Text.{all, ascii}
use Rattle.meaning.specs.Tree.{Node, text, array, dict, nodes, pairs, map_p, nothing}
use Rattle.meaning.specs.Read.{Outcome, got, refused, Reader, ◌>>=◌, pure, run, times, known, majors, special, close, pair, content, item, no_note}
use Rattle.meaning.specs.Notes.{map_option}
use Rattle.meaning.specs.Layouts.{root_names, object_names, component_names}
use Rattle.meaning.specs.Types.{Storage, storages, storage_of}
use Rattle.meaning.specs.Sound.{a_map, fills_or_deep, begins_as_map, root_levels, object_levels, absent_or}
use Rattle.meaning.specs.Described.{DescribedComponent, DescribedObject, Described}
use Rattle.meaning.specs.Manifest.{shortest_head, number_bytes, text_bytes, Keyed, given}
use Rattle.meaning.proofs.ReadPrefix.{still, Took, bind-got, run_at, item-exact}
use Rattle.meaning.proofs.ReadNatural.{map_out, item-follows}
use Rattle.meaning.proofs.Tests.{false-not, both_left, both_right}
use Rattle.meaning.specs.Every.{Every}
use Rattle.meaning.proofs.Every.{every_take, every_drop}
use Rattle.readback.specs.Piece.{Piece, Sunk, Ends, all_written, all_meant, any_deep, Goes}
use Rattle.readback.specs.Trees.{is_deep, deep_at, number_piece, text_piece, several, list_piece, got_or, copied_piece, entry_piece, map_piece, component_piece, component_pieces, object_piece, object_pieces, manifest_piece}
use Rattle.readback.specs.Fine.{Fits, Brief, BriefOption, FineComponent, FineObject, Fine}
use Rattle.readback.proofs.Pieces.{ends-bind, ends-then, times_goes, shortest-is-head, item-at}
use Rattle.readback.proofs.DeepStays.{item-stays}

-- names of fields and dtypes are short
abbrev short : List ℕ → Bool
short n = ltb (length n) (256 ^ 8)

all-brief : (ns : List (List ℕ)) → all short ns ≡ true → Every Brief ns
all-brief [] h = tt
all-brief (n ∷ ns) h = (ltb-true (length n) (256 ^ 8) (both_left (short n) (all short ns) h), all-brief ns (both_right (short n) (all short ns) h))

stored-brief : (ss : List Storage) (c : ℕ) → all (λ s. short s.called) ss ≡ true → Brief (get_or ss c (record { called = []; width = 0 })).called
stored-brief [] c h = omega arith
stored-brief (s ∷ ss) zero h = ltb-true (length s.called) (256 ^ 8) (both_left (short s.called) (all (λ s. short s.called) ss) h)
stored-brief (s ∷ ss) (suc c) h = stored-brief ss c (both_right (short s.called) (all (λ s. short s.called) ss) h)

dtype-brief : (c : ℕ) → Brief (storage_of c).called
unfolding storage_of storages
dtype-brief c = stored-brief storages c refl

module _ {P : Type 0} (note : List ℕ → List ℕ → P) where
  abbrev it : ℕ → Reader (Node P)
  it d = item note d

  number-goes : (d n : ℕ) → Fits n → Goes (it (suc d)) (number_piece note n)
  unfolding number_piece number_bytes content close
  number-goes d n h x = item-at note d (shortest-is-head 0 n h).head x

  text-goes : (d : ℕ) (s : List ℕ) → Brief s → Goes (it (suc d)) (text_piece note s)
  unfolding text_piece text_bytes content close
  text-goes d s h x =
      let H : List ℕ = shortest_head 3 (length s) in
      rw (append_assoc H s x)
      (item-at note d (shortest-is-head 3 (length s) h).head (s ++ x)
      ∙ bind-got (run (length s)) (λ bs. close note (H ++ (s ++ x)) (λ p. text p bs)) (s ++ x) (run_at s x (length s) refl))

  -- a head, and what its content reads one after the other
  several-goes : {A : Type 0} (d major : ℕ) (make : P → List A → Node P) (m : Reader A) (ps : List (Piece A))
      → ((w n : ℕ) (o : List ℕ) → content note (it d) o (get_or majors major special) (known w n) ≡ (times m n >>= λ l. close note o (λ p. make p l)))
      → Fits (length ps) → Every (Goes m) ps → Goes (it (suc d)) (several note major make ps)
  unfolding several close
  several-goes d major make m ps goes_on h hs x =
      let H : List ℕ = shortest_head major (length ps) in
      let W : List ℕ = all_written ps in
      let k = shortest-is-head major (length ps) h in
      rw (append_assoc H W x)
      (subst (λ (o : Outcome (Node P)). Ends (any_deep ps) o (make (note (H ++ (W ++ x)) x) (all_meant ps x)) x)
      (sym (item-at note d k.head (W ++ x) ∙ ap (λ (r : Reader (Node P)). r (W ++ x)) (goes_on k.width (length ps) (H ++ (W ++ x)))))
      (ends-then (any_deep ps) (times m (length ps)) (λ l. close note (H ++ (W ++ x)) (λ p. make p l)) (W ++ x) x x (all_meant ps x) (make (note (H ++ (W ++ x)) x) (all_meant ps x))
      (times_goes m ps hs x) refl))

  numbers-go : (d : ℕ) (ns : List ℕ) → Every Fits ns → Every (Goes (it (suc d))) (map (number_piece note) ns)
  numbers-go d [] h = tt
  numbers-go d (n ∷ ns) (h, hs) = (number-goes d n h, numbers-go d ns hs)

  list-goes : (d : ℕ) (ns : List ℕ) → Fits (length ns) → Every Fits ns → Goes (it (suc (suc d))) (list_piece note ns)
  unfolding list_piece content
  list-goes d ns h hs =
      several-goes (suc d) 4 (λ p l. array p (nodes l)) (it (suc d)) (map (number_piece note) ns) (λ w n o. refl) (rw (length-map ns (number_piece note)) h) (numbers-go d ns hs)

  -- a key with its value
  abbrev KeyGoes : ℕ → Keyed (Piece (Node P)) → Type 0
  KeyGoes d e = Brief e.key × Goes (it d) e.value

  entry-goes : (d : ℕ) (e : Keyed (Piece (Node P))) → KeyGoes (suc d) e → Goes (pair note (it (suc d))) (entry_piece note e)
  unfolding pair entry_piece text_piece
  entry-goes d e (h, g) x =
      let k : List ℕ = text_bytes e.key in
      let v : List ℕ = e.value.written in
      let t : Node P = text (note (k ++ (v ++ x)) (v ++ x)) e.key in
      rw (append_assoc k v x)
      (ends-bind false e.value.deep (it (suc d)) (λ y. it (suc d) >>= λ z. pure (record { key = y; value = z })) (k ++ (v ++ x)) (v ++ x) x t (record { key = t; value = e.value.meant x })
      (text-goes d e.key h (v ++ x))
      (ends-then e.value.deep (it (suc d)) (λ z. pure (record { key = t; value = z })) (v ++ x) x x (e.value.meant x) (record { key = t; value = e.value.meant x }) (g x) refl))

  entries-go : (d : ℕ) (es : List (Keyed (Piece (Node P)))) → Every (KeyGoes (suc d)) es → Every (Goes (pair note (it (suc d)))) (map (entry_piece note) es)
  entries-go d [] h = tt
  entries-go d (e ∷ es) (h, hs) = (entry-goes d e h, entries-go d es hs)

  map-goes : (d : ℕ) (es : List (Keyed (Piece (Node P)))) → Fits (length es) → Every (KeyGoes (suc d)) es → Goes (it (suc (suc d))) (map_piece note es)
  unfolding map_piece content
  map-goes d es h hs =
      several-goes (suc d) 5 (λ p l. dict p (pairs l)) (pair note (it (suc d))) (map (entry_piece note) es) (λ w n o. refl) (rw (length-map es (entry_piece note)) h) (entries-go d es hs)

  -- ---- copied attributes

  -- as the bare reading ends
  noted-got : (levels : ℕ) (s x : List ℕ) (t : Node (Unit {0})) → item no_note levels s ≡ got t x → (p : P) → it levels s ≡ got (got_or note p (it levels s)) x
  unfolding got_or no_note
  noted-got levels s x t e p = go (it levels s) (sym (item-follows nothing note levels s) ∙ e)
    where
      go : (o : Outcome (Node P)) → map_out (map_p nothing) o ≡ got t x → o ≡ got (got_or note p o) x
      go (got t' r) h = let k : r ≡ x = cc in ap (got t') k
      go (refused n r) h = absurd (let z : ◌≡◌ {A = ℕ} 0 1 = cc in omega arith)

  noted-sunk : (levels : ℕ) (s : List ℕ) → Sunk (item no_note levels s) → Sunk (it levels s)
  unfolding no_note
  noted-sunk levels s h = go (it levels s) refl (sym (item-follows nothing note levels s) ∙ h.is)
    where
      go : (o : Outcome (Node P)) → it levels s ≡ o → map_out (map_p nothing) o ≡ refused DEEP h.left → Sunk (it levels s)
      go (got t' r) k e = absurd (let z : ◌≡◌ {A = ℕ} 0 1 = cc in omega arith)
      go (refused n r) k e = record { left = r; is = k ∙ ap (λ (n : ℕ). refused n r) (let z : n ≡ DEEP = cc in z) }

  read_whole : (levels : ℕ) (bs x : List ℕ) (t : Node (Unit {0})) → item no_note levels bs ≡ got t [] → item no_note levels (bs ++ x) ≡ got t x
  read_whole levels bs x t e =
      let w : Took (still (item no_note levels)) bs t [] = item-exact levels [] bs t [] e in
      ap (λ (z : List ℕ). item no_note levels (z ++ x)) (w.split ∙ append-nil w.eaten) ∙ w.again [] x

  pub copied-goes : (levels : ℕ) (bs : List ℕ) → a_map levels bs ≡ true → Goes (it levels) (copied_piece note levels bs)
  unfolding copied_piece deep_at is_deep a_map fills_or_deep
  copied-goes levels bs h x = go (item no_note levels bs) refl (both_right (begins_as_map bs) (fills_or_deep (item no_note levels bs)) h)
    where
      deep : (t : Bool) (n : ℕ) (s : List ℕ) → eqb n DEEP ≡ t → item no_note levels bs ≡ refused n s → t ≡ true
          → Ends t (it levels (bs ++ x)) (got_or note (note [] []) (it levels (bs ++ x))) x
      deep true n s e k q = noted-sunk levels (bs ++ x) (item-stays levels [] bs s (k ∙ ap (λ (n : ℕ). refused n s) (eqb-true n DEEP e)) [] x)
      deep false n s e k q = absurd (false-not q)

      go : (o : Outcome (Node (Unit {0}))) → item no_note levels bs ≡ o → fills_or_deep o ≡ true → Ends (is_deep o) (it levels (bs ++ x)) (got_or note (note [] []) (it levels (bs ++ x))) x
      go (got t []) e k = noted-got levels (bs ++ x) x t (read_whole levels bs x t e) (note [] [])
      go (got t (b ∷ s)) e k = absurd (let z : false ≡ true = k in false-not z)
      go (refused n s) e k = deep (eqb n DEEP) n s refl e k

  -- ---- fields

  abbrev OptionGoes : ℕ → Option (Piece (Node P)) → Type 0
  OptionGoes d none = Unit {0}
  OptionGoes d (some p) = Goes (it d) p

  given-go : (d : ℕ) (ns : List (List ℕ)) (vs : List (Option (Piece (Node P)))) → Every Brief ns → Every (OptionGoes d) vs → Every (KeyGoes d) (given ns vs)
  unfolding given
  given-go d [] vs h g = tt
  given-go d (n ∷ ns) [] h g = tt
  given-go d (n ∷ ns) (none ∷ vs) (h, hs) (g, gs) = given-go d ns vs hs gs
  given-go d (n ∷ ns) (some v ∷ vs) (h, hs) (g, gs) = ((h, g), given-go d ns vs hs gs)

  given-length : (ns : List (List ℕ)) (vs : List (Option (Piece (Node P)))) → length (given ns vs) ≤ length ns
  unfolding given
  given-length [] vs = omega arith
  given-length (n ∷ ns) [] = omega arith
  given-length (n ∷ ns) (none ∷ vs) = omega (arith, given-length ns vs)
  given-length (n ∷ ns) (some v ∷ vs) = omega (arith, given-length ns vs)

  -- a map of known fields
  fields_go : (d : ℕ) (ns : List (List ℕ)) (vs : List (Option (Piece (Node P)))) → length ns ≤ 7 → Every Brief ns → Every (OptionGoes (suc d)) vs
      → Goes (it (suc (suc d))) (map_piece note (given ns vs))
  fields_go d ns vs l h g = map-goes d (given ns vs) (omega (arith, given-length ns vs)) (given-go (suc d) ns vs h g)

  text-option-goes : (d : ℕ) (s : Option (List ℕ)) → BriefOption s → OptionGoes (suc d) (map_option (text_piece note) s)
  text-option-goes d none h = tt
  text-option-goes d (some s) h = text-goes d s h

  copied-option-goes : (levels : ℕ) (s : Option (List ℕ)) → absent_or (a_map levels) s ≡ true → OptionGoes levels (map_option (copied_piece note levels) s)
  unfolding absent_or
  copied-option-goes levels none h = tt
  copied-option-goes levels (some s) h = copied-goes levels s h

  component-goes : (offset : ℕ) (c : DescribedComponent) → Fits offset → FineComponent c → Goes (it 28) (component_piece note offset c)
  unfolding component_piece
  component-goes offset c h f =
      fields_go 26 component_names _ (omega arith) (all-brief component_names refl) (
        text-goes 26 (storage_of c.dtype).called (dtype-brief c.dtype),
        (text-option-goes 26 c.type f.type, (number-goes 26 offset h, (number-goes 26 (length c.blob) f.blob, (tt, (tt, (text-option-goes 26 c.digest f.digest, tt)))))),
      )

  -- ---- components, objects, the root

  first_fits : (offsets : List ℕ) → Every Fits offsets → Fits (get_or offsets 0 0)
  first_fits [] h = omega arith
  first_fits (o ∷ os) (h, hs) = h

  components-go : (offsets : List ℕ) (cs : List DescribedComponent) → Every Fits offsets → Every FineComponent cs → Every (KeyGoes 28) (component_pieces note offsets cs)
  unfolding component_pieces
  components-go offsets [] h f = tt
  components-go offsets (c ∷ cs) h (f, fs) = ((f.name, component-goes (get_or offsets 0 0) c (first_fits offsets h) f), components-go (drop 1 offsets) cs (every_drop Fits 1 offsets h) fs)

  component-pieces-length : (offsets : List ℕ) (cs : List DescribedComponent) → length (component_pieces note offsets cs) ≡ length cs
  unfolding component_pieces
  component-pieces-length offsets [] = refl
  component-pieces-length offsets (c ∷ cs) = ap suc (component-pieces-length (drop 1 offsets) cs)

  object-goes : (offsets : List ℕ) (o : DescribedObject) → Every Fits offsets → FineObject o → Goes (it 30) (object_piece note offsets o)
  unfolding object_piece
  object-goes offsets o h f =
      fields_go 28 object_names _ (omega arith) (all-brief object_names refl) (
        list-goes 27 o.shape (omega (arith, f.rank)) f.shape,
        (
          text-goes 28 o.format f.format,
          (
            copied-option-goes object_levels o.attributes f.attributes,
            (map-goes 27 (component_pieces note offsets o.components) (rw (component-pieces-length offsets o.components) f.count) (components-go offsets o.components h f.components), tt),
          ),
        ),
      )

  objects-go : (offsets : List ℕ) (os : List DescribedObject) → Every Fits offsets → Every FineObject os → Every (KeyGoes 30) (object_pieces note offsets os)
  unfolding object_pieces
  objects-go offsets [] h f = tt
  objects-go offsets (o ∷ os) h (f, fs) =
      let n : ℕ = length o.components in
      ((f.name, object-goes (take n offsets) o (every_take Fits n offsets h) f), objects-go (drop n offsets) os (every_drop Fits n offsets h) fs)

  object-pieces-length : (offsets : List ℕ) (os : List DescribedObject) → length (object_pieces note offsets os) ≡ length os
  unfolding object_pieces
  object-pieces-length offsets [] = refl
  object-pieces-length offsets (o ∷ os) = ap suc (object-pieces-length (drop (length o.components) offsets) os)

  pub manifest-goes : (d : Described) (offsets : List ℕ) → Every Fits offsets → Fine d → Goes (it 32) (manifest_piece note d offsets)
  unfolding manifest_piece
  manifest-goes d offsets h f =
      fields_go 30 root_names _ (omega arith) (all-brief root_names refl) (
        text-goes 30 (ascii "1.2.0") (omega arith),
        (
          copied-option-goes root_levels d.attributes f.attributes,
          (map-goes 29 (object_pieces note offsets d.objects) (rw (object-pieces-length offsets d.objects) f.count) (objects-go offsets d.objects h f.objects), tt),
        ),
      )
