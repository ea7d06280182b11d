-- The manifest's tree is judged as the description says, and tells it back.
use Prim.Native.Nat.{ℕ, suc, ◌+◌}
use native.Mathlib.Omega.{arith}
use mathlib.Core.List.{List, [], ◌∷◌, ◌++◌, map}
use mathlib.Core.Bool.{Bool, true, false, cond}
use mathlib.Core.Option.{Option, none, some}
use mathlib.Core.Path.{◌≡◌, refl, ap, ap₂, sym, ◌∙◌}
use lib.ListN.{length, take, drop, length-append, length-map, length-take, length-drop, take-append-drop}
use Rattle.meaning.specs.Limit.{object_limit}
use Rattle.meaning.specs.Text.{ascii}
use Rattle.meaning.specs.Check.{Check, pass, ◌>>◌, in_object, each}
use Rattle.meaning.specs.Tree.{Node, text}
use Rattle.meaning.specs.Read.{Span, span_to}
use Rattle.meaning.specs.Notes.{map_option}
use Rattle.meaning.specs.Model.{Object}
use Rattle.meaning.specs.Kind as kinds
use Rattle.meaning.specs.Field as field
use Rattle.meaning.specs.Computed.{computed}
use Rattle.meaning.specs.Judge.{a_version, object, objects_of, judge}
use Rattle.meaning.specs.Sound.{root_levels, object_levels}
use Rattle.meaning.specs.Described.{DescribedComponent, DescribedObject, Described, blobs_in, described_by}
use Rattle.meaning.specs.Manifest.{Keyed, under, given}
use Rattle.meaning.specs.Layouts.{root_names, current}
use Rattle.meaning.proofs.Lengths.{none_left}
use Rattle.meaning.specs.Every.{Every}
use Rattle.readback.specs.Piece.{Piece, all_written}
use Rattle.readback.specs.Trees.{text_piece, several, copied_piece, entry_piece, map_piece, object_piece, object_pieces, manifest_piece}
use Rattle.readback.specs.Judged.{judged_names, judged_object, judged_objects, deep_option, any_too_deep, too_deep}
use Rattle.readback.specs.Fine.{FineObject, Fine}
use Rattle.readback.specs.Agrees.{Agrees, passes}
use Rattle.readback.specs.Back.{StandAll, offsets_of, offsets_in, TellsObject, TellsObjects, TellsModel}
use Rattle.readback.proofs.Agreement.{agrees-bind, agrees-in-object, each-agrees, then-then}
use Rattle.readback.proofs.NamesBack.{named_of, names-agree}
use Rattle.readback.proofs.ComponentBack.{field_note, note_in}
use Rattle.readback.proofs.AttributesBack.{Suffix, suffix-pieces, Within, copied, attributes-pass, attributes-back}
use Rattle.readback.proofs.ObjectBack.{entry-suffix, map-suffix, object-agrees}

cond-first : (a b : Bool) → cond a true b ≡ false → a ≡ false
cond-first true b h = h
cond-first false b h = refl

cond-second : (a b : Bool) → cond a true b ≡ false → b ≡ false
cond-second true b h = absurd (let z : ◌≡◌ {A = ℕ} 0 1 = cc in omega arith)
cond-second false b h = h

version-passes : (p : Span) → a_version (text p (ascii "1.2.0")) ≡ pass tt
unfolding computed
version-passes p = refl

described-is : (d : Described) {a : Option (List ℕ)} {os : List DescribedObject} → a ≡ d.attributes → os ≡ d.objects → record { attributes = a; objects = os } ≡ d
described-is d ea eo = rw (ea, eo)

module _ (file pre M post : List ℕ) (split : file ≡ pre ++ (M ++ post)) (start : ℕ) where
  abbrev span : List ℕ → List ℕ → Span
  span = span_to (length pre + length M)

  -- an object at its offsets, and the rest at those that are left
  tells-next : (offsets : List ℕ) (o : DescribedObject) (os : List DescribedObject) (m : Object Span) (ms : List (Object Span))
      → TellsObject file (take (length o.components) offsets) o m → TellsObjects file (drop (length o.components) offsets) os ms → TellsObjects file offsets (o ∷ os) (m ∷ ms)
  unfolding offsets_in blobs_in
  tells-next offsets o os m ms t ts = record { same = ap₂ {A = DescribedObject} {B = List DescribedObject} (λ a b. a ∷ b) t.same ts.same; placed = placed }
    where
      placed : length offsets ≡ length (map (λ c. c.blob) o.components ++ blobs_in os) → offsets_of m.components ++ offsets_in ms ≡ offsets
      placed h =
          let n : ℕ = length o.components in
          let l = length-append (map (λ c. c.blob) o.components) (blobs_in os) in
          let k = length-map o.components (λ (c : DescribedComponent). c.blob) in
          ap₂ {A = List ℕ} {B = List ℕ} (λ a b. a ++ b) (t.placed (omega (arith, h, l, k, length-take n offsets))) (ts.placed (omega (arith, h, l, k, length-drop n offsets)))
          ∙ take-append-drop n offsets

  objects-agree : (i : ℕ) (offsets : List ℕ) (os : List DescribedObject) (x : List ℕ) → Every FineObject os → any_too_deep os ≡ false → StandAll file start offsets os
      → Suffix M (all_written (map (entry_piece span) (object_pieces span offsets os)) ++ x)
      → Agrees (TellsObjects file offsets os) (each (λ i n. in_object i (object current start n)) i (named_of span (object_pieces span offsets os) x)) (each (λ i o. in_object i (judged_object o)) i os)
  unfolding object_pieces any_too_deep offsets_in blobs_in
  objects-agree i offsets [] x f k s h = passes (record { same = refl; placed = λ e. sym (none_left offsets e) })
  objects-agree i offsets (o ∷ os) x (f, fs) k (s, ss) h =
      let n : ℕ = length o.components in
      let rest : List (Keyed (Piece (Node Span))) = object_pieces span (drop n offsets) os in
      let y : List ℕ = all_written (map (entry_piece span) rest) ++ x in
      each-agrees (λ i n. in_object i (object current start n)) (λ i o. in_object i (judged_object o)) i _ (named_of span rest x) o os
      (agrees-in-object i (object-agrees file pre M post split start (take n offsets) o y _ refl f (cond-first (deep_option object_levels o.attributes) (any_too_deep os) k) s
      (entry-suffix span M (under o.name (object_piece span (take n offsets) o)) (map (entry_piece span) rest) x h)))
      (objects-agree (suc i) (drop n offsets) os x fs (cond-second (deep_option object_levels o.attributes) (any_too_deep os) k) ss
      (suffix-pieces M 1 (map (entry_piece span) (object_pieces span offsets (o ∷ os))) x h))
      (tells-next offsets o os)

  object-keys : (offsets : List ℕ) (os : List DescribedObject) → map (λ e. e.key) (object_pieces span offsets os) ≡ map (λ o. o.name) os
  unfolding object_pieces
  object-keys offsets [] = refl
  object-keys offsets (o ∷ os) = ap (λ (r : List (List ℕ)). o.name ∷ r) (object-keys (drop (length o.components) offsets) os)

  objects-of-agree : (offsets : List ℕ) (os : List DescribedObject) (x : List ℕ) → Every FineObject os → any_too_deep os ≡ false → StandAll file start offsets os
      → Suffix M (all_written (map (entry_piece span) (object_pieces span offsets os)) ++ x)
      → Agrees (TellsObjects file offsets os) (objects_of current start ((map_piece span (object_pieces span offsets os)).meant x))
      (judged_names object_limit (map (λ o. o.name) os) >> each (λ i o. in_object i (judged_object o)) 0 os)
  unfolding objects_of
  objects-of-agree offsets os x f k s h =
      agrees-bind (names-agree span object_limit (object_pieces span offsets os) x (map (λ o. o.name) os) (object-keys offsets os))
      (λ ns e. rw e (objects-agree 0 offsets os x f k s h))

  -- ---- the root

  module _ (d : Described) (offsets : List ℕ) (x : List ℕ) where
    abbrev tree : Node Span
    tree = (manifest_piece span d offsets).meant x

    abbrev entries_of : Option (List ℕ) → List (Keyed (Piece (Node Span)))
    entries_of a = given root_names (some (text_piece span (ascii "1.2.0")) ∷ map_option (copied_piece span root_levels) a ∷ some (map_piece span (object_pieces span offsets d.objects)) ∷ [])

    -- what follows the attributes
    abbrev past : List ℕ
    past = all_written (map (entry_piece span) (drop 2 (entries_of d.attributes))) ++ x

    fields-found : field.root_fields current.root tree ≡ pass (record {
      version = some (text (field_note (ascii "version") tree) (ascii "1.2.0"));
      attributes = map_option (copied file pre M post split 30 past) d.attributes;
      objects = some ((map_piece span (object_pieces span offsets d.objects)).meant x);
    })
    unfolding manifest_piece map_piece several given entry_piece text_piece field_note note_in current field.field field.root_fields field.fields field.key_of field.key_kind field.is_some field.named field.is_key field.count field.get kinds.kind kinds.a_mapping kinds.as_mapping
    fields-found = go d.attributes refl
      where
        go : (a : Option (List ℕ)) → d.attributes ≡ a → field.root_fields current.root tree ≡ pass (record {
          version = some (text (field_note (ascii "version") tree) (ascii "1.2.0"));
          attributes = map_option (copied file pre M post split 30 past) d.attributes;
          objects = some ((map_piece span (object_pieces span offsets d.objects)).meant x);
        })
        go none e = rw e
        go (some bs) e = rw e

    module _ (f : Fine d) (shallow : too_deep d ≡ false) (s : StandAll file start offsets d.objects) (inside : Suffix M ((manifest_piece span d offsets).written ++ x)) where
      entries-within : Suffix M (all_written (map (entry_piece span) (entries_of d.attributes)) ++ x)
      unfolding manifest_piece
      entries-within = map-suffix span M (entries_of d.attributes) x inside

      abbrev objects_entry : Keyed (Piece (Node Span))
      objects_entry = under (ascii "objects") (map_piece span (object_pieces span offsets d.objects))

      attributes-within : Within file pre M post split past d.attributes
      unfolding given copied_piece
      attributes-within = go d.attributes entries-within
        where
          go : (a : Option (List ℕ)) → Suffix M (all_written (map (entry_piece span) (entries_of a)) ++ x)
              → Within file pre M post split (all_written (map (entry_piece span) (drop 2 (entries_of a))) ++ x) a
          go none h = tt
          go (some bs) h =
              entry-suffix span M (under (ascii "attributes") (copied_piece span root_levels bs)) (map (entry_piece span) (objects_entry ∷ [])) x
              (suffix-pieces M 1 (map (entry_piece span) (entries_of (some bs))) x h)

      -- the objects are the last entry
      last_within : Suffix M (all_written (map (entry_piece span) (objects_entry ∷ [])) ++ x) → Suffix M (all_written (map (entry_piece span) (object_pieces span offsets d.objects)) ++ x)
      last_within h = map-suffix span M (object_pieces span offsets d.objects) x (entry-suffix span M objects_entry [] x h)

      objects-within : Suffix M (all_written (map (entry_piece span) (object_pieces span offsets d.objects)) ++ x)
      unfolding given
      objects-within = go d.attributes entries-within
        where
          go : (a : Option (List ℕ)) → Suffix M (all_written (map (entry_piece span) (entries_of a)) ++ x)
              → Suffix M (all_written (map (entry_piece span) (object_pieces span offsets d.objects)) ++ x)
          go none h = last_within (suffix-pieces M 1 (map (entry_piece span) (entries_of none)) x h)
          go (some bs) h = last_within (suffix-pieces M 2 (map (entry_piece span) (entries_of (some bs))) x h)

      abbrev attributes : Option (Node Span)
      attributes = map_option (copied file pre M post split 30 past) d.attributes

      root-shallow : deep_option root_levels d.attributes ≡ false
      unfolding too_deep
      root-shallow = cond-first (deep_option root_levels d.attributes) (any_too_deep d.objects) shallow

      objects-shallow : any_too_deep d.objects ≡ false
      unfolding too_deep
      objects-shallow = cond-second (deep_option root_levels d.attributes) (any_too_deep d.objects) shallow

      told : (ms : List (Object Span)) → TellsObjects file offsets d.objects ms → TellsModel file offsets d (record { attributes = attributes; objects = ms })
      unfolding described_by
      told ms t = record {
        same = described-is d (attributes-back file pre M post split 30 d.attributes past f.attributes root-shallow attributes-within) t.same;
        placed = t.placed;
      }

      abbrev names : Check (Unit {0})
      names = judged_names object_limit (map (λ o. o.name) d.objects)

      abbrev each-one : Check (List (Unit {0}))
      each-one = each (λ i o. in_object i (judged_object o)) 0 d.objects

      pub manifest-agrees : Agrees (TellsModel file offsets d) (judge current start tree) (judged_objects d.objects)
      unfolding judge judged_objects
      manifest-agrees =
          rw (fields-found, version-passes (field_note (ascii "version") tree), attributes-pass file pre M post split 30 d.attributes past f.attributes root-shallow, ← then-then names each-one (pass (tt {0})))
          (agrees-bind {k = λ os. pass (record { attributes = attributes; objects = os })}
          (objects-of-agree offsets d.objects x f.objects objects-shallow s objects-within) (λ ms t. passes (told ms t)))
