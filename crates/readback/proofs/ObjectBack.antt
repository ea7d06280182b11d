-- An object's entry is judged as its description says, and tells it back.
use Prim.Native.Nat.{ℕ, suc, ◌+◌, ◌≤◌}
use mathlib.Core.List.{List, [], ◌∷◌, ◌++◌, map, append_assoc}
use mathlib.Core.Bool.{Bool, true, false}
use mathlib.Core.Option.{Option, none, some}
use mathlib.Core.Path.{◌≡◌, refl, ap, subst}
use lib.ListN.{length, drop}
use borrow.Author.Tests.{le-leb}
use Rattle.meaning.specs.Refusal.{TEXT}
use Rattle.meaning.specs.Limit.{rank_limit, component_limit}
use Rattle.meaning.specs.Text.{ascii, utf8}
use Rattle.meaning.specs.Check.{Check, pass, refuse, ◌>>=◌, ◌>>◌, ◌unless◌, in_component, each}
use Rattle.meaning.specs.Tree.{Node, Pair, text, node_list-nodes}
use Rattle.meaning.specs.Read.{Span, span_to}
use Rattle.meaning.specs.Notes.{map_option}
use Rattle.meaning.specs.Model.{Word, Component, Object}
use Rattle.meaning.specs.Kind as kinds
use Rattle.meaning.specs.Field as field
use Rattle.meaning.specs.Format.{format_rules}
use Rattle.meaning.specs.Judge.{shape_of, components_of, part, object, inherited}
use Rattle.meaning.specs.Sound.{object_levels}
use Rattle.meaning.specs.Described.{DescribedComponent, DescribedObject, read_object}
use Rattle.meaning.specs.Manifest.{shortest_head, text_bytes, Keyed, under, given}
use Rattle.meaning.specs.Layouts.{object_names, current}
use Rattle.readback.specs.Piece.{Piece, all_written, all_meant}
use Rattle.readback.specs.Trees.{number_piece, text_piece, several, list_piece, copied_piece, entry_piece, map_piece, component_pieces, object_piece}
use Rattle.readback.specs.Judged.{judged_names, judged_component, part_of, judged_object, deep_option}
use Rattle.readback.specs.Fine.{FineObject}
use Rattle.readback.specs.Agrees.{Agrees, passes, refuses}
use Rattle.readback.specs.Back.{Stand, AllTell, TellsObject}
use Rattle.readback.proofs.Agreement.{agrees-bind, then-then}
use Rattle.readback.proofs.ComponentBack.{field_note, note_in}
use Rattle.readback.proofs.ComponentsBack.{components-of-agree, parts_are, components-are, offsets_are}
use Rattle.readback.proofs.AttributesBack.{Suffix, suffix-rest, suffix-pieces, Within, copied, attributes-pass, attributes-back}

-- ---- the shape

numbers-pass : (note : List ℕ → List ℕ → Span) (i : ℕ) (ns x : List ℕ) → each (λ i. kinds.a_number) i (all_meant (map (number_piece note) ns) x) ≡ pass ns
unfolding number_piece kinds.a_number kinds.as_number kinds.kind
numbers-pass note i [] x = refl
numbers-pass note i (n ∷ ns) x = rw (numbers-pass note (suc i) ns x)

shape-passes : (note : List ℕ → List ℕ → Span) (ns x : List ℕ) → length ns ≤ rank_limit → shape_of ((list_piece note ns).meant x) ≡ pass ns
unfolding shape_of list_piece several kinds.a_list kinds.as_list kinds.kind
shape-passes note ns x h = rw (node_list-nodes (all_meant (map (number_piece note) ns) x), numbers-pass note 0 ns x, le-leb (length ns) rank_limit h)

-- ---- the fields

module _ (note : List ℕ → List ℕ → Span) (offsets : List ℕ) (o : DescribedObject) (x : List ℕ) where
  abbrev tree : Node Span
  tree = (object_piece note offsets o).meant x

  -- the entries, with these attributes
  abbrev entries_of : Option (List ℕ) → List (Keyed (Piece (Node Span)))
  entries_of a = given object_names (some (list_piece note o.shape) ∷ some (text_piece note o.format) ∷ map_option (copied_piece note object_levels) a
      ∷ some (map_piece note (component_pieces note offsets o.components)) ∷ [])

  -- what follows the n-th entry
  abbrev past : ℕ → List ℕ
  past n = all_written (map (entry_piece note) (drop n (entries_of o.attributes))) ++ x

  fields-found : field.object_fields current.object tree ≡ pass (record {
    dtype = none;
    shape = some ((list_piece note o.shape).meant (past 1));
    format = some (text (field_note (ascii "format") tree) o.format);
    attributes = map_option (λ bs. (copied_piece note object_levels bs).meant (past 3)) o.attributes;
    components = some ((map_piece note (component_pieces note offsets o.components)).meant x);
  })
  unfolding object_piece map_piece several given entry_piece text_piece field_note note_in current field.field field.object_fields field.fields field.key_of field.key_kind field.is_some field.named field.is_key field.count field.get kinds.kind kinds.a_mapping kinds.as_mapping
  fields-found = go o.attributes refl
    where
      go : (a : Option (List ℕ)) → o.attributes ≡ a → field.object_fields current.object tree ≡ pass (record {
        dtype = none;
        shape = some ((list_piece note o.shape).meant (past 1));
        format = some (text (field_note (ascii "format") tree) o.format);
        attributes = map_option (λ bs. (copied_piece note object_levels bs).meant (past 3)) o.attributes;
        components = some ((map_piece note (component_pieces note offsets o.components)).meant x);
      })
      go none e = rw e
      go (some bs) e = rw e

-- ---- where attributes stand

pub entry-suffix : {P : Type 0} (note : List ℕ → List ℕ → P) (M : List ℕ) (e : Keyed (Piece (Node P))) (ps : List (Piece (Pair P))) (x : List ℕ)
    → Suffix M (all_written (entry_piece note e ∷ ps) ++ x) → Suffix M (e.value.written ++ (all_written ps ++ x))
unfolding entry_piece
entry-suffix note M e ps x h =
    suffix-rest M (text_bytes e.key) e.value.written (all_written ps ++ x)
    (subst (Suffix M) (append_assoc (text_bytes e.key ++ e.value.written) (all_written ps) x) h)

pub map-suffix : {P : Type 0} (note : List ℕ → List ℕ → P) (M : List ℕ) (es : List (Keyed (Piece (Node P)))) (x : List ℕ)
    → Suffix M ((map_piece note es).written ++ x) → Suffix M (all_written (map (entry_piece note) es) ++ x)
unfolding map_piece several
map-suffix note M es x h = suffix-rest M (shortest_head 5 (length (map (entry_piece note) es))) (all_written (map (entry_piece note) es)) x h

-- ---- the judgement

text-agrees : {P : Type 0} (b : Bool) (w : Word P) → Agrees (λ v. v ≡ w) ((TEXT unless b) >> pass w) (TEXT unless b)
text-agrees true w = passes refl
text-agrees false w = refuses

done-agrees : {A : Type 0} {R : A → Type 0} (m : Check (Unit {0})) (a : A) → R a → Agrees R (m >> pass a) m
done-agrees (pass u) a r = passes r
done-agrees (refuse n o c) a r = refuses

object-is : (o : DescribedObject) {n f : List ℕ} {a : Option (List ℕ)} {cs : List DescribedComponent} → n ≡ o.name → f ≡ o.format → a ≡ o.attributes → cs ≡ o.components
    → record { name = n; shape = o.shape; format = f; attributes = a; components = cs } ≡ o
object-is o en ef ea ec = rw (en, ef, ea, ec)

module _ (file pre M post : List ℕ) (split : file ≡ pre ++ (M ++ post)) (start : ℕ) where
  abbrev span : List ℕ → List ℕ → Span
  span = span_to (length pre + length M)

  module _ (offsets : List ℕ) (o : DescribedObject) (x : List ℕ) (w : Word Span) (e : w.letters ≡ o.name) (f : FineObject o)
      (shallow : deep_option object_levels o.attributes ≡ false) (s : Stand file start offsets o.components) (inside : Suffix M ((object_piece span offsets o).written ++ x)) where
    attributes-within : Within file pre M post split (past span offsets o x 3) o.attributes
    unfolding object_piece given copied_piece
    attributes-within =
        go o.attributes (suffix-pieces M 2 (map (entry_piece span) (entries_of span offsets o x o.attributes)) x
        (map-suffix span M (entries_of span offsets o x o.attributes) x inside))
      where
        go : (a : Option (List ℕ)) → Suffix M (all_written (drop 2 (map (entry_piece span) (entries_of span offsets o x a))) ++ x)
            → Within file pre M post split (all_written (map (entry_piece span) (drop 3 (entries_of span offsets o x a))) ++ x) a
        go none h = tt
        go (some bs) h =
            entry-suffix span M (under (ascii "attributes") (copied_piece span object_levels bs))
            (map (entry_piece span) (under (ascii "components") (map_piece span (component_pieces span offsets o.components)) ∷ [])) x h

    abbrev attributes : Option (Node Span)
    attributes = map_option (copied file pre M post split 28 (past span offsets o x 3)) o.attributes

    told : (F : Word Span) (ms : List (Component Span)) → F.letters ≡ o.format → AllTell file offsets o.components ms
        → TellsObject file offsets o (record { name = w; shape = o.shape; format = F; attributes = attributes; components = ms })
    unfolding read_object
    told F ms ef t = record {
      same = object-is o e ef (attributes-back file pre M post split 28 o.attributes (past span offsets o x 3) f.attributes shallow attributes-within) (components-are file offsets o.components ms t);
      placed = offsets_are file offsets o.components ms t;
    }

    -- the format's rules, and then the object passes
    abbrev lastly : Word Span → List (Component Span) → Check (Object Span)
    lastly F cs = format_rules F.letters o.shape (map part cs) >> pass (record { name = w; shape = o.shape; format = F; attributes = attributes; components = cs })

    lastly-agrees : (F : Word Span) (ms : List (Component Span)) → F.letters ≡ o.format → AllTell file offsets o.components ms
        → Agrees (TellsObject file offsets o) (lastly F ms) (format_rules F.letters o.shape (map part_of o.components))
    lastly-agrees F ms ef t = rw (parts_are file offsets o.components ms t) (done-agrees (format_rules F.letters o.shape (map part_of o.components)) _ (told F ms ef t))

    abbrev names : Check (Unit {0})
    names = judged_names component_limit (map (λ c. c.name) o.components)

    abbrev each-one : Check (List (Unit {0}))
    each-one = each (λ j c. in_component j (judged_component c)) 0 o.components

    abbrev rules : List ℕ → Check (Unit {0})
    rules g = format_rules g o.shape (map part_of o.components)

    rules-agree : (F : Word Span) → F.letters ≡ o.format
        → Agrees (TellsObject file offsets o) (components_of current start (λ r. none) ((map_piece span (component_pieces span offsets o.components)).meant x) >>= lastly F) (names >> (each-one >> rules o.format))
    rules-agree F ef =
        let check : Check (Object Span) = components_of current start (λ r. none) ((map_piece span (component_pieces span offsets o.components)).meant x) >>= lastly F in
        subst (λ (g : List ℕ). Agrees (TellsObject file offsets o) check (names >> (each-one >> rules g))) ef
        (subst (Agrees (TellsObject file offsets o) check) (then-then names each-one (rules F.letters))
        (agrees-bind {k = lastly F} (components-of-agree file start span offsets o.components x f.components s) (λ ms t. lastly-agrees F ms ef t)))

    pub object-agrees : Agrees (TellsObject file offsets o) (object current start (record { name = w; value = (object_piece span offsets o).meant x })) (judged_object o)
    unfolding current object inherited kinds.a_text kinds.a_word kinds.as_word kinds.kind judged_object
    object-agrees =
        rw (
          fields-found span offsets o x,
          shape-passes span o.shape (past span offsets o x 1) f.rank,
          attributes-pass file pre M post split 28 o.attributes (past span offsets o x 3) f.attributes shallow,
        )
        (agrees-bind (text-agrees (utf8 o.format) _) (λ F ef. rules-agree F (ap (λ (v : Word Span). v.letters) ef)))
