-- The names of a written map are judged as its keys say, and its entries are what they name.
use Prim.Native.Nat.{ℕ, suc}
use mathlib.Core.List.{List, [], ◌∷◌, ◌++◌, map}
use mathlib.Core.Bool.{Bool, true, false, ◌&&◌}
use mathlib.Core.Path.{◌≡◌, refl, ap}
use lib.Dec.{leb}
use lib.ListN.{length}
use Rattle.meaning.specs.Refusal.{TEXT, COUNT, TWICE}
use Rattle.meaning.specs.Text.{all, distinct, utf8}
use Rattle.meaning.specs.Check.{pass, ◌>>◌, ◌unless◌, each}
use Rattle.meaning.specs.Tree.{Node, pair_list-pairs}
use Rattle.meaning.specs.Model.{Named}
use Rattle.meaning.specs.Kind as kinds
use Rattle.meaning.specs.Field.{name_kind, name_of, names}
use Rattle.meaning.specs.Manifest.{text_bytes, Keyed}
use Rattle.readback.specs.Piece.{Piece, all_written, all_meant}
use Rattle.readback.specs.Trees.{text_piece, several, entry_piece, map_piece}
use Rattle.readback.specs.Judged.{judged_names}
use Rattle.readback.specs.Agrees.{Agrees, passes, refuses}

module _ {P : Type 0} (note : List ℕ → List ℕ → P) where
  -- the entries under their names, before what follows
  abbrev pub named_of : List (Keyed (Piece (Node P))) → List ℕ → List (Named P)
  named_of [] x = []
  named_of (e ∷ es) x =
      let y = all_written (map (entry_piece note) es) ++ x in
      record { name = record { note = note (text_bytes e.key ++ (e.value.written ++ y)) (e.value.written ++ y); letters = e.key }; value = e.value.meant y } ∷ named_of es x

  abbrev keys : List (Keyed (Piece (Node P))) → List (List ℕ)
  keys es = map (λ e. e.key) es

  each-named : (i : ℕ) (es : List (Keyed (Piece (Node P)))) (x : List ℕ) → each (λ i. name_of) i (all_meant (map (entry_piece note) es) x) ≡ pass (named_of es x)
  unfolding entry_piece text_piece name_of name_kind kinds.kind
  each-named i [] x = refl
  each-named i (e ∷ es) x = rw (each-named (suc i) es x)

  letters-named : (es : List (Keyed (Piece (Node P)))) (x : List ℕ) → map (λ n. n.name.letters) (named_of es x) ≡ keys es
  letters-named [] x = refl
  letters-named (e ∷ es) x = ap (λ (r : List (List ℕ)). e.key ∷ r) (letters-named es x)

  utf8-named : (es : List (Keyed (Piece (Node P)))) (x : List ℕ) → all (λ n. utf8 n.name.letters) (named_of es x) ≡ all utf8 (keys es)
  utf8-named [] x = refl
  utf8-named (e ∷ es) x = ap (λ (r : Bool). utf8 e.key && r) (utf8-named es x)

  length-named : (es : List (Keyed (Piece (Node P)))) (x : List ℕ) → length (named_of es x) ≡ length (keys es)
  length-named [] x = refl
  length-named (e ∷ es) x = ap suc (length-named es x)

  tests : {A : Type 0} (n n' n'' : ℕ) (b b' b'' : Bool) (a : A) → Agrees (λ v. v ≡ a) ((n unless b) >> ((n' unless b') >> ((n'' unless b'') >> pass a))) ((n unless b) >> ((n' unless b') >> (n'' unless b'')))
  tests n n' n'' true true true a = passes refl
  tests n n' n'' true true false a = refuses
  tests n n' n'' true false b'' a = refuses
  tests n n' n'' false b' b'' a = refuses

  pub names-agree : (limit : ℕ) (es : List (Keyed (Piece (Node P)))) (x : List ℕ) (ns : List (List ℕ)) → keys es ≡ ns
      → Agrees (λ v. v ≡ named_of es x) (names limit ((map_piece note es).meant x)) (judged_names limit ns)
  unfolding names map_piece several kinds.a_mapping kinds.as_mapping kinds.kind judged_names
  names-agree limit es x ns e =
      rw (← e, pair_list-pairs (all_meant (map (entry_piece note) es) x), each-named 0 es x, utf8-named es x, length-named es x, letters-named es x)
      (tests TEXT COUNT TWICE (all utf8 (keys es)) (leb (length (keys es)) limit) (distinct (keys es)) (named_of es x))
