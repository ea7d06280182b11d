-- The manifest of a description in pieces: the trees that its parts are read as, with any annotation.
use Rattle.std.specs.Prelude.{ℕ, List, [], ◌∷◌, ◌++◌, map, Bool, false, eqb, length, take, drop, get_or}
use Rattle.std.proofs.Math.Option.{none, some}
use Rattle.meaning.specs.Refusal.{DEEP}
use Rattle.meaning.specs.Text.{ascii}
use Rattle.meaning.specs.Tree.{Node, Pair, uint, text, array, dict, nodes, pairs}
use Rattle.meaning.specs.Read.{Outcome, got, refused, item, no_note}
use Rattle.meaning.specs.Notes.{map_option}
use Rattle.meaning.specs.Layouts.{root_names, object_names, component_names}
use Rattle.meaning.specs.Types.{storage_of}
use Rattle.meaning.specs.Sound.{root_levels, object_levels}
use Rattle.meaning.specs.Described.{DescribedComponent, DescribedObject, Described}
use Rattle.meaning.specs.Manifest.{shortest_head, number_bytes, text_bytes, Keyed, under, given}
use Rattle.readback.specs.Piece.{Piece, all_written, all_meant, any_deep}

-- do attributes get too deep for their place?
unfoldable pub is_deep : {A : Type 0} → Outcome A → Bool
is_deep (got t s) = false
is_deep (refused n s) = eqb n DEEP

unfoldable pub deep_at : ℕ → List ℕ → Bool
deep_at levels bs = is_deep (item no_note levels bs)

module _ {P : Type 0} (note : List ℕ → List ℕ → P) where
  -- an item written as these bytes: its annotation is that of its place before what follows
  abbrev pub plain : List ℕ → (P → Node P) → Piece (Node P)
  plain bs make = record { written = bs; meant = λ x. make (note (bs ++ x) x); deep = false }

  unfoldable pub number_piece : ℕ → Piece (Node P)
  number_piece n = plain (number_bytes n) (λ p. uint p n)

  unfoldable pub text_piece : List ℕ → Piece (Node P)
  text_piece s = plain (text_bytes s) (λ p. text p s)

  -- a head of this major type, and pieces one after the other
  unfoldable pub several : {A : Type 0} → ℕ → (P → List A → Node P) → List (Piece A) → Piece (Node P)
  several major make ps =
      let bs = shortest_head major (length ps) ++ all_written ps in
      record { written = bs; meant = λ x. make (note (bs ++ x) x) (all_meant ps x); deep = any_deep ps }

  unfoldable pub list_piece : List ℕ → Piece (Node P)
  list_piece ns = several 4 (λ p l. array p (nodes l)) (map number_piece ns)

  -- what was read, or anything
  unfoldable pub got_or : P → Outcome (Node P) → Node P
  got_or p (got t s) = t
  got_or p (refused n s) = uint p 0

  -- attributes are copied
  unfoldable pub copied_piece : ℕ → List ℕ → Piece (Node P)
  copied_piece levels bs = record { written = bs; meant = λ x. got_or (note [] []) (item note levels (bs ++ x)); deep = deep_at levels bs }

  unfoldable pub entry_piece : Keyed (Piece (Node P)) → Piece (Pair P)
  entry_piece e = record {
    written = text_bytes e.key ++ e.value.written;
    meant = λ x. record { key = (text_piece e.key).meant (e.value.written ++ x); value = e.value.meant x };
    deep = e.value.deep;
  }

  unfoldable pub map_piece : List (Keyed (Piece (Node P))) → Piece (Node P)
  map_piece es = several 5 (λ p l. dict p (pairs l)) (map entry_piece es)

  unfoldable pub component_piece : ℕ → DescribedComponent → Piece (Node P)
  component_piece offset c =
      map_piece (given component_names (some (text_piece (storage_of c.dtype).called) ∷ map_option text_piece c.type
      ∷ some (number_piece offset) ∷ some (number_piece (length c.blob)) ∷ none ∷ none ∷ map_option text_piece c.digest ∷ []))

  unfoldable pub component_pieces : List ℕ → List DescribedComponent → List (Keyed (Piece (Node P)))
  component_pieces offsets [] = []
  component_pieces offsets (c ∷ cs) = under c.name (component_piece (get_or offsets 0 0) c) ∷ component_pieces (drop 1 offsets) cs

  unfoldable pub object_piece : List ℕ → DescribedObject → Piece (Node P)
  object_piece offsets o =
      map_piece (given object_names (some (list_piece o.shape) ∷ some (text_piece o.format) ∷ map_option (copied_piece object_levels) o.attributes
      ∷ some (map_piece (component_pieces offsets o.components)) ∷ []))

  unfoldable pub object_pieces : List ℕ → List DescribedObject → List (Keyed (Piece (Node P)))
  object_pieces offsets [] = []
  object_pieces offsets (o ∷ os) = under o.name (object_piece (take (length o.components) offsets) o) ∷ object_pieces (drop (length o.components) offsets) os

  unfoldable pub manifest_piece : Described → List ℕ → Piece (Node P)
  manifest_piece d offsets =
      map_piece (given root_names (some (text_piece (ascii "1.2.0")) ∷ map_option (copied_piece root_levels) d.attributes ∷ some (map_piece (object_pieces offsets d.objects)) ∷ []))
