-- The bytes that are read as one item are exactly its encodings. ExactEvery has that every encoding is read, whatever follows; ExactOnly that whatever is read
-- is an encoding, whatever is left.
use Prim.Native.Nat.{ℕ}
use mathlib.Core.List.{List, [], append-nil}
use mathlib.Core.Logic.{◌↔◌}
use mathlib.Core.Path.{◌≡◌, sym, ◌∙◌, subst, ap}
use Rattle.meaning.specs.Read.{got, item, no_note}
use Rattle.meaning.specs.Encoding.{Bytes, Tree, Encodes}
use Rattle.meaning.proofs.ExactEvery.{every-encoding-is-read}
use Rattle.meaning.proofs.ExactOnly.{Encoded, whatever-is-read-is-encoded}

pub exactly-the-encodings-are-read : (d : ℕ) (t : Tree) (bs : List ℕ) → Bytes bs → Encodes d t bs ↔ (item no_note d bs ≡ got t [])
exactly-the-encodings-are-read d t bs h = (read, encoded)
  where
    read : Encodes d t bs → item no_note d bs ≡ got t []
    read e = ap (item no_note d) (sym (append-nil bs)) ∙ every-encoding-is-read d t bs e []

    encoded : item no_note d bs ≡ got t [] → Encodes d t bs
    encoded e = let k : Encoded d t bs [] = whatever-is-read-is-encoded d bs t [] h e in subst (Encodes d t) (sym (k.split ∙ append-nil k.eaten)) k.encodes
