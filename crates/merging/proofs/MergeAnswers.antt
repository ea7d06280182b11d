-- What a merge of two accepted files answers, without a reading of the merged file: COUNT (2 ^ 40), BIG, COUNT, TWICE, ROOM.
use Prim.Native.Nat.{ℕ}
use mathlib.Core.List.{List, map}
use mathlib.Core.Bool.{Bool, true, false, cond, ◌&&◌}
use mathlib.Core.Path.{◌≡◌, refl}
use lib.ListN.{length}
use lib.Dec.{leb}
use borrow.Author.Tests.{le-leb}
use native.Mathlib.Omega.{arith}
use Rattle.meaning.specs.Refusal.{BIG, COUNT, ROOM, TWICE}
use Rattle.meaning.specs.Limit.{manifest_limit, end_limit, object_limit}
use Rattle.meaning.specs.Text.{distinct}
use Rattle.meaning.specs.Check.{Check, pass, ◌>>◌, ◌unless◌}
use Rattle.meaning.specs.Described.{Described, blobs}
use Rattle.meaning.specs.Placement.{placement, last_end}
use Rattle.meaning.specs.Manifest.{manifest_bytes}
use Rattle.meaning.specs.Layouts.{Layout}
use Rattle.readback.specs.Lent.{Held}
use Rattle.readback.proofs.ReadBack.{written-plain-is}
use Rattle.roundtrip.specs.Again.{plain_file}
use Rattle.merging.specs.Merge.{merged, rows_room, done, short, about, merge_into, merge, roomed}
use Rattle.merging.specs.AcceptedMerge.{Says}
use Rattle.merging.proofs.SaysFine.{says-fine, says-few, merged-fine}
use Rattle.merging.proofs.MergedJudged.{merged-judged}

module _ (d : Described) where
  abbrev offsets : List ℕ
  offsets = placement (map length (blobs d))

  abbrev called : List (List ℕ)
  called = map (λ o. o.name) d.objects

  -- told by the description alone
  abbrev pub refusals : Check (Unit {0})
  refusals =
      (COUNT unless leb (last_end offsets (map length (blobs d))) end_limit) >> ((BIG unless leb (length (manifest_bytes d offsets)) manifest_limit)
      >> ((COUNT unless leb (length called) object_limit) >> (TWICE unless distinct called)))

module _ {L M : Layout} {first second : List ℕ} {a b : Described} (h : Held first) (k : Held second) (f : Says L first a) (s : Says M second b) (lent room : ℕ) where
  pub merge-answers : merge_into (merged a b) lent room ≡ about 0 (refusals (merged a b)) (λ u. roomed (merged a b) lent room)
  unfolding merge_into about plain_file
  merge-answers =
      let d : Described = merged a b in
      rw (written-plain-is d (length (plain_file d)) (merged-fine a b (says-fine h f) (says-fine k s) (says-few h f) (says-few k s)), merged-judged f s, le-leb (length (plain_file d)) (length (plain_file d)) (omega arith))
      (go (leb (last_end (offsets d) (map length (blobs d))) end_limit) (leb (length (manifest_bytes d (offsets d))) manifest_limit) (leb (length (called d)) object_limit) (distinct (called d)))
    where
      go : (p q r t : Bool)
          → about 0 ((COUNT unless p) >> ((BIG unless q) >> (((COUNT unless r) >> (TWICE unless t)) >> ((ROOM unless true) >> pass (plain_file (merged a b))))))
          (λ file. cond (leb (length file) room && leb (rows_room (merged a b)) lent) (done file) (short (length file)))
          ≡ about 0 ((COUNT unless p) >> ((BIG unless q) >> ((COUNT unless r) >> (TWICE unless t)))) (λ u. roomed (merged a b) lent room)
      go true true true true = refl
      go true true true false = refl
      go true true false t = refl
      go true false r t = refl
      go false q r t = refl

  -- and so of the merge itself
  pub merge-of-both : merge L first M second lent room ≡ about 0 (refusals (merged a b)) (λ u. roomed (merged a b) lent room)
  unfolding merge about
  merge-of-both = rw (f.is, s.is, f.back, s.back) merge-answers
