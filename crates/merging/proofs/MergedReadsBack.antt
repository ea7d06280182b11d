-- The file of an accepted merge is the writer's file of both descriptions in one, and reads back as that.
use Prim.Native.Nat.{ℕ}
use native.Mathlib.Omega.{arith}
use mathlib.Core.List.{List, map}
use mathlib.Core.Bool.{Bool, true, false, cond, ◌&&◌}
use mathlib.Core.Path.{◌≡◌, refl, sym, ap, ap₂, subst}
use lib.ListN.{length}
use lib.Dec.{leb}
use Rattle.meaning.specs.Refusal.{BIG, COUNT, ROOM}
use Rattle.meaning.specs.Limit.{manifest_limit, end_limit}
use Rattle.meaning.specs.Check.{Check, pass, refuse, ◌>>◌, ◌unless◌}
use Rattle.meaning.specs.Layouts.{Layout, current}
use Rattle.meaning.specs.Frame.{Reading, reading}
use Rattle.meaning.specs.Described.{Described, blobs, described_by}
use Rattle.meaning.specs.Placement.{placement, last_end}
use Rattle.meaning.specs.Manifest.{manifest_bytes}
use Rattle.meaning.specs.WrittenFile.{file_of}
use Rattle.meaning.specs.Write.{written_at, written_plain}
use Rattle.meaning.proofs.Checks.{pass_same, refused-is-not, passed_on}
use Rattle.readback.specs.Lent.{Held}
use Rattle.readback.specs.Back.{ReadsBack}
use Rattle.readback.proofs.ReadBack.{written-plain-reads-back}
use Rattle.shown.specs.Accepted.{Framing}
use Rattle.roundtrip.specs.Again.{plain_file}
use Rattle.merging.specs.Merge.{merged, rows_room, done, refused, short, about, merge_into, merge}
use Rattle.merging.specs.AcceptedMerge.{Says, Merging}
use Rattle.merging.proofs.SaysFine.{one-meaning, back-says, says-fine, says-few, merged-fine}

-- ---- checks that pass

unless-passes : {A : Type 0} (n : ℕ) (b : Bool) (k : Check A) {a : A} → ((n unless b) >> k) ≡ pass a → k ≡ pass a
unless-passes n true k h = h
unless-passes n false k h = absurd (refused-is-not h)

-- ---- the writer's file is the one its description gives

pub written-plain-file : (d : Described) (room : ℕ) (file : List ℕ) → written_plain d room ≡ pass file → file ≡ plain_file d
unfolding written_plain written_at plain_file
written-plain-file d room file h =
    let lengths : List ℕ = map length (blobs d) in
    let offsets : List ℕ = placement lengths in
    let F : List ℕ = file_of d offsets in
    let roomy : Check (List ℕ) = (ROOM unless leb (length F) room) >> pass F in
    let k₁ = unless-passes COUNT (leb (last_end offsets lengths) end_limit) ((BIG unless leb (length (manifest_bytes d offsets)) manifest_limit) >> (reading current F >> roomy)) h in
    let k₂ = unless-passes BIG (leb (length (manifest_bytes d offsets)) manifest_limit) (reading current F >> roomy) k₁ in
    let k₃ = unless-passes ROOM (leb (length F) room) (pass F) (passed_on (reading current F) roomy _ k₂) in
    sym (pass_same k₃)

-- ---- an accepted merge

refused-not-done : {f n o c : ℕ} {x : List ℕ} → refused f n o c ≡ done x → ⊥
refused-not-done e = let z : ◌≡◌ {A = ℕ} 0 1 = cc in omega arith

short-not-done : {l : ℕ} {x : List ℕ} → short l ≡ done x → ⊥
short-not-done e = let z : ◌≡◌ {A = ℕ} 0 1 = cc in omega arith

done-same : {x y : List ℕ} → done x ≡ done y → x ≡ y
done-same e = cc

into-done : (d : Described) (lent room : ℕ) (x : List ℕ) → merge_into d lent room ≡ done x → written_plain d (length (plain_file d)) ≡ pass x
unfolding merge_into about
into-done d lent room x = go (written_plain d (length (plain_file d)))
  where
    roomy : (b : Bool) (f : List ℕ) → cond b (done f) (short (length f)) ≡ done x → pass f ≡ pass x
    roomy true f h = ap (λ (g : List ℕ). pass g) (done-same h)
    roomy false f h = absurd (short-not-done h)

    go : (k : Check (List ℕ)) → about 0 k (λ f. cond (leb (length f) room && leb (rows_room d) lent) (done f) (short (length f))) ≡ done x → k ≡ pass x
    go (pass f) h = roomy (leb (length f) room && leb (rows_room d) lent) f h
    go (refuse n o c) h = absurd (refused-not-done h)

pub merge-done : (L : Layout) → Framing L → (first : List ℕ) (M : Layout) → Framing M → (second : List ℕ) (lent room : ℕ) (x : List ℕ) → merge L first M second lent room ≡ done x
    → Merging L first M second x
unfolding merge about
merge-done L fl first M fm second lent room x = go (reading L first) refl (reading M second) refl
  where
    go : (p : Check Reading) → reading L first ≡ p → (q : Check Reading) → reading M second ≡ q
        → about 1 p (λ a. about 2 q λ b. merge_into (merged (described_by first a.model) (described_by second b.model)) lent room) ≡ done x → Merging L first M second x
    go (pass r) e (pass s) f h = record {
      a = described_by first r.model;
      b = described_by second s.model;
      first_says = record { framing = fl; read = r; is = e; back = refl };
      second-says = record { framing = fm; read = s; is = f; back = refl };
      wrote = into-done (merged (described_by first r.model) (described_by second s.model)) lent room x h;
    }
    go (pass r) e (refuse n o c) f h = absurd (refused-not-done h)
    go (refuse n o c) e q f h = absurd (refused-not-done h)

module _ {L M : Layout} {first second x : List ℕ} (m : Merging L first M second x) where
  pub merging-file : x ≡ plain_file (merged m.a m.b)
  merging-file = written-plain-file (merged m.a m.b) (length (plain_file (merged m.a m.b))) x m.wrote

  -- what a merged file reads back as
  pub merging-reads-back : Held first → Held second → ReadsBack x (merged m.a m.b)
  merging-reads-back h k =
      written-plain-reads-back (merged m.a m.b) (length (plain_file (merged m.a m.b)))
      (merged-fine m.a m.b (says-fine h m.first_says) (says-fine k m.second-says) (says-few h m.first_says) (says-few k m.second-says)) x m.wrote

  pub merging-says : Held first → Held second → Says current x (merged m.a m.b)
  merging-says h k = back-says (merging-reads-back h k)

-- an accepted merge of two files in memory is accepted by the reader, and describes what both say together; so no unknown field is left, and a blob that components share is there for each
pub merge-reads-back : {L M : Layout} {first second : List ℕ} {a b : Described} → Held first → Held second → Says L first a → Says M second b → (lent room : ℕ) (x : List ℕ)
    → merge L first M second lent room ≡ done x → ReadsBack x (merged a b)
merge-reads-back {L} {M} {first} {second} h k f s lent room x e =
    let m = merge-done L f.framing first M s.framing second lent room x e in
    subst (ReadsBack x) (ap₂ merged (one-meaning m.first_says f) (one-meaning m.second-says s)) (merging-reads-back m h k)
