-- What an accepted plan gives: each blob stands at its offset in the file, every other byte is 0, and all ends are in time. The rule of document 01 is such a plan.
use Prim.Native.Nat.{ℕ, suc, ◌+◌, ◌%◌, ◌≤◌, max}
use native.Mathlib.Omega.{arith}
use mathlib.Core.List.{List, [], ◌∷◌, ◌++◌, map}
use mathlib.Core.Bool.{Bool, true, false, ◌&&◌, ◌||◌}
use mathlib.Core.Logic.{⊎_elim}
use mathlib.Core.Path.{◌≡◌, refl, ap, ◌∙◌, subst}
use lib.Dec.{eqb, leb}
use lib.ListN.{length, take, drop, get_or, length-drop}
use lib.Seq.{drop-append-le, take-append-le}
use borrow.Author.Tests.{leb-true, le-leb, eqb-true, eq-eqb}
use Rattle.meaning.specs.Limit.{alignment, end_limit}
use Rattle.meaning.specs.Refusal.{PLAN}
use Rattle.meaning.specs.Text.{all}
use Rattle.meaning.specs.Check.{Check, pass, ◌>>◌, ◌unless◌, in_object}
use Rattle.meaning.specs.Read.{Span}
use Rattle.meaning.specs.Layouts.{magic}
use Rattle.meaning.specs.Placement.{aligned, placed_from, placement, end_from, last_end}
use Rattle.meaning.specs.Plan.{ranged, apart, allowed, planned_from, planned}
use Rattle.meaning.specs.WrittenFile.{over, blobs_over}
use Rattle.readback.specs.Follows.{Allowed, Follows, none, next, In, here, later, Outside, Before}
use Rattle.readback.specs.Back.{AllAt}
use Rattle.meaning.proofs.Over.{over-length, over-here, over-keeps, over-front, byte-before, byte-after, blobs-length, end-above}
use Rattle.meaning.proofs.Tests.{both_left, both_right}
use Rattle.meaning.proofs.Checks.{refused-is-not}
use Rattle.meaning.proofs.Lengths.{aligned-above}

-- ---- from the verdict

-- a test of the i-th row that was passed
row-passes : {A : Type 0} (i : ℕ) (t : Bool) (k : Check A) {a : A} → (in_object i (PLAN unless t) >> k) ≡ pass a → (t ≡ true) × (k ≡ pass a)
row-passes i true k e = (refl, e)
row-passes i false k e = absurd (refused-is-not e)

is-allowed : (ceiling o l : ℕ) → allowed ceiling (ranged o l) ≡ true → Allowed ceiling o l
unfolding allowed
is-allowed ceiling o l e =
    let both = both_left (eqb (o % alignment) 0 && leb alignment o) (leb (o + l) ceiling) e in
    record {
      multiple = eqb-true (o % alignment) 0 (both_left (eqb (o % alignment) 0) (leb alignment o) both);
      low = leb-true alignment o (both_right (eqb (o % alignment) 0) (leb alignment o) both);
      ends = leb-true (o + l) ceiling (both_right (eqb (o % alignment) 0 && leb alignment o) (leb (o + l) ceiling) e);
    }

follows-from : (ceiling i : ℕ) (earlier : List Span) (os ls : List ℕ) → planned_from ceiling i earlier os ls ≡ pass tt → Follows ceiling earlier os ls
unfolding planned_from
follows-from ceiling i earlier [] [] e = none
follows-from ceiling i earlier [] (l ∷ ls) e = absurd (refused-is-not e)
follows-from ceiling i earlier (o ∷ os) [] e = absurd (refused-is-not e)
follows-from ceiling i earlier (o ∷ os) (l ∷ ls) e =
    let k = row-passes i (allowed ceiling (ranged o l) && all (apart (ranged o l)) earlier) (planned_from ceiling (suc i) (ranged o l ∷ earlier) os ls) e in
    next (is-allowed ceiling o l (both_left (allowed ceiling (ranged o l)) (all (apart (ranged o l)) earlier) k.0))
    (both_right (allowed ceiling (ranged o l)) (all (apart (ranged o l)) earlier) k.0)
    (follows-from ceiling (suc i) (ranged o l ∷ earlier) os ls k.1)

pub record Accepted (ceiling : ℕ) (plan lengths : List ℕ) : Type 0 where
  pub low : ceiling ≤ end_limit
  pub follows : Follows ceiling [] plan lengths

pub accepted : (ceiling : ℕ) (plan ls : List ℕ) → planned ceiling plan ls ≡ pass tt → Accepted ceiling plan ls
unfolding planned
accepted ceiling plan ls = go (leb ceiling end_limit) refl
  where
    go : (t : Bool) → leb ceiling end_limit ≡ t → ((PLAN unless t) >> planned_from ceiling 0 [] plan ls) ≡ pass tt → Accepted ceiling plan ls
    go true q e = record { low = leb-true ceiling end_limit q; follows = follows-from ceiling 0 [] plan ls e }
    go false q e = absurd (refused-is-not e)

-- as many offsets as blobs
pub as_many : {ceiling : ℕ} {earlier : List Span} {os ls : List ℕ} → Follows ceiling earlier os ls → length os ≡ length ls
as_many none = refl
as_many (next a b f) = ap suc (as_many f)

-- ---- the file

ends_low : {ceiling : ℕ} {earlier : List Span} {os ls : List ℕ} (n : ℕ) → Follows ceiling earlier os ls → end_from n os ls ≤ max n ceiling
unfolding end_from
ends_low n none = omega arith
ends_low {ceiling} n (next {o = o} {l} a b f) = omega (arith, a.ends, ends_low (max n (o + l)) f)

pub ends-in-time : {ceiling : ℕ} {plan ls : List ℕ} → Accepted ceiling plan ls → last_end plan ls ≤ end_limit
unfolding last_end magic
ends-in-time a = omega (arith, ends_low 8 a.follows, a.low)

in_all : {A : Type 0} (p : A → Bool) {a : A} {as' : List A} → In a as' → all p as' ≡ true → p a ≡ true
in_all p (here {as'}) e = both_left (p _) (all p as') e
in_all p (later {b} {as'} i) e = in_all p i (both_right (p b) (all p as') e)

-- an earlier blob stays where it is
blobs-keep : {ceiling : ℕ} {earlier : List Span} (file os : List ℕ) (bs : List (List ℕ)) → Follows ceiling earlier os (map length bs) → (s : Span) → In s earlier
    → s.place + s.size ≤ length file → take s.size (drop s.place (blobs_over file os bs)) ≡ take s.size (drop s.place file)
unfolding blobs_over
blobs-keep file [] [] none s i h = refl
blobs-keep file (o ∷ os) (b ∷ bs) (next a e f) s i h =
    blobs-keep (over file o b) os bs f s (later i) (omega (arith, over-length file o b))
    ∙ over-keeps file o b s.place s.size h (in_all (apart (ranged o (length b))) i e)
blobs-keep {ceiling = ceiling} {earlier = earlier} file [] (b ∷ bs) x6 s i h = elim x6 [ ]
blobs-keep {ceiling = ceiling} {earlier = earlier} file (o ∷ os) [] x5 s i h = elim x5 [ ]

-- the header stays
pub front-stays : {ceiling : ℕ} {earlier : List Span} (file os : List ℕ) (bs : List (List ℕ)) → Follows ceiling earlier os (map length bs) → 8 ≤ length file
    → take 8 (blobs_over file os bs) ≡ take 8 file
unfolding blobs_over
front-stays file [] [] none h = refl
front-stays file (o ∷ os) (b ∷ bs) (next a e f) h = front-stays (over file o b) os bs f (omega (arith, over-length file o b)) ∙ over-front file o b 8 h (omega (arith, a.low))
front-stays {ceiling = ceiling} {earlier = earlier} file [] (b ∷ bs) x4 h = elim x4 [ ]
front-stays {ceiling = ceiling} {earlier = earlier} file (o ∷ os) [] x4 h = elim x4 [ ]

-- each blob stands at its offset, whatever follows
pub all-stand : {ceiling : ℕ} {earlier : List Span} (file os : List ℕ) (bs : List (List ℕ)) (rest : List ℕ) → Follows ceiling earlier os (map length bs)
    → (final : List ℕ) → final ≡ blobs_over file os bs → AllAt (final ++ rest) (length final) os bs
unfolding blobs_over
all-stand file [] [] rest none final same = tt
all-stand file (o ∷ os) (b ∷ bs) rest (next a e f) final same =
    let l : o + length b ≤ length final =
    omega (arith, ap length same, blobs-length (over file o b) os bs, end-above (length (over file o b)) os (map length bs), over-length file o b) in (
      record {
        multiple = a.multiple;
        low = a.low;
        inside = l;
        stands =
            ap (take (length b)) (drop-append-le o final rest (omega (arith, l)))
            ∙ take-append-le (length b) (drop o final) rest (omega (arith, l, length-drop o final))
            ∙ ap (λ (g : List ℕ). take (length b) (drop o g)) same
            ∙ blobs-keep (over file o b) os bs f (ranged o (length b)) here (omega (arith, over-length file o b))
            ∙ over-here file o b;
      },
      all-stand (over file o b) os bs rest f final same,
    )
all-stand {ceiling = ceiling} {earlier = earlier} file [] (b ∷ bs) rest x4 final same = elim x4 [ ]
all-stand {ceiling = ceiling} {earlier = earlier} file (o ∷ os) [] rest x4 final same = elim x4 [ ]

-- what no blob covers stays, 0 where nothing stands
pub uncovered : (file os : List ℕ) (bs : List (List ℕ)) (k : ℕ) → Outside k os (map length bs) → get_or (blobs_over file os bs) k 0 ≡ get_or file k 0
unfolding blobs_over
uncovered file [] bs k h = refl
uncovered file (o ∷ os) [] k h = refl
uncovered file (o ∷ os) (b ∷ bs) k (h, hs) = uncovered (over file o b) os bs k hs ∙ ⊎_elim (byte-before file o b k) (byte-after file o b k) h

-- ---- the rule's offsets are accepted

pub aligned-multiple : (n : ℕ) → aligned n % alignment ≡ 0
unfolding aligned
aligned-multiple n = omega arith

first-multiple : (n : ℕ) → 8 ≤ n → alignment ≤ aligned n
unfolding aligned
first-multiple n h = omega arith

pub before_more : (n m : ℕ) (ss : List Span) → n ≤ m → Before n ss → Before m ss
before_more n m [] h b = tt
before_more n m (s ∷ ss) h (b, bs) = (omega (arith, h, b), before_more n m ss h bs)

or-last : (a b c d : Bool) → d ≡ true → (a || b || c || d) ≡ true
or-last true b c d e = refl
or-last false true c d e = refl
or-last false false true d e = refl
or-last false false false d e = e

pub apart-before : (n o l : ℕ) (ss : List Span) → n ≤ o → Before n ss → all (apart (ranged o l)) ss ≡ true
unfolding apart
apart-before n o l [] h b = refl
apart-before n o l (s ∷ ss) h (b, bs) =
    rw (or-last (eqb l 0) (eqb s.size 0) (leb (o + l) s.place) (leb (s.place + s.size) o) (le-leb (s.place + s.size) o (omega (arith, h, b)))) (apart-before n o l ss h bs)

allowed-so : (ceiling o l : ℕ) → o % alignment ≡ 0 → alignment ≤ o → o + l ≤ ceiling → allowed ceiling (ranged o l) ≡ true
unfolding allowed
allowed-so ceiling o l m h k = rw (eq-eqb (o % alignment) 0 m, le-leb alignment o h, le-leb (o + l) ceiling k) refl

placed-accepted : (i n : ℕ) (earlier : List Span) (ls : List ℕ) → 8 ≤ n → Before n earlier → end_from n (placed_from n ls) ls ≤ end_limit
    → planned_from end_limit i earlier (placed_from n ls) ls ≡ pass tt
unfolding planned_from placed_from end_from
placed-accepted i n earlier [] h b e = refl
placed-accepted i n earlier (l ∷ ls) h b e =
    let up = aligned-above n in
    let m : max n (aligned n + l) ≡ aligned n + l = omega (arith, up) in
    let e' : end_from (aligned n + l) (placed_from (aligned n + l) ls) ls ≤ end_limit = subst (λ (k : ℕ). end_from k (placed_from (aligned n + l) ls) ls ≤ end_limit) m e in
    rw (
      allowed-so end_limit (aligned n) l (aligned-multiple n) (first-multiple n h) (omega (arith, e', end-above (aligned n + l) (placed_from (aligned n + l) ls) ls)),
      apart-before n (aligned n) l earlier up b,
    )
    (placed-accepted (suc i) (aligned n + l) (ranged (aligned n) l ∷ earlier) ls (omega (arith, h, up)) (omega arith, before_more n (aligned n + l) earlier (omega (arith, up)) b) e')

-- document 01's placement is an accepted plan, with the ceiling of COUNT
pub placement-accepted : (ls : List ℕ) → last_end (placement ls) ls ≤ end_limit → planned end_limit (placement ls) ls ≡ pass tt
unfolding planned placement last_end magic
placement-accepted ls h = placed-accepted 0 8 [] ls (omega arith) tt h
