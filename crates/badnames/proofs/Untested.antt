-- One more name noted, tested for UTF-8 or not.
use Prim.Native.Nat.{ℕ, suc, ◌+◌, ◌-◌, ◌≤◌}
use native.Mathlib.Omega.{arith}
use mathlib.Core.List.{List, [], ◌∷◌, ◌++◌}
use mathlib.Core.Bool.{Bool, true, false}
use mathlib.Core.Path.{◌≡◌, refl, sym, subst}
use lib.ListN.{length, take, drop}
use Rattle.meaning.specs.Tree.{Pair}
use Rattle.meaning.specs.Text.{utf8}
use Rattle.walk.specs.Reading.{Ends, Reads}
use Rattle.walk.specs.declared.Letters.{Letters}
use Rattle.walk.specs.Places.{TextIs, Inside}
use Rattle.walk.specs.Put.{put}
use Rattle.walk.proofs.Passed.{Here}
use Rattle.walk.proofs.Puts.{length-put}
use Rattle.naming.specs.NotedNames.{tally, Tallied, Noted}
use Rattle.naming.specs.declared.Tally.{Tally}
use Rattle.naming.proofs.NameNoted.{noted-odd, noted-good, noted-bad, inside}
use Rattle.badnames.specs.Keys.{with_letters, Known, NotedIf}
use Rattle.std.specs.Prelude.{Some, None, Option}

module _ {m : List ℕ} {done : List (Pair Ends)} {t : Tally} {left size : List ℕ} where
  letters-tested : Tallied m done t left size → Tallied m done (with_letters t done) left size
  letters-tested h = record { counted = h.counted; oddly = h.oddly; badly = refl; same-room = h.same-room; listed-are = h.listed-are }

  -- tested, a tally is all that is known
  known-whole : Tallied m done t left size → Known true m done t left size
  known-whole h = record { tallied = letters-tested h; badly = h.badly }

  whole-known : Known true m done t left size → Tallied m done t left size
  whole-known k = let h = k.tallied in record { counted = h.counted; oddly = h.oddly; badly = k.badly; same-room = h.same-room; listed-are = h.listed-are }

-- before the first pair
pub none-known : (tested : Bool) {m left size : List ℕ} → Tallied m [] (tally 0 false false) left size → Known tested m [] (tally 0 false false) left size
none-known true h = known-whole h
none-known false h = record { tallied = h; badly = refl }

-- ---------------------------------------------------------------- not tested

as-put : (s : List ℕ) (t : Tally) (left size : List ℕ) {t' : Tally} {left₁ left₂ size₁ size₂ : List ℕ} → left₂ ≡ left₁ → size₂ ≡ size₁ → NotedIf false s t left size t' left₁ size₁ → NotedIf false s t left size t' left₂ size₂
as-put s t left size b c h = rw (b, c) h

pub letters-begin : (s : List ℕ) (v : Option Letters) (a n : ℕ) → Inside (Here s 0) v → v ≡ Some (record { at = a; size = n }) → a ≤ length s
letters-begin s v a n h e = let l = inside s v a n h e in omega arith

-- s is lent whole to `walk::text`, which answered v
module _ (s : List ℕ) (t : Tally) (left size : List ℕ) (v : Option Letters) (h : TextIs (Here s 0) v) where
  pub unread-odd : v ≡ None → {left' size' : List ℕ} → left' ≡ put left t.count 0 → size' ≡ put size t.count 0 → NotedIf false s t left size (tally (t.count + 1) true t.bad) left' size'
  unread-odd e b c = as-put s t left size b c (
    length-put left t.count 0,
    λ m at within is done d p r x y. record { tallied = letters-tested ((noted-odd s (with_letters t done) left size v h e).1 m at within is done d p r x y.tallied); badly = y.badly },
  )

  module _ (lie : Inside (Here s 0) v) (a n : ℕ) (e : v ≡ Some (record { at = a; size = n })) where
    fits : a + n ≤ length s
    fits = inside s v a n lie e

    pub unread-text : {left' size' : List ℕ} → left' ≡ put left t.count (length s - a) → size' ≡ put size t.count n → NotedIf false s t left size (tally (t.count + 1) t.odd t.bad) left' size'
    unread-text b c = as-put s t left size b c (
      length-put left t.count (length s - a),
      λ m at within is done d p r x y. record { tallied = either m at within is done d p r x y.tallied (utf8 (take (a + n - a) (drop a s))) refl; badly = y.badly },
    )
      where
        either : (m : List ℕ) (at : ℕ) → at ≤ length m → s ≡ drop at m → (done : List (Pair Ends)) (d : ℕ) (p : Pair Ends) (r : List ℕ) → Reads (suc d) s p.key r → Tallied m done (with_letters t done) left size
            → (b : Bool) → b ≡ utf8 (take (a + n - a) (drop a s))
            → Tallied m (done ++ p ∷ []) (with_letters (tally (t.count + 1) t.odd t.bad) (done ++ p ∷ [])) (put left t.count (length s - a)) (put size t.count n)
        either m at within is done d p r x y true g = letters-tested ((noted-good s (with_letters t done) left size v h a n e fits g).1 m at within is done d p r x y)
        either m at within is done d p r x y false g = letters-tested ((noted-bad s (with_letters t done) left size v h a n e fits g).1 m at within is done d p r x y)

-- ---------------------------------------------------------------- as the code notes it

module _ (s : List ℕ) (t : Tally) (left size : List ℕ) {tested : Bool} {t' : Tally} {left' size' : List ℕ} where
  pub by-test : tested ≡ true → Noted s t left size t' left' size' → NotedIf tested s t left size t' left' size'
  by-test e h =
      subst (λ b. NotedIf b s t left size t' left' size') (sym e)
      (h.0, λ m at within is done d p r x y. known-whole (h.1 m at within is done d p r x (whole-known y)))

  pub untested : tested ≡ false → NotedIf false s t left size t' left' size' → NotedIf tested s t left size t' left' size'
  untested e h = subst (λ b. NotedIf b s t left size t' left' size') (sym e) h
