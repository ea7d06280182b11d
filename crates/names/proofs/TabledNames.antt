-- A table of digests shows that names differ. Assumes nothing.
use mathlib.Core.Path.{◌≡◌, refl, sym, ap, ◌∙◌, subst}
use mathlib.Core.List.{List}
use mathlib.Core.Bool.{Bool, true, false}
use Prim.Native.Nat.{ℕ, ◌+◌, ◌%◌, ◌≤◌, ◌<◌}
use native.Mathlib.Omega.{arith}
use lib.ListN.{length, get_or, set, length-set}
use lib.Seq.{get_or-set_same, get_or-set_other}
use Rattle.text.specs.Digest.{digest}
use Rattle.text.proofs.OrderIsTotal.{Which, less, more, equal, which}
use Rattle.names.specs.Names.{name, Differ}
use Rattle.names.specs.Table.{Found, Claimed}
use Rattle.names.proofs.ListedNames.{none_differ, differ-more, fewer-differ}

-- the loop of `claim`: the table is as it was, and the places from h's own up to p hold neither 0 nor h
pub record Probed (old table : List ℕ) (h p : ℕ) : Type 0 where
  pub same : table ≡ old
  pub low : h % 2048 ≤ p
  pub full : (e : ℕ) → h % 2048 ≤ e → e < p → get_or table e 0 ≡ 0 → ⊥
  pub other : (e : ℕ) → h % 2048 ≤ e → e < p → get_or table e 0 ≡ h → ⊥

pub probed_none : {table : List ℕ} {h : ℕ} → Probed table table h (h % 2048)
probed_none = record { same = refl; low = omega arith; full = λ e l m. absurd (omega arith); other = λ e l m. absurd (omega arith) }

module _ {old table : List ℕ} {h p : ℕ} (b : Probed old table h p) where
  pub as_long : length table ≡ length old
  as_long = ap length b.same

  pub set-as-long : length (set table p h) ≡ length old
  set-as-long = length-set table p h ∙ as_long

  pub probed-more : (get_or table p 0 ≡ 0 → ⊥) → (get_or table p 0 ≡ h → ⊥) → Probed old table h (p + 1)
  probed-more x y = record { same = b.same; low = omega (arith, b.low); full = λ e l m. go e l m (which e p); other = λ e l m. to e l m (which e p) }
    where
      go : (e : ℕ) → h % 2048 ≤ e → e < p + 1 → Which e p → get_or table e 0 ≡ 0 → ⊥
      go e l m (less w) = b.full e l w
      go e l m (more w) = absurd (omega arith)
      go e l m (equal w) = λ z. x (ap (λ u. get_or table u 0) (sym w) ∙ z)

      to : (e : ℕ) → h % 2048 ≤ e → e < p + 1 → Which e p → get_or table e 0 ≡ h → ⊥
      to e l m (less w) = b.other e l w
      to e l m (more w) = absurd (omega arith)
      to e l m (equal w) = λ z. y (ap (λ u. get_or table u 0) (sym w) ∙ z)

  -- a 0 at p: h is not there, and goes there
  pub claimed : 0 < h → p < length table → get_or table p 0 ≡ 0 → Claimed old (set table p h) h true
  claimed l m z = rw (← b.same) (record { free = λ _. free; taken = λ _. taken; kept = λ _. kept })
    where
      at : (f : Found table h) → Which f.place p → ⊥
      at f (less w) = b.other f.place f.low w f.there
      at f (more w) = f.run p b.low w z
      at f (equal w) = omega (arith, sym f.there ∙ ap (λ u. get_or table u 0) w ∙ z)

      free : Found table h → ⊥
      free f = at f (which f.place p)

      same_at : (e : ℕ) → (e ≡ p → ⊥) → get_or (set table p h) e 0 ≡ get_or table e 0
      same_at e n = get_or-set_other table p e h 0 n

      taken : Found (set table p h) h
      taken = record { place = p; low = b.low; there = get_or-set_same table p h 0 m; run = λ e x y q. b.full e x y (sym (same_at e (λ v. omega arith)) ∙ q) }

      still : (g : ℕ) → 0 < g → (f : Found table g) → (e : ℕ) → g % 2048 ≤ e → e < f.place → Which e p → get_or (set table p h) e 0 ≡ 0 → ⊥
      still g k f e x y (less w) q = f.run e x y (sym (same_at e (λ v. omega arith)) ∙ q)
      still g k f e x y (more w) q = f.run e x y (sym (same_at e (λ v. omega arith)) ∙ q)
      still g k f e x y (equal w) q = omega (arith, sym (get_or-set_same table p h 0 m) ∙ ap (λ u. get_or (set table p h) u 0) (sym w) ∙ q)

      kept : (g : ℕ) → 0 < g → Found table g → Found (set table p h) g
      kept g k f = record { place = f.place; low = f.low; there = same_at f.place (λ w. omega (arith, sym f.there ∙ ap (λ u. get_or table u 0) w ∙ z)) ∙ f.there; run = λ e x y q. still g k f e x y (which e p) q }

-- an answer of false says nothing
pub unclaimed : {old new : List ℕ} {h : ℕ} → Claimed old new h false
unclaimed {old} {new} {h} = record { free = λ q. no q; taken = λ q. absurd (no' q); kept = λ q. absurd (no' q) }
  where
    no' : false ≡ true → ⊥
    no' q = let z : ◌≡◌ {A = ℕ} 0 1 = cc in omega arith

    no : false ≡ true → Found old h → ⊥
    no q f = no' q

digest-positive : (w : List ℕ) → 0 < digest w
unfolding digest
digest-positive w = omega arith

-- the loop of `claimed`: the digests of the names before number i stand in the table, and no two of these names are equal
pub record Tabled (m left size old table : List ℕ) (i : ℕ) : Type 0 where
  pub as_long : length table ≡ length old
  pub every : (j : ℕ) → j < i → Found table (digest (name m left size j))
  pub differ : Differ (name m left size) i

pub tabled-none : {m left size table : List ℕ} → Tabled m left size table table 0
tabled-none {m} {left} {size} = record { as_long = refl; every = λ j l. absurd (omega arith); differ = none_differ (name m left size) }

module _ {m left size old table : List ℕ} {i : ℕ} (t : Tabled m left size old table i) where
  pub tabled-more : {new : List ℕ} {h : ℕ} {r : Bool} → length new ≡ length table → Claimed table new h r → h ≡ digest (name m left size i) → r ≡ true
      → Tabled m left size old new (i + 1)
  tabled-more {new} {h} s c e q = record {
    as_long = s ∙ t.as_long;
    every = λ j l. go j l (which j i);
    differ = differ-more t.differ (λ j l y. c.free q (subst (Found table) (ap digest y ∙ sym e) (t.every j l)));
  }
    where
      go : (j : ℕ) → j < i + 1 → Which j i → Found new (digest (name m left size j))
      go j l (less w) = c.kept q (digest (name m left size j)) (digest-positive (name m left size j)) (t.every j w)
      go j l (more w) = absurd (omega arith)
      go j l (equal w) = subst (Found new) (e ∙ ap (λ u. digest (name m left size u)) (sym w)) (c.taken q)

  pub fewer-differ-too : {n : ℕ} → n ≤ i → Differ (name m left size) n
  fewer-differ-too l = fewer-differ l t.differ
