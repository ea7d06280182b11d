-- One object more: counted, weighed in the window, put into the table or into the list.
use Prim.Native.Nat.{ℕ, suc, ◌+◌, ◌≤◌, ◌<◌}
use native.Mathlib.Omega.{arith}
use mathlib.Core.List.{List}
use mathlib.Core.Bool.{Bool, true, false}
use mathlib.Core.Path.{◌≡◌, refl, sym, ◌∙◌, subst}
use lib.ListN.{length}
use borrow.Author.Tests.{lt-ltb, le-ltb}
use borrow.Author.Rules.{part_to_end}
use Rattle.meaning.specs.Columns.{object_width}
use Rattle.meaning.specs.Limit.{object_limit}
use Rattle.objects.specs.Firsts.{plus}
use Rattle.walk.specs.Reading.{Reads}
use Rattle.walk.proofs.Passed.{Here}
use Rattle.table.specs.Objects.{WholePut}
use Rattle.window.specs.Summed.{Added}
use Rattle.window.proofs.Sums.{window-holds, mapped-in-window}
use Rattle.sieve.specs.Sieved.{more, Weighed, Bounded, Keeps}
use Rattle.sieve.specs.declared.Sieve.{Sieve}

pub one_more : (n : ℕ) → n < 1024 → n + 1 ≡ more n
one_more n h = rw (lt-ltb n object_limit h) refl

pub no_more : (n : ℕ) → 1024 ≤ n → n ≡ more n
no_more n h = rw (le-ltb n object_limit h) refl

-- the window after the object was put there, and what was added
module _ (layout : ℕ) (s c : List ℕ) (start end p n : ℕ) (t t' : List ℕ) (long : 208 ≤ length t) (put : WholePut layout (Here s 0) (Here c 0) start end 0 0 object_width t t') (q k : ℕ) (sum : Added t' p n q k) where
  pub weighed : Weighed layout s c start end p n q k
  weighed x d u r key value m named o passes seen =
      let a : Reads (suc d) (Here s 0) x.key u = subst (λ v. Reads (suc d) v x.key u) (sym (part_to_end s 0)) key in
      let b : Reads 30 (Here c 0) x.value r = subst (λ v. Reads 30 v x.value r) (sym (part_to_end c 0)) value in
      let few = seen.count in
      let whole = put x d u r a b m named o passes (omega arith) (omega (arith, long, few)) in
      sum _ (window-holds end o t t' long seen whole) (mapped-in-window end o seen)

-- ---- an object that passes

module _ (layout : ℕ) (s c : List ℕ) (start end : ℕ) (fill : Bool) (from m : ℕ) (have : Sieve) (t t' : List ℕ) (k parts : ℕ) (counted : k ≡ more have.kept) (held : parts ≡ plus have.components m) where
  abbrev with-sums : ℕ → ℕ → Sieve
  with-sums place total = record { kept = k; dropped = have.dropped; components = parts; place = place; total = total }

  pub keeps-weighed : fill ≡ false → (place total : ℕ) → Weighed layout (Here s 0) (Here c 0) start end have.place have.total place total
      → Keeps layout s c start end fill from m have t (with-sums place total) t'
  keeps-weighed f place total weighs = record {
    kept = counted;
    dropped = refl;
    components = held;
    one = λ x d u r key value n named o passes. record {
      weighs = λ g seen.
          weighs x d u r (subst (λ v. Reads (suc d) v x.key u) (sym (part_to_end s 0)) key) (subst (λ v. Reads 30 v x.value r) (sym (part_to_end c 0)) value) n named o passes seen;
      lays = λ g low room. absurd (let z : true ≡ false = sym g ∙ f in let y : ◌≡◌ {A = ℕ} 0 1 = cc in omega (arith, y));
    };
  }

pub none-bounded : Bounded (record { kept = 0; dropped = 0; components = 0; place = 8; total = 0 })
none-bounded = record { kept = omega arith; dropped = omega arith; components = omega arith; place = omega arith; total = omega arith }
