-- Every 4, 5 and 6 has its 3.
use Prim.Native.Nat.{ℕ, ◌≤◌}
use mathlib.Core.Logic.{◌⊎◌, inl, inr}
use mathlib.Core.Path.{◌≡◌}
use native.Mathlib.Omega.{arith}
use Rattle.meaning.specs.Described.{DescribedComponent, DescribedObject, Described}
use Rattle.changes.specs.Changes.{Entry, entry, object_what, changes}
use Rattle.changes.specs.Differs.{In, Flag, Both, part_name, object_name, Lone, Shared, OtherDtype, OtherType, OtherBytes, PartWhat, ObjectWhat, Change, only_first, only_second, object, part, part_first, part_second, Named}
use Rattle.changes.proofs.Whats.{object-what}
use Rattle.changes.proofs.Exactly.{nothing-else, complete}

flag-on : {n : ℕ} {P : Type 0} {x : ℕ} → P → Flag n P x → x ≡ n
flag-on p (inl (q, e)) = e
flag-on p (inr (q, e)) = absurd (q p)

-- a component that differs counts for its object
counts : (o p : DescribedObject) (k l : ℕ) (c d : DescribedComponent) → Both part_name o.components p.components k l c d
    → (w v : ℕ) → PartWhat c d w → (w ≡ 0 → ⊥) → ObjectWhat o p v → v ≡ 0 → ⊥
counts o p k l c d g w v s z t e = go s.of_dtype s.of_type s.of_bytes
  where
    share : (R : DescribedComponent → DescribedComponent → Type 0) → R c d → Shared R o.components p.components
    share R h = record { first = k; second = l; one = c; other = d; both = g; differ = h }

    go : Flag 8 (OtherDtype c d) s.dtype → Flag 16 (OtherType c d) s.type → Flag 32 (OtherBytes c d) s.bytes → ⊥
    go (inl (h, q)) f₂ f₃ = let u = flag-on (share OtherDtype h) t.of_dtypes in omega (arith, t.sum, u, e)
    go (inr h) (inl (i, q)) f₃ = let u = flag-on (share OtherType i) t.of_types in omega (arith, t.sum, u, e)
    go (inr h) (inr i) (inl (j, q)) = let u = flag-on (share OtherBytes j) t.of_bytes in omega (arith, t.sum, u, e)
    go (inr h) (inr i) (inr j) = z (omega (arith, s.sum, h.1, i.1, j.1))

lone-counts : (o p : DescribedObject) (v : ℕ) → Lone o.components p.components ⊎ Lone p.components o.components → ObjectWhat o p v → v ≡ 0 → ⊥
lone-counts o p v l t e = let u = flag-on l t.of_names in omega (arith, t.sum, u, e)

module _ (a b : Described) (named : Named b) where
  three : (i j : ℕ) (o p : DescribedObject) → Both object_name a.objects b.objects i j o p → ((v : ℕ) → ObjectWhat o p v → v ≡ 0 → ⊥)
      → (w : ℕ) × In (entry 3 i j 0 0 w 0 0) (changes a b)
  three i j o p h z = let s = object-what o p (named.parts j p h.there) in (object_what o p, complete a b named _ (object i j o p h (object_what o p) s (z (object_what o p) s)))

  has-three : (e : Entry) → Change a b e → 4 ≤ e.kind → (w : ℕ) × In (entry 3 e.first e.second 0 0 w 0 0) (changes a b)
  has-three e (only_first i o h g) l = absurd (omega arith)
  has-three e (only_second j p h g) l = absurd (omega arith)
  has-three e (object i j o p h w s z) l = absurd (omega arith)
  has-three e (part i j o p h k l c d g w x n s z y) q = three i j o p h (λ v t. counts o p k l c d g w v s z t)
  has-three e (part_first i j o p h k c g m) q = three i j o p h (λ v t. lone-counts o p v (inl (record { index = k; it = c; here = g; lacks = m })) t)
  has-three e (part_second i j o p h l d g m) q = three i j o p h (λ v t. lone-counts o p v (inr (record { index = l; it = d; here = g; lacks = m })) t)

  pub headed : (e : Entry) → In e (changes a b) → 4 ≤ e.kind → (w : ℕ) × In (entry 3 e.first e.second 0 0 w 0 0) (changes a b)
  headed e m = has-three e (nothing-else a b named e m)
