-- A description has no changes against itself.
use Prim.Native.Nat.{ℕ}
use mathlib.Core.List.{List, [], map}
use mathlib.Core.Bool.{true}
use mathlib.Core.Option.{some}
use mathlib.Core.Logic.{◌⊎◌, inl, inr}
use mathlib.Core.Path.{◌≡◌, refl, sym, subst}
use native.Mathlib.Omega.{arith}
use lib.ListN.{get_elem?}
use Rattle.meaning.specs.Text.{distinct}
use Rattle.meaning.specs.Described.{DescribedComponent, DescribedObject, Described}
use Rattle.changes.specs.Changes.{Entry, changes, change_numbers}
use Rattle.changes.specs.Differs.{Flag, Both, part_name, object_name, Lone, Shared, OtherDtype, OtherType, OtherBytes, PartWhat, ObjectWhat, Change, only_first, only_second, object, part, part_first, part_second, Named}
use Rattle.changes.proofs.Lists.{nothing-in, unique}
use Rattle.changes.proofs.Exactly.{nothing-else}

flag_off : {n : ℕ} {P : Type 0} {x : ℕ} → (P → ⊥) → Flag n P x → x ≡ 0
flag_off h (inl (p, e)) = absurd (h p)
flag_off h (inr (p, e)) = e

not-lone : (cs : List DescribedComponent) → Lone cs cs → ⊥
not-lone cs l = l.lacks l.index l.it l.here refl

neither-lone : (cs : List DescribedComponent) → Lone cs cs ⊎ Lone cs cs → ⊥
neither-lone cs (inl l) = not-lone cs l
neither-lone cs (inr l) = not-lone cs l

not-shared : (R : DescribedComponent → DescribedComponent → Type 0) → ((c : DescribedComponent) → R c c → ⊥) → (cs : List DescribedComponent) → distinct (map part_name cs) ≡ true → Shared R cs cs → ⊥
not-shared R h cs u s =
    h s.one (subst (R s.one) (sym (unique part_name cs u s.first s.second s.one s.other s.both.here s.both.there s.both.alike).1) s.differ)

part-itself : (c : DescribedComponent) (w : ℕ) → PartWhat c c w → w ≡ 0
part-itself c w s =
    omega (arith, s.sum, flag_off (λ h. h refl) s.of_dtype, flag_off (λ h. h refl) s.of_type, flag_off (λ h. h refl) s.of_bytes)

object-itself : (o : DescribedObject) → distinct (map part_name o.components) ≡ true → (w : ℕ) → ObjectWhat o o w → w ≡ 0
object-itself o u w s =
    omega (
      arith,
      s.sum,
      flag_off (λ h. h refl) s.of_shape,
      flag_off (λ h. h refl) s.of_format,
      flag_off (neither-lone o.components) s.of_names,
      flag_off (not-shared OtherDtype (λ c h. h refl) o.components u) s.of_dtypes,
      flag_off (not-shared OtherType (λ c h. h refl) o.components u) s.of_types,
      flag_off (not-shared OtherBytes (λ c h. h refl) o.components u) s.of_bytes,
    )

module _ (a : Described) (named : Named a) where
  one : {i j : ℕ} {o p : DescribedObject} → Both object_name a.objects a.objects i j o p → o ≡ p
  one {i} {j} {o} {p} h = (unique object_name a.objects named.objects i j o p h.here h.there h.alike).1

  no_change : (e : Entry) → Change a a e → ⊥
  no_change e (only_first i o h g) = g i o h refl
  no_change e (only_second j p h g) = g j p h refl
  no_change e (object i j o p h w s z) = z (object-itself o (named.parts i o h.here) w (subst (λ u. ObjectWhat o u w) (sym (one h)) s))
  no_change e (part i j o p h k l c d g w x n s z y) =
      let there : get_elem? o.components l ≡ some d = subst (λ (u : DescribedObject). get_elem? u.components l ≡ some d) (sym (one h)) g.there
      in let q = (unique part_name o.components (named.parts i o h.here) k l c d g.here there g.alike).1
      in z (part-itself c w (subst (λ u. PartWhat c u w) (sym q) s))
  no_change e (part_first i j o p h k c g m) = m k c (subst (λ (u : DescribedObject). get_elem? u.components k ≡ some c) (one h) g) refl
  no_change e (part_second i j o p h l d g m) = m l d (subst (λ (u : DescribedObject). get_elem? u.components l ≡ some d) (sym (one h)) g) refl

  pub unchanged : changes a a ≡ []
  unchanged = nothing-in (changes a a) (λ e m. no_change e (nothing-else a a named e m))

  pub no-numbers : change_numbers a a ≡ []
  unfolding change_numbers
  no-numbers = rw unchanged
