-- The attributes at a place, a branch each: absent, or what `walk::map` answered at the part from `at` on.
use mathlib.Core.Path.{◌≡◌, refl, sym, subst}
use mathlib.Core.List.{List}
use mathlib.Core.Bool.{Bool, true, false}
use mathlib.Core.Option.{none, some}
use Prim.Native.Nat.{ℕ, ◌-◌}
use native.Mathlib.Omega.{arith}
use lib.ListN.{length}
use Rattle.meaning.specs.Check.{pass, fault}
use Rattle.meaning.specs.Kind.{a_mapping, as_mapping}
use Rattle.meaning.specs.Refusal.{KIND}
use Rattle.meaning.specs.Judge.{attributes_of}
use Rattle.walk.specs.Places.{Whatever, MapIs}
use Rattle.walk.specs.declared.Opening.{Opening}
use Rattle.fields.specs.Attributes.{AttributesAt}
use Rattle.fields.proofs.Texts.{Here}
use Rattle.fields.proofs.Places.{there}
use Rattle.std.specs.Prelude.{Some, None, Option, is_some}

module _ (s : List ℕ) (left : ℕ) where
  pub absent : left ≡ 0 → AttributesAt s left true
  absent z d none h = refl
  absent z d (some t) h = let x = h.0 in absurd (omega arith)

  module _ (at : ℕ) (is : at ≡ length s - left) (here : left ≡ 0 → ⊥) (x : Option Opening) (asked : MapIs (Here s at) x) where
    a-map : (op : Opening) → x ≡ Some op → Whatever (Here s at) λ d t q. attributes_of t ≡ pass t
    unfolding attributes_of a_mapping as_mapping
    a-map op e d t q r = let m : MapIs (Here s at) (Some op) = rw e at asked in rw (m.trees d t q r).kind-is refl

    no-map : x ≡ None → Whatever (Here s at) λ d t q. attributes_of t ≡ fault KIND
    unfolding attributes_of
    no-map e d t q r = let m : MapIs (Here s at) None = rw e at asked in rw (m d t q r) refl

    pub a-map-there : (op : Opening) → x ≡ Some op → AttributesAt s left true
    a-map-there op e d none h = absurd (here h)
    a-map-there op e d (some t) h = rw (there s left at is (λ t. attributes_of t ≡ pass t) (a-map op e) d t h.1) refl

    pub no-map-there : x ≡ None → AttributesAt s left false
    no-map-there e d none h = absurd (here h)
    no-map-there e d (some t) h = rw (there s left at is (λ t. attributes_of t ≡ fault KIND) (no-map e) d t h.1) refl

    pub told : (b : Bool) → b ≡ is_some x → AttributesAt s left b
    told b e = subst (AttributesAt s left) (sym e) (go x refl)
      where
        go : (y : Option Opening) → x ≡ y → AttributesAt s left (is_some y)
        go None z = no-map-there z
        go (Some o) z = a-map-there o z
