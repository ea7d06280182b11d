-- Of two accepted files only the number of objects and a shared name can make the reader refuse the merged file: nothing else is judged again.
use Prim.Native.Nat.{ℕ}
use native.Mathlib.Omega.{arith}
use mathlib.Core.List.{List, [], ◌∷◌, ◌++◌, map}
use mathlib.Core.Bool.{Bool, true, false, cond, ◌&&◌}
use mathlib.Core.Option.{Option, none, some}
use mathlib.Core.Path.{◌≡◌, subst}
use lib.ListN.{length}
use lib.Dec.{leb}
use Rattle.meaning.specs.Check.{pass, ◌>>◌, ◌unless◌}
use Rattle.meaning.specs.Text.{all, distinct, utf8}
use Rattle.meaning.specs.Refusal.{TWICE, COUNT}
use Rattle.meaning.specs.Limit.{object_limit}
use Rattle.meaning.specs.Layouts.{Layout}
use Rattle.meaning.specs.Sound.{root_levels, object_levels}
use Rattle.meaning.specs.Described.{DescribedObject, Described}
use Rattle.meaning.proofs.Tests.{false-not}
use Rattle.readback.specs.Judged.{judged_object, deep_option, any_too_deep, judged}
use Rattle.roundtrip.proofs.AcceptedPassed.{Passed, passed-judged, accepted-passed}
use Rattle.merging.specs.Merge.{or_else, merged}
use Rattle.merging.specs.AcceptedMerge.{Says}
use Rattle.merging.proofs.SaysFine.{every_append}

-- ---- two in one

any_append : (a b : List DescribedObject) → any_too_deep a ≡ false → any_too_deep b ≡ false → any_too_deep (a ++ b) ≡ false
unfolding any_too_deep
any_append [] b h k = k
any_append (o ∷ a) b h k = go (deep_option object_levels o.attributes) (λ g. any_append a b g k) h
  where
    true-not : true ≡ false → ⊥
    true-not e = let z : ◌≡◌ {A = ℕ} 0 1 = cc in omega arith

    go : (t : Bool) → (any_too_deep a ≡ false → any_too_deep (a ++ b) ≡ false) → cond t true (any_too_deep a) ≡ false → cond t true (any_too_deep (a ++ b)) ≡ false
    go true f h = absurd (true-not h)
    go false f h = f h

texts-append : (a b : List DescribedObject) → all utf8 (map (λ o. o.name) a) ≡ true → all utf8 (map (λ o. o.name) b) ≡ true → all utf8 (map (λ o. o.name) (a ++ b)) ≡ true
texts-append [] b h k = k
texts-append (o ∷ a) b h k = go (utf8 o.name) (λ g. texts-append a b g k) h
  where
    go : (t : Bool) → (all utf8 (map (λ o. o.name) a) ≡ true → all utf8 (map (λ o. o.name) (a ++ b)) ≡ true) → t && all utf8 (map (λ o. o.name) a) ≡ true → t && all utf8 (map (λ o. o.name) (a ++ b)) ≡ true
    go true f h = f h
    go false f h = absurd (false-not h)

or-else-shallow : (a b : Option (List ℕ)) → deep_option root_levels a ≡ false → deep_option root_levels b ≡ false → deep_option root_levels (or_else a b) ≡ false
unfolding or_else
or-else-shallow none b h k = k
or-else-shallow (some x) b h k = h

pub merged-passed : (a b : Described) → Passed a → Passed b → Passed (merged a b)
unfolding merged
merged-passed a b h k = record {
  shallow = or-else-shallow a.attributes b.attributes h.shallow k.shallow;
  shallows = any_append a.objects b.objects h.shallows k.shallows;
  texts = texts-append a.objects b.objects h.texts k.texts;
  objects = every_append (λ o. judged_object o ≡ pass tt) a.objects b.objects h.objects k.objects;
}

says-passed : {L : Layout} {file : List ℕ} {d : Described} → Says L file d → Passed d
says-passed {L} {file} s = subst Passed s.back (accepted-passed L s.framing file s.read s.is)

-- the reader's refusal of a merged file
pub merged-judged : {L M : Layout} {first second : List ℕ} {a b : Described} → Says L first a → Says M second b
    → judged (merged a b) ≡ ((COUNT unless leb (length (map (λ o. o.name) (merged a b).objects)) object_limit) >> (TWICE unless distinct (map (λ o. o.name) (merged a b).objects)))
merged-judged {a} {b} h k = passed-judged (merged a b) (merged-passed a b (says-passed h) (says-passed k))
