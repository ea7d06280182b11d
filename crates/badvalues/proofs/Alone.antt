-- Checks of no component: the first that breaks, from its spot or from a value's check.
use Prim.Native.Nat.{ℕ, ◌<◌}
use mathlib.Core.List.{List, ◌++◌}
use mathlib.Core.Bool.{false}
use mathlib.Core.Option.{Option, none, some}
use mathlib.Core.Path.{◌≡◌, refl, ap, sym, ◌∙◌}
use native.Mathlib.Omega.{arith}
use lib.ListN.{length}
use Rattle.meaning.specs.Tree.{Node, note_of}
use Rattle.meaning.specs.Check.{Check, pass, refuse, optional, each}
use Rattle.meaning.specs.Kind.{a_list, a_number}
use Rattle.meaning.specs.Model.{Word}
use Rattle.walk.specs.Reading.{Ends}
use Rattle.explained.specs.Step as steps
use Rattle.explained.specs.Step.{Step, first, refusal, given}
use Rattle.explained.specs.Order.{shape_steps}
use Rattle.explained.proofs.Agree.{Agree, verdict}
use Rattle.explained.proofs.Jump.{OnePlace, broken, one_place, first-here}
use Rattle.spot.specs.Shown.{shown}
use Rattle.spot.specs.Shown.{Spot}
use Rattle.badfields.proofs.Firsts.{Each, no_more, and_so, each_first, each-++, each-found, each-every, broken-first}
use Rattle.badfields.proofs.Values.{LeftOf}
use Rattle.badvalues.specs.Steps.{Alone}

-- a check has a number, and is of no component
abbrev pub Plain : {P : Type 0} → Step P → Type 0
Plain s = (0 < s.number) × (s.component_name ≡ none)

pub numbered : {P : Type 0} {ss : List (Step P)} → Each Plain ss → Each (λ (s : Step P). 0 < s.number) ss
numbered no_more = no_more
numbered (and_so q h) = and_so q.0 (numbered h)

module _ (s : List (Step Ends)) (plain : Each Plain s) (z : Spot) (is : z ≡ shown (first s)) where
  -- a spot that is shown of such checks
  pub spot-alone : (z.number ≡ 0 → ⊥) → (r : List (Step Ends)) → Alone z.number z.left (first (s ++ r))
  unfolding shown
  spot-alone n r = go (first s) refl
    where
      go : (f : Option (Step Ends)) → first s ≡ f → Alone z.number z.left (first (s ++ r))
      go none e = absurd (n (ap (λ (y : Spot). y.number) (is ∙ ap shown e)))
      go (some x) e = let i : z ≡ shown (some x) = is ∙ ap shown e in record {
        this = x;
        is = broken-first s r x e;
        number = sym (ap (λ (y : Spot). y.number) i);
        place = sym (ap (λ (y : Spot). y.left) i);
        owner = (each_first plain x e).1;
      }

-- none breaks: the check that they agree with passes
pub passes-so : {P A : Type 0} (ss : List (Step P)) (m : Check A) → Agree ss m → first ss ≡ none → (a : A) × (m ≡ pass a)
passes-so {P} {A} ss m a e = go m (ap refusal (sym e) ∙ a.same)
  where
    go : (m : Check A) → pass tt ≡ verdict m → (a : A) × (m ≡ pass a)
    go (pass x) h = (x, refl)
    go (refuse n o c) h = absurd (let z : ◌≡◌ {A = ℕ} 0 1 = cc in omega arith)

module _ {A : Type 0} {f : Node Ends → List (Step Ends)} {k : Node Ends → Check A} (one : (t : Node Ends) → OnePlace (note_of t) (f t)) (agree : (t : Node Ends) → Agree (f t) (k t)) (r : List (Step Ends)) where
  pub value-alone : (left : ℕ) (t : Node Ends) → left ≡ length (note_of t).start → (n o c : ℕ) → k t ≡ refuse n o c → Alone n left (first (f t ++ r))
  value-alone left t l n o c e = record {
    this = record { number = n; object = 0; component = 0; object_name = none; component_name = none; place = note_of t; right = false };
    is = first-here (f t) r (k t) (agree t) n o c e ∙ one_place (one t) (agree t) ∙ ap (broken (note_of t)) e;
    number = refl;
    place = sym l;
    owner = refl;
  }

  pub option-alone : (left : ℕ) (v : Option (Node Ends)) → LeftOf left v → (n o c : ℕ) → optional k v ≡ refuse n o c → Alone n left (first (steps.◌>>=◌ v f ++ r))
  option-alone left none l n o c e = absurd (let z : ◌≡◌ {A = ℕ} 0 1 = cc in omega arith)
  option-alone left (some t) l n o c e = go (k t) refl e
    where
      go : (m : Check A) → k t ≡ m → optional (λ (u : Node Ends). m) (some t) ≡ refuse n o c → Alone n left (first (f t ++ r))
      go (pass x) h e = absurd (let z : ◌≡◌ {A = ℕ} 0 1 = cc in omega arith)
      go (refuse m i j) h e = value-alone left t l n o c (h ∙ (let z : ◌≡◌ {A = Check A} (refuse m i j) (refuse n o c) = cc in z))

-- ---------------------------------------------------------------- a shape

pub shape-plain : (t : Node Ends) → Each Plain (shape_steps t)
unfolding shape_steps
shape-plain t =
    each-++ (and_so (plain 8 (omega arith)) no_more)
    (each-found (given (a_list t)) _ λ dims.
    each-++ (each-every 8 note_of _ (λ d. and_so (plain 8 (omega arith)) no_more) dims)
    (each-found (given (each (λ i. a_number) 0 dims)) _ λ s. and_so (plain 15 (omega arith)) no_more))
  where
    plain : (n : ℕ) → 0 < n → (0 < n) × (◌≡◌ {A = Option (Word Ends)} none none)
    plain n h = (h, refl)
