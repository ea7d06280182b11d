-- Why a file was refused: the number and the indices are the reader's, the check named breaks, and every earlier one is right.
use Prim.Native.Nat.{ℕ}
use mathlib.Core.List.{List, [], ◌∷◌, ◌++◌}
use mathlib.Core.Bool.{Bool, true, false, cond, ◌&&◌}
use mathlib.Core.Option.{Option, none, some}
use mathlib.Core.Path.{◌≡◌, refl, ap, ◌∙◌}
use native.Mathlib.Omega.{arith}
use Rattle.meaning.specs.Check.{Check, pass, refuse}
use Rattle.meaning.specs.Tree.{Node}
use Rattle.meaning.specs.Text.{all, filter}
use Rattle.meaning.specs.Read.{Span}
use Rattle.meaning.specs.Layouts.{Layout}
use Rattle.meaning.specs.Judge.{judge}
use Rattle.meaning.specs.Frame.{Reading}
use Rattle.meaning.specs.Rows.{answer, read_into}
use Rattle.explained.specs.Step.{Step, first, refusal}
use Rattle.explained.specs.Order.{manifest_steps}
use Rattle.explained.specs.Explain.{room_steps, explanation, explain}
use Rattle.explained.specs.Promise.{Why}
use Rattle.explained.proofs.Agree.{Agree, verdict}
use Rattle.explained.proofs.Whole.{agree-manifest, agree-read_into}

unfoldable pub or_else : {A : Type 0} → Option A → Option A → Option A
or_else none r = r
or_else (some a) r = some a

module _ {P : Type 0} where
  -- the first that is not right stands in the list, and all before it are right
  pub first-why : (ss : List (Step P)) (s : Step P) → first ss ≡ some s → Why ss s
  first-why [] s e = absurd (let z : ◌≡◌ {A = ℕ} 0 1 = cc in omega arith)
  first-why (x ∷ ss) s e = go x.right refl e (first-why ss s)
    where
      go : (b : Bool) → x.right ≡ b → cond b (first ss) (some x) ≡ some s → (first ss ≡ some s → Why ss s) → Why (x ∷ ss) s
      go true r e f = let w = f e in record {
        before = x ∷ w.before;
        after = w.after;
        split = ap {B = List (Step P)} (λ l. x ∷ l) w.split;
        earlier = rw (r, w.earlier);
        breaks = w.breaks;
      }
      go false r e f = let h : x ≡ s = cc in record { before = []; after = ss; split = ap {B = List (Step P)} (λ y. y ∷ ss) h; earlier = refl; breaks = rw h at r }

  pub first-none : (ss : List (Step P)) → first ss ≡ none → all (λ s. s.right) ss ≡ true
  first-none [] e = refl
  first-none (x ∷ ss) e = go x.right e (first-none ss)
    where
      go : (b : Bool) → cond b (first ss) (some x) ≡ none → (first ss ≡ none → all (λ s. s.right) ss ≡ true) → (b && all (λ s. s.right) ss) ≡ true
      go true e f = f e
      go false e f = cc

  -- a refusal is one of the checks
  pub record Refused (ss : List (Step P)) (n o c : ℕ) : Type 0 where
    pub this : Step P
    pub shown : first ss ≡ some this
    pub why : Why ss this
    pub number : this.number ≡ n
    pub object : this.object ≡ o
    pub component : this.component ≡ c

  pub refused : {A : Type 0} (ss : List (Step P)) (m : Check A) → Agree ss m → (n o c : ℕ) → m ≡ refuse n o c → Refused ss n o c
  refused ss m a n o c e = go (first ss) refl (a.same ∙ ap verdict e)
    where
      go : (f : Option (Step P)) → first ss ≡ f → refusal f ≡ refuse n o c → Refused ss n o c
      go none h r = absurd (let z : ◌≡◌ {A = ℕ} 0 1 = cc in omega arith)
      go (some s) h r = record { this = s; shown = h; why = first-why ss s h; number = cc; object = cc; component = cc }

  -- no check of what passes is wrong
  pub first_passes : {A : Type 0} (ss : List (Step P)) (m : Check A) → Agree ss m → (a : A) → m ≡ pass a → first ss ≡ none
  first_passes ss m g a e = go (first ss) refl (g.same ∙ ap verdict e)
    where
      go : (f : Option (Step P)) → first ss ≡ f → refusal f ≡ pass tt → first ss ≡ none
      go none h r = h
      go (some s) h r = absurd (let z : ◌≡◌ {A = ℕ} 0 1 = cc in omega arith)

  -- one list after another
  pub first-++ : (s r : List (Step P)) → first (s ++ r) ≡ or_else (first s) (first r)
  unfolding or_else
  first-++ [] r = refl
  first-++ (x ∷ s) r = go x.right (first-++ s r)
    where
      go : (b : Bool) → first (s ++ r) ≡ or_else (first s) (first r) → cond b (first (s ++ r)) (some x) ≡ or_else (cond b (first s) (some x)) (first r)
      go true e = e
      go false e = refl

  -- who knows something of the check that breaks, as its number and indices, may look at such checks only
  pub first-among : (p : Step P → Bool) (ss : List (Step P)) (s : Step P) → first ss ≡ some s → p s ≡ true → first (filter p ss) ≡ some s
  first-among p [] s e h = e
  first-among p (x ∷ ss) s e h = go x.right refl (p x) refl e (λ f. first-among p ss s f h)
    where
      go : (b : Bool) → x.right ≡ b → (c : Bool) → p x ≡ c → cond b (first ss) (some x) ≡ some s → (first ss ≡ some s → first (filter p ss) ≡ some s)
          → first (cond c (x ∷ filter p ss) (filter p ss)) ≡ some s
      go true r true q e f = rw r (f e)
      go true r false q e f = f e
      go false r true q e f = ap (λ b. cond b (first (filter p ss)) (some x)) r ∙ e
      go false r false q e f = let y : x ≡ s = cc in let z : p s ≡ false = rw y at q in absurd (let w : ◌≡◌ {A = ℕ} 0 1 = cc in omega arith)

-- a manifest
pub manifest-refused : (L : Layout) {P : Type 0} (start : ℕ) (t : Node P) (n o c : ℕ) → judge L start t ≡ refuse n o c → Refused (manifest_steps L start t) n o c
manifest-refused L start t = refused (manifest_steps L start t) (judge L start t) (agree-manifest L start t)

-- a file
pub file-refused : (L : Layout) (file : List ℕ) (room n o c : ℕ) → read_into L file room ≡ refuse n o c → Refused (room_steps L room file) n o c
file-refused L file room = refused (room_steps L room file) (read_into L file room) (agree-read_into L room file)

-- the explanation's number and indices are the reader's
explanation-numbers : (f : Option (Step Span)) (room : ℕ) (m : Check Reading) → refusal f ≡ verdict m
    → ((explanation f room).number ≡ (answer m).number) × ((explanation f room).object ≡ (answer m).object) × ((explanation f room).component ≡ (answer m).component)
unfolding explanation answer
explanation-numbers none room (pass r) e = (refl, refl, refl)
explanation-numbers none room (refuse n o c) e = (cc, cc, cc)
explanation-numbers (some s) room (pass r) e = (cc, cc, cc)
explanation-numbers (some s) room (refuse n o c) e = (cc, cc, cc)

pub explain-numbers : (L : Layout) (file : List ℕ) (room : ℕ)
    → ((explain L file room).number ≡ (answer (read_into L file room)).number) × ((explain L file room).object ≡ (answer (read_into L file room)).object)
    × ((explain L file room).component ≡ (answer (read_into L file room)).component)
unfolding explain
explain-numbers L file room = explanation-numbers (first (room_steps L room file)) _ (read_into L file room) (agree-read_into L room file).same
