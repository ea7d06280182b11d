-- Checks of one value: all look at the value's place, so the spot follows from the value's check.
use Prim.Native.Nat.{ℕ}
use mathlib.Core.List.{List, ◌++◌}
use mathlib.Core.Bool.{Bool}
use mathlib.Core.Option.{Option, none, some}
use mathlib.Core.Path.{◌≡◌, refl, ap, sym, ◌∙◌}
use native.Mathlib.Omega.{arith}
use lib.ListN.{length}
use Rattle.meaning.specs.Tree.{Node, note_of}
use Rattle.meaning.specs.Check.{Check, pass, refuse, optional}
use Rattle.meaning.specs.Kind as kinds
use Rattle.meaning.specs.Kind.{Kind, kind, a_word, a_text, present, present_kind}
use Rattle.meaning.specs.Layouts.{Layout}
use Rattle.walk.specs.Reading.{Ends}
use Rattle.fields.specs.Slots.{Holds}
use Rattle.explained.specs.Step as steps
use Rattle.explained.specs.Step.{Step, first, ◌at◌unless◌, given}
use Rattle.explained.specs.Order.{number_steps, word_steps, mapping_steps, text_steps, dtype_steps, type_steps, raw_steps, version_steps}
use Rattle.explained.proofs.Agree.{Agree, agree-optional}
use Rattle.explained.proofs.Jump.{OnePlace, nothing, also, broken, one_place, first-here, first_past}
use Rattle.spot.specs.Shown.{spot, shown}
use Rattle.badfields.specs.Fields.{spot_of}

-- ---------------------------------------------------------------- all at one place

module _ {P : Type 0} {w : P} where
  one_at : (n : ℕ) (b : Bool) → OnePlace w (n at w unless b)
  one_at n b = also n b nothing

  one-++ : {s r : List (Step P)} → OnePlace w s → OnePlace w r → OnePlace w (s ++ r)
  one-++ nothing k = k
  one-++ (also n b h) k = also n b (one-++ h k)

  one-given : {A : Type 0} (v : Option A) (f : A → List (Step P)) → ((a : A) → OnePlace w (f a)) → OnePlace w (steps.◌>>=◌ v f)
  one-given none f h = nothing
  one-given (some a) f h = h a

module _ {P : Type 0} (t : Node P) where
  pub one_number : OnePlace (note_of t) (number_steps t)
  unfolding number_steps
  one_number = one_at _ _

  pub one_word : OnePlace (note_of t) (word_steps t)
  unfolding word_steps
  one_word = one_at _ _

  pub one_table : OnePlace (note_of t) (mapping_steps t)
  unfolding mapping_steps
  one_table = one_at _ _

  pub one-text : OnePlace (note_of t) (text_steps t)
  unfolding text_steps
  one-text = one-++ one_word (one-given (given (a_word t)) _ λ w. one_at _ _)

  pub one-dtype : (L : Layout) → OnePlace (note_of t) (dtype_steps L t)
  unfolding dtype_steps
  one-dtype L = one-++ one_word (one-given (given (a_word t)) _ λ w. one_at _ _)

  pub one_type : (d : ℕ) → OnePlace (note_of t) (type_steps d t)
  unfolding type_steps
  one_type d = one-++ one-text (one-given (given (a_text t)) _ λ w. one_at _ _)

  pub one-raw : OnePlace (note_of t) (raw_steps t)
  unfolding raw_steps
  one-raw = one-++ one_word (one-given (given (a_word t)) _ λ w. one_at _ _)

  pub one-version : OnePlace (note_of t) (version_steps t)
  unfolding version_steps
  one-version = one-++ one_word (one-given (given (a_word t)) _ λ w. one-++ (one_at _ _) (one_at _ _))

-- ---------------------------------------------------------------- the spot of a value that may be absent

-- so many bytes are left at it
abbrev pub LeftOf : ℕ → Option (Node Ends) → Type 0
LeftOf left none = Unit {0}
LeftOf left (some t) = left ≡ length (note_of t).start

pub held-left : (d : ℕ) (s : List ℕ) (left : ℕ) (o : Option (Node Ends)) → Holds d s left o → LeftOf left o
held-left d s left none h = tt
held-left d s left (some t) h = h.1.left_is

pub present-left : (left : ℕ) (o : Option (Node Ends)) → LeftOf left o → LeftOf left (present o)
unfolding present present_kind
present-left left none h = tt
present-left left (some t) h = go (kind t)
  where
    go : (k : Kind Ends) → LeftOf left (present_kind t k)
    go (kinds.number n) = h
    go (kinds.words w) = h
    go (kinds.list l) = h
    go (kinds.mapping l) = h
    go kinds.null = tt
    go kinds.another = h

module _ {A : Type 0} {f : Node Ends → List (Step Ends)} {k : Node Ends → Check A} (one : (t : Node Ends) → OnePlace (note_of t) (f t)) (agree : (t : Node Ends) → Agree (f t) (k t)) where
  -- its spot, from its check
  pub value-shown : (left : ℕ) (t : Node Ends) → left ≡ length (note_of t).start → shown (first (f t)) ≡ spot_of left (k t)
  unfolding shown
  value-shown left t l = ap shown (one_place (one t) (agree t)) ∙ go (k t)
    where
      go : (m : Check A) → shown (broken (note_of t) m) ≡ spot_of left m
      go (pass a) = refl
      go (refuse n o c) = rw l refl

  module _ (r : List (Step Ends)) where
    pub value-stops : (left : ℕ) (t : Node Ends) → left ≡ length (note_of t).start → (n o c : ℕ) → k t ≡ refuse n o c → spot n left ≡ shown (first (f t ++ r))
    value-stops left t l n o c e = sym (ap shown (first-here (f t) r (k t) (agree t) n o c e) ∙ value-shown left t l ∙ ap (spot_of left) e)

    pub value_passes : (t : Node Ends) (x : A) → k t ≡ pass x → first (f t ++ r) ≡ first r
    value_passes t x e = first_past (f t) r (k t) (agree t) x e

    pub option-stops : (left : ℕ) (v : Option (Node Ends)) → LeftOf left v → (n o c : ℕ) → optional k v ≡ refuse n o c → spot n left ≡ shown (first (steps.◌>>=◌ v f ++ r))
    option-stops left none l n o c e = absurd (let z : ◌≡◌ {A = ℕ} 0 1 = cc in omega arith)
    option-stops left (some t) l n o c e = go (k t) refl e
      where
        go : (m : Check A) → k t ≡ m → optional (λ (u : Node Ends). m) (some t) ≡ refuse n o c → spot n left ≡ shown (first (f t ++ r))
        go (pass x) h e = absurd (let z : ◌≡◌ {A = ℕ} 0 1 = cc in omega arith)
        go (refuse m i j) h e = value-stops left t l n o c (h ∙ (let z : ◌≡◌ {A = Check A} (refuse m i j) (refuse n o c) = cc in z))

    pub option-passes : (v : Option (Node Ends)) (x : Option A) → optional k v ≡ pass x → first (steps.◌>>=◌ v f ++ r) ≡ first r
    option-passes v x e = first_past (steps.◌>>=◌ v f) r (optional k v) (agree-optional agree v) x e
