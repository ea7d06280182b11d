-- When the checks of a list and a run of checks agree: the first that is not right is the refusal.
use Prim.Native.Nat.{ℕ, suc}
use mathlib.Core.List.{List, [], ◌∷◌, ◌++◌, map}
use mathlib.Core.Bool.{Bool, true, false, cond, ◌&&◌}
use mathlib.Core.Option.{Option, none, some}
use mathlib.Core.Path.{◌≡◌, refl, ap, ◌∙◌}
use Rattle.meaning.specs.Check.{Check, pass, refuse, ◌>>=◌, ◌>>◌, ◌unless◌, in_object, in_component, required, optional, each}
use Rattle.meaning.specs.Text.{all}
use Rattle.meaning.specs.Model.{Word}
use Rattle.meaning.specs.Field.{is_some}
use Rattle.meaning.specs.Refusal.{MISSING}
use Rattle.explained.specs.Step
use Rattle.explained.specs.Step.{Step, ◌at◌unless◌, told, given, every, each_of}

abbrev pub verdict : {A : Type 0} → Check A → Check (Unit {0})
verdict (pass a) = pass tt
verdict (refuse n o c) = refuse n o c

pub record Agree {P A : Type 0} (s : List (Step P)) (m : Check A) : Type 0 where
  pub same : told s ≡ verdict m

module _ {P : Type 0} where
  told-++ : (s r : List (Step P)) → told (s ++ r) ≡ (told s >> told r)
  told-++ [] r = refl
  told-++ (x ∷ s) r = go x.right (told-++ s r)
    where
      go : (b : Bool) → told (s ++ r) ≡ (told s >> told r)
          → Step.refusal (cond b (Step.first (s ++ r)) (some x)) ≡ (Step.refusal (cond b (Step.first s) (some x)) >> told r)
      go true e = e
      go false e = refl

  pub agree_at : (n : ℕ) (w : P) (b : Bool) → Agree (n at w unless b) (n unless b)
  agree_at n w true = record { same = refl }
  agree_at n w false = record { same = refl }

  pub agree-nothing : {A : Type 0} (a : A) → Agree {P = P} [] (pass a)
  agree-nothing a = record { same = refl }

module _ {P A B : Type 0} where
  -- one after the other: what follows may rest on what the first passes
  pub agree-bind : {s r : List (Step P)} {m : Check A} {k : A → Check B} → Agree s m → ((a : A) → m ≡ pass a → Agree r (k a)) → Agree (s ++ r) (m >>= k)
  agree-bind {s} {r} {m} {k} e f = record { same = told-++ s r ∙ ap (λ x. x >> told r) e.same ∙ go m f }
    where
      go : (m : Check A) → ((a : A) → m ≡ pass a → Agree r (k a)) → (verdict m >> told r) ≡ verdict (m >>= k)
      go (pass a) f = (f a refl).same
      go (refuse n o c) f = refl

  pub agree_then : {s r : List (Step P)} {m : Check A} {k : Check B} → Agree s m → Agree r k → Agree (s ++ r) (m >> k)
  agree_then {s} {r} {m} {k} e f = record { same = told-++ s r ∙ ap (λ x. x >> told r) e.same ∙ go m }
    where
      go : (m : Check A) → (verdict m >> told r) ≡ verdict (m >> k)
      go (pass a) = f.same
      go (refuse n o c) = refl

  -- what is asked of a check's result
  pub agree-given : {s : List (Step P)} {r : A → List (Step P)} {m : Check A} {k : A → Check B}
      → Agree s m → ((a : A) → Agree (r a) (k a)) → Agree (s ++ Step.◌>>=◌ (given m) r) (m >>= k)
  agree-given {s} {r} {m} {k} e f = record { same = told-++ s (Step.◌>>=◌ (given m) r) ∙ ap (λ x. x >> told (Step.◌>>=◌ (given m) r)) e.same ∙ go m }
    where
      go : (m : Check A) → (verdict m >> told (Step.◌>>=◌ (given m) r)) ≡ verdict (m >>= k)
      go (pass a) = (f a).same
      go (refuse n o c) = refl

  -- the result put into shape
  pub agree-shape : {s : List (Step P)} {m : Check A} (g : A → B) → Agree s m → Agree s (m >>= λ a. pass (g a))
  agree-shape {s} {m} g e = record { same = e.same ∙ go m }
    where
      go : (m : Check A) → verdict m ≡ verdict (m >>= λ a. pass (g a))
      go (pass a) = refl
      go (refuse n o c) = refl

  pub agree-end : {s : List (Step P)} {m : Check A} (b : B) → Agree s m → Agree s (m >> pass b)
  agree-end {s} {m} b e = record { same = e.same ∙ go m }
    where
      go : (m : Check A) → verdict m ≡ verdict (m >> pass b)
      go (pass a) = refl
      go (refuse n o c) = refl

  -- a field that must be there, and what is asked of one that is
  pub agree-required : {w : P} (v : Option A) {r : List (Step P)} {k : A → Check B}
      → ((a : A) → v ≡ some a → Agree r (k a)) → Agree ((MISSING at w unless is_some v) ++ r) (required v >>= k)
  unfolding is_some
  agree-required none f = record { same = refl }
  agree-required (some a) f = record { same = (f a refl).same }

  pub agree-found : {v : Option A} {a : A} (r : A → List (Step P)) {m : Check B} → v ≡ some a → Agree (r a) m → Agree (Step.◌>>=◌ v r) m
  agree-found r e f = rw e f

module _ {P A B : Type 0} where
  pub agree-optional : {r : A → List (Step P)} {k : A → Check B} → ((a : A) → Agree (r a) (k a)) → (v : Option A) → Agree (Step.◌>>=◌ v r) (optional k v)
  agree-optional f none = agree-nothing none
  agree-optional f (some a) = agree-shape some (f a)

  pub agree-each : {f : ℕ → A → List (Step P)} {g : ℕ → A → Check B} → ((i : ℕ) (a : A) → Agree (f i a) (g i a))
      → (i : ℕ) (l : List A) → Agree (each_of f i l) (each g i l)
  agree-each h i [] = agree-nothing []
  agree-each h i (a ∷ l) = agree-bind (h i a) (λ b e. agree-shape (λ bs. b ∷ bs) (agree-each h (suc i) l))

  -- one check of every one, against each in turn
  pub agree-every-each : {n : ℕ} {place : A → P} {right : A → Bool} {g : A → Check B} → ((a : A) → Agree (n at place a unless right a) (g a))
      → (i : ℕ) (l : List A) → Agree (every n place right l) (each (λ i. g) i l)
  agree-every-each h i [] = agree-nothing []
  agree-every-each h i (a ∷ l) = agree-bind (h a) (λ b e. agree-shape (λ bs. b ∷ bs) (agree-every-each h (suc i) l))

-- a check, then more with the same number
pub one_more : {P : Type 0} {n : ℕ} {w : P} {s : List (Step P)} (b c : Bool) → Agree s (n unless c) → Agree ((n at w unless b) ++ s) (n unless (b && c))
one_more true c e = record { same = e.same }
one_more false c e = record { same = refl }

module _ {P A : Type 0} where
  pub agree-every : (n : ℕ) (place : A → P) (right : A → Bool) (l : List A) → Agree (every n place right l) (n unless all right l)
  agree-every n place right [] = agree-nothing tt
  agree-every n place right (a ∷ l) = one_more (right a) (all right l) (agree-every n place right l)

  pub agree-in_component : (j : ℕ) (w : Option (Word P)) {s : List (Step P)} {m : Check A} → Agree s m → Agree (map (Step.in_component j w) s) (in_component j m)
  agree-in_component j w {s} {m} e = record { same = moved s ∙ ap (in_component j) e.same ∙ back m }
    where
      moved : (s : List (Step P)) → told (map (Step.in_component j w) s) ≡ in_component j (told s)
      moved [] = refl
      moved (x ∷ s) = go x.right (moved s)
        where
          go : (b : Bool) → told (map (Step.in_component j w) s) ≡ in_component j (told s)
              → Step.refusal (cond b (Step.first (map (Step.in_component j w) s)) (some (Step.in_component j w x))) ≡ in_component j (Step.refusal (cond b (Step.first s) (some x)))
          go true e = e
          go false e = refl

      back : (m : Check A) → in_component j (verdict m) ≡ verdict (in_component j m)
      back (pass a) = refl
      back (refuse n o c) = refl

  pub agree-in_object : (i : ℕ) (w : Option (Word P)) {s : List (Step P)} {m : Check A} → Agree s m → Agree (map (Step.in_object i w) s) (in_object i m)
  agree-in_object i w {s} {m} e = record { same = moved s ∙ ap (in_object i) e.same ∙ back m }
    where
      moved : (s : List (Step P)) → told (map (Step.in_object i w) s) ≡ in_object i (told s)
      moved [] = refl
      moved (x ∷ s) = go x.right (moved s)
        where
          go : (b : Bool) → told (map (Step.in_object i w) s) ≡ in_object i (told s)
              → Step.refusal (cond b (Step.first (map (Step.in_object i w) s)) (some (Step.in_object i w x))) ≡ in_object i (Step.refusal (cond b (Step.first s) (some x)))
          go true e = e
          go false e = refl

      back : (m : Check A) → in_object i (verdict m) ≡ verdict (in_object i m)
      back (pass a) = refl
      back (refuse n o c) = refl
