-- Where the reader's refusal belongs to an entry of a list, the check that breaks is that entry's: whoever knows the reader's number and indices goes straight there.
use Prim.Native.Nat.{ℕ, suc}
use mathlib.Core.List.{List, [], ◌∷◌, ◌++◌, map}
use mathlib.Core.Bool.{Bool, true, false, cond}
use mathlib.Core.Option.{Option, none, some}
use mathlib.Core.Path.{◌≡◌, refl, ap, sym, ◌∙◌}
use native.Mathlib.Omega.{arith}
use Rattle.meaning.specs.Check.{Check, pass, refuse, ◌>>=◌, in_object, in_component, each}
use Rattle.meaning.specs.Notes.{map_option}
use Rattle.meaning.specs.Model.{Word, Named}
use Rattle.meaning.specs.Layouts.{Layout}
use Rattle.meaning.specs.Judge.{component, object}
use Rattle.explained.specs.Step
use Rattle.explained.specs.Step.{Step, first, refusal, each_of}
use Rattle.explained.specs.Order.{component_steps, object_steps}
use Rattle.explained.specs.Breaks.{At, first as top, later}
use Rattle.explained.proofs.Agree.{Agree, verdict, agree-in_object, agree-in_component}
use Rattle.explained.proofs.Whole.{agree-component, agree-object}
use Rattle.explained.proofs.Why.{or_else, first-++, first_passes, refused}

module _ {P : Type 0} where
  -- a list in which a check breaks hides what follows
  pub first-here : {A : Type 0} (s r : List (Step P)) (m : Check A) → Agree s m → (n o c : ℕ) → m ≡ refuse n o c → first (s ++ r) ≡ first s
  unfolding or_else
  first-here s r m a n o c e = let k = refused s m a n o c e in first-++ s r ∙ ap (λ x. or_else x (first r)) k.shown ∙ sym k.shown

  -- one in which none does is passed over
  pub first_past : {A : Type 0} (s r : List (Step P)) (m : Check A) → Agree s m → (x : A) → m ≡ pass x → first (s ++ r) ≡ first r
  unfolding or_else
  first_past s r m a x e = first-++ s r ∙ ap (λ y. or_else y (first r)) (first_passes s m a x e)

-- the entry that a refusal of each in turn belongs to
pub record Blamed {P A B : Type 0} (f : ℕ → A → List (Step P)) (g : ℕ → A → Check B) (i : ℕ) (l : List A) (n o c : ℕ) : Type 0 where
  pub index : ℕ
  pub it : A
  pub at : At index it i l
  pub refuses : g index it ≡ refuse n o c
  pub shown : first (each_of f i l) ≡ first (f index it)

module _ {P A B : Type 0} {f : ℕ → A → List (Step P)} {g : ℕ → A → Check B} (agree : (i : ℕ) (a : A) → Agree (f i a) (g i a)) where
  pub blamed : (i : ℕ) (l : List A) (n o c : ℕ) → each g i l ≡ refuse n o c → Blamed f g i l n o c
  blamed i [] n o c e = absurd (let z : ◌≡◌ {A = ℕ} 0 1 = cc in omega arith)
  blamed i (a ∷ l) n o c e = go (g i a) refl e (blamed (suc i) l n o c)
    where
      rest : (m : Check (List B)) (b : B) → (m >>= λ bs. pass (b ∷ bs)) ≡ refuse n o c → m ≡ refuse n o c
      rest (pass bs) b e = absurd (let z : ◌≡◌ {A = ℕ} 0 1 = cc in omega arith)
      rest (refuse x y z) b e = cc

      go : (m : Check B) → g i a ≡ m → (m >>= λ b. each g (suc i) l >>= λ bs. pass (b ∷ bs)) ≡ refuse n o c
          → (each g (suc i) l ≡ refuse n o c → Blamed f g (suc i) l n o c) → Blamed f g i (a ∷ l) n o c
      go (pass b) h e k = let r = k (rest (each g (suc i) l) b e) in record {
        index = r.index;
        it = r.it;
        at = later r.at;
        refuses = r.refuses;
        shown = first_past (f i a) (each_of f (suc i) l) (g i a) (agree i a) b h ∙ r.shown;
      }
      go (refuse x y z) h e k = record {
        index = i;
        it = a;
        at = top;
        refuses = h ∙ (let q : ◌≡◌ {A = Check B} (refuse x y z) (refuse n o c) = cc in q);
        shown = first-here (f i a) (each_of f (suc i) l) (g i a) (agree i a) x y z h;
      }

module _ {P : Type 0} where
  first-in_object : (i : ℕ) (w : Option (Word P)) (s : List (Step P)) → first (map (Step.in_object i w) s) ≡ map_option (Step.in_object i w) (first s)
  first-in_object i w [] = refl
  first-in_object i w (x ∷ s) = go x.right (first-in_object i w s)
    where
      go : (b : Bool) → first (map (Step.in_object i w) s) ≡ map_option (Step.in_object i w) (first s)
          → cond b (first (map (Step.in_object i w) s)) (some (Step.in_object i w x)) ≡ map_option (Step.in_object i w) (cond b (first s) (some x))
      go true e = e
      go false e = refl

  pub first-in_component : (j : ℕ) (w : Option (Word P)) (s : List (Step P)) → first (map (Step.in_component j w) s) ≡ map_option (Step.in_component j w) (first s)
  first-in_component j w [] = refl
  first-in_component j w (x ∷ s) = go x.right (first-in_component j w s)
    where
      go : (b : Bool) → first (map (Step.in_component j w) s) ≡ map_option (Step.in_component j w) (first s)
          → cond b (first (map (Step.in_component j w) s)) (some (Step.in_component j w x)) ≡ map_option (Step.in_component j w) (cond b (first s) (some x))
      go true e = e
      go false e = refl

module _ (L : Layout) {P : Type 0} (start : ℕ) where
  -- of objects in turn: the object of the index that the refusal gives
  pub record ObjectBlamed (ns : List (Named P)) (n o c : ℕ) : Type 0 where
    pub it : Named P
    pub at : At o it 0 ns
    pub of_it : ℕ
    pub refuses : object L start it ≡ refuse n of_it c
    pub shown : first (each_of (λ i x. map (Step.in_object i (some x.name)) (object_steps L start x)) 0 ns) ≡ map_option (Step.in_object o (some it.name)) (first (object_steps L start it))

  pub object-blamed : (ns : List (Named P)) (n o c : ℕ) → each (λ i x. in_object i (object L start x)) 0 ns ≡ refuse n o c → ObjectBlamed ns n o c
  object-blamed ns n o c e =
      let b = blamed {f = λ i x. map (Step.in_object i (some x.name)) (object_steps L start x)} (λ i x. agree-in_object i (some x.name) (agree-object L start x)) 0 ns n o c e in
      go b.index b.it b.at (object L start b.it) refl b.refuses b.shown
    where
      go : (i : ℕ) (x : Named P) → At i x 0 ns → (m : Check _) → object L start x ≡ m → in_object i m ≡ refuse n o c
          → first (each_of (λ i x. map (Step.in_object i (some x.name)) (object_steps L start x)) 0 ns) ≡ first (map (Step.in_object i (some x.name)) (object_steps L start x)) → ObjectBlamed ns n o c
      go i x a (pass v) h e s = absurd (let z : ◌≡◌ {A = ℕ} 0 1 = cc in omega arith)
      go i x a (refuse k y z) h e s =
          let p : i ≡ o = cc in
          record {
            it = x;
            at = rw p at a;
            of_it = y;
            refuses = h ∙ cc;
            shown = s ∙ first-in_object i (some x.name) (object_steps L start x) ∙ ap (λ j. map_option (Step.in_object j (some x.name)) (first (object_steps L start x))) p;
          }

  -- of components in turn likewise
  pub record ComponentBlamed (above : List ℕ → Option ℕ) (ns : List (Named P)) (n o c : ℕ) : Type 0 where
    pub it : Named P
    pub at : At c it 0 ns
    pub of_it : ℕ
    pub refuses : component L start (above it.name.letters) it ≡ refuse n o of_it
    pub shown :
        first (each_of (λ j x. map (Step.in_component j (some x.name)) (component_steps L start (above x.name.letters) x)) 0 ns)
        ≡ map_option (Step.in_component c (some it.name)) (first (component_steps L start (above it.name.letters) it))

  pub component-blamed : (above : List ℕ → Option ℕ) (ns : List (Named P)) (n o c : ℕ)
      → each (λ j x. in_component j (component L start (above x.name.letters) x)) 0 ns ≡ refuse n o c → ComponentBlamed above ns n o c
  component-blamed above ns n o c e =
      let b = blamed {f = λ j x. map (Step.in_component j (some x.name)) (component_steps L start (above x.name.letters) x)}
      (λ j x. agree-in_component j (some x.name) (agree-component L start (above x.name.letters) x)) 0 ns n o c e in
      go b.index b.it b.at (component L start (above b.it.name.letters) b.it) refl b.refuses b.shown
    where
      go : (j : ℕ) (x : Named P) → At j x 0 ns → (m : Check _) → component L start (above x.name.letters) x ≡ m → in_component j m ≡ refuse n o c
          → first (each_of (λ j x. map (Step.in_component j (some x.name)) (component_steps L start (above x.name.letters) x)) 0 ns)
          ≡ first (map (Step.in_component j (some x.name)) (component_steps L start (above x.name.letters) x))
          → ComponentBlamed above ns n o c
      go j x a (pass v) h e s = absurd (let z : ◌≡◌ {A = ℕ} 0 1 = cc in omega arith)
      go j x a (refuse k y z) h e s =
          let p : j ≡ c = cc in
          record {
            it = x;
            at = rw p at a;
            of_it = z;
            refuses = h ∙ cc;
            shown = s ∙ first-in_component j (some x.name) (component_steps L start (above x.name.letters) x)
                ∙ ap (λ i. map_option (Step.in_component i (some x.name)) (first (component_steps L start (above x.name.letters) x))) p;
          }

-- ---------------------------------------------------------------- checks of one thing

-- all at one place, of no object and no component
pub data OnePlace {P : Type 0} (w : P) : List (Step P) → Type 0 where
  nothing : OnePlace w []
  also : (n : ℕ) (b : Bool) {s : List (Step P)} → OnePlace w s
      → OnePlace w (record { number = n; object = 0; component = 0; object_name = none; component_name = none; place = w; right = b } ∷ s)

-- the check that breaks, from the refusal alone
abbrev pub broken : {P A : Type 0} → P → Check A → Option (Step P)
broken w (pass a) = none
broken w (refuse n o c) = some (record { number = n; object = 0; component = 0; object_name = none; component_name = none; place = w; right = false })

pub one_place : {P A : Type 0} {w : P} {s : List (Step P)} {m : Check A} → OnePlace w s → Agree s m → first s ≡ broken w m
one_place {P} {w = w} {m = m} o a = go m o a.same
  where
    go : {A : Type 0} (m : Check A) {s : List (Step P)} → OnePlace w s → refusal (first s) ≡ verdict m → first s ≡ broken w m
    go (pass x) nothing e = refl
    go (refuse n o c) nothing e = absurd (let z : ◌≡◌ {A = ℕ} 0 1 = cc in omega arith)
    go m (also n true h) e = go m h e
    go (pass x) (also n false h) e = absurd (let z : ◌≡◌ {A = ℕ} 0 1 = cc in omega arith)
    go (refuse k o c) (also n false h) e = ap (λ x. some (record { number = x; object = 0; component = 0; object_name = none; component_name = none; place = w; right = false })) (let z : n ≡ k = cc in z)
