-- The checks before the objects' own belong to no object, and have a number.
use Prim.Native.Nat.{ℕ, ◌+◌, ◌-◌, ◌≤◌}
use native.Mathlib.Omega.{arith}
use mathlib.Core.List.{List, [], ◌∷◌, ◌++◌, map}
use mathlib.Core.Bool.{Bool, true, false, cond, not}
use mathlib.Core.Option.{Option, none, some}
use mathlib.Core.Path.{◌≡◌, refl, ap, sym, ◌∙◌}
use Rattle.meaning.specs.Tree.{Node, Pair, note_of}
use Rattle.meaning.specs.Model.{Named}
use Rattle.meaning.specs.Text.{utf8, one_of}
use Rattle.meaning.specs.Field.{key_of}
use Rattle.meaning.specs.Refusal.{KEY, TEXT, TWICE}
use Rattle.meaning.specs.Notes.{map_option}
use Rattle.meaning.specs.Layouts.{Layout, Slots}
use Rattle.explained.specs.Step
use Rattle.explained.specs.Step.{Step, first, every, ◌at◌unless◌}
use Rattle.explained.specs.Order.{fresh, more, word_steps, mapping_steps, version_steps, key_steps, repeat_steps, field_steps, missing, same_name_steps, name_steps}
use Rattle.badroot.specs.Opening.{later_steps, value_steps, opening_steps}

-- the same check, of no object, with a number that isn't 0
abbrev bare : {P : Type 0} → Step P → Step P
bare s = record { number = 1 + (s.number - 1); object = 0; component = 0; object_name = none; component_name = none; place = s.place; right = s.right }

module _ {P : Type 0} where
  bare-++ : (l r : List (Step P)) → map bare (l ++ r) ≡ map bare l ++ map bare r
  bare-++ [] r = refl
  bare-++ (a ∷ l) r = ap {B = List (Step P)} (λ x. bare a ∷ x) (bare-++ l r)

  bare-bind : {A : Type 0} (v : Option A) (r : A → List (Step P)) → map bare (Step.◌>>=◌ v r) ≡ Step.◌>>=◌ v (λ a. map bare (r a))
  bare-bind none r = refl
  bare-bind (some a) r = refl

  ruleset Push = (bare-++, bare-bind)

  bare-every : {A : Type 0} (n : ℕ) → 1 + (n - 1) ≡ n → (place : A → P) (right : A → Bool) (l : List A) → map bare (every n place right l) ≡ every n place right l
  bare-every n h place right [] = refl
  bare-every n h place right (a ∷ l) = rw (h, bare-every n h place right l) refl

  bare-texts : (ns : List (Named P)) → map bare (every TEXT (λ n. n.name.note) (λ n. utf8 n.name.letters) ns) ≡ every TEXT (λ n. n.name.note) (λ n. utf8 n.name.letters) ns
  bare-texts = bare-every TEXT refl (λ n. n.name.note) (λ n. utf8 n.name.letters)

  bare-word : (t : Node P) → map bare (word_steps t) ≡ word_steps t
  unfolding word_steps
  bare-word t = refl

  bare-table : (t : Node P) → map bare (mapping_steps t) ≡ mapping_steps t
  unfolding mapping_steps
  bare-table t = refl

  bare-missing : {A : Type 0} (t : Node P) (v : Option A) → map bare (missing t v) ≡ missing t v
  unfolding missing
  bare-missing t v = refl

  bare-version : (t : Node P) → map bare (version_steps t) ≡ version_steps t
  unfolding version_steps
  bare-version t = simp (bare-word, Push)

  bare-keys : (ps : List (Pair P)) → map bare (key_steps ps) ≡ key_steps ps
  unfolding key_steps
  bare-keys ps = bare-every KEY refl _ _ ps

  bare-repeats : (known before : List (List ℕ)) (ps : List (Pair P)) → map bare (repeat_steps known before ps) ≡ repeat_steps known before ps
  unfolding repeat_steps
  bare-repeats known before [] = refl
  bare-repeats known before (p ∷ ps) = ap (λ (l : List (Step P)). (TWICE at note_of p.key unless fresh known before (key_of p)) ++ l) (bare-repeats known (more before (key_of p)) ps)

  bare-fields : (known : Slots) (t : Node P) → map bare (field_steps known t) ≡ field_steps known t
  unfolding field_steps
  bare-fields known t = simp (bare-table, bare-keys, bare-repeats, Push)

  bare-same-names : (before : List (List ℕ)) (ns : List (Named P)) → map bare (same_name_steps before ns) ≡ same_name_steps before ns
  unfolding same_name_steps
  bare-same-names before [] = refl
  bare-same-names before (n ∷ ns) = ap (λ (l : List (Step P)). (TWICE at n.name.note unless not (one_of before n.name.letters)) ++ l) (bare-same-names (n.name.letters ∷ before) ns)

  bare-names : (limit : ℕ) (t : Node P) → map bare (name_steps limit t) ≡ name_steps limit t
  unfolding name_steps
  bare-names limit t = simp (bare-table, bare-keys, bare-texts, bare-same-names, Push)

  bare-opening : (L : Layout) (t : Node P) → map bare (opening_steps L t) ≡ opening_steps L t
  unfolding opening_steps value_steps later_steps
  bare-opening L t = simp (bare-fields, bare-missing, bare-version, bare-table, bare-names, Push)

  first-bare : (ss : List (Step P)) → first (map bare ss) ≡ map_option bare (first ss)
  first-bare [] = refl
  first-bare (s ∷ ss) = go s.right (first-bare ss)
    where
      go : (b : Bool) → first (map bare ss) ≡ map_option bare (first ss) → cond b (first (map bare ss)) (some (bare s)) ≡ map_option bare (cond b (first ss) (some s))
      go true e = e
      go false e = refl

  opening-bare : (L : Layout) (t : Node P) (s : Step P) → first (opening_steps L t) ≡ some s → bare s ≡ s
  opening-bare L t s e =
      let z : some (bare s) ≡ some s = sym (ap (map_option bare) e) ∙ sym (first-bare (opening_steps L t)) ∙ ap first (bare-opening L t) ∙ e in
      cc

  pub opening-nameless : (L : Layout) (t : Node P) (s : Step P) → first (opening_steps L t) ≡ some s → (s.object_name ≡ none) × (s.component_name ≡ none)
  opening-nameless L t s e = let y = opening-bare L t s e in (ap (λ x. x.object_name) (sym y), ap (λ x. x.component_name) (sym y))

  pub opening-unplaced : (L : Layout) (t : Node P) (s : Step P) → first (opening_steps L t) ≡ some s → (s.object ≡ 0) × (s.component ≡ 0)
  opening-unplaced L t s e = let y = opening-bare L t s e in (ap (λ x. x.object) (sym y), ap (λ x. x.component) (sym y))

  pub opening-numbered : (L : Layout) (t : Node P) (s : Step P) → first (opening_steps L t) ≡ some s → 1 ≤ s.number
  opening-numbered L t s e = let y : 1 + (s.number - 1) ≡ s.number = ap (λ x. x.number) (opening-bare L t s e) in omega arith
