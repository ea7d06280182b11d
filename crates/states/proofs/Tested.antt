-- Laws of the state's test, one for each way out of the code.
use Prim.Native.Nat.{ℕ, zero, suc, ◌+◌, ◌-◌, ◌*◌, ◌/◌, ◌≤◌, ◌<◌}
use native.Mathlib.Omega.{arith}
use mathlib.Core.List.{List, [], ◌∷◌}
use mathlib.Core.Bool.{Bool, true, false, cond, not, ◌&&◌}
use mathlib.Core.Path.{◌≡◌, refl, sym, ap, ◌∙◌}
use lib.Dec.{eqb}
use Rattle.std.specs.Bool.{MatchBool}
use Rattle.std.specs.List.{AllWithin, HoldsAt}
use lib.ListN.{length, take, drop, get_or, length-drop}
use lib.Seq.{drop-drop, take_all, length-take-le}
use borrow.Author.Tests.{eq-eqb, ne_eqb, le-leb, lt-leb, eqb-true, not-true, not-false}
use borrow.Author.Rules.{part_to_end}
use Rattle.meaning.specs.Check.{pass, refuse}
use Rattle.meaning.specs.Refusal.{INDEX}
use Rattle.meaning.specs.Columns.{object_width, component_width}
use Rattle.meaning.specs.Text.{all}
use Rattle.engines.specs.Shared.{first, second, flag_of, held_of, objects_of, components_of, layout_column, state_sound, Shared, part_of, usable, apart, opened}
use Rattle.engines.specs.Calls.{place_of}
use Rattle.states.specs.Places.{stands_by, fitting, both, stands, standing}
use Rattle.states.specs.declared.Usage.{Usage}
use Rattle.states.specs.declared.Place.{Place}
use Rattle.states.specs.declared.Place.TheVariants.{Nowhere, Idle, Loaded}
use Rattle.engines.proofs.Opens.{Opened, opened-closed}
use Rattle.std.specs.Prelude.{Some, None, Option}

-- ---- exactly so many numbers

module _ (h o c : ℕ) where
  pub objects-past : h / object_width < o → false ≡ eqb h (object_width * o + component_width * c)
  objects-past k = sym (ne_eqb h (object_width * o + component_width * c) (λ e. omega (arith, k, e)))

  pub components-past : o ≤ h / object_width → (h - object_width * o) / component_width < c → false ≡ eqb h (object_width * o + component_width * c)
  components-past k j = sym (ne_eqb h (object_width * o + component_width * c) (λ e. omega (arith, k, j, e)))

  pub just_so : o ≤ h / object_width → eqb (h - object_width * o) (component_width * c) ≡ eqb h (object_width * o + component_width * c)
  just_so k = by (eqb (h - object_width * o) (component_width * c)) refl
    where
      by : (b : Bool) → eqb (h - object_width * o) (component_width * c) ≡ b → eqb (h - object_width * o) (component_width * c) ≡ eqb h (object_width * o + component_width * c)
      by true e = e ∙ sym (eq-eqb h (object_width * o + component_width * c) (let z = eqb-true (h - object_width * o) (component_width * c) e in omega (arith, z, k)))
      by false e =
          e ∙ sym (ne_eqb h (object_width * o + component_width * c) (λ z.
          let y : h - object_width * o ≡ component_width * c = omega (arith, z, k) in
          let x : ◌≡◌ {A = Bool} false true = sym e ∙ eq-eqb (h - object_width * o) (component_width * c) y in
          absurd (let w : ◌≡◌ {A = ℕ} 0 1 = ap (λ (b : Bool). cond b 1 0) x in omega (arith, w))))

-- ---- zeros

-- what `all` answered of the numbers
all-zeros : (s : List ℕ) → ((k : ℕ) → k < length s → eqb (get_or s k 0) 0 ≡ true) → all (λ n. eqb n 0) s ≡ true
all-zeros [] h = refl
all-zeros (a ∷ s) h = rw (h 0 (omega arith)) (all-zeros s (λ k l. h (suc k) (omega arith)))

one-other : (s : List ℕ) (k : ℕ) → k < length s → eqb (get_or s k 0) 0 ≡ false → all (λ n. eqb n 0) s ≡ false
one-other [] k l e = absurd (omega arith)
one-other (a ∷ s) zero l e = rw e refl
one-other (a ∷ s) (suc k) l e = by (eqb a 0) (one-other s k (omega arith) e)
  where
    by : (b : Bool) → all (λ n. eqb n 0) s ≡ false → b && all (λ n. eqb n 0) s ≡ false
    by true q = q
    by false q = refl

pub zeros-asked : (s : List ℕ) (r : Bool)
    → MatchBool r (AllWithin (λ n. eqb n 0 ≡ true) s 0 (length s)) ((k : ℕ) × (k < length s) × HoldsAt (λ n. eqb n 0 ≡ false) s k)
    → r ≡ all (λ n. eqb n 0) s
zeros-asked s true h = sym (all-zeros s (λ k l. h k 0 (omega arith) l))
zeros-asked s false h = sym (one-other s h.0 h.1 (h.2 0))

-- ---- a state

module _ (s : List ℕ) where
  abbrev just_held : Bool
  just_held = eqb (held_of s) (object_width * objects_of s + component_width * components_of s)

  pub flag-past : 1 < flag_of s → false ≡ state_sound s
  unfolding state_sound
  flag-past h = rw (lt-leb (flag_of s) 1 h) refl

  pub layout-past : flag_of s ≤ 1 → 1 < layout_column s → false ≡ state_sound s
  unfolding state_sound
  layout-past f h = rw (le-leb (flag_of s) 1 f, lt-leb (layout_column s) 1 h) refl

  module _ (f : flag_of s ≤ 1) (l : layout_column s ≤ 1) (j : Bool) (asked : j ≡ just_held) where
    pub not-just : not j ≡ true → false ≡ state_sound s
    unfolding state_sound
    not-just h = let k : just_held ≡ false = sym asked ∙ not-true j h in rw (le-leb (flag_of s) 1 f, le-leb (layout_column s) 1 l, k) refl

    module _ (h : not j ≡ false) where
      just : just_held ≡ true
      just = sym asked ∙ not-false j h

      pub idle-sound : flag_of s ≡ 0 → (z : Bool) → z ≡ all (λ n. eqb n 0) s → z ≡ state_sound s
      unfolding state_sound
      idle-sound e z zeros =
          let k = just in
          zeros ∙ (rw (le-leb (flag_of s) 1 f, le-leb (layout_column s) 1 l, k, eq-eqb (flag_of s) 0 e) refl)

      pub loaded-sound : (flag_of s ≡ 0 → ⊥) → true ≡ state_sound s
      unfolding state_sound
      loaded-sound e = let k = just in rw (le-leb (flag_of s) 1 f, le-leb (layout_column s) 1 l, k, ne_eqb (flag_of s) 0 e) refl

-- ---- where its engine stands

pub stands-idle : (s : List ℕ) (place free : ℕ) → flag_of s ≡ 0 → Idle free ≡ stands_by place free s
unfolding stands_by
stands-idle s place free h = rw (eq-eqb (flag_of s) 0 h) refl

pub stands-loaded : (s : List ℕ) (place free : ℕ) → (flag_of s ≡ 0 → ⊥) → Loaded place (held_of s) (objects_of s) (components_of s) ≡ stands_by place free s
unfolding stands_by
stands-loaded s place free h = rw (ne_eqb (flag_of s) 0 h) refl

-- ---- both states

-- what two states hold
module _ (size : ℕ) (a b : List ℕ) (p : Bool) (asked : p ≡ state_sound a) where
  pub first-unsound : not p ≡ true → None ≡ fitting size a b
  unfolding fitting
  first-unsound h = let k : state_sound a ≡ false = sym asked ∙ not-true p h in rw k refl

  module _ (yes : not p ≡ false) (q : Bool) (also-asked : q ≡ state_sound b) where
    one : state_sound a ≡ true
    one = sym asked ∙ not-false p yes

    pub second-unsound : not q ≡ true → None ≡ fitting size a b
    unfolding fitting
    second-unsound h = let j = one in let k : state_sound b ≡ false = sym also-asked ∙ not-true q h in rw (j, k) refl

    module _ (also : not q ≡ false) where
      two : state_sound b ≡ true
      two = sym also-asked ∙ not-false q also

      too_many : size < held_of a + held_of b → None ≡ fitting size a b
      unfolding fitting
      too_many l = let j = one in let k = two in rw (j, k, lt-leb (held_of a + held_of b) size l) refl

      pub front-past : size < held_of a → None ≡ fitting size a b
      front-past l = too_many (omega arith)

      module _ (l : held_of a ≤ size) where
        pub back-past : size - held_of a < held_of b → None ≡ fitting size a b
        back-past m = too_many (omega arith)

        pub both-fit : held_of b ≤ size - held_of a → Some (record { front = held_of a; back = held_of b }) ≡ fitting size a b
        unfolding fitting
        both-fit m = let j = one in let k = two in rw (j, k, le-leb (held_of a + held_of b) size (omega arith)) refl

module _ (size : ℕ) (l : List ℕ) where
  abbrev front : List ℕ
  front = take 8 (drop size l)

  abbrev back : List ℕ
  back = take 8 (drop (size + 8) l)

  length-past : (length l ≡ size + 16 → ⊥) → None ≡ both size l
  unfolding both usable
  length-past h = rw (ne_eqb (length l) (size + 16) h) refl

  pub too_short : length l < size + 16 → None ≡ both size l
  too_short h = length-past (λ e. omega arith)

  pub too_long : size + 16 < length l → None ≡ both size l
  too_long h = length-past (λ e. omega arith)

  module _ (n : length l ≡ size + 16) where
    pub back_is : drop 8 (drop size l) ≡ back
    back_is =
        let d : length (drop (size + 8) l) ≡ length l - (size + 8) = length-drop (size + 8) l in
        drop-drop 8 size l ∙ sym (take_all 8 (drop (size + 8) l) (omega (arith, d, n)))

    front-eight : length front ≡ 8
    front-eight = let d : length (drop size l) ≡ length l - size = length-drop size l in length-take-le 8 (drop size l) (omega (arith, d, n))

    back-eight : length back ≡ 8
    back-eight = let d : length (drop (size + 8) l) ≡ length l - (size + 8) = length-drop (size + 8) l in length-take-le 8 (drop (size + 8) l) (omega (arith, d, n))

    both-are : fitting size front back ≡ both size l
    unfolding both fitting usable part_of
    both-are = let e = back_is in rw (eq-eqb (length l) (size + 16) n, e) refl

  module _ (low : size + 16 ≤ length l) (high : length l ≤ size + 16) where
    sized : length l ≡ size + 16
    sized = omega arith

    pub eights : (length front ≡ 8) × (length back ≡ 8)
    eights = (front-eight sized, back-eight sized)

    pub both_told : (r : Option Usage) → r ≡ fitting size front back → r ≡ both size l
    both_told r h = h ∙ both-are sized

  -- ---- and from there where an engine stands

  asked : (x y : Option Usage) → x ≡ both size (take (length l - 0) (drop 0 l)) → x ≡ y → both size l ≡ y
  asked x y e g = ap (both size) (sym (part_to_end l 0)) ∙ sym e ∙ g

  abbrev is_usable : Bool
  is_usable = usable size l (part_of size first l) (part_of size second l)

  abbrev parts : Shared
  parts = record {
    front = part_of size first l;
    free = take (size - held_of (part_of size first l).state - held_of (part_of size second l).state) (drop (held_of (part_of size first l).state) (take size l));
    back = part_of size second l;
  }

  opens-parts : is_usable ≡ true → opened size l ≡ pass parts
  unfolding opened apart
  opens-parts u = rw u refl

  opens-none : is_usable ≡ false → opened size l ≡ refuse INDEX 0 0
  unfolding opened apart
  opens-none u = rw u refl

  abbrev say_of : Option Usage → List ℕ
  say_of None = 0 ∷ []
  say_of (Some v) = 1 ∷ v.front ∷ v.back ∷ []

  record Uses (f b : ℕ) : Type 0 where
    usable-so : is_usable ≡ true
    front-is : f ≡ held_of (part_of size first l).state
    back-held : b ≡ held_of (part_of size second l).state

  uses : (f b : ℕ) → both size l ≡ Some (record { front = f; back = b }) → Uses f b
  unfolding both
  uses f b = by is_usable refl
    where
      by : (u : Bool) → is_usable ≡ u → cond {A = Option Usage} u (Some (record { front = held_of (part_of size first l).state; back = held_of (part_of size second l).state })) None ≡ Some (record { front = f; back = b }) → Uses f b
      by true e h = record { usable-so = e; front-is = sym (ap (λ (x : Option Usage). get_or (say_of x) 1 0) h); back-held = sym (ap (λ (x : Option Usage). get_or (say_of x) 2 0) h) }
      by false e h = absurd (let z : ◌≡◌ {A = ℕ} 0 1 = ap (λ (x : Option Usage). get_or (say_of x) 0 0) h in omega (arith, z))

  module _ (f b : ℕ) (h : both size l ≡ Some (record { front = f; back = b })) where
    there : Uses f b
    there = uses f b h

    okay : Opened size l parts
    okay = opened-closed size l parts (opens-parts there.usable-so)

    fit : f + b ≤ size
    fit = let k = okay.ok in omega (arith, there.front-is, there.back-held, k.fills, k.front.held, k.back.held)

    free-length : length parts.free ≡ size - f - b
    free-length = let k = okay.ok in omega (arith, there.front-is, there.back-held, k.fills, k.front.held, k.back.held)

    whole : length l ≡ size + 16
    unfolding usable
    whole = eqb-true (length l) (size + 16) (go (eqb (length l) (size + 16)) _ _ _ there.usable-so)
      where
        go : (a b c d : Bool) → a && b && c && d ≡ true → a ≡ true
        go true b c d x = refl
        go false b c d x = x

    front-stands : stands_by 0 (size - f - b) front ≡ standing size 0 l
    unfolding standing stands place_of part_of
    front-stands = let o = opens-parts there.usable-so in let e = free-length in rw (o, e) refl

    back-stands : stands_by (size - b) (size - f - b) back ≡ standing size 1 l
    unfolding standing stands place_of part_of
    back-stands = let o = opens-parts there.usable-so in let e = free-length in let i = back_is whole in let j = there.back-held in rw (o, e, ← i, j) refl

  none-stands : (engine : ℕ) → both size l ≡ None → Nowhere ≡ standing size engine l
  unfolding both standing stands
  none-stands engine = by is_usable refl engine
    where
      none : (n : ℕ) → opened size l ≡ refuse INDEX 0 0 → Nowhere ≡ standing size n l
      none zero o = rw o refl
      none (suc zero) o = rw o refl
      none (suc (suc n)) o = refl

      by : (u : Bool) → is_usable ≡ u → (n : ℕ) → cond {A = Option Usage} u (Some (record { front = held_of (part_of size first l).state; back = held_of (part_of size second l).state })) None ≡ None → Nowhere ≡ standing size n l
      by true e n h = absurd (let z : ◌≡◌ {A = ℕ} 1 0 = ap (λ (x : Option Usage). get_or (say_of x) 0 0) h in omega (arith, z))
      by false e n h = none n (opens-none e)

  pub standing-stranger : (engine : ℕ) → (engine ≡ 0 → ⊥) → (engine ≡ 1 → ⊥) → Nowhere ≡ standing size engine l
  unfolding standing
  standing-stranger zero a b = absurd (a refl)
  standing-stranger (suc zero) a b = absurd (b refl)
  standing-stranger (suc (suc n)) a b = refl

-- ---- the same, by what `both` answered of the numbers lent whole

module _ (l : List ℕ) (u : Option Usage) (told : u ≡ both 65536 (take (length l - 0) (drop 0 l))) where
  pub standing-unusable : u ≡ None → (engine : ℕ) → Nowhere ≡ standing 65536 engine l
  standing-unusable e engine = none-stands 65536 l engine (asked 65536 l u None told e)

  module _ (v : Usage) (is : u ≡ Some v) where
    abbrev f : ℕ
    f = v.front

    abbrev b : ℕ
    b = v.back

    holding : both 65536 l ≡ Some (record { front = f; back = b })
    holding = asked 65536 l u (Some v) told is

    all-lent : length l ≡ 65552
    all-lent = whole 65536 l f b holding

    pub front_fits : f ≤ 65536
    front_fits = omega (arith, fit 65536 l f b holding)

    pub back_fits : b ≤ 65536
    back_fits = omega (arith, fit 65536 l f b holding)

    pub beside-front : b ≤ 65536 - f
    beside-front = omega (arith, fit 65536 l f b holding)

    pub first-state-lies : 65544 ≤ length l
    first-state-lies = omega (arith, all-lent)

    pub second-state-lies : 65552 ≤ length l
    second-state-lies = omega (arith, all-lent)

    pub first-state-sized : length (take 8 (drop 65536 l)) ≡ 8
    first-state-sized = front-eight 65536 l all-lent

    pub second-state-sized : length (take 8 (drop 65544 l)) ≡ 8
    second-state-sized = back-eight 65536 l all-lent

    module _ (engine : ℕ) (r : Place) where
      pub standing-first : r ≡ stands_by 0 (65536 - f - b) (take 8 (drop 65536 l)) → engine ≡ 0 → r ≡ standing 65536 engine l
      standing-first h e = h ∙ front-stands 65536 l f b holding ∙ ap (λ (n : ℕ). standing 65536 n l) (sym e)

      pub standing-second : r ≡ stands_by (65536 - b) (65536 - f - b) (take 8 (drop 65544 l)) → engine ≡ 1 → r ≡ standing 65536 engine l
      standing-second h e = h ∙ back-stands 65536 l f b holding ∙ ap (λ (n : ℕ). standing 65536 n l) (sym e)
