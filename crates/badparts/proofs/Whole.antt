-- Components and rules, a branch each.
use Prim.Native.Nat.{ℕ, ◌-◌, ◌*◌, ◌≤◌, ◌<◌}
use mathlib.Core.List.{List, [], ◌++◌, map}
use mathlib.Core.Bool.{Bool, true, false}
use mathlib.Core.Option.{Option, none, some}
use mathlib.Core.Path.{◌≡◌, refl, ap, sym, ◌∙◌, subst}
use native.Mathlib.Omega.{arith}
use lib.ListN.{length, get_or, take, drop, length-map}
use lib.Dec.{ltb}
use borrow.Author.Tests.{ltb-true, ltb-false}
use borrow.Author.Rules.{part_to_end}
use Rattle.meaning.specs.Tree.{Node, note_of}
use Rattle.meaning.specs.Check.{Check, pass, refuse, ◌>>=◌, in_component, each}
use Rattle.meaning.specs.Limit.{component_limit}
use Rattle.meaning.specs.Model.{Word, Named, Component}
use Rattle.meaning.specs.Layouts.{Layout, layout_of}
use Rattle.meaning.specs.Format.{Part}
use Rattle.meaning.specs.Field.{names}
use Rattle.meaning.specs.Judge as judge
use Rattle.meaning.specs.Judge.{inherited, part, components_of}
use Rattle.meaning.proofs.Checks.{each-length}
use Rattle.walk.specs.Reading.{Ends, Reads}
use Rattle.walk.proofs.Passed.{Here}
use Rattle.walk.proofs.ReadSays.{note-of}
use Rattle.fields.specs.Slots.{Stands}
use Rattle.component.specs.Value as value
use Rattle.table.specs.Given.{offered}
use Rattle.components.specs.Firsts.{FoundIs, ComponentsAre}
use Rattle.formats.specs.Parts.{part_rows}
use Rattle.explained.specs.Step as steps
use Rattle.explained.specs.Step.{Step, first, given, each_of}
use Rattle.explained.specs.Order.{all_of, component_steps, components_steps, name_steps, format_steps, length_note}
use Rattle.explained.specs.Breaks.{At}
use Rattle.explained.proofs.Parts.{agree-names}
use Rattle.explained.proofs.Why.{or_else, first-++}
use Rattle.spot.specs.Shown.{spot, shown}
use Rattle.spot.specs.Shown.{Spot}
use Rattle.badnames.specs.Keys.{Tells, NamesAt}
use Rattle.badfields.proofs.Firsts.{each_first, shown-none}
use Rattle.badvalues.proofs.Alone.{numbered, spot-alone, passes-so}
use Rattle.badrules.specs.Blame.{blames}
use Rattle.badrules.proofs.Rules as rules
use Rattle.badrules.proofs.Blamed as ruled
use Rattle.badparts.specs.Parts.{Owned}
use Rattle.badparts.specs.Parts.{owned, owned_by, rule_steps, part_steps, InsideIs, ValueIs, LengthIs, Passing, BlameIs, Rule, RoleIs, RuledIs, WithinIs}
use Rattle.badparts.proofs.Early.{each-low, names-plain}
use Rattle.badparts.proofs.Alike.{given-alike}
use Rattle.badparts.proofs.Blames.{blamed, picked, got}
use Rattle.std.specs.Prelude.{Ok, Err, Result}
use Rattle.numbers.specs.declared.fault.ObjectFault.{ObjectFault}

-- ---------------------------------------------------------------- components that pass

record Listed (t : Node Ends) (cs : List (Component Ends)) : Type 0 where
  pub names_of : List (Named Ends)
  pub are : names component_limit t ≡ pass names_of
  pub many : length (map part cs) ≡ length names_of

listed : (L : Layout) (start : ℕ) (above : List ℕ → Option ℕ) (t : Node Ends) (cs : List (Component Ends)) → components_of L start above t ≡ pass cs → Listed t cs
unfolding components_of
listed L start above t cs e = go (names component_limit t) refl e
  where
    go : (m : Check (List (Named Ends))) → names component_limit t ≡ m → (m >>= λ ns. each (λ j c. in_component j (judge.component L start (above c.name.letters) c)) 0 ns) ≡ pass cs → Listed t cs
    go (refuse x y z) h e = absurd (let w : ◌≡◌ {A = ℕ} 0 1 = cc in omega arith)
    go (pass ns) h e = record { names_of = ns; are = h; many = length-map cs part ∙ each-length _ 0 ns cs e }

-- ---------------------------------------------------------------- whose fault ROLE is

module _ (layout format code : ℕ) (s : List ℕ) (start : ℕ) (found : Result ℕ ObjectFault) (rows : List ℕ) (h : ComponentsAre (offered layout format code) s start found rows) where
  found-is : (t : Node Ends) (f : Word Ends) (cs : List (Component Ends)) → Passing layout format code s start t f cs → FoundIs (pass cs) found rows
  found-is t f cs p =
      subst (λ k. FoundIs k found rows) p.pass-so
      (h t p.rest p.reads f.letters p.format-is p.fits.tensor)

  same-list : {cs ds : List (Component Ends)} → ◌≡◌ {A = Check (List (Component Ends))} (pass cs) (pass ds) → ds ≡ cs
  same-list {cs} {ds} e = let z : cs ≡ ds = cc in sym z

  pub none_found : (k : ObjectFault) → found ≡ Err k → (b : Bool) → BlameIs layout format code s start b
  none_found n e b t f cs p = absurd (go (subst (λ k. FoundIs (pass cs) k rows) e (found-is t f cs p)))
    where
      go : FoundIs (pass cs) (Err n) rows → ⊥
      go k = let y = k.1 in let z : ◌≡◌ {A = ℕ} 0 1 = cc in omega arith

  module _ (m : ℕ) (e : found ≡ Ok m) where
    pub too_many : 16 < m → (b : Bool) → BlameIs layout format code s start b
    too_many l b t f cs p = let k = subst (λ k. FoundIs (pass cs) k rows) e (found-is t f cs p) in let y = k.3 in absurd (omega (arith, y, l))

    pub by_rows : (b : Bool) → ((ds : List Part) → take (4 * m - 0) (drop 0 rows) ≡ part_rows ds → b ≡ blames format ds) → BlameIs layout format code s start b
    by_rows b told t f cs p =
        let k = subst (λ k. FoundIs (pass cs) k rows) e (found-is t f cs p) in
        let z : pass cs ≡ pass k.0 = k.1 in
        let y : k.0 ≡ cs = same-list z in
        let w : 4 * m - 0 ≡ 4 * m = omega arith in
        told (map part cs) (ap (λ (i : ℕ). take i rows) w ∙ k.4 ∙ ap (λ (l : List (Component Ends)). part_rows (map part l)) y)

-- ---------------------------------------------------------------- rules

-- a check with this number, place and component's name
owns : (n : ℕ) (x : Step Ends) → x.number ≡ n → (e : Ends) → x.place ≡ e → (w : Option (Word Ends)) → x.component_name ≡ w → owned (spot n (length e.start)) (value.left_word w) ≡ owned_by x
unfolding owned_by
owns n x i e j w k = rw (← i, ← j, ← k) refl

-- a number from 21 to 23 that is neither 21 nor 22
three : (n : ℕ) → 21 ≤ n → n ≤ 23 → (n ≡ 21 → ⊥) → (n ≡ 22 → ⊥) → n ≡ 23
three n a b c d = go (ltb n 22) refl (ltb n 23) refl
  where
    go : (x : Bool) → ltb n 22 ≡ x → (y : Bool) → ltb n 23 ≡ y → n ≡ 23
    go true e y f = let k = ltb-true n 22 e in absurd (c (omega (arith, k, a)))
    go false e true f = let k = ltb-false n 22 e in let l = ltb-true n 23 f in absurd (d (omega (arith, k, l)))
    go false e false f = let l = ltb-false n 23 f in omega (arith, l, b)

module _ (layout format code : ℕ) (s : List ℕ) (start c : ℕ) (r : Owned) where
  whole_is : (t : Node Ends) (q : List ℕ) → Reads 29 s t q → length (note_of t).start ≡ length s
  whole_is t q y = ap (λ (e : Ends). length e.start) (note-of 29 s t q y)

  module _ (t : Node Ends) (f : Word Ends) (cs : List (Component Ends)) (p : Passing layout format code s start t f cs) where
    list : Listed t cs
    list = listed (layout_of layout) start (inherited f.letters (value.given code)) t cs p.pass-so

    abbrev ns : List (Named Ends)
    ns = list.names_of

    module _ (shape : Node Ends) (dims : List ℕ) (n : ℕ) (x : Step Ends) (y : Rule layout shape t dims f cs n c x) where
      breaks-so : first (format_steps (layout_of layout) (note_of shape) (note_of t) dims ns (map part cs) f.letters) ≡ some x
      unfolding rule_steps all_of
      breaks-so = ap (λ (k : Check (List (Named Ends))). first (format_steps (layout_of layout) (note_of shape) (note_of t) dims (all_of k) (map part cs) f.letters)) (sym list.are) ∙ y.breaks

      rule-is : rules.Ruled (layout_of layout) (note_of shape) (note_of t) dims ns (map part cs) x
      rule-is = each_first (rules.format-ruled (layout_of layout) (note_of shape) (note_of t) dims ns (map part cs) f.letters) x breaks-so

      -- the component that it belongs to
      owner : x.component < length (map part cs) → (it : Named Ends) × At c it 0 ns
      owner l = picked c ns (let a = y.component in let b = list.many in omega (arith, a, b, l))

      named-so : (it : Named Ends) → At c it 0 ns → x.component_name ≡ rules.name_at (layout_of layout) (note_of shape) (note_of t) dims ns (map part cs) x.component → x.component_name ≡ some it.name
      named-so it at e = e ∙ ap (λ (j : ℕ). get_or (map (λ n. some n.name) ns) j none) y.component ∙ got (λ n. some n.name) none ns c it at

  -- the shape
  pub rank-shows : (a : ℕ) (z : Spot) → z ≡ spot 21 a → r ≡ owned z 0 → (n : ℕ) → n ≡ 21 → RuledIs layout format code s start a n c r
  unfolding owned_by
  rank-shows a z e k n is t f cs p shape left dims x l y =
      let w = (rule-is t f cs p shape dims n x y).rank (y.number ∙ is) in
      k ∙ ap (λ (u : Spot). owned u 0) (e ∙ ap (spot 21) left) ∙ owns 21 x (y.number ∙ is) (note_of shape) w.0 none w.1

  -- its length
  pub length-shows : (n : ℕ) → (n ≡ 21 → ⊥) → (n ≡ 22 → ⊥) → LengthIs layout s c r → (a : ℕ) → RuledIs layout format code s start a n c r
  unfolding owned_by
  length-shows n no21 no22 h a t f cs p shape left dims x l y =
      let i = rule-is t f cs p shape dims n x y in
      let m = i.most in let q = y.number in
      let is : x.number ≡ 23 = q ∙ three n l (let z : n ≤ 23 = omega (arith, m, q) in z) no21 no22 in
      let w = i.length is in
      let o = owner t f cs p shape dims n x y w.2 in
      let place : x.place ≡ length_note (layout_of layout) o.0 = w.0 ∙ ap (λ (j : ℕ). get_or (map (length_note (layout_of layout)) (ns t f cs p)) j (note_of t)) y.component ∙ got (length_note (layout_of layout)) (note_of t) (ns t f cs p) c o.0 o.1 in
      h t p.rest p.reads (ns t f cs p) (list t f cs p).are o.0 o.1
      ∙ owns 23 x is (length_note (layout_of layout) o.0) place (some o.0.name) (named-so t f cs p shape dims n x y o.0 o.1 w.1)

  -- ROLE, by whose fault it is
  module _ (b : Bool) (hb : BlameIs layout format code s start b) where
    blamed-is : (t : Node Ends) (f : Word Ends) (cs : List (Component Ends)) → Passing layout format code s start t f cs → b ≡ blames format (map part cs)
    blamed-is t f cs p = hb t f cs (record { rest = p.rest; reads = p.reads; format-is = p.format-is; fits = p.fits; pass-so = passed p })
      where
        passed : Passing layout format code s start t f cs → components_of (layout_of layout) start (inherited f.letters (value.given code)) t ≡ pass cs
        passed p = p.pass-so

    shows : (t : Node Ends) (f : Word Ends) (cs : List (Component Ends)) (p : Passing layout format code s start t f cs) (shape : Node Ends) (dims : List ℕ) (x : Step Ends) (y : Rule layout shape t dims f cs 22 c x)
        → ruled.Shows (layout_of layout) (note_of shape) (note_of t) dims (ns t f cs p) (map part cs) x b x
    shows t f cs p shape dims x y =
        subst (λ (i : Bool). ruled.Shows (layout_of layout) (note_of shape) (note_of t) dims (ns t f cs p) (map part cs) x i x)
        (ap (λ (i : ℕ). blames i (map part cs)) (sym p.format-is) ∙ sym (blamed-is t f cs p))
        (ruled.role-shows (layout_of layout) (note_of shape) (note_of t) dims (ns t f cs p) (map part cs) x y.number f.letters (breaks-so t f cs p shape dims 22 x y))

    pub index-shows : b ≡ true → ValueIs s c r → RoleIs layout format code s start c r
    unfolding owned_by
    index-shows e h t f cs p shape dims x y =
        let w : ruled.Shows (layout_of layout) (note_of shape) (note_of t) dims (ns t f cs p) (map part cs) x true x =
        subst (λ (i : Bool). ruled.Shows (layout_of layout) (note_of shape) (note_of t) dims (ns t f cs p) (map part cs) x i x) e (shows t f cs p shape dims x y) in
        let o = owner t f cs p shape dims 22 x y w.2 in
        let place : x.place ≡ note_of o.0.value = w.0 ∙ ap (λ (j : ℕ). get_or (map (λ n. note_of n.value) (ns t f cs p)) j (note_of t)) y.component ∙ got (λ n. note_of n.value) (note_of t) (ns t f cs p) c o.0 o.1 in
        h t p.rest p.reads (ns t f cs p) (list t f cs p).are o.0 o.1
        ∙ owns 22 x y.number (note_of o.0.value) place (some o.0.name) (named-so t f cs p shape dims 22 x y o.0 o.1 w.1)

    pub map-shows : b ≡ false → (z : Spot) → z ≡ spot 22 (length s) → r ≡ owned z 0 → RoleIs layout format code s start c r
    unfolding owned_by
    map-shows e z i k t f cs p shape dims x y =
        let w : ruled.Shows (layout_of layout) (note_of shape) (note_of t) dims (ns t f cs p) (map part cs) x false x =
        subst (λ (i : Bool). ruled.Shows (layout_of layout) (note_of shape) (note_of t) dims (ns t f cs p) (map part cs) x i x) e (shows t f cs p shape dims x y) in
        k ∙ ap (λ (u : Spot). owned u 0) (i ∙ ap (spot 22) (sym (whole_is t p.rest p.reads))) ∙ owns 22 x y.number (note_of t) w.0 none w.1

  pub role-ruled : (n : ℕ) → n ≡ 22 → RoleIs layout format code s start c r → (a : ℕ) → RuledIs layout format code s start a n c r
  role-ruled n is h a t f cs p shape left dims x l y =
      h t f cs p shape dims x (record { breaks = y.breaks; number = y.number ∙ is; component = y.component })

-- ---------------------------------------------------------------- names, components, rules

-- a check of a component
inner-owned : (y x : Step Ends) (j : ℕ) (it : Named Ends) → x ≡ steps.in_component j (some it.name) y → owned (shown (some y)) (length it.name.note.start) ≡ owned_by x
unfolding shown owned_by
inner-owned y x j it e = rw e refl

module _ (layout format code : ℕ) (s : List ℕ) (start a b n c : ℕ) (from : ℕ) (is-from : from ≡ length s - b) (z : Spot) (hz : NamesAt 28 (Here s from) 16 n z) where
  there : (t : Node Ends) → (x : Stands 29 s b t) → Reads 29 (Here s from) t x.rest
  there t x = subst (λ u. Reads 29 u t x.rest) (sym (part_to_end s from ∙ ap (λ (i : ℕ). drop i s) is-from)) x.reads

  names-shown : (t : Node Ends) → Stands 29 s b t → Tells n (first (name_steps component_limit t)) z
  names-shown t x = hz t x.rest (there t x)

  -- in which order they are looked at
  abbrev above : Word Ends → List ℕ → Option ℕ
  above f = inherited f.letters (value.given code)

  abbrev parts_of : Word Ends → List (Named Ends) → List (Step Ends)
  parts_of f ns = each_of (λ j m. map (steps.in_component j (some m.name)) (component_steps (layout_of layout) start (above f m.name.letters) m)) 0 ns

  abbrev rules_of : Node Ends → Node Ends → List ℕ → Word Ends → List (Step Ends)
  rules_of shape t dims f = steps.◌>>=◌ (given (components_of (layout_of layout) start (above f) t)) (rule_steps (layout_of layout) shape t dims f)

  in_parts : (shape t : Node Ends) (f : Word Ends) (dims : List ℕ)
      → first (part_steps (layout_of layout) start shape t (value.given code) dims f)
      ≡ or_else (or_else (first (name_steps component_limit t)) (first (steps.◌>>=◌ (given (names component_limit t)) (parts_of f)))) (first (rules_of shape t dims f))
  unfolding part_steps components_steps
  in_parts shape t f dims =
      first-++ (name_steps component_limit t ++ steps.◌>>=◌ (given (names component_limit t)) (parts_of f)) (rules_of shape t dims f)
      ∙ ap (λ y. or_else y (first (rules_of shape t dims f))) (first-++ (name_steps component_limit t) (steps.◌>>=◌ (given (names component_limit t)) (parts_of f)))

  -- what breaks first among the names breaks first of all
  module _ (shape t : Node Ends) (f : Word Ends) (dims : List ℕ) (x : Step Ends) (e : first (part_steps (layout_of layout) start shape t (value.given code) dims f) ≡ some x) where
    names-this : (y : Step Ends) → first (name_steps component_limit t) ≡ some y → y ≡ x
    unfolding or_else
    names-this y q =
        let w : some y ≡ some x = sym (in_parts shape t f dims ∙ ap (λ u. or_else (or_else u (first (steps.◌>>=◌ (given (names component_limit t)) (parts_of f)))) (first (rules_of shape t dims f))) q) ∙ e in
        cc

    names-are : x.number ≡ n → Stands 29 s b t → z ≡ shown (first (name_steps component_limit t))
    names-are i st = names-shown t st (λ y q. ap (λ u. u.number) (names-this y q) ∙ i)

  pub odd-names : (z.number ≡ 0 → ⊥) → (u : Spot) → u ≡ z → (r : Owned) → r ≡ owned u 0 → WithinIs layout format code s start a b n c r
  unfolding or_else
  odd-names m u same r k shape t f dims left st fm fits x e i j =
      let y = spot-alone (name_steps component_limit t) (names-plain component_limit t) z (names-are shape t f dims x e i st) m [] in
      let q : first (name_steps component_limit t) ≡ some y.this = sym (append-none (name_steps component_limit t)) ∙ y.is in
      let v : y.this ≡ x = names-this shape t f dims x e y.this q in
      k ∙ ap (λ (u : Spot). owned u 0) (same ∙ spot_is z y.this y.number y.place) ∙ owns y.this.number y.this refl y.this.place refl none y.owner ∙ ap owned_by v
    where
      append-none : (l : List (Step Ends)) → first (l ++ []) ≡ first l
      append-none l = first-++ l [] ∙ go (first l)
        where
          go : (o : Option (Step Ends)) → or_else o none ≡ o
          go none = refl
          go (some y) = refl

      spot_is : (z : Spot) (y : Step Ends) → y.number ≡ z.number → length y.place.start ≡ z.left → z ≡ spot y.number (length y.place.start)
      spot_is z y a b = rw (a, b) refl

  module _ (m : z.number ≡ 0) where
    nameless : (t : Node Ends) → z ≡ shown (first (name_steps component_limit t)) → first (name_steps component_limit t) ≡ none
    nameless t is = shown-none (name_steps component_limit t) z is (numbered (names-plain component_limit t)) m

    named : (t : Node Ends) → z ≡ shown (first (name_steps component_limit t)) → (ns : List (Named Ends)) × (names component_limit t ≡ pass ns)
    named t is = passes-so (name_steps component_limit t) (names component_limit t) (agree-names component_limit t) (nameless t is)

    past-names : (shape t : Node Ends) (f : Word Ends) (dims : List ℕ) (is : z ≡ shown (first (name_steps component_limit t)))
        → first (part_steps (layout_of layout) start shape t (value.given code) dims f) ≡ or_else (first (parts_of f (named t is).0)) (first (rules_of shape t dims f))
    unfolding or_else
    past-names shape t f dims is =
        in_parts shape t f dims
        ∙ ap (λ u. or_else (or_else u (first (steps.◌>>=◌ (given (names component_limit t)) (parts_of f)))) (first (rules_of shape t dims f))) (nameless t is)
        ∙ ap (λ u. or_else (first (steps.◌>>=◌ (given u) (parts_of f))) (first (rules_of shape t dims f))) (named t is).1

    -- a rule: its number is high
    rule-late : (shape t : Node Ends) (f : Word Ends) (dims : List ℕ) (x : Step Ends) → first (rules_of shape t dims f) ≡ some x
        → (cs : List (Component Ends)) × (components_of (layout_of layout) start (above f) t ≡ pass cs) × (first (rule_steps (layout_of layout) shape t dims f cs) ≡ some x) × (21 ≤ x.number) × (x.number ≤ 23)
    unfolding rule_steps
    rule-late shape t f dims x e = go (components_of (layout_of layout) start (above f) t) refl e
      where
        go : (k : Check (List (Component Ends))) → components_of (layout_of layout) start (above f) t ≡ k → first (steps.◌>>=◌ (given k) (rule_steps (layout_of layout) shape t dims f)) ≡ some x
            → (cs : List (Component Ends)) × (components_of (layout_of layout) start (above f) t ≡ pass cs) × (first (rule_steps (layout_of layout) shape t dims f cs) ≡ some x) × (21 ≤ x.number) × (x.number ≤ 23)
        go (refuse p q r) h e = absurd (let w : ◌≡◌ {A = ℕ} 0 1 = cc in omega arith)
        go (pass cs) h e = let y = each_first (rules.format-ruled (layout_of layout) (note_of shape) (note_of t) dims (all_of (names component_limit t)) (map part cs) f.letters) x e in (cs, h, e, y.late, y.most)

    pub in-component : (n ≡ 21 → ⊥) → (n ≡ 22 → ⊥) → (n ≡ 23 → ⊥) → (r : Owned) → InsideIs layout code (Here s from) start c r → WithinIs layout format code s start a b n c r
    unfolding or_else
    in-component no21 no22 no23 r h shape t f dims left st fm fits x e i j = go (first (parts_of f (named t is).0)) refl (sym (past-names shape t f dims is) ∙ e)
      where
        is : z ≡ shown (first (name_steps component_limit t))
        is = names-are shape t f dims x e i st

        go : (o : Option (Step Ends)) → first (parts_of f (named t is).0) ≡ o → or_else o (first (rules_of shape t dims f)) ≡ some x → r ≡ owned_by x
        go none k e = let y = rule-late shape t f dims x e in let u = y.3 in let w = y.4 in absurd (no23 (three n (omega (arith, u, i)) (omega (arith, w, i)) no21 no22))
        go (some y) k e =
            let v : y ≡ x = cc in
            let w = blamed (λ m. component_steps (layout_of layout) start (above f m.name.letters) m) 0 (named t is).0 x (k ∙ ap some v) in
            h t st.rest (there t st) (named t is).0 (named t is).1 w.it (subst (λ (q : ℕ). At q w.it 0 (named t is).0) j w.at)
            ∙ ap (λ u. owned (shown u) (length w.it.name.note.start)) (ap first (sym (given-alike layout code fits start f.letters w.it)) ∙ w.breaks)
            ∙ inner-owned w.inner x x.component w.it w.is

    by-rule : 21 ≤ n → (r : Owned) → RuledIs layout format code (Here s from) start a n c r → WithinIs layout format code s start a b n c r
    unfolding or_else
    by-rule l r h shape t f dims left st fm fits x e i j = go (first (parts_of f (named t is).0)) refl (sym (past-names shape t f dims is) ∙ e)
      where
        is : z ≡ shown (first (name_steps component_limit t))
        is = names-are shape t f dims x e i st

        go : (o : Option (Step Ends)) → first (parts_of f (named t is).0) ≡ o → or_else o (first (rules_of shape t dims f)) ≡ some x → r ≡ owned_by x
        go (some y) k e =
            let v : y ≡ x = cc in
            let w = (each_first (each-low (layout_of layout) start (λ m. above f m.name.letters) (named t is).0) x (k ∙ ap some v)).low in
            absurd (omega (arith, w, i, l))
        go none k e =
            let y = rule-late shape t f dims x e in
            h t f y.0 (record { rest = st.rest; reads = there t st; format-is = fm; fits = fits; pass-so = y.1 }) shape left dims x l (record { breaks = y.2; number = i; component = j })

    pub by-rank : n ≡ 21 → (y : Spot) → y ≡ spot 21 a → (r : Owned) → r ≡ owned y 0 → WithinIs layout format code s start a b n c r
    by-rank is y e r k = by-rule (omega (arith, is)) r (rank-shows layout format code (Here s from) start c r a y e k n is)

    pub by-role : n ≡ 22 → (r : Owned) → RoleIs layout format code (Here s from) start c r → WithinIs layout format code s start a b n c r
    by-role is r h = by-rule (omega (arith, is)) r (role-ruled layout format code (Here s from) start c r n is h a)

    pub by-length : n ≡ 23 → (r : Owned) → LengthIs layout (Here s from) c r → WithinIs layout format code s start a b n c r
    by-length is r h = by-rule (omega (arith, is)) r (length-shows layout format code (Here s from) start c r n (λ e. omega (arith, is, e)) (λ e. omega (arith, is, e)) h a)
