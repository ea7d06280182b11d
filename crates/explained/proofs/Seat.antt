-- Where a role's component stands: the index that the format's rules give is that of a name, and its length is a field of its map.
use Prim.Native.Nat.{ℕ, suc, ◌+◌}
use mathlib.Core.List.{List, [], ◌∷◌, map}
use mathlib.Core.Bool.{Bool, true, false, cond}
use mathlib.Core.Option.{Option, none, some}
use mathlib.Core.Path.{◌≡◌, refl, ap, sym, ◌∙◌, subst}
use native.Mathlib.Omega.{arith}
use lib.ListN.{get_or}
use Rattle.meaning.specs.Tree.{Node, Pair, note_of}
use Rattle.meaning.specs.Check.{Check, pass, refuse, ◌>>=◌, in_component, required, required_in, each}
use Rattle.meaning.specs.Text.{same}
use Rattle.meaning.specs.Limit.{component_limit}
use Rattle.meaning.specs.Model.{Named, Component, ComponentFields}
use Rattle.meaning.specs.Kind.{a_mapping}
use Rattle.meaning.specs.Layouts.{Layout, slot}
use Rattle.meaning.specs.Field.{field, fields, component_fields, names}
use Rattle.meaning.specs.Format.{Part, Role, role}
use Rattle.meaning.specs.Judge.{part, component, components_of}
use Rattle.meaning.proofs.Checks.{required-some, pass_same, passed}
use Rattle.explained.specs.Fields.{length_of}
use Rattle.explained.specs.Step.{given}
use Rattle.explained.specs.Order.{all_of, note_or, length_in, length_note}
use Rattle.explained.specs.Breaks.{At, first, later, Field, Under}
use Rattle.explained.proofs.Parts.{fields-pairs}

role-at : (n : List ℕ) (i : ℕ) (ps : List Part) (ρ : Role) → role n i ps ≡ pass ρ → At ρ.index ρ.part i ps
unfolding role
role-at n i [] ρ e = absurd (let z : ◌≡◌ {A = ℕ} 0 1 = cc in omega arith)
role-at n i (c ∷ cs) ρ e = go (same n c.called) e (role-at n (suc i) cs ρ)
  where
    go : (b : Bool) → cond b (pass (record { index = i; part = c })) (role n (suc i) cs) ≡ pass ρ → (role n (suc i) cs ≡ pass ρ → At ρ.index ρ.part (suc i) cs)
        → At ρ.index ρ.part i (c ∷ cs)
    go true e f = subst (λ (r : Role). At r.index r.part i (c ∷ cs)) (pass_same {a = record { index = i; part = c }} e) first
    go false e f = later (f e)

module _ {A B : Type 0} where
  record Before (g : A → B) (j i : ℕ) (l : List A) : Type 0 where
    it : A
    at : At j it i l

  before_of : (g : A → B) (j : ℕ) (b : B) (i : ℕ) (a : A) (l : List A) (c : B) (cs : List B)
      → (At j b (suc i) cs → Before g j (suc i) l) → At j b i (c ∷ cs) → Before g j i (a ∷ l)
  before_of g j b i a l c cs f first = record { it = a; at = first }
  before_of g j b i a l c cs f (later h) = let r = f h in record { it = r.it; at = later r.at }

  at_map_lem : (g : A → B) (j : ℕ) (b : B) (i : ℕ) (l : List A) → At j b i (map g l) → Before g j i l
  at_map_lem g j b i [] h = elim h [ ]
  at_map_lem g j b i (a ∷ l) h = before_of g j b i a l (g a) (map g l) (at_map_lem g j b (suc i) l) h

  record Source (g : ℕ → A → Check B) (j : ℕ) (b : B) (i : ℕ) (l : List A) : Type 0 where
    it : A
    at : At j it i l
    passed : g j it ≡ pass b

  source_of : (g : ℕ → A → Check B) (j : ℕ) (b : B) (i : ℕ) (a : A) (l : List A) (c : B) (cs : List B)
      → g i a ≡ pass c → (At j b (suc i) cs → Source g j b (suc i) l) → At j b i (c ∷ cs) → Source g j b i (a ∷ l)
  source_of g j b i a l c cs e f first = record { it = a; at = first; passed = e }
  source_of g j b i a l c cs e f (later h) = let r = f h in record { it = r.it; at = later r.at; passed = r.passed }

  no_source : (g : ℕ → A → Check B) (j : ℕ) (b : B) (i : ℕ) → At j b i [] → Source g j b i []
  no_source g j b i h = elim h [ ]

  each_at : (g : ℕ → A → Check B) (j : ℕ) (b : B) (i : ℕ) (l : List A) (bs : List B) → each g i l ≡ pass bs → At j b i bs → Source g j b i l
  each_at g j b i [] bs e h = no_source g j b i (subst (At j b i) (sym (pass_same e)) h)
  each_at g j b i (a ∷ l) bs e h =
      let x = passed (g i a) (λ c. each g (suc i) l >>= λ cs. pass (c ∷ cs)) bs e in
      let y = passed (each g (suc i) l) (λ cs. pass (x.value ∷ cs)) bs x.then in
      source_of g j b i a l x.value y.value x.is (each_at g j b (suc i) l y.value y.is)
      (subst (At j b i) (sym (pass_same y.then)) h)

  record Index (g : A → B) (j : ℕ) (a : A) (i : ℕ) (l : List A) : Type 0 where
    by : ℕ
    sum : j ≡ i + by
    got : (d : B) → get_or (map g l) by d ≡ g a

  at-index : (g : A → B) (j : ℕ) (a : A) (i : ℕ) (l : List A) → At j a i l → Index g j a i l
  at-index g j a i (b ∷ l) first = record { by = 0; sum = omega arith; got = λ d. refl }
  at-index g j a i (b ∷ l) (later h) = let r = at-index g j a (suc i) l h in record { by = suc r.by; sum = let s = r.sum in omega (arith, s); got = r.got }
  at-index g j a i [] x' = elim x' [ ]

  at-get_d : (g : A → B) (j : ℕ) (a : A) (l : List A) (d : B) → At j a 0 l → get_or (map g l) j d ≡ g a
  at-get_d g j a l d h = let r = at-index g j a 0 l h in let s : j ≡ r.by = (let z = r.sum in omega (arith, z)) in rw s (r.got d)

module _ (L : Layout) {P : Type 0} where
  record Long (n : Named P) : Type 0 where
    at : Node P
    of_length : Field n.value (length_of L) at

  component-length : (start : ℕ) (above : Option ℕ) (n : Named P) (c : Component P) → component L start above n ≡ pass c → Long n
  unfolding component component_fields
  component-length start above n c e =
      let f = passed (component_fields L.component n.value) _ c e in
      let g = passed (fields L.component n.value) (λ ps. pass (taken ps)) f.value f.is in
      let d = passed (required_in (slot 0 L.component) f.value.dtype) _ c f.then in
      let o = passed (required f.value.offset) _ c d.then in
      let l = passed (required f.value.length) _ c o.then in
      let h : field (length_of L) g.value ≡ some l.value = ap (λ (x : ComponentFields P). x.length) (pass_same g.then) ∙ required-some f.value.length l.value l.is in
      record { at = l.value; of_length = record { pairs = g.value; is_map = given-pass (a_mapping n.value) g.value (fields-pairs L.component n.value g.value g.is); value = h } }
    where
      taken : List (Pair P) → ComponentFields P
      taken ps = record {
        dtype = field (slot 0 L.component) ps;
        type = field (slot 1 L.component) ps;
        offset = field (slot 2 L.component) ps;
        length = field (slot 3 L.component) ps;
        uncompressed-length = field (slot 4 L.component) ps;
        encoding = field (slot 5 L.component) ps;
        digest = field (slot 6 L.component) ps;
      }

      given-pass : {A : Type 0} (m : Check A) (a : A) → given m ≡ some a → m ≡ pass a
      given-pass (pass b) a e = cc
      given-pass (refuse n o c) a e = cc

  length-note : (n : Named P) (l : Long n) → length_note L n ≡ note_of l.at
  unfolding length_note length_in note_or
  length-note n l = rw (l.of_length.is_map, l.of_length.value)

  -- the component of a role
  pub record Seat (cs : Node P) (j : ℕ) : Type 0 where
    pub named : Named P
    pub under : Under component_limit cs j named
    pub length : Node P
    pub of_length : Field named.value (length_of L) length
    pub called : get_or (map (λ n. some n.name) (all_of (names component_limit cs))) j none ≡ some named.name
    pub at_map : (d : P) → get_or (map (λ n. note_of n.value) (all_of (names component_limit cs))) j d ≡ note_of named.value
    pub at_length : (d : P) → get_or (map (length_note L) (all_of (names component_limit cs))) j d ≡ note_of length

  unplaced : (start j : ℕ) (n : Named P) (c : Component P) (m : Check (Component P)) → in_component j m ≡ pass c → m ≡ pass c
  unplaced start j n c (pass b) e = e
  unplaced start j n c (refuse x o k) e = cc

  pub seat : (start : ℕ) (above : List ℕ → Option ℕ) (cs : Node P) (judged : List (Component P)) (r : List ℕ) (ρ : Role) → components_of L start above cs ≡ pass judged → role r 0 (map part judged) ≡ pass ρ
      → Seat cs ρ.index
  unfolding components_of all_of
  seat start above cs judged r ρ e h =
      let b = passed (names component_limit cs) (λ ns. each (λ j c. in_component j (component L start (above c.name.letters) c)) 0 ns) judged e in
      let p = at_map_lem part ρ.index ρ.part 0 judged (role-at r 0 (map part judged) ρ h) in
      let s = each_at (λ j c. in_component j (component L start (above c.name.letters) c)) ρ.index p.it 0 b.value judged b.then p.at in
      let l = component-length start (above s.it.name.letters) s.it p.it (unplaced start ρ.index s.it p.it (component L start (above s.it.name.letters) s.it) s.passed) in
      record {
        named = s.it;
        under = record { every = b.value; sound = b.is; this = s.at };
        length = l.at;
        of_length = l.of_length;
        called = ap (λ x. get_or (map (λ n. some n.name) (all_of x)) ρ.index none) b.is ∙ at-get_d (λ n. some n.name) ρ.index s.it b.value none s.at;
        at_map = λ d. ap (λ x. get_or (map (λ n. note_of n.value) (all_of x)) ρ.index d) b.is ∙ at-get_d (λ n. note_of n.value) ρ.index s.it b.value d s.at;
        at_length = λ d. ap (λ x. get_or (map (length_note L) (all_of x)) ρ.index d) b.is ∙ at-get_d (length_note L) ρ.index s.it b.value d s.at ∙ length-note s.it l;
      }
