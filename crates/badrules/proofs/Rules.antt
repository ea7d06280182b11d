-- What every check of a format's rules shows: RANK the shape, LENGTH the length of the role's component.
use Prim.Native.Nat.{ℕ, suc, ◌+◌, ◌≤◌, ◌<◌}
use mathlib.Core.List.{List, [], ◌∷◌, map}
use mathlib.Core.Bool.{Bool, true, false, cond}
use mathlib.Core.Option.{Option, none, some}
use mathlib.Core.Path.{◌≡◌, refl, ap}
use native.Mathlib.Omega.{arith}
use lib.ListN.{length, get_or}
use Rattle.meaning.specs.Text.{ascii, same}
use Rattle.meaning.specs.Check.{Check, pass, refuse}
use Rattle.meaning.specs.Model.{Word, Named}
use Rattle.meaning.specs.Layouts.{Layout}
use Rattle.meaning.specs.Format.{Part, Role, role, whole}
use Rattle.explained.specs.Step as steps
use Rattle.explained.specs.Step.{Step, given}
use Rattle.explained.specs.Order.{length_note, of_role, role_steps, plain_steps, length_steps, dense_steps, csr_steps, coo_steps, group_steps, format_steps}
use Rattle.badfields.proofs.Firsts.{Each, no_more, and_so, each-++, each-found}

-- a role is filled by one of the components
role-from : (n : List ℕ) (i : ℕ) (cs : List Part) (r : Role) → role n i cs ≡ pass r → r.index < length cs + i
unfolding role
role-from n i [] r e = absurd (let z : ◌≡◌ {A = ℕ} 0 1 = cc in omega arith)
role-from n i (c ∷ cs) r e = go (same n c.called) e (role-from n (suc i) cs r)
  where
    go : (b : Bool) → cond b (pass (record { index = i; part = c })) (role n (suc i) cs) ≡ pass r → (role n (suc i) cs ≡ pass r → r.index < length cs + suc i) → r.index < suc (length cs) + i
    go true e h = let z : record { index = i; part = c } ≡ r = cc in let y : i ≡ r.index = ap (λ (x : Role). x.index) z in omega (arith, y)
    go false e h = let y = h e in omega (arith, y)

pub role-within : (n : List ℕ) (cs : List Part) (r : Role) → role n 0 cs ≡ pass r → r.index < length cs
role-within n cs r e = let h = role-from n 0 cs r e in omega (arith, h)

-- what is asked of a role that is there
each-asked : {P : Type 0} {Q : Step P → Type 0} (n : List ℕ) (cs : List Part) (f : Role → List (Step P)) → ((r : Role) → r.index < length cs → Each Q (f r)) → Each Q (steps.◌>>=◌ (given (role n 0 cs)) f)
each-asked {P} {Q} n cs f h = go (role n 0 cs) refl
  where
    go : (c : Check Role) → role n 0 cs ≡ c → Each Q (steps.◌>>=◌ (given c) f)
    go (pass r) e = h r (role-within n cs r e)
    go (refuse m i j) e = no_more

module _ {P : Type 0} (L : Layout) (shape_note map_note : P) (shape : List ℕ) (ns : List (Named P)) (cs : List Part) where
  -- the name of the component j
  abbrev pub name_at : ℕ → Option (Word P)
  name_at j = get_or (map (λ n. some n.name) ns) j none

  pub record Ruled (x : Step P) : Type 0 where
    pub late : 21 ≤ x.number
    pub most : x.number ≤ 23
    pub rank : x.number ≡ 21 → (x.place ≡ shape_note) × (x.component_name ≡ none)
    pub length : x.number ≡ 23 → (x.place ≡ get_or (map (length_note L) ns) x.component map_note) × (x.component_name ≡ name_at x.component) × (x.component < length cs)

  of-role : (x : Step P) → x.number ≡ 22 → Ruled x
  of-role x e = record { late = omega (arith, e); most = omega (arith, e); rank = λ f. absurd (omega (arith, e, f)); length = λ f. absurd (omega (arith, e, f)) }

  of_length : (x : Step P) → x.number ≡ 23 → (x.place ≡ get_or (map (length_note L) ns) x.component map_note) × (x.component_name ≡ name_at x.component) × (x.component < length cs) → Ruled x
  of_length x e h = record { late = omega (arith, e); most = omega (arith, e); rank = λ f. absurd (omega (arith, e, f)); length = λ f. h }

  of-rank : (x : Step P) → x.number ≡ 21 → (x.place ≡ shape_note) × (x.component_name ≡ none) → Ruled x
  of-rank x e h = record { late = omega (arith, e); most = omega (arith, e); rank = λ f. h; length = λ f. absurd (omega (arith, e, f)) }

  role-ruled : (n : List ℕ) → Each Ruled (role_steps L shape_note map_note shape ns cs n)
  unfolding role_steps
  role-ruled n = and_so (of-role _ refl) no_more

  plain-ruled : (r : Role) → Each Ruled (plain_steps L shape_note map_note shape ns cs r)
  unfolding plain_steps of_role
  plain-ruled r = and_so (of-role _ refl) no_more

  length-ruled : (r : Role) (b : Bool) → r.index < length cs → Each Ruled (length_steps L shape_note map_note shape ns cs r b)
  unfolding length_steps of_role
  length-ruled r b l = and_so (of_length _ refl (refl, refl, l)) no_more

  dense-ruled : Each Ruled (dense_steps L shape_note map_note shape ns cs)
  unfolding dense_steps
  dense-ruled = each-++ (role-ruled (ascii "data")) (each-asked (ascii "data") cs _ λ d d-in. length-ruled d _ d-in)

  csr-ruled : Each Ruled (csr_steps L shape_note map_note shape ns cs)
  unfolding csr_steps
  csr-ruled =
      each-++ (and_so (of-rank _ refl (refl, refl)) no_more)
      (each-++ (role-ruled (ascii "values")) (each-asked (ascii "values") cs _ λ values values-in.
      each-++ (role-ruled (ascii "indices")) (each-asked (ascii "indices") cs _ λ indices indices-in.
      each-++ (plain-ruled indices)
      (each-++ (role-ruled (ascii "indptr")) (each-asked (ascii "indptr") cs _ λ indptr indptr-in.
      each-++ (plain-ruled indptr)
      (each-++ (length-ruled values _ values-in) (each-found (given (whole values)) _ λ n.
      each-++ (length-ruled indices _ indices-in) (length-ruled indptr _ indptr-in))))))))

  coo-ruled : Each Ruled (coo_steps L shape_note map_note shape ns cs)
  unfolding coo_steps
  coo-ruled =
      each-++ (role-ruled (ascii "values")) (each-asked (ascii "values") cs _ λ values values-in.
      each-++ (role-ruled (ascii "coords")) (each-asked (ascii "coords") cs _ λ coords coords-in.
      each-++ (plain-ruled coords)
      (each-++ (length-ruled values _ values-in) (each-found (given (whole values)) _ λ n. length-ruled coords _ coords-in))))

  group-ruled : Each Ruled (group_steps L shape_note map_note shape ns cs)
  unfolding group_steps
  group-ruled = each-++ (role-ruled (ascii "packed_weight")) (each-++ (role-ruled (ascii "scales")) (role-ruled (ascii "zeros")))

  either : (b : Bool) {s r : List (Step P)} → Each Ruled s → Each Ruled r → Each Ruled (cond b s r)
  either true h k = h
  either false h k = k

  pub format-ruled : (f : List ℕ) → Each Ruled (format_steps L shape_note map_note shape ns cs f)
  unfolding format_steps
  format-ruled f =
      either (same (ascii "dense") f) dense-ruled (either (same (ascii "sparse_csr") f) csr-ruled
      (either (same (ascii "sparse_coo") f) coo-ruled (either (same (ascii "quantized_group") f) group-ruled no_more)))
