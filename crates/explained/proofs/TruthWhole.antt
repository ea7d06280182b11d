-- The format's rules, objects and the whole manifest: a check that is not right breaks there.
use Prim.Native.Nat.{ℕ, suc, ◌+◌, ◌*◌}
use mathlib.Core.List.{List, [], ◌∷◌, map}
use mathlib.Core.Bool.{Bool, true, false, cond, not, ◌&&◌}
use mathlib.Core.Option.{Option, none, some}
use mathlib.Core.Path.{◌≡◌, refl, ap, sym, ◌∙◌, subst}
use native.Mathlib.Omega.{arith}
use lib.ListN.{length, get_or}
use lib.Dec.{eqb, leb}
use Rattle.meaning.specs.Tree.{Node, Pair, note_of}
use Rattle.meaning.specs.Check.{pass, ◌>>=◌, ◌>>◌, ◌unless◌, optional, each}
use Rattle.meaning.specs.Text.{ascii, same, all}
use Rattle.meaning.specs.Refusal.{RANK, ROLE, LENGTH, COUNT}
use Rattle.meaning.specs.Limit.{object_limit, component_limit, rank_limit}
use Rattle.meaning.specs.Model.{Word, Named}
use Rattle.meaning.specs.Kind.{a_number, a_list, a_mapping, a_text}
use Rattle.meaning.specs.Layouts.{Layout}
use Rattle.meaning.specs.Field.{is_some, field, names}
use Rattle.meaning.specs.Types.{product}
use Rattle.meaning.specs.Format.{Part, Role, unit, role, plain, multiple, whole_of, whole}
use Rattle.meaning.specs.Judge.{inherited, a_dtype, part, shape_of, components_of}
use Rattle.meaning.proofs.SameText.{same-eq}
use Rattle.meaning.proofs.Checks.{passed_on, passed}
use Rattle.explained.specs.Step.{Step, passes, first}
use Rattle.explained.specs.Order.{missing, missing_in, all_of, length_note, of_role, role_steps, plain_steps, length_steps, dense_steps, csr_steps, coo_steps, group_steps, format_steps, object_steps, objects_steps, manifest_steps}
use Rattle.explained.specs.Fields
use Rattle.explained.specs.Fields.{known, dtype_on, attributes_on, version_of, objects_field, shape_field, format_of, components_field, Sided, on_component, on_object}
use Rattle.explained.specs.Lengths.{elements_fit, whole_fits, counted, indices_fit}
use Rattle.explained.specs.Breaks
use Rattle.explained.specs.Breaks.{Among, here, there, entry, entries, Field, Under, Holder, Ruled, Rule, roles, Breaks, Said}
use Rattle.explained.proofs.Truly.{Truly, nothing, truly-at, truly-then, truly-after, truly-some, truly-given, truly-each, truly-in_component, truly-in_object, truly-this}
use Rattle.explained.proofs.Truth.{a_text-word, found, truth-table, truth-text, truth-fields, truth-missing, truth-missing_in, truth-dtype, truth-names, truth-shape, truth-version, truth-components, Codes, of_component, of_object}
use Rattle.explained.proofs.Seat.{Seat, seat}
use Rattle.explained.proofs.Why.{first-why}

-- a role that is absent: no component is called so
no-role : (r : List ℕ) (i : ℕ) (ps : List Part) → passes (role r i ps) ≡ false → all (λ p. not (same r p.called)) ps ≡ true
unfolding role
no-role r i [] e = refl
no-role r i (p ∷ ps) e = go (same r p.called) e (no-role r (suc i) ps)
  where
    go : (b : Bool) → passes (cond b (pass (record { index = i; part = p })) (role r (suc i) ps)) ≡ false
        → (passes (role r (suc i) ps) ≡ false → all (λ p. not (same r p.called)) ps ≡ true) → (not b && all (λ p. not (same r p.called)) ps) ≡ true
    go true e f = cc
    go false e f = f e

truly-cond : {P : Type 0} {B : ℕ → ℕ → ℕ → Option (Word P) → Option (Word P) → P → Type 0} {s r : List (Step P)} (b : Bool) → (b ≡ true → Truly B s) → Truly B r → Truly B (cond b s r)
truly-cond true f g = f refl
truly-cond false f g = g

-- how many elements a role that is whole has
counted-whole : (r : Role) (n : Option ℕ) → whole r ≡ pass n → counted r.part (unit r.part) ≡ n
unfolding whole whole_of counted
counted-whole r n = go (unit r.part)
  where
    go : (u : Option ℕ) → whole_of r u ≡ pass n → counted r.part u ≡ n
    go none e = let h = passed_on (multiple r _) (pass none) n e in cc
    go (some u) e = let h = passed_on (multiple r u) (pass (some _)) n e in cc

-- where its dtype stands is where a component's code comes from
codes-of : (L : Layout) {P : Type 0} → Sided L → (m : Node P) (ps : List (Pair P)) (d : Option ℕ)
    → all (λ s. s.right) (missing_in (dtype_on L Fields.object) m (field (dtype_on L Fields.object) ps)) ≡ true → optional (a_dtype L) (field (dtype_on L Fields.object) ps) ≡ pass d
    → (f r : List ℕ) → Codes L (inherited f d r)
unfolding inherited field missing_in missing is_some
codes-of L (on_component {n} w y) m ps d g e f r = go d (ap (λ x. optional (a_dtype L) (field x ps)) (sym y) ∙ e)
  where
    go : (d : Option ℕ) → optional (a_dtype L) (field none ps) ≡ pass d → Codes L (inherited f d r)
    go none e = of_component w
    go (some c) e = absurd (let z : ◌≡◌ {A = ℕ} 0 1 = cc in omega arith)
codes-of L (on_object {n} w y x) m ps d g e f r =
    go (field (some n) ps) d (ap (λ k. all (λ s. s.right) (missing_in k m (field k ps))) (sym w) ∙ g) (ap (λ k. optional (a_dtype L) (field k ps)) (sym w) ∙ e)
  where
    go : (v : Option (Node _)) (d : Option ℕ) → all (λ s. s.right) (missing_in (some n) m v) ≡ true → optional (a_dtype L) v ≡ pass d → Codes L (inherited f d r)
    go v (some c) g e = of_object y x
    go none none g e = absurd (let z : ◌≡◌ {A = ℕ} 0 1 = cc in omega arith)
    go (some t) none g e = absurd (let b = passed (a_dtype L t) (λ k. pass (some k)) none e in let q = b.then in let z : ◌≡◌ {A = ℕ} 0 1 = cc in omega arith)

module _ (L : Layout) {P : Type 0} (start : ℕ) (t : Node P) {i : ℕ} (B : ℕ → ℕ → ℕ → Option (Word P) → Option (Word P) → P → Type 0)
    (up : (x : ℕ) (w : P) → Breaks L start t x i 0 w → B x 0 0 none none w) (cs : Node P)
    (upon : (x j : ℕ) (n : Named P) (w : P) → Under component_limit cs j n → Breaks L start t x i j w → B x 0 j none (some n.name) w)
    (shape : Node P) (s : List ℕ) (ps : List Part) where
  -- what breaks at a role's component, with its name
  at-seat : (x j : ℕ) (c : Seat L cs j) {w v : P} → w ≡ v → Breaks L start t x i j v
      → B x 0 j none (get_or (map (λ n. some n.name) (all_of (names component_limit cs))) j none) w
  at-seat x j c {w} {v} e b = rw (c.called, e) (upon x j c.named v c.under b)

  sits : {f : List ℕ} {ρ : Role} (r : List ℕ) → Ruled L start t i f s shape cs ps → role r 0 ps ≡ pass ρ → Seat L cs ρ.index
  sits {f} {ρ} r k e = seat L start (inherited f k.code) cs k.judged r ρ k.are_judged (ap (role r 0) k.parts ∙ e)

  truth-role : {f : List ℕ} {rs is : List (List ℕ)} (r : List ℕ) → Ruled L start t i f s shape cs ps → Among (f, rs, is) roles → Among r rs
      → Truly B (role_steps L (note_of shape) (note_of cs) s (all_of (names component_limit cs)) ps r)
  unfolding role_steps
  truth-role r k a b = truly-at ROLE (note_of cs) (passes (role r 0 ps)) λ e. up ROLE (note_of cs) (Breaks.absent k a b (no-role r 0 ps e))

  truth-plain : {f : List ℕ} {rs is : List (List ℕ)} (r : List ℕ) (ρ : Role) → Ruled L start t i f s shape cs ps → Among (f, rs, is) roles → Among r is → role r 0 ps ≡ pass ρ
      → Truly B (plain_steps L (note_of shape) (note_of cs) s (all_of (names component_limit cs)) ps ρ)
  unfolding plain_steps of_role
  truth-plain r ρ k a b e =
      truly-in_component ρ.index _
      (truly-at ROLE (get_or (map (λ n. note_of n.value) (all_of (names component_limit cs))) ρ.index (note_of cs)) (plain ρ.part) λ g.
      let x = sits r k e in
      at-seat ROLE ρ.index x (x.at_map (note_of cs)) (Breaks.index k a b e g x.under))

  truth-length : {f : List ℕ} (r : List ℕ) (ρ : Role) (b : Bool) → Ruled L start t i f s shape cs ps → role r 0 ps ≡ pass ρ → Rule s ps f ρ b
      → Truly B (length_steps L (note_of shape) (note_of cs) s (all_of (names component_limit cs)) ps ρ b)
  unfolding length_steps of_role
  truth-length {f} r ρ b k e q =
      truly-in_component ρ.index _
      (truly-at LENGTH (get_or (map (length_note L) (all_of (names component_limit cs))) ρ.index (note_of cs)) b λ g.
      let x = sits r k e in
      at-seat LENGTH ρ.index x (x.at_length (note_of cs)) (Breaks.length' k (subst (Rule s ps f ρ) g q) x.under x.of_length))

  truth-dense : Ruled L start t i (ascii "dense") s shape cs ps → Truly B (dense_steps L (note_of shape) (note_of cs) s (all_of (names component_limit cs)) ps)
  unfolding dense_steps roles
  truth-dense k =
      truly-then (truth-role (ascii "data") k here here)
      (truly-given (role (ascii "data") 0 ps) λ d e. truth-length (ascii "data") d (elements_fit d.part (product s) (unit d.part)) k e (Breaks.dense e))

  truth-csr : Ruled L start t i (ascii "sparse_csr") s shape cs ps → Truly B (csr_steps L (note_of shape) (note_of cs) s (all_of (names component_limit cs)) ps)
  unfolding csr_steps roles
  truth-csr k =
      truly-then (truly-at RANK (note_of shape) (eqb (length s) 2) λ g. up RANK (note_of shape) (Breaks.rank k g))
      (truly-then (truth-role (ascii "values") k (there here) here)
      (truly-given (role (ascii "values") 0 ps) λ v ev.
      truly-then (truth-role (ascii "indices") k (there here) (there here))
      (truly-given (role (ascii "indices") 0 ps) λ x ex.
      truly-then (truth-plain (ascii "indices") x k (there here) here ex)
      (truly-then (truth-role (ascii "indptr") k (there here) (there (there here)))
      (truly-given (role (ascii "indptr") 0 ps) λ y ey.
      truly-then (truth-plain (ascii "indptr") y k (there here) (there here) ey)
      (truly-then (truth-length (ascii "values") v (whole_fits v.part (unit v.part)) k ev (Breaks.csr_whole ev))
      (truly-given (whole v) λ n en.
      truly-then (truth-length (ascii "indices") x (indices_fit x.part 8 n) k ex (subst (λ m. Rule s ps (ascii "sparse_csr") x (indices_fit x.part 8 m)) (counted-whole v n en) (Breaks.csr_indices ev ex)))
      (truth-length (ascii "indptr") y (eqb y.part.size (8 * (get_or s 0 0 + 1))) k ey (Breaks.csr_indptr ey)))))))))

  truth-coo : Ruled L start t i (ascii "sparse_coo") s shape cs ps → Truly B (coo_steps L (note_of shape) (note_of cs) s (all_of (names component_limit cs)) ps)
  unfolding coo_steps roles
  truth-coo k =
      truly-then (truth-role (ascii "values") k (there (there here)) here)
      (truly-given (role (ascii "values") 0 ps) λ v ev.
      truly-then (truth-role (ascii "coords") k (there (there here)) (there here))
      (truly-given (role (ascii "coords") 0 ps) λ x ex.
      truly-then (truth-plain (ascii "coords") x k (there (there here)) here ex)
      (truly-then (truth-length (ascii "values") v (whole_fits v.part (unit v.part)) k ev (Breaks.coo_whole ev))
      (truly-given (whole v) λ n en.
      truth-length (ascii "coords") x (indices_fit x.part (8 * length s) n) k ex
      (subst (λ m. Rule s ps (ascii "sparse_coo") x (indices_fit x.part (8 * length s) m)) (counted-whole v n en) (Breaks.coo_coords ev ex))))))

  truth-group : Ruled L start t i (ascii "quantized_group") s shape cs ps → Truly B (group_steps L (note_of shape) (note_of cs) s (all_of (names component_limit cs)) ps)
  unfolding group_steps roles
  truth-group k =
      truly-then (truth-role (ascii "packed_weight") k (there (there (there here))) here)
      (truly-then (truth-role (ascii "scales") k (there (there (there here))) (there here))
      (truth-role (ascii "zeros") k (there (there (there here))) (there (there here))))

  truth-format : (f : List ℕ) → Ruled L start t i f s shape cs ps → Truly B (format_steps L (note_of shape) (note_of cs) s (all_of (names component_limit cs)) ps f)
  unfolding format_steps
  truth-format f k =
      truly-cond (same (ascii "dense") f) (λ e. truth-dense (as' (ascii "dense") e))
      (truly-cond (same (ascii "sparse_csr") f) (λ e. truth-csr (as' (ascii "sparse_csr") e))
      (truly-cond (same (ascii "sparse_coo") f) (λ e. truth-coo (as' (ascii "sparse_coo") e))
      (truly-cond (same (ascii "quantized_group") f) (λ e. truth-group (as' (ascii "quantized_group") e))
      nothing)))
    where
      as' : (g : List ℕ) → same g f ≡ true → Ruled L start t i g s shape cs ps
      as' g e = subst (λ x. Ruled L start t i x s shape cs ps) (sym (same-eq g f e)) k

module _ {P : Type 0} where
  record Shaped (v : Node P) (s : List ℕ) : Type 0 where
    dims : List (Node P)
    is_list : a_list v ≡ pass dims
    is_shape : each (λ k. a_number) 0 dims ≡ pass s

  shape_of-shaped : (v : Node P) (s : List ℕ) → shape_of v ≡ pass s → Shaped v s
  unfolding shape_of
  shape_of-shaped v s e =
      let a = passed (a_list v) (λ dims. each (λ i. a_number) 0 dims >>= λ s. COUNT unless leb (length s) rank_limit >> pass s) s e in
      let b = passed (each (λ i. a_number) 0 a.value) (λ s. COUNT unless leb (length s) rank_limit >> pass s) s a.then in
      record { dims = a.value; is_list = a.is; is_shape = b.is ∙ passed_on (COUNT unless leb (length b.value) rank_limit) (pass b.value) s b.then }

module _ (L : Layout) {P : Type 0} (start : ℕ) (t : Node P) {i : ℕ} {B : ℕ → ℕ → ℕ → Option (Word P) → Option (Word P) → P → Type 0} (n : Named P)
    (up : (x : ℕ) (w : P) → Breaks L start t x i 0 w → B x 0 0 none none w)
    (upon : (x j : ℕ) (cs : Node P) (c : Named P) (w : P) → Field n.value (components_field L) cs → Under component_limit cs j c → Breaks L start t x i j w
    → B x 0 j none (some c.name) w) where
  truth-object : Sided L → Holder L t Fields.object i 0 n.value → Truly B (object_steps L start n)
  unfolding object_steps entries
  truth-object z h =
      truly-then (truth-fields L start t up h)
      (truly-given (a_mapping n.value) λ ps a.
      truly-after (truth-missing_in L start t up (entry (dtype_on L Fields.object) Breaks.word (is_some (dtype_on L Fields.object)) false) here refl h a) λ there'.
      truly-then (truth-missing L start t up (entry (shape_field L) Breaks.list true false) (there here) refl h a)
      (truly-then (truth-missing L start t up (entry (format_of L) Breaks.word true false) (there (there here)) refl h a)
      (truly-then (truth-missing L start t up (entry (components_field L) Breaks.mapping true false) (there (there (there (there here)))) refl h a)
      (truly-some (field (shape_field L) ps) λ shape hs.
      truly-some (field (format_of L) ps) λ format hf.
      truly-some (field (components_field L) ps) λ components hc.
      truly-then (truly-some (field (dtype_on L Fields.object) ps) λ dtype hd. truth-dtype L start t up h (found (dtype_on L Fields.object) a hd))
      (truly-given (optional (a_dtype L) (field (dtype_on L Fields.object) ps)) λ d ed.
      truly-then (truth-shape L start t up h (found (shape_field L) a hs))
      (truly-given (shape_of shape) λ s es.
      truly-then (truth-text L start t up (Breaks.in_field (entry (format_of L) Breaks.word true false) (there (there here)) refl h (found (format_of L) a hf))
      (Breaks.of_format h (found (format_of L) a hf)))
      (truly-given (a_text format) λ f ef.
      truly-then (truly-some (field (attributes_on L Fields.object) ps) λ v e. truth-table L start t up
      (Breaks.in_field (entry (attributes_on L Fields.object) Breaks.mapping false false) (there (there (there here))) refl h (found (attributes_on L Fields.object) a e)))
      (truly-then (truth-components L start t up components (λ x j c w. upon x j components c w (found (components_field L) a hc)) (inherited f.letters d)
      (codes-of L z n.value ps d there' ed f.letters) h (found (components_field L) a hc))
      (truly-given (components_of L start (inherited f.letters d) components) λ cs ec.
      let sh = shape_of-shaped shape s es in
      truth-format L start t B up components (λ x j c w. upon x j components c w (found (components_field L) a hc)) shape s (map part cs) f.letters (record {
        whole = n.value;
        holds = h;
        word = f;
        format_at = format;
        of_format = found (format_of L) a hf;
        is_word = a_text-word format f ef;
        letters = refl;
        of_shape = found (shape_field L) a hs;
        dims = sh.dims;
        is_list = sh.is_list;
        is_shape = sh.is_shape;
        of_components = found (components_field L) a hc;
        fields = ps;
        is_map = a;
        code = d;
        of_code = ed;
        judged = cs;
        are_judged = ec;
        parts = refl;
      }))))))))))

module _ (L : Layout) {P : Type 0} (start : ℕ) (t : Node P) where
  at-root : (x : ℕ) (w : P) → Breaks L start t x 0 0 w → Said L start t x 0 0 none none w
  at-root x w b = record { breaks = b; called = Breaks.nobody }

  pub truth-manifest : Sided L → Truly (Said L start t) (manifest_steps L start t)
  unfolding manifest_steps objects_steps entries
  truth-manifest z =
      truly-then (truth-fields L start t at-root Breaks.the_root)
      (truly-given (a_mapping t) λ ps a.
      truly-then (truth-missing L start t at-root (entry (version_of L) Breaks.word true false) here refl Breaks.the_root a)
      (truly-some (field (version_of L) ps) λ version hv.
      truly-then (truth-version L start t at-root (found (version_of L) a hv))
      (truly-then (truly-some (field (attributes_on L Fields.root) ps) λ v e. truth-table L start t at-root
      (Breaks.in_field (entry (attributes_on L Fields.root) Breaks.mapping false false) (there here) refl Breaks.the_root (found (attributes_on L Fields.root) a e)))
      (truly-then (truth-missing L start t at-root (entry (objects_field L) Breaks.mapping true false) (there (there here)) refl Breaks.the_root a)
      (truly-some (field (objects_field L) ps) λ objects ho.
      truly-then (truth-names L start t at-root (Breaks.of_objects (found (objects_field L) a ho)))
      (truly-given (names object_limit objects) λ ns e.
      truly-each 0 ns λ i n at. let f = found (objects_field L) a ho in let u : Under object_limit objects i n = record { every = ns; sound = e; this = at } in
      truly-in_object i (some n.name)
      (truth-object L start t n (λ x w b. record { breaks = b; called = Breaks.of_object f u }) (λ x j cs c w g v b. record { breaks = b; called = Breaks.of_component f u g v }) z
      (Breaks.an_object f u))))))))

  -- the first check of a manifest that is not right breaks there
  pub first-breaks : Sided L → (s : Step P) → first (manifest_steps L start t) ≡ some s → Said L start t s.number s.object s.component s.object_name s.component_name s.place
  first-breaks z s e =
      let w = first-why (manifest_steps L start t) s e in
      truly-this w.before w.after s (subst (Truly (Said L start t)) w.split (truth-manifest z)) w.earlier w.breaks
