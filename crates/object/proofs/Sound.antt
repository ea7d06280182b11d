-- The judgement of an object that has all it needs, from its pieces, a branch each.
use mathlib.Core.Path.{◌≡◌, refl, sym, ap, ◌∙◌, subst}
use mathlib.Core.List.{List, map}
use mathlib.Core.Option.{Option, none, some}
use mathlib.Core.Bool.{Bool, true, false, cond}
use Prim.Native.Nat.{ℕ, ◌-◌, ◌≤◌, ◌<◌}
use native.Mathlib.Omega.{arith}
use lib.ListN.{length, take, drop, get_or}
use lib.Seq.{length-take-le}
use lib.Dec.{ltb}
use borrow.Author.Tests.{le-ltb, ltb-true, ltb-false}
use borrow.Author.Rules.{part_to_end}
use Rattle.meaning.specs.Check.{Check, pass, refuse, ◌>>=◌, ◌>>◌, optional}
use Rattle.meaning.specs.Notes.{map_check}
use Rattle.meaning.specs.Model.{Object}
use Rattle.meaning.specs.Format.{format_rules}
use Rattle.meaning.specs.Judge.{inherited, a_dtype, shape_of, components_of, part}
use Rattle.meaning.specs.Layouts.{layout_of}
use Rattle.meaning.proofs.Checks.{pass_same}
use Rattle.walk.specs.Reading.{Ends, Reads}
use Rattle.fields.proofs.Texts.{Here}
use Rattle.shape.specs.Shape.{ShapeIs}
use Rattle.table.specs.Given.{offered}
use Rattle.components.specs.Firsts.{FoundIs, ComponentsAre}
use Rattle.component.specs.Value.{given}
use Rattle.component.proofs.Pieces.{refused-so, Passed, passed-so}
use Rattle.object.specs.declared.judge.Measured.{Measured}
use Rattle.object.specs.Place.{tensored, ShapeAt, TensorAt}
use Rattle.object.specs.Verdict.{described, code_of, DescribedAt, ruled, RuledIs, measured, Fields, Standing, shaped, sound, Says, LateIs, ShapedIs, SoundIs}
use Rattle.std.specs.Prelude.{Ok, Err, Result}
use Rattle.numbers.specs.declared.refusal.Refusal.{Refusal}
use Rattle.numbers.specs.declared.fault.ObjectFault.{ObjectFault}
use Rattle.numbers.specs.Numbered.{number_of}
use Rattle.numbers.specs.Answered.{answered}

measured-ruled : (k : Check (Unit {0})) (o : Object Ends) (m rank : ℕ) → m ≡ length o.components → rank ≡ length o.shape → ruled k m rank ≡ measured (k >> pass o)
measured-ruled (pass v) o m rank e f = rw (e, f) refl
measured-ruled (refuse n i j) o m rank e f = refl

-- ---------------------------------------------------------------- components that waited for their tensor's dtype

module _ (layout format code : ℕ) (s : List ℕ) (start left : ℕ) (found : Result ℕ ObjectFault) (rows : List ℕ) where
  pub late-now : layout ≡ 1 → (at : ℕ) → at ≡ length s - left → (found' : Result ℕ ObjectFault) (rows' : List ℕ) → ComponentsAre (offered layout format code) (Here s at) start found' rows'
      → LateIs layout format code s start left found rows found' rows'
  late-now e at is found' rows' h x stands says plain f fm has =
      h x stands.rest (subst (λ u. Reads 29 u x stands.rest) (sym (part_to_end s at ∙ ap (λ (i : ℕ). drop i s) is)) stands.reads) f fm has

  pub as-found : (layout ≡ 1 → ⊥) → LateIs layout format code s start left found rows found rows
  unfolding given inherited
  as-found e x stands says plain f fm has = rw (le-ltb code 13 (plain e)) (says e)

-- ---------------------------------------------------------------- from the shape on

module _ (layout d : ℕ) (s : List ℕ) (start : ℕ) (p : List ℕ) (found : Result ℕ ObjectFault) (rows dims : List ℕ) (r₁ : Result ℕ Refusal) (h₁ : ShapeAt (Here s 0) (get_or p 1 0) dims r₁) where
  shape_at : (q : Result ℕ Refusal) → r₁ ≡ q → ShapeAt s (get_or p 1 0) dims q
  shape_at q e = subst (λ u. ShapeAt u (get_or p 1 0) dims q) (part_to_end s 0) (rw e at h₁)

  pub no-shape : (n : Refusal) → r₁ ≡ Err n → (q : Result Measured ObjectFault) → q ≡ Err (record { refusal = n; component = 0 }) → ShapedIs layout d s start p found rows q
  unfolding shaped
  no-shape n e q is-q f x held has plain w =
      rw is-q (rw ((shape_at (Err n) e).items f.shape x.shape) refl)

  module _ (rank : ℕ) (e₁ : r₁ ≡ Ok rank) (r₂ : Result ℕ Refusal) (h₂ : DescribedAt (Here s 0) (get_or p 2 0) (get_or p 3 0) r₂) where
    ranked : (f : Fields) → Standing layout s p f → ShapeIs dims (Ok rank) (shape_of f.shape)
    ranked f x = (shape_at (Ok rank) e₁).items f.shape x.shape

    described-as : (q : Result ℕ Refusal) → r₂ ≡ q → (f : Fields) → Standing layout s p f → map_check code_of (described f.format f.attributes) ≡ answered q
    described-as q e f x = subst (λ u. DescribedAt u (get_or p 2 0) (get_or p 3 0) q) (part_to_end s 0) (rw e at h₂) 28 f.format f.attributes x.format x.attributes

    pub no-description : (n : Refusal) → r₂ ≡ Err n → (q : Result Measured ObjectFault) → q ≡ Err (record { refusal = n; component = 0 }) → ShapedIs layout d s start p found rows q
    unfolding shaped
    no-description n e q is-q f x held has plain w =
        rw is-q (rw (ranked f x).0 (rw (refused-so code_of (described f.format f.attributes) (number_of n) (described-as (Err n) e f x)) refl))

    module _ (code : ℕ) (e₂ : r₂ ≡ Ok code) (late : Result ℕ ObjectFault) (rows' : List ℕ) (h₃ : LateIs layout code d (Here s 0) start (get_or p 4 0) found rows late rows') where
      has-description : (f : Fields) → Standing layout s p f → Passed code_of (described f.format f.attributes) code
      has-description f x = passed-so code_of (described f.format f.attributes) code (described-as (Ok code) e₂ f x)

      found-so : (q : Result ℕ ObjectFault) → late ≡ q → (f : Fields) (x : Standing layout s p f) → Says layout start f.components (found, rows) → (layout ≡ 1 → d < 13) → ((layout ≡ 1 → ⊥) → 13 ≤ d)
          → FoundIs (components_of (layout_of layout) start (inherited (has-description f x).value.format.letters (given d)) f.components) q rows'
      found-so q e f x held has plain =
          let y = has-description f x in
          subst (λ (u : Result ℕ ObjectFault). FoundIs (components_of (layout_of layout) start (inherited (has-description f x).value.format.letters (given d)) f.components) u rows') e
          (subst (λ u. LateIs layout code d u start (get_or p 4 0) found rows late rows') (part_to_end s 0) h₃ f.components x.components held plain y.value.format.letters (sym y.shown) has)

      pub no-components : (n : ObjectFault) → late ≡ Err n → (q : Result Measured ObjectFault) → q ≡ Err n → ShapedIs layout d s start p found rows q
      unfolding shaped
      no-components n e q is-q f x held has plain w = rw is-q (rw (ranked f x).0 (rw (has-description f x).is (rw (found-so (Err n) e f x held has plain).1 refl)))

      pub by-rules : (m : ℕ) → late ≡ Ok m → (r : Result Measured ObjectFault) → RuledIs code (Here dims 0) rank (Here rows' 0) m r → ShapedIs layout d s start p found rows r
      unfolding shaped
      by-rules m e r is f x held has plain w =
          let y = has-description f x in
          let z = found-so (Ok m) e f x held has plain in
          let a = ranked f x in
          let b = h₁.room in
          let k = subst (λ u. RuledIs code dims rank u m r) (part_to_end rows' 0) (subst (λ u. RuledIs code u rank (Here rows' 0) m r) (part_to_end dims 0) is) y.value.format.letters (map part z.0) (sym y.shown) (let l = a.1 in omega arith) z.3 z.4 in
          rw a.0 (rw y.is (rw z.1 (k ∙ measured-ruled (format_rules y.value.format.letters (take rank dims) (map part z.0))
          (record { name = w; shape = take rank dims; format = y.value.format; attributes = y.value.attributes; components = z.0 }) m rank z.2 (sym (length-take-le rank dims (let l = a.1 in omega arith))))))

-- ---------------------------------------------------------------- from the dtype on

module _ (layout : ℕ) (s : List ℕ) (start : ℕ) (p : List ℕ) (found : Result ℕ ObjectFault) (rows : List ℕ) (r₁ : Result ℕ Refusal) (h₁ : TensorAt (layout_of layout) (Here s 0) (get_or p 0 0) r₁) where
  tensor : (q : Result ℕ Refusal) → r₁ ≡ q → (f : Fields) → Standing layout s p f → optional (a_dtype (layout_of layout)) f.dtype ≡ tensored q
  tensor q e f x = subst (λ u. TensorAt (layout_of layout) u (get_or p 0 0) q) (part_to_end s 0) (rw e at h₁) 28 f.dtype x.dtype

  pub no-tensor : (n : Refusal) → r₁ ≡ Err n → (q : Result Measured ObjectFault) → q ≡ Err (record { refusal = n; component = 0 }) → SoundIs layout s start p found rows q
  unfolding sound
  no-tensor n e q is-q f x held w =
      rw is-q (rw (tensor (Err n) e f x) refl)

  -- what a check of an option passes is there exactly if the option is
  some-given : {A : Type 0} (F : A → Check ℕ) (o : Option A) (d : ℕ) → optional F o ≡ pass (given d) → (o ≡ none → ⊥) → d < 13
  unfolding given
  some-given F none d e n = absurd (n refl)
  some-given F (some a) d e n = by (F a) e (ltb d 13) refl
    where
      by : (k : Check ℕ) → (k >>= λ b. pass (some b)) ≡ pass (cond (ltb d 13) (some d) none) → (x : Bool) → ltb d 13 ≡ x → d < 13
      by k g true h = ltb-true d 13 h
      by (pass b) g false h = absurd (let z : some b ≡ none = pass_same (g ∙ (rw h refl)) in let y : ◌≡◌ {A = ℕ} 0 1 = cc in omega arith)
      by (refuse m i j) g false h = absurd (let y : ◌≡◌ {A = ℕ} 0 1 = cc in omega arith)

  none-given : {A : Type 0} (F : A → Check ℕ) (o : Option A) (d : ℕ) → optional F o ≡ pass (given d) → o ≡ none → 13 ≤ d
  unfolding given
  none-given F o d e n = by (ltb d 13) refl (sym (ap (optional F) n) ∙ e)
    where
      by : (x : Bool) → ltb d 13 ≡ x → pass none ≡ pass (cond (ltb d 13) (some d) none) → 13 ≤ d
      by true h g = absurd (let z : ◌≡◌ {A = Option ℕ} none (some d) = pass_same (g ∙ (rw h refl)) in let y : ◌≡◌ {A = ℕ} 0 1 = cc in omega arith)
      by false h g = ltb-false d 13 h

  pub as-shaped : (d : ℕ) → r₁ ≡ Ok d → (r : Result Measured ObjectFault) → ShapedIs layout d (Here s 0) start (Here p 0) found rows r → SoundIs layout s start p found rows r
  unfolding sound
  as-shaped d e r h f x held w =
      let t = tensor (Ok d) e f x in
      let y : ShapedIs layout d s start p found rows r =
      subst (λ u. ShapedIs layout d s start u found rows r) (part_to_end p 0) (subst (λ u. ShapedIs layout d u start (Here p 0) found rows r) (part_to_end s 0) h) in
      rw t (y f x held (λ o. some-given (a_dtype (layout_of layout)) f.dtype d t (x.tensor o)) (λ o. none-given (a_dtype (layout_of layout)) f.dtype d t (x.plain o)) w)
