-- View, listing and what is held, from where an engine's rows stand.
use Prim.Native.Nat.{ℕ, ◌+◌, ◌-◌, ◌*◌}
use native.Mathlib.Omega.{arith}
use mathlib.Core.List.{List, [], ◌∷◌, ◌++◌}
use mathlib.Core.Bool.{Bool, true, false, cond}
use mathlib.Core.Path.{◌≡◌, refl, sym, ap, ap₂, ◌∙◌}
use lib.Dec.{leb}
use lib.ListN.{length, take, drop, get_or, replicate}
use borrow.Author.Rules.{part_to_end}
use Rattle.meaning.specs.Check.{Check, pass, refuse, ◌>>=◌, ◌>>◌, ◌unless◌}
use Rattle.meaning.specs.Refusal.{INDEX, ROOM}
use Rattle.meaning.specs.Read.{Span}
use Rattle.meaning.specs.View.{viewed}
use Rattle.view.specs.Extents as views
use Rattle.view.specs.declared.Extent.{Extent}
use Rattle.panel.specs.Lines as lines
use Rattle.panel.specs.ListedText as panels
use Rattle.panel.specs.declared.Listed.{Listed}
use Rattle.sharing.specs.declared.Held.{Held}
use Rattle.engines.specs.Runs.{number_of}
use Rattle.engines.specs.Shared.{Who, first, second, part_of, Engine, objects_of, components_of, Shared, own, opened}
use Rattle.engines.specs.Calls.{Call, holds, view, list, Said, has, range, text, place_of, holding, told, answered}
use Rattle.sharing.specs.EngineAnswers.{number, held_with, held, extent, listing, listed, text_after}
use Rattle.states.specs.Places.{standing}
use Rattle.states.specs.declared.Place.{Place}
use Rattle.states.specs.declared.Place.TheVariants.{Nowhere, Idle, Loaded}
use Rattle.engines.proofs.EachCall.{answered-is, part-opened}
use Rattle.states.proofs.Tested.{back_is}
use Rattle.states.proofs.Stands.{IdleAt, LoadedAt, idle-at, loaded_at, nowhere-at, rows-there, told-there, whole}

module _ (size engine : ℕ) (l : List ℕ) where
  -- the code asks with the whole list lent on
  pub asked : (x y : Place) → x ≡ standing size engine (take (length l - 0) (drop 0 l)) → x ≡ y → standing size engine l ≡ y
  asked x y e g = ap (standing size engine) (sym (part_to_end l 0)) ∙ sym e ∙ g

  idle-told : (free : ℕ) (h : IdleAt size engine l free) (call : Call) → answered size engine call l ≡ told size h.who (own h.who h.shared) (length h.shared.free) call
  idle-told free h call = ap (λ (n : ℕ). answered size n call l) h.number_is ∙ answered-is size h.who call l h.shared h.opens

  module _ (file : List ℕ) (index : ℕ) where
    pub nowhere-view : standing size engine l ≡ Nowhere → ◌≡◌ {A = Extent} (record { number = 26; offset = 0; length = 0 }) (extent (answered size engine (view file index) l))
    unfolding extent
    nowhere-view h = sym (ap extent (nowhere-at size l engine (view file index) h).answers)

    pub idle-view : (free : ℕ) → standing size engine l ≡ Idle free → ◌≡◌ {A = Extent} (record { number = 26; offset = 0; length = 0 }) (extent (answered size engine (view file index) l))
    unfolding extent told
    idle-view free h = let i = idle-at size l engine free h in sym (ap extent (idle-told free i (view file index)) ∙ (let z = i.idle in rw z refl))

    said : (k : Check Span) → views.told k ≡ extent (k >>= λ s. pass (range s))
    unfolding extent
    said (pass s) = refl
    said (refuse n o c) = refl

    pub loaded-view : (p q o c : ℕ) → standing size engine l ≡ Loaded p q o c
        → views.told (viewed file (take (p + q - p) (drop p l)) o c index) ≡ extent (answered size engine (view file index) l)
    unfolding told
    loaded-view p q o c h =
        let i = loaded_at size l engine p q o c h in
        let r = rows-there size engine l p q o c i in
        let a : Engine = own i.who i.shared in
        let v : viewed file (take (p + q - p) (drop p l)) o c index ≡ viewed file a.rows (objects_of a.state) (components_of a.state) index =
        ap (λ (t : List ℕ). viewed file t o c index) r ∙ ap₂ {A = ℕ} {B = ℕ} (λ x y. viewed file a.rows x y index) i.objects-is i.components-is in
        ap views.told v ∙ said (viewed file a.rows (objects_of a.state) (components_of a.state) index)
        ∙ sym (ap extent (told-there size engine l p q o c i (view file index) ∙ (let z = i.loaded in rw z refl)))

  module _ (file lent_text : List ℕ) where
    abbrev asks : Call
    asks = list file (length lent_text)

    abbrev Shows : Listed → List ℕ → Type 0
    Shows r after = (r ≡ listed (answered size engine asks l)) × (after ≡ text_after (answered size engine asks l) lent_text)

    pub nowhere-list : standing size engine l ≡ Nowhere → Shows (record { number = 26; length = 0 }) lent_text
    unfolding listed text_after number listing
    nowhere-list h = let z = (nowhere-at size l engine asks h).answers in (rw z refl, rw z refl)

    pub idle-list : (free : ℕ) → standing size engine l ≡ Idle free → Shows (record { number = 26; length = 0 }) lent_text
    unfolding listed text_after number listing told
    idle-list free h =
        let i = idle-at size l engine free h in
        let z : answered size engine asks l ≡ refuse INDEX 0 0 = idle-told free i asks ∙ (let y = i.idle in rw y refl) in
        (rw z refl, rw z refl)

    abbrev fitting : Check (List ℕ) → Check Said
    fitting k = k >>= λ t. (ROOM unless leb (length t) (length lent_text)) >> pass (text t)

    list-told : (k : Check (List ℕ)) → panels.told k (length lent_text) ≡ listed (fitting k)
    unfolding listed number listing panels.told
    list-told (refuse n o c) = refl
    list-told (pass t) = by (leb (length t) (length lent_text))
      where
        by : (b : Bool) → cond b (record { number = 0; length = length t }) (record { number = 24; length = 0 }) ≡ listed ((ROOM unless b) >> pass (text t))
        by true = refl
        by false = refl

    list-after : (k : Check (List ℕ)) → panels.text_after k lent_text ≡ text_after (fitting k) lent_text
    unfolding text_after listing panels.text_after
    list-after (refuse n o c) = refl
    list-after (pass t) = by (leb (length t) (length lent_text))
      where
        by : (b : Bool) → cond b (t ++ drop (length t) lent_text) lent_text ≡ text_after ((ROOM unless b) >> pass (text t)) lent_text
        by true = refl
        by false = refl

    pub loaded-list : (p q o c : ℕ) → standing size engine l ≡ Loaded p q o c → (r : Listed) (after : List ℕ)
        → r ≡ panels.told (lines.listed file (take (p + q - p) (drop p l)) o c) (length lent_text)
        → after ≡ panels.text_after (lines.listed file (take (p + q - p) (drop p l)) o c) lent_text → Shows r after
    unfolding told
    loaded-list p q o c h r after e f =
        let i = loaded_at size l engine p q o c h in
        let a : Engine = own i.who i.shared in
        let k : Check (List ℕ) = lines.listed file a.rows (objects_of a.state) (components_of a.state) in
        let v : lines.listed file (take (p + q - p) (drop p l)) o c ≡ k =
        ap (λ (t : List ℕ). lines.listed file t o c) (rows-there size engine l p q o c i)
        ∙ ap₂ {A = ℕ} {B = ℕ} (λ x y. lines.listed file a.rows x y) i.objects-is i.components-is in
        let w : answered size engine asks l ≡ fitting k = told-there size engine l p q o c i asks ∙ (let z = i.loaded in rw z refl) in (
          e ∙ ap (λ (x : Check (List ℕ)). panels.told x (length lent_text)) v ∙ list-told k ∙ ap listed (sym w),
          f ∙ ap (λ (x : Check (List ℕ)). panels.text_after x lent_text) v ∙ list-after k ∙ ap (λ (x : Check Said). text_after x lent_text) (sym w),
        )

  -- ---- what is held

  pub nowhere-holds : standing size engine l ≡ Nowhere → held_with 26 [] ≡ held (answered size engine holds l)
  unfolding held
  nowhere-holds h = sym (ap held (nowhere-at size l engine holds h).answers)

  pub idle-holds : (free : ℕ) → standing size engine l ≡ Idle free → held_with 0 [] ≡ held (answered size engine holds l)
  unfolding held held_with told holding
  idle-holds free h =
      let i = idle-at size l engine free h in
      let w : answered size engine holds l ≡ pass (has (replicate 7 0)) = idle-told free i holds ∙ (let z = i.idle in rw z refl) in
      sym (ap held w)

  state-there : (w : Who) (s : Shared) → length l ≡ size + 16 → opened size l ≡ pass s → engine ≡ number_of w → take 8 (drop (size + 8 * engine) l) ≡ (own w s).state
  unfolding part_of
  state-there first s k e n =
      let z : size + 8 * engine ≡ size = omega (arith, n) in
      ap (λ (i : ℕ). take 8 (drop i l)) z ∙ ap (λ (a : Engine). a.state) (part-opened size first l s e)
  state-there second s k e n =
      let z : size + 8 * engine ≡ size + 8 = omega (arith, n) in
      ap (λ (i : ℕ). take 8 (drop i l)) z ∙ sym (back_is size l k) ∙ ap (λ (a : Engine). a.state) (part-opened size second l s e)

  module _ (p q o c : ℕ) (h : standing size engine l ≡ Loaded p q o c) where
    abbrev at : LoadedAt size engine l p q o c
    at = loaded_at size l engine p q o c h

    held-so : (state : List ℕ) → state ≡ (own at.who at.shared).state → held_with 0 (p ∷ take 6 (drop 1 state)) ≡ held (answered size engine holds l)
    unfolding held told holding
    held-so state e =
        let a : Engine = own at.who at.shared in
        let w : answered size engine holds l ≡ pass (has (place_of size at.who a ∷ take 6 (drop 1 a.state))) = told-there size engine l p q o c at holds ∙ (let z = at.loaded in rw z refl) in
        ap₂ {A = ℕ} {B = List ℕ} (λ x y. held_with 0 (x ∷ take 6 (drop 1 y))) at.place_is e ∙ sym (ap held w)

    pub loaded-holds : (r : ℕ) → r ≡ size + 8 * engine → held_with 0 (p ∷ take 6 (drop 1 (take (r + 8 - r) (drop r l)))) ≡ held (answered size engine holds l)
    loaded-holds r e =
        let z : r + 8 - r ≡ 8 = omega arith in
        held-so (take (r + 8 - r) (drop r l))
        (ap₂ {A = ℕ} {B = ℕ} (λ i j. take i (drop j l)) z e ∙ state-there at.who at.shared (whole size l engine p q o c h) at.opens at.number_is)

pub held-is : (s : List ℕ) → length s ≡ 8 → (p : ℕ)
    → ◌≡◌ {A = Held} (record { number = 0; place = p; numbers = get_or s 1 0; objects = get_or s 2 0; components = get_or s 3 0; start = get_or s 4 0; attributes = get_or s 5 0; length = get_or s 6 0 }) (held_with 0 (p ∷ take 6 (drop 1 s)))
unfolding held_with
held-is (_ ∷ _ ∷ _ ∷ _ ∷ _ ∷ _ ∷ _ ∷ _) n p = refl
held-is [] n p = absurd (omega (arith, n))
held-is (_ ∷ []) n p = absurd (omega (arith, n))
held-is (_ ∷ _ ∷ []) n p = absurd (omega (arith, n))
held-is (_ ∷ _ ∷ _ ∷ []) n p = absurd (omega (arith, n))
held-is (_ ∷ _ ∷ _ ∷ _ ∷ []) n p = absurd (omega (arith, n))
held-is (_ ∷ _ ∷ _ ∷ _ ∷ _ ∷ []) n p = absurd (omega (arith, n))
held-is (_ ∷ _ ∷ _ ∷ _ ∷ _ ∷ _ ∷ []) n p = absurd (omega (arith, n))
