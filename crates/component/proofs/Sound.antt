-- The judgement of a component that has all it needs, from its pieces, a branch each.
use mathlib.Core.Path.{◌≡◌, refl, sym, ap, ◌∙◌, subst}
use mathlib.Core.List.{List}
use mathlib.Core.Option.{Option}
use Prim.Native.Nat.{ℕ}
use lib.ListN.{get_or}
use borrow.Author.Rules.{part_to_end}
use Rattle.meaning.specs.Check.{Check, pass, refuse, ◌>>◌}
use Rattle.meaning.specs.Notes.{map_check}
use Rattle.meaning.specs.Model.{Component}
use Rattle.meaning.specs.Layouts.{Layout}
use Rattle.lengths.specs.Place.{place_rule}
use Rattle.walk.specs.Reading.{Ends}
use Rattle.fields.proofs.Texts.{Here}
use Rattle.component.specs.declared.Judged.{Judged}
use Rattle.component.specs.declared.judge.Stored.{Stored}
use Rattle.component.specs.declared.judge.Stretch.{Stretch}
use Rattle.numbers.specs.Numbered.{number_of}
use Rattle.numbers.specs.Answered.{answered}
use Rattle.component.specs.Value.{left_word, place_of}
use Rattle.component.specs.Verdict.{storage, places_of, stored, StorageAt, extent, reached, ExtentAt, extras, ExtrasAt, judged, unless_no, judged_place, Fields, Found, sound, SoundIs}
use Rattle.component.proofs.Pieces.{refused-so, Passed, passed-so}
use Rattle.std.specs.Prelude.{Ok, Err, Result}
use Rattle.numbers.specs.declared.refusal.Refusal.{Refusal}

judged-placed : (k : Check (Unit {0})) (c : Component Ends) (j : Judged) → judged (pass c) ≡ pass j → unless_no k j ≡ judged (k >> pass c)
judged-placed (pass v) c j e = sym e
judged-placed (refuse n i o) c j e = refl

module _ (L : Layout) (above : Option ℕ) (s : List ℕ) (start : ℕ) (p : List ℕ) (r₁ : Result Stored Refusal) (h₁ : StorageAt L above (Here s 0) (get_or p 0 0) (get_or p 1 0) r₁) where
  module _ (d : ℕ) (f : Fields) (x : Found d s p f) where
    storage-is : (q : Result Stored Refusal) → r₁ ≡ q → map_check places_of (storage L above f.dtype f.type) ≡ stored q
    storage-is q e = subst (λ u. StorageAt L above u (get_or p 0 0) (get_or p 1 0) q) (part_to_end s 0) (rw e at h₁) d f.dtype f.type x.dtype x.type

  pub no-storage : (n : Refusal) → r₁ ≡ Err n → (q : Result Judged Refusal) → q ≡ Err n → SoundIs L above s start p q
  unfolding sound
  no-storage n e q is-q d f x w v =
      rw is-q (rw (refused-so places_of (storage L above f.dtype f.type) (number_of n) (storage-is d f x (Err n) e)) refl)

  module _ (st : Stored) (e₁ : r₁ ≡ Ok st) (r₂ : Result Stretch Refusal) (h₂ : ExtentAt (Here s 0) (get_or p 2 0) (get_or p 3 0) r₂) where
    module _ (d : ℕ) (f : Fields) (x : Found d s p f) where
      has-storage : Passed places_of (storage L above f.dtype f.type) (st.code, st.kind)
      has-storage = passed-so places_of (storage L above f.dtype f.type) (st.code, st.kind) (storage-is d f x (Ok st) e₁)

      extent-is : (q : Result Stretch Refusal) → r₂ ≡ q → extent f.offset f.length ≡ reached q
      extent-is q e = subst (λ u. ExtentAt u (get_or p 2 0) (get_or p 3 0) q) (part_to_end s 0) (rw e at h₂) d f.offset f.length x.offset x.length

    pub no-extent : (n : Refusal) → r₂ ≡ Err n → (q : Result Judged Refusal) → q ≡ Err n → SoundIs L above s start p q
    unfolding sound
    no-extent n e q is-q d f x w v =
        rw is-q (rw (has-storage d f x).is (rw (extent-is d f x (Err n) e) refl))

    module _ (sp : Stretch) (e₂ : r₂ ≡ Ok sp) (r₃ : Result ℕ Refusal) (h₃ : ExtrasAt (Here s 0) (get_or p 4 0) (get_or p 5 0) (get_or p 6 0) r₃) where
      extras-are : (d : ℕ) (f : Fields) → Found d s p f → (q : Result ℕ Refusal) → r₃ ≡ q → place_of (extras f.unpacked f.encoding f.digest) ≡ answered q
      extras-are d f x q e =
          subst (λ u. ExtrasAt u (get_or p 4 0) (get_or p 5 0) (get_or p 6 0) q) (part_to_end s 0) (rw e at h₃) d f.unpacked f.encoding f.digest x.unpacked x.encoding x.digest

      pub no-extras : (n : Refusal) → r₃ ≡ Err n → (q : Result Judged Refusal) → q ≡ Err n → SoundIs L above s start p q
      unfolding sound
      no-extras n e q is-q d f x w v =
          rw is-q (rw (has-storage d f x).is (rw (extent-is d f x (Ok sp) e₂) (rw (refused-so left_word (extras f.unpacked f.encoding f.digest) (number_of n) (extras-are d f x (Err n) e)) refl)))

      pub all_placed : (g : ℕ) → r₃ ≡ Ok g → (r : Result Judged Refusal) → answered r ≡ judged_place start st sp g → SoundIs L above s start p r
      unfolding sound
      all_placed g e r is d f x w v =
          let y = has-storage d f x in
          let z = passed-so left_word (extras f.unpacked f.encoding f.digest) g (extras-are d f x (Ok g) e) in
          rw y.is (rw (extent-is d f x (Ok sp) e₂) (rw z.is
          (is ∙ ap (λ (k : ℕ × ℕ). judged_place start (record { code = k.0; kind = k.1 }) sp g) (sym y.shown)
          ∙ ap (λ (i : ℕ). judged_place start (record { code = y.value.dtype; kind = left_word y.value.type }) sp i) (sym z.shown)
          ∙ judged-placed (place_rule start sp.offset sp.length) (record { name = w; dtype = y.value.dtype; type = y.value.type; offset = sp.offset; length = sp.length; digest = z.value; entry = v }) _ refl)))
