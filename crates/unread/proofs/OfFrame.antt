-- A file that its frame refuses: the check that breaks, and the bytes that are shown.
use Prim.Native.Nat.{ℕ, ◌+◌, ◌-◌, ◌≤◌}
use native.Mathlib.Omega.{arith}
use mathlib.Core.List.{List, ◌++◌}
use mathlib.Core.Bool.{Bool, true, false, cond, ◌&&◌}
use mathlib.Core.Option.{Option, some}
use mathlib.Core.Path.{◌≡◌, refl, sym, ap, ◌∙◌}
use lib.ListN.{length, take, drop}
use lib.Dec.{eqb, leb}
use borrow.Author.Tests.{ne_eqb, leb-true}
use Rattle.meaning.specs.Check.{Check, pass, fault, ◌>>◌, ◌unless◌}
use Rattle.meaning.specs.Text.{same}
use Rattle.meaning.specs.Refusal.{SHORT, HEADER, FOOTER, BIG, FIT}
use Rattle.meaning.specs.Limit.{manifest_limit}
use Rattle.meaning.specs.Read.{Span}
use Rattle.meaning.specs.Layouts.{Layout, magic, current, old, layout_of}
use Rattle.meaning.specs.Frame.{Frame, frame, little}
use Rattle.meaning.proofs.WhichLayout.{by_layout, is-old}
use Rattle.frame.proofs.Frames.{old-footed, size_back_lem}
use Rattle.explained.specs.Step.{Step, first, ◌at◌unless◌}
use Rattle.explained.specs.Explain.{span, frame_steps, explain, explanation, alone}
use Rattle.explained.proofs.Stages.{unframed}
use Rattle.sentence.specs.Given as goal
use Rattle.sentence.specs.declared.Explanation.{Explanation}
use Rattle.unread.specs.Unread.{lone, Unframed}

module _ (layout : ℕ) (file : List ℕ) where
  abbrev L : Layout
  L = layout_of layout

  abbrev n : ℕ
  n = length file

  abbrev size : ℕ
  size = little (take 8 (drop (n - L.size_back) file))

  -- what is shown for the number of a check
  unfoldable pub shown_for : ℕ → Span
  shown_for k = cond (eqb k SHORT) (span 0 n) (cond (eqb k HEADER) (span 0 8) (cond (eqb k FOOTER) (span (n - 8) 8) (span (n - L.size_back) 8)))

  -- a footer that is wrong is one of eight bytes
  footed : same L.footer (drop (n - length L.footer) file) ≡ false → length L.footer ≡ 8
  unfolding current magic
  footed e = by_layout (λ i K. same K.footer (drop (n - length K.footer) file) ≡ false → length K.footer ≡ 8) layout no-footer (λ i e. refl) e
    where
      no-footer : layout ≡ 1 → same old.footer (drop (n - length old.footer) file) ≡ false → length old.footer ≡ 8
      no-footer i e = absurd (let z : true ≡ false = old-footed 1 refl file ∙ ap (λ K. same K.footer (drop (n - length K.footer) file)) (is-old 1 refl) ∙ e in let y : ◌≡◌ {A = ℕ} 0 1 = cc in omega arith)

  abbrev here : Frame
  here = record { start = n - L.size_back - size; size = size }

  -- the layouts' numbers: eight bytes of size, and a footer no longer than what follows the manifest
  backs : (8 ≤ L.size_back) × (length L.footer ≤ L.size_back)
  unfolding old current magic
  backs = by_layout (λ i K. (8 ≤ K.size_back) × (length K.footer ≤ K.size_back)) layout (λ e. (omega arith, omega arith)) (λ e. (omega arith, omega arith))

  -- the frame's checks, one after the other: the first that breaks and what is shown for it, which lies inside the file; or a manifest inside it
  pub data Fate (x : Check Frame) (f : Option (Step Span)) : Type 0 where
    refuses : (k : ℕ) → x ≡ fault k → f ≡ some (alone k (shown_for k)) → (shown_for k).place + (shown_for k).size ≤ n → Fate x f
    passes : (m : Frame) → x ≡ pass m → L.least ≤ n → m.start + m.size ≤ n → Fate x f

  pub fate : Fate (frame L file) (first (frame_steps L file))
  unfolding frame frame_steps shown_for
  fate =
      go (leb L.least n) refl (same magic (take 8 file)) (same L.footer (drop (n - length L.footer) file)) refl (leb size manifest_limit) (leb 1 size) (leb size (n - L.least)) refl
    where
      go : (x₁ : Bool) → leb L.least n ≡ x₁ → (x₂ x₃ : Bool) → same L.footer (drop (n - length L.footer) file) ≡ x₃
          → (x₄ x₅ x₆ : Bool) → leb size (n - L.least) ≡ x₆
          → Fate ((SHORT unless x₁) >> ((HEADER unless x₂) >> ((FOOTER unless x₃) >> ((BIG unless x₄) >> ((FIT unless (x₅ && x₆)) >> pass here)))))
          (first ((SHORT at span 0 n unless x₁) ++ ((HEADER at span 0 8 unless x₂) ++ ((FOOTER at span (n - length L.footer) (length L.footer) unless x₃)
          ++ ((BIG at span (n - L.size_back) 8 unless x₄) ++ (FIT at span (n - L.size_back) 8 unless (x₅ && x₆)))))))
      go false a x₂ x₃ c x₄ x₅ x₆ b = refuses SHORT refl refl (omega arith)
      go true a false x₃ c x₄ x₅ x₆ b = let l : L.least ≤ n = leb-true _ _ a in let z = size_back_lem layout in refuses HEADER refl refl (omega (arith, l, z))
      go true a true false c x₄ x₅ x₆ b =
          let l : L.least ≤ n = leb-true _ _ a in
          let z = size_back_lem layout in
          let y = backs.1 in
          let e = footed c in
          refuses FOOTER refl (rw e refl) (omega (arith, l, z, y, e))
      go true a true true c false x₅ x₆ b = let l : L.least ≤ n = leb-true _ _ a in let z = size_back_lem layout in let y = backs.0 in refuses BIG refl refl (omega (arith, l, z, y))
      go true a true true c true false x₆ b = let l : L.least ≤ n = leb-true _ _ a in let z = size_back_lem layout in let y = backs.0 in refuses FIT refl refl (omega (arith, l, z, y))
      go true a true true c true true false b = let l : L.least ≤ n = leb-true _ _ a in let z = size_back_lem layout in let y = backs.0 in refuses FIT refl refl (omega (arith, l, z, y))
      go true a true true c true true true b =
          let l : L.least ≤ n = leb-true _ _ a in
          let y : size ≤ n - L.least = leb-true _ _ b in
          let z = size_back_lem layout in
          passes here refl l (omega (arith, l, y, z))

  broken : (k : ℕ) → frame L file ≡ fault k → first (frame_steps L file) ≡ some (alone k (shown_for k))
  broken k e = go fate
    where
      go : Fate (frame L file) (first (frame_steps L file)) → first (frame_steps L file) ≡ some (alone k (shown_for k))
      go (refuses j h f w) = let g : fault {A = Frame} j ≡ fault k = sym h ∙ e in let z : j ≡ k = cc in f ∙ ap (λ (i : ℕ). some (alone i (shown_for i))) z
      go (passes m h l w) = absurd (let g : pass m ≡ fault k = sym h ∙ e in let z : ◌≡◌ {A = ℕ} 0 1 = cc in omega arith)

  module _ (k : ℕ) where
    pub refused-with : frame L file ≡ fault k → (room : ℕ) → explain L file room ≡ explanation (some (alone k (shown_for k))) 0
    refused-with e room = unframed L file room k e ∙ ap (λ s. explanation s 0) (broken k e)

    -- by the tests of the number
    module _ (r : Explanation) where
      pub the-file : k ≡ 1 → goal.explanation r ≡ lone k 0 n → Unframed layout file k r
      unfolding shown_for
      the-file z is e room = is ∙ sym (refused-with e room ∙ (rw z refl))

      pub the-header : k ≡ 2 → goal.explanation r ≡ lone k 0 8 → Unframed layout file k r
      unfolding shown_for
      the-header z is e room = is ∙ sym (refused-with e room ∙ (rw z refl))

      module _ (p : ℕ) where
        pub the-footer : k ≡ 3 → p ≡ n - 8 → goal.explanation r ≡ lone k p 8 → Unframed layout file k r
        unfolding shown_for
        the-footer z placed is e room = is ∙ ap (λ (i : ℕ). lone k i 8) placed ∙ sym (refused-with e room ∙ (rw z refl))

        pub the_size : (k ≡ 1 → ⊥) → (k ≡ 2 → ⊥) → (k ≡ 3 → ⊥) → (b : ℕ) → b ≡ L.size_back → p ≡ n - b → goal.explanation r ≡ lone k p 8 → Unframed layout file k r
        unfolding shown_for
        the_size x y z b back placed is e room = is ∙ ap (λ (i : ℕ). lone k i 8) placed ∙ sym (refused-with e room ∙ (rw (ne_eqb k 1 x, ne_eqb k 2 y, ne_eqb k 3 z, back) refl))
