-- From the frame to the manifest: what `frame::frame` answered for the file, lent whole.
use Prim.Native.Nat.{ℕ, ◌+◌, ◌-◌, ◌≤◌}
use native.Mathlib.Omega.{arith}
use mathlib.Core.List.{List}
use mathlib.Core.Bool.{Bool, true, false, ◌&&◌}
use mathlib.Core.Path.{◌≡◌, refl, sym, ap, ◌∙◌}
use lib.ListN.{length, take, drop}
use lib.Dec.{leb}
use borrow.Author.Tests.{leb-true}
use Rattle.meaning.specs.Check.{Check, pass, ◌>>◌, ◌unless◌}
use Rattle.meaning.specs.Text.{same}
use Rattle.meaning.specs.Refusal.{SHORT, HEADER, FOOTER, BIG, FIT}
use Rattle.meaning.specs.Limit.{manifest_limit}
use Rattle.meaning.specs.Layouts.{Layout, magic, current, layout_of}
use Rattle.meaning.specs.Frame.{Frame, Reading, frame, little, reading}
use Rattle.frame.specs.FrameAnswer.{told}
use Rattle.frame.proofs.Frames.{size_back_lem}
use Rattle.frame.specs.declared.Framed.{Framed}
use Rattle.reader.specs.declared.Verdict.{Verdict}
use Rattle.reader.specs.declared.Told.{Told}
use Rattle.reader.specs.Verdict.{refusal, verdict, manifest_reading, ManifestIs, Judges}
use Rattle.std.specs.Prelude.{Ok, Err, Result}
use Rattle.numbers.specs.declared.refusal.Refusal.{Refusal}
use Rattle.numbers.specs.declared.fault.FileFault.{FileFault}
use Rattle.numbers.specs.Numbered.{number_of}

-- 0 is 1.2.0
pub at_zero : layout_of 0 ≡ current
unfolding layout_of
at_zero = refl

-- a manifest lies inside its file
module _ (layout : ℕ) (file : List ℕ) where
  abbrev L : Layout
  L = layout_of layout

  abbrev n : ℕ
  n = length file

  abbrev size : ℕ
  size = little (take 8 (drop (n - L.size_back) file))

  framed-inside : (f : Frame) → frame L file ≡ pass f → f.start + f.size ≤ n
  unfolding frame
  framed-inside f e = go (leb L.least n) refl (same magic (take 8 file)) (same L.footer (drop (n - length L.footer) file)) (leb size manifest_limit) (leb 1 size) (leb size (n - L.least)) refl e
    where
      go : (x₁ : Bool) → leb L.least n ≡ x₁ → (x₂ x₃ x₄ x₅ x₆ : Bool) → leb size (n - L.least) ≡ x₆
          → ((SHORT unless x₁) >> ((HEADER unless x₂) >> ((FOOTER unless x₃) >> ((BIG unless x₄) >> ((FIT unless (x₅ && x₆)) >> pass (record { start = n - L.size_back - size; size = size })))))) ≡ pass f
          → f.start + f.size ≤ n
      go false a x₂ x₃ x₄ x₅ x₆ b e = absurd (let z : ◌≡◌ {A = ℕ} 0 1 = cc in omega arith)
      go true a false x₃ x₄ x₅ x₆ b e = absurd (let z : ◌≡◌ {A = ℕ} 0 1 = cc in omega arith)
      go true a true false x₄ x₅ x₆ b e = absurd (let z : ◌≡◌ {A = ℕ} 0 1 = cc in omega arith)
      go true a true true false x₅ x₆ b e = absurd (let z : ◌≡◌ {A = ℕ} 0 1 = cc in omega arith)
      go true a true true true false x₆ b e = absurd (let z : ◌≡◌ {A = ℕ} 0 1 = cc in omega arith)
      go true a true true true true false b e = absurd (let z : ◌≡◌ {A = ℕ} 0 1 = cc in omega arith)
      go true a true true true true true b e =
          let x : L.least ≤ n = leb-true _ _ a in
          let y : size ≤ n - L.least = leb-true _ _ b in
          let u : n - L.size_back - size ≡ f.start = cc in
          let v : size ≡ f.size = cc in
          let b = size_back_lem layout in
          omega arith

  module _ (r : Result Framed Refusal) (asked : frame L file ≡ told r) where
    pub framed : (q : Result Framed Refusal) → r ≡ q → frame L file ≡ told q
    framed q e = asked ∙ ap told e

    pub no-frame : (number : Refusal) → r ≡ Err number → (q : Result Told FileFault) → q ≡ Err (record { refusal = number; object = 0; component = 0 }) → Judges (reading L file) q
    unfolding reading
    no-frame number e q is = rw is (rw (framed (Err number) e) refl)

    module _ (fr : Framed) (e : r ≡ Ok fr) where
      pub inside : fr.start + fr.size ≤ n
      inside = framed-inside (record { start = fr.start; size = fr.size }) (framed (Ok fr) e)

      -- the file's reading is that of its manifest
      pub manifest-read : reading L file ≡ manifest_reading L (fr.start + fr.size) fr.start (take (fr.start + fr.size - fr.start) (drop fr.start file))
      unfolding reading
      manifest-read =
          let z : fr.start + fr.size - fr.start ≡ fr.size = omega arith in
          (rw (framed (Ok fr) e) refl) ∙ ap (λ (i : ℕ). manifest_reading L (fr.start + fr.size) fr.start (take i (drop fr.start file))) (sym z)

      -- by what the manifest's reader told
      pub manifest-judges : (x : Result Told FileFault) → ((end : ℕ) → ManifestIs L end fr.start (take (fr.start + fr.size - fr.start) (drop fr.start file)) x) → Judges (reading L file) x
      manifest-judges x h = go x (h (fr.start + fr.size))
        where
          go : (x : Result Told FileFault) → ManifestIs L (fr.start + fr.size) fr.start (take (fr.start + fr.size - fr.start) (drop fr.start file)) x → Judges (reading L file) x
          go (Err f) k = manifest-read ∙ k
          go (Ok v) k = (_, manifest-read ∙ k.is)

-- the verdict by what was judged
module _ (k : Check Reading) (x : Result Told FileFault) (h : Judges k x) where
  pub accept-refuses : (f : FileFault) → x ≡ Err f → (n : ℕ) → n ≡ number_of f.refusal → refusal n f.object f.component ≡ verdict k
  accept-refuses f e n is = let z : Judges k (Err f) = rw e at h in rw is (sym (ap verdict z))

  pub accept-accepts : (v : Told) → x ≡ Ok v → refusal 0 0 0 ≡ verdict k
  accept-accepts v e = let z : Judges k (Ok v) = rw e at h in sym (ap verdict z.1)

-- for 1.2.0
pub accepts-current : (file : List ℕ) (v : Verdict) → v ≡ verdict (reading (layout_of 0) file) → v ≡ verdict (reading current file)
accepts-current file v h = h ∙ ap (λ (L : Layout). verdict (reading L file)) at_zero
