-- A text that fits where it was put stands at its beginning.
use Prim.Native.Nat.{ℕ, ◌*◌, ◌≤◌}
use native.Mathlib.Nat.{zero-add}
use native.Mathlib.Omega.{arith}
use mathlib.Core.List.{List, [], ◌∷◌, ◌++◌}
use mathlib.Core.Path.{◌≡◌, refl, sym, ap, ◌∙◌}
use lib.ListN.{length, drop, length-append}
use lib.Seq.{sets-eq, take_at}
use borrow.Author.Tests.{le-leb}
use Rattle.meaning.specs.Check.{pass}
use Rattle.meaning.specs.Listing.{shown_text, printed}
use Rattle.put.specs.Wrote.{Wrote}
use Rattle.panel.specs.ListedText.{told, text_after}
use Rattle.panel.specs.declared.Listed.{Listed}
use Rattle.put.proofs.PiecesInTurn as writing
use Rattle.panel.proofs.Answers.{length-counted}
use Rattle.listing.specs.Output.{IsPrefixLen, heading, lent_path, lent_heading, lent_text, Holds}
use Rattle.listing.proofs.Fits.{text-fits, printed-fits, heading-fits}

-- at the beginning, and what it counts is inside
abbrev pub Stands : List ℕ → List ℕ → ℕ → Type 0
Stands bs text n = Holds bs text n × IsPrefixLen n text

begins : (bs rest : List ℕ) → Stands bs (bs ++ rest) (length bs)
begins bs rest =
    let t = take_at bs rest (length bs) refl in
    let l = length-append bs rest in
    (record { count = refl; bytes = t }, (omega (arith, l), sym (ap length t)))

module _ {bs xs ys : List ℕ} {r : ℕ} (w : Wrote bs 0 xs ys r) (fits : length bs ≤ length xs) where
  pub wrote-stands : Stands bs ys r
  wrote-stands =
      let counted : r ≡ length bs = w.past ∙ sym (length-counted bs (let s = w.short in omega (arith, s, fits))) in
      let whole : ys ≡ bs ++ drop (length bs) xs = w.stored ∙ sets-eq bs xs 0 (omega (arith, fits)) ∙ ap (λ (k : ℕ). bs ++ drop k xs) (zero-add (length bs)) in
      rw (counted, whole) (begins bs (drop (length bs) xs))

-- a path
pub escaped-stands : (path xs : List ℕ) {ys : List ℕ} {r : ℕ} → 3 * length path ≤ length xs → Wrote (shown_text path) 0 xs ys r → Stands (shown_text path) ys r
escaped-stands path xs h w = wrote-stands w (let t = text-fits path in omega (arith, t, h))

-- and its line
pub heading-stands : (path xs : List ℕ) {ys zs : List ℕ} {r q : ℕ} → length path ≤ lent_path → lent_heading ≤ length xs
    → Wrote (shown_text path) 0 xs ys r → Wrote (58 ∷ 10 ∷ []) r ys zs q → Stands (heading path) zs q
unfolding heading
heading-stands path xs h k a b = wrote-stands (writing.then a b) (let t = heading-fits path h in omega (arith, t, k))

-- what is printed of a file
pub printed-stands : (file xs : List ℕ) {ys : List ℕ} {l : Listed} → lent_text ≤ length xs
    → l ≡ told (pass (printed file)) (length xs) → ys ≡ text_after (pass (printed file)) xs → Stands (printed file) ys l.length
unfolding told text_after
printed-stands file xs h e f =
    let t = printed-fits file in
    rw (e, f, le-leb (length (printed file)) (length xs) (omega (arith, t, h))) (begins (printed file) (drop (length (printed file)) xs))
