-- What the program prints, by the branch that its code takes; and that a text that is told of fits where it was put.
use Prim.Native.Nat.{ℕ, ◌≤◌, ◌<◌}
use native.Mathlib.Omega.{arith}
use mathlib.Core.List.{List, [], ◌∷◌}
use mathlib.Core.Bool.{Bool, true, false}
use mathlib.Core.Path.{◌≡◌, refl, sym, ap, ◌∙◌}
use lib.ListN.{length, drop, length-append}
use lib.Seq.{length-take-le}
use lib.Dec.{leb}
use borrow.Author.Tests.{le-leb, lt-leb}
use Rattle.listing.specs.Output.{IsPrefixLen}
use Rattle.meaning.specs.Check.{Check, pass, refuse}
use Rattle.meaning.specs.Text.{ascii}
use Rattle.meaning.specs.Frame.{Reading}
use Rattle.meaning.specs.Rows as rows
use Rattle.meaning.specs.Rows.{read_into, table_after}
use Rattle.meaning.specs.Listing.{line, blanked, decimal, listing_of, printed}
use Rattle.meaning.specs.Layouts.{current}
use Rattle.reader.specs.declared.into.Answer.{Answer}
use Rattle.reader.specs.Answer.{answered}
use Rattle.panel.specs.declared.Listed.{Listed}
use Rattle.panel.specs.Lines.{listed}
use Rattle.panel.specs.ListedText.{told, text_after}
use Rattle.shown.proofs.ReadingJudged.{current-framing}
use Rattle.shown.proofs.AfterReading.{read-zero, read-listing}

-- what is told of fits where it is
told-fits : (l : Check (List ℕ)) (xs : List ℕ) → (told l (length xs)).length ≤ length (text_after l xs)
unfolding told text_after
told-fits (refuse n o c) xs = omega arith
told-fits (pass t) xs = by (leb (length t) (length xs)) refl
  where
    by : (b : Bool) → leb (length t) (length xs) ≡ b → (told (pass t) (length xs)).length ≤ length (text_after (pass t) xs)
    by true e = rw e (let z = length-append t (drop (length t) xs) in omega (arith, z))
    by false e = rw e (omega arith)

-- what is told of one text holds of another that is the same
pub told-alike : {l m : Check (List ℕ)} {r : Listed} (xs : List ℕ) {ys : List ℕ} → m ≡ l → (r ≡ told l (length xs)) × (ys ≡ text_after l xs)
    → (r ≡ told m (length xs)) × ((ys ≡ text_after m xs) × IsPrefixLen r.length ys)
told-alike {l} {m} {r} xs {ys} e h =
    let n : r.length ≤ length ys = rw (h.0, h.1) (told-fits l xs) in (
      h.0 ∙ ap (λ (k : Check (List ℕ)). told k (length xs)) (sym e),
      (h.1 ∙ ap (λ (k : Check (List ℕ)). text_after k xs) (sym e), (n, sym (length-take-le r.length ys n))),
    )

module _ (file : List ℕ) where
  pub printed-too-long : 65536 < length file → pass (printed file) ≡ pass (ascii "too long\n")
  unfolding printed line blanked
  printed-too-long h = rw (lt-leb (length file) 65536 h) refl

  -- read into a table of 8,192 numbers
  module _ (short : length file ≤ 65536) (table after : List ℕ) (size : length table ≡ 8192) (a : Answer)
      (told : (a ≡ answered (read_into current file (length table))) × (after ≡ table_after table (read_into current file (length table)))) where
    by-reading : printed file ≡ listing_of (read_into current file (length table))
    unfolding printed
    by-reading = rw (le-leb (length file) 65536 short, size) refl

    pub printed-refused : ((a.number ≡ 0) → ⊥)
        → pass (printed file) ≡ pass (line (ascii "refused") (decimal a.number ∷ decimal a.object ∷ decimal a.component ∷ []))
    unfolding listing_of rows.answer
    printed-refused some = ap (λ (l : List ℕ). pass l) (by-reading ∙ by (read_into current file (length table)) told.0)
      where
        by : (k : Check Reading) → a ≡ answered k
            → listing_of k ≡ line (ascii "refused") (decimal a.number ∷ decimal a.object ∷ decimal a.component ∷ [])
        by (pass r) e = absurd (some (ap (λ (b : Answer). b.number) e))
        by (refuse n o c) e = rw e refl

    pub printed-listed : a.number ≡ 0 → pass (printed file) ≡ listed file after a.objects a.components
    unfolding listing_of
    printed-listed zero =
        let q = read-zero current file (length table) current-framing (sym (ap (λ (b : Answer). b.number) told.0) ∙ zero) in
        sym (ap (λ (b : Answer). listed file after b.objects b.components) told.0
        ∙ ap (λ (t : List ℕ). listed file t (answered (read_into current file (length table))).objects (answered (read_into current file (length table))).components) told.1
        ∙ read-listing current current-framing file table q.0 q.1
        ∙ ap (λ (l : List ℕ). pass l) (sym (by-reading ∙ ap listing_of q.1)))
