-- Document 02, Request 13: how merges are grouped doesn't matter, and the empty file changes nothing.
use Prim.Native.Nat.{ℕ}
use mathlib.Core.List.{List, []}
use mathlib.Core.Path.{◌≡◌, refl, sym, ap, ap₂, ◌∙◌}
use Rattle.meaning.specs.Check.{pass}
use Rattle.meaning.specs.Read.{Span}
use Rattle.meaning.specs.Layouts.{Layout, current}
use Rattle.meaning.specs.Asked.{asked}
use Rattle.meaning.specs.Described.{Described, described}
use Rattle.meaning.specs.Write.{written}
use Rattle.meaning.specs.Computed.{computed}
use Rattle.readback.specs.Lent.{Lent, Held}
use Rattle.readback.specs.Back.{ReadsBack}
use Rattle.readback.proofs.RowsWritten.{written-reads-back, written-file}
use Rattle.shown.specs.Accepted.{Framing}
use Rattle.shown.proofs.ReadingJudged.{current-framing}
use Rattle.roundtrip.specs.Again.{plain_file}
use Rattle.merging.specs.Merge.{merged, merge, done}
use Rattle.merging.specs.AcceptedMerge.{Says, Merging}
use Rattle.merging.specs.Anew.{nothing, empty_file}
use Rattle.merging.proofs.Algebra.{merged-groups, nothing-before, nothing-after}
use Rattle.merging.proofs.SaysFine.{one-meaning, back-says}
use Rattle.merging.proofs.MergedReadsBack.{merge-done, merging-file, merging-says}

-- ---- grouping

grouped : {L M N : Layout} {first second third x y p q : List ℕ} → Held first → Held second → Held third
    → Merging L first M second p → Merging current p N third x → Merging M second N third q → Merging L first current q y → x ≡ y
grouped ha hb hc m k n l =
    let left : k.a ≡ merged m.a m.b = one-meaning k.first_says (merging-says m ha hb) in
    let right : l.b ≡ merged n.a n.b = one-meaning l.second-says (merging-says n hb hc) in
    let third : k.b ≡ n.b = one-meaning k.second-says n.second-says in
    let first : l.a ≡ m.a = one-meaning l.first_says m.first_says in
    let second : n.a ≡ m.b = one-meaning n.first_says m.second-says in
    merging-file k
    ∙ ap plain_file (ap₂ merged left third ∙ merged-groups m.a m.b n.b ∙ ap₂ merged (sym first) (ap (λ (d : Described). merged d n.b) (sym second) ∙ sym right))
    ∙ sym (merging-file l)

-- merging (a with b) with c, and a with (b with c): the same bytes, whatever room each merge was lent; a merged file is of 1.2.0
module _ (L : Layout) (fl : Framing L) (a : List ℕ) (M : Layout) (fm : Framing M) (b : List ℕ) (N : Layout) (fn : Framing N) (c : List ℕ) (ha : Held a) (hb : Held b) (hc : Held c) where
  pub grouping-changes-nothing : (ab bc left right : List ℕ) (l₁ r₁ l₂ r₂ l₃ r₃ l₄ r₄ : ℕ)
      → merge L a M b l₁ r₁ ≡ done ab → merge current ab N c l₂ r₂ ≡ done left → merge M b N c l₃ r₃ ≡ done bc → merge L a current bc l₄ r₄ ≡ done right → left ≡ right
  grouping-changes-nothing ab bc left right l₁ r₁ l₂ r₂ l₃ r₃ l₄ r₄ e₁ e₂ e₃ e₄ =
      grouped ha hb hc (merge-done L fl a M fm b l₁ r₁ ab e₁) (merge-done current current-framing ab N fn c l₂ r₂ left e₂) (merge-done M fm b N fn c l₃ r₃ bc e₃)
      (merge-done L fl a current current-framing bc l₄ r₄ right e₄)

-- ---- the empty file

pub empty-says-nothing : ReadsBack empty_file nothing
unfolding computed nothing
empty-says-nothing = record { read = record { start = 8; model = record { attributes = _; objects = [] } }; is = refl; back = refl }

pub empty-is-written : plain_file nothing ≡ empty_file
unfolding computed nothing plain_file
empty-is-written = refl

-- a file that says d and is the writer's file of d
module _ {d : Described} {file : List ℕ} (says : Says current file d) (is : file ≡ plain_file d) where
  empty-before-it : {x : List ℕ} → Merging current empty_file current file x → x ≡ file
  empty-before-it m =
      merging-file m
      ∙ ap plain_file (ap₂ merged (one-meaning m.first_says (back-says empty-says-nothing)) (one-meaning m.second-says says) ∙ nothing-before d)
      ∙ sym is

  empty-after-it : {x : List ℕ} → Merging current file current empty_file x → x ≡ file
  empty-after-it m =
      merging-file m
      ∙ ap plain_file (ap₂ merged (one-meaning m.first_says says) (one-meaning m.second-says (back-says empty-says-nothing)) ∙ nothing-after d)
      ∙ sym is

-- a file that our writer wrote without a plan, for any rows and buffer that can be lent
module _ {rows buffer : List ℕ} (lent : Lent rows buffer) (objects components : ℕ) (attributes : Span) (room : ℕ) {file : List ℕ}
    (wrote : written rows objects components attributes buffer room ≡ pass file) where
  abbrev told : Described
  told = described buffer (asked rows objects components attributes)

  says : Says current file told
  says = back-says (written-reads-back rows lent.numbers lent.few buffer lent.small objects components attributes room file wrote)

  is_plain : file ≡ plain_file told
  unfolding plain_file
  is_plain = (written-file rows lent.numbers lent.few buffer lent.small objects components attributes room file wrote).is

  pub empty-before : (numbers room : ℕ) (x : List ℕ) → merge current empty_file current file numbers room ≡ done x → x ≡ file
  empty-before numbers room x e = empty-before-it says is_plain (merge-done current current-framing empty_file current current-framing file numbers room x e)

  pub empty-after : (numbers room : ℕ) (x : List ℕ) → merge current file current empty_file numbers room ≡ done x → x ≡ file
  empty-after numbers room x e = empty-after-it says is_plain (merge-done current current-framing file current current-framing empty_file numbers room x e)
