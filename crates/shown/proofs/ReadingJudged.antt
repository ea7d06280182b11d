-- A file's reading, from its frame to the judgement: what it accepts is an accepted file, and it refuses with 1 to 23.
use Prim.Native.Nat.{ℕ, ◌+◌, ◌-◌, ◌≤◌}
use native.Mathlib.Omega.{arith}
use mathlib.Core.List.{List, ◌++◌}
use mathlib.Core.Bool.{◌&&◌}
use mathlib.Core.Path.{◌≡◌, refl, ap, sym, subst, ◌∙◌}
use lib.ListN.{length, take, drop, take-append-drop, length-drop}
use lib.Seq.{length-take-le, drop-drop}
use lib.Dec.{leb}
use borrow.Author.Tests.{leb-true}
use Rattle.meaning.specs.Text.{same}
use Rattle.meaning.specs.Refusal.{SHORT, HEADER, FOOTER, BIG, FIT, CBOR, DEEP}
use Rattle.meaning.specs.Limit.{manifest_limit, depth_limit}
use Rattle.meaning.specs.Tree.{Node}
use Rattle.meaning.specs.Read.{Span, span_to, Outcome, got, refused, manifest}
use Rattle.meaning.specs.Judge.{judge}
use Rattle.meaning.specs.Layouts.{Layout, magic, current, old}
use Rattle.meaning.specs.Frame.{little, Frame, frame, checked, reading}
use Rattle.meaning.proofs.Tests.{both_left, both_right}
use Rattle.shown.specs.Accepted.{Framing, Accepted}
use Rattle.shown.specs.Placed.{Placed}
use Rattle.shown.proofs.Judged.{JudgedFrom, between, is-between, widened, passes, bind, tested}
use Rattle.shown.proofs.Spans.{Left}
use Rattle.shown.proofs.ReadPlaced.{So, manifest-placed}
use Rattle.shown.proofs.Judgement.{judge-so}

-- 24 is 16 and the header, 16 is 8 and the header
pub current-framing : Framing current
unfolding current
current-framing = refl

pub old-framing : Framing old
unfolding old
old-framing = refl

pub record Framed (L : Layout) (file : List ℕ) (f : Frame) : Type 0 where
  pub header : 8 ≤ f.start
  pub some_bytes : 1 ≤ f.size
  pub ends : f.start + f.size + L.size_back ≡ length file

pub frame-so : (L : Layout) → Framing L → (file : List ℕ) → JudgedFrom SHORT (Framed L file) (frame L file)
unfolding frame
frame-so L framing file =
    let n : ℕ = length file in
    let size : ℕ = little (take 8 (drop (n - L.size_back) file)) in
    tested SHORT (leb L.least n) _ tt λ long.
    tested HEADER (same magic (take 8 file)) _ tt λ header.
    tested FOOTER (same L.footer (drop (n - length L.footer) file)) _ tt λ footer.
    tested BIG (leb size manifest_limit) _ tt λ small.
    tested FIT (leb 1 size && leb size (n - L.least)) _ tt λ fits.
    let a = leb-true L.least n long in
    let b = leb-true 1 size (both_left (leb 1 size) (leb size (n - L.least)) fits) in
    let c = leb-true size (n - L.least) (both_right (leb 1 size) (leb size (n - L.least)) fits) in
    passes _ (record { header = omega (arith, a, b, c, framing); some_bytes = b; ends = omega (arith, a, b, c, framing) })

module _ (L : Layout) (file : List ℕ) (f : Frame) (h : Framed L file f) where
  abbrev start : ℕ
  start = f.start

  abbrev end : ℕ
  end = f.start + f.size

  abbrev bytes : List ℕ
  bytes = take f.size (drop start file)

  back_is : length (drop end file) ≡ L.size_back
  back_is = length-drop end file ∙ (let e = h.ends in omega (arith, e))

  all_left : Left file (drop end file) start end bytes
  all_left = record {
    front = take start file;
    is = sym (take-append-drop start file)
        ∙ ap (λ (z : List ℕ). take start file ++ z) (sym (take-append-drop f.size (drop start file)) ∙ ap (λ (z : List ℕ). bytes ++ z) (drop-drop f.size start file));
    from = let e = h.ends in let a = length-take-le start file (omega (arith, e)) in omega (arith, a);
  }

  checked-so : {Q : Node Span → Type 0} (o : Outcome (Node Span)) → So (λ (t : Node Span) (r : List ℕ). Q t) o → JudgedFrom SHORT Q (checked o)
  unfolding checked
  checked-so (got t r) s = record { is = s.is }
  checked-so (refused n r) s = let a = between n s.is in let b = a.0 in let c = a.1 in record { is = is-between n (omega (arith, b)) (omega (arith, c)) }

  placed-so : So (λ (t : Node Span) (r : List ℕ). Placed L file start depth_limit t) (manifest (span_to end) bytes)
  placed-so =
      let e = h.ends in let b = back_is in
      manifest-placed file (drop end file) start end L (omega (arith, e, b)) (omega (arith, b)) bytes all_left

  pub manifest-refusals : {n : ℕ} {r : List ℕ} → manifest (span_to end) bytes ≡ refused n r → (CBOR ≤ n) × (n ≤ DEEP)
  manifest-refusals {n} e = between n (subst (So (λ (t : Node Span) (r : List ℕ). Placed L file start depth_limit t)) e placed-so).is

  pub tree-so : JudgedFrom SHORT (Placed L file start depth_limit) (checked (manifest (span_to end) bytes))
  tree-so = checked-so (manifest (span_to end) bytes) placed-so

pub reading-so : (L : Layout) → Framing L → (file : List ℕ) → JudgedFrom SHORT (Accepted L file) (reading L file)
unfolding reading
reading-so L framing file =
    bind (frame L file) _ (frame-so L framing file) λ f h.
    bind (checked (manifest (span_to (f.start + f.size)) (take f.size (drop f.start file)))) _ (tree-so L file f h) λ t placed.
    bind (judge L f.start t) _ (widened (judge L f.start t) (judge-so L file f.start t placed)) λ m s.
    let e = h.ends in let b = h.some_bytes in
    passes _ (record { header = h.header; footer = omega (arith, e, b); model = s })
