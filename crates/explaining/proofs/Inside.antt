-- The bytes that an explanation shows lie inside the file.
use Prim.Native.Nat.{ℕ, ◌+◌, ◌≤◌}
use native.Mathlib.Omega.{arith}
use mathlib.Core.List.{List, [], ◌∷◌}
use mathlib.Core.Bool.{Bool, true, false}
use mathlib.Core.Path.{◌≡◌, refl, sym, ap, ◌∙◌, subst}
use lib.ListN.{length, take, drop, length-take, length-append}
use lib.Dec.{leb}
use Rattle.meaning.specs.Tree.{Node}
use Rattle.meaning.specs.Check.{Check, pass, refuse}
use Rattle.meaning.specs.Read.{Span, span_to}
use Rattle.meaning.specs.Rows.{room_for}
use Rattle.meaning.specs.Layouts.{Layout, layout_of}
use Rattle.meaning.specs.Judge.{judge}
use Rattle.meaning.specs.Frame.{Frame, frame, Reading, reading}
use Rattle.walk.specs.Reading.{Ends, Reads}
use Rattle.table.specs.Spans.{span_of}
use Rattle.frame.proofs.Frames.{size_back_lem}
use Rattle.reader.specs.Verdict.{manifest_reading}
use Rattle.explained.specs.Step.{first}
use Rattle.explained.specs.Explain as explain
use Rattle.explained.specs.Explain.{head_span, frame_steps}
use Rattle.explained.proofs.Stages as stages
use Rattle.explained.proofs.Why.{manifest-refused}
use Rattle.met.specs.Met.{Met}
use Rattle.met.proofs.Honest.{first-stands}
use Rattle.unread.proofs.OfFrame as frames
use Rattle.unread.proofs.OfFrame.{Fate, refuses, passes}
use Rattle.explaining.specs.Judged as is
use Rattle.explaining.proofs.FromReading as reads
use Rattle.explaining.proofs.FromReading.{Cause, stops, fills}

-- up to n
abbrev Below : ℕ → Span → Type 0
Below n w = w.place + w.size ≤ n

-- the item that stands there in the bytes m, whose end is at `end`
met-below : (m : List ℕ) (end : ℕ) → length m ≤ end → (p : Met m) → Below end (span_of end p.at)
unfolding span_to
met-below m end l p =
    let z : length m ≡ length p.tail.front + length p.at.start = ap length p.tail.split ∙ length-append p.tail.front p.at.start in
    omega (arith, l, z)

head-below : (n end : ℕ) → end ≤ n → 1 ≤ n → (q : List ℕ) → Below n (head_span end q)
unfolding head_span
head-below n end l o [] = omega (arith, l)
head-below n end l o (b ∷ q) = omega (arith, l, o)

tree-below : (L : Layout) (m : List ℕ) (start end : ℕ) → length m ≤ end → (t : Node Ends) (q : List ℕ) → Reads 32 m t q → (n o c : ℕ) → judge L start t ≡ refuse n o c
    → Below end (is.told L start end t).place
unfolding explain.explanation
tree-below L m start end l t q r n o c refused =
    let w = manifest-refused L start t n o c refused in
    let s = first-stands m L start t q r w.this w.shown in
    rw w.shown (subst (λ (e : Ends). Below end (span_of end e)) (sym (ap (λ x. x.place) s.is)) (met-below m end l s.it.place))

module _ (layout : ℕ) (file : List ℕ) (room : ℕ) where
  abbrev L : Layout
  L = layout_of layout

  abbrev Inside : explain.Explanation → Type 0
  Inside e = Below (length file) e.place

  -- a manifest that the frame gives
  module _ (at : Frame) (framed : frame L file ≡ pass at) (some_bytes : 1 ≤ length file) (ends : at.start + at.size ≤ length file) where
    abbrev m : List ℕ
    m = take at.size (drop at.start file)

    abbrev end : ℕ
    end = at.start + at.size

    has : is.Framed L file m at.start end
    has = record { size = at.size; frames = framed; ends = refl; is = refl }

    long : length m ≤ at.size
    long = simp (length-take) (omega arith)

    of-reading : (k : Check Reading) → manifest_reading L end at.start m ≡ k → Inside (explain.explain L file room)
    unfolding explain.explanation
    of-reading (pass r) h = go (leb (room_for r.model) room) refl
      where
        accepted : reading L file ≡ pass r
        accepted = reads.reading-is L m at.start end file has ∙ h

        go : (b : Bool) → leb (room_for r.model) room ≡ b → Inside (explain.explain L file room)
        go true b = subst Inside (sym (stages.room-enough L file room r accepted b)) (omega arith)
        go false b = subst Inside (sym (stages.no_room L file room r accepted b)) (omega arith)
    of-reading (refuse n o c) h = go (reads.cause L m at.start end n o c h)
      where
        go : Cause L m at.start end n o c → Inside (explain.explain L file room)
        go (stops q e) = subst Inside (sym (reads.explained-stop L m at.start end n o c file has q e room)) (head-below (length file) end ends some_bytes q)
        go (fills t r w) =
            let y = tree-below L m at.start end (let z = long in omega (arith, z)) t [] r n o c w in
            subst Inside (sym (reads.explained-tree L m at.start end n o c file has t r w room)) (omega (arith, y, ends))

  pub inside-the-file : (explain.explain L file room).place.place + (explain.explain L file room).place.size ≤ length file
  unfolding explain.explanation
  inside-the-file = go (frames.fate layout file)
    where
      go : Fate layout file (frame L file) (first (frame_steps L file)) → Inside (explain.explain L file room)
      go (refuses k h f w) = subst Inside (sym (frames.refused-with layout file k h room)) w
      go (passes at h l w) = of-reading at h (let z = size_back_lem layout in omega (arith, l, z)) w (manifest_reading L (at.start + at.size) at.start (take at.size (drop at.start file))) refl
