-- Request 08's promise. For a refused file: the number and the indices are the reader's; the check named breaks at that span, said over the file and its tree; every
-- earlier check in document 01's order is right.
use Rattle.std.specs.Prelude.{ℕ, ◌+◌, ◌-◌, List, ◌∷◌, ◌++◌, true, false, ◌&&◌, ◌≡◌, length, take, drop, leb}
use Rattle.std.proofs.Math.Option.{Option, none, some}
use Rattle.meaning.specs.Tree.{Node}
use Rattle.meaning.specs.Check.{pass}
use Rattle.meaning.specs.Text.{all, same}
use Rattle.meaning.specs.Refusal.{SHORT, HEADER, FOOTER, BIG, FIT, ROOM}
use Rattle.meaning.specs.Limit.{manifest_limit}
use Rattle.meaning.specs.Model.{Word}
use Rattle.meaning.specs.Read.{Span, got, refused}
use Rattle.meaning.specs.Layouts.{Layout, magic}
use Rattle.meaning.specs.Frame.{little, Frame, frame, Reading, reading}
use Rattle.meaning.specs.Rows.{room_for}
use Rattle.explained.specs.Step.{Step}
use Rattle.explained.specs.Breaks.{Said}
use Rattle.explained.specs.Explain.{span, head_span, root, room_steps, explanation, needed_by, explain}

-- a check stands in an order, breaks, and all before it are right
pub record Why {P : Type 0} (order : List (Step P)) (this : Step P) : Type 0 where
  pub before : List (Step P)
  pub after : List (Step P)
  pub split : order ≡ before ++ this ∷ after
  pub earlier : all (λ s. s.right) before ≡ true
  pub breaks : this.right ≡ false

-- what a file's size is said to be
unfoldable pub size_of : Layout → List ℕ → ℕ
size_of L file = little (take 8 (drop (length file - L.size_back) file))

-- a check breaks in a file that is read into a table of so many numbers: number, object, component, their names, span
pub data InFile (L : Layout) (file : List ℕ) (room : ℕ) : ℕ → ℕ → ℕ → Option (Word Span) → Option (Word Span) → Span → Type 0 where
  short : leb L.least (length file) ≡ false → InFile L file room SHORT 0 0 none none (span 0 (length file))
  header : same magic (take 8 file) ≡ false → InFile L file room HEADER 0 0 none none (span 0 8)
  footer : same L.footer (drop (length file - length L.footer) file) ≡ false
      → InFile L file room FOOTER 0 0 none none (span (length file - length L.footer) (length L.footer))
  big : leb (size_of L file) manifest_limit ≡ false → InFile L file room BIG 0 0 none none (span (length file - L.size_back) 8)
  fit : (leb 1 (size_of L file) && leb (size_of L file) (length file - L.least)) ≡ false → InFile L file room FIT 0 0 none none (span (length file - L.size_back) 8)
  -- 6, 7: the reading of the manifest stops at the head that these bytes begin with
  head : {n : ℕ} {s : List ℕ} {f : Frame} → frame L file ≡ pass f → root file f ≡ refused n s → InFile L file room n 0 0 none none (head_span (f.start + f.size) s)
  -- 8 to 23: in the tree
  tree : {n o c : ℕ} {a b : Option (Word Span)} {w : Span} {s : List ℕ} {f : Frame} {t : Node Span}
      → frame L file ≡ pass f → root file f ≡ got t s → Said L f.start t n o c a b w → InFile L file room n o c a b w
  -- 24
  room' : {r : Reading} → reading L file ≡ pass r → leb (room_for r.model) room ≡ false → InFile L file room ROOM 0 0 none none (span 0 0)

pub record Promise (L : Layout) (file : List ℕ) (room n o c : ℕ) : Type 0 where
  pub this : Step Span
  pub shown : explain L file room ≡ explanation (some this) (needed_by (reading L file))
  pub number : this.number ≡ n
  pub object : this.object ≡ o
  pub component : this.component ≡ c
  pub truth : InFile L file room this.number this.object this.component this.object_name this.component_name this.place
  pub why : Why (room_steps L room file) this
