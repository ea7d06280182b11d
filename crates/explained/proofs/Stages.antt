-- The explanation by the stage at which a file is refused: its frame, the reading of its manifest, the tree, the room.
use Prim.Native.Nat.{ℕ, ◌+◌}
use mathlib.Core.List.{List, ◌++◌}
use mathlib.Core.Bool.{true, false}
use mathlib.Core.Option.{none, some}
use mathlib.Core.Path.{◌≡◌, refl, ap, ◌∙◌}
use lib.Dec.{leb}
use Rattle.meaning.specs.Check.{pass, refuse, fault}
use Rattle.meaning.specs.Tree.{Node}
use Rattle.meaning.specs.Refusal.{ROOM}
use Rattle.meaning.specs.Read.{Span, got, refused}
use Rattle.meaning.specs.Layouts.{Layout}
use Rattle.meaning.specs.Judge.{judge}
use Rattle.meaning.specs.Frame.{Frame, frame, checked, Reading, reading}
use Rattle.meaning.specs.Rows.{room_for}
use Rattle.explained.specs.Step
use Rattle.explained.specs.Step.{Step, first, given}
use Rattle.explained.specs.Order.{manifest_steps}
use Rattle.explained.specs.Explain.{span, frame_steps, head_span, read_steps, root, file_steps, room_steps, explanation, needed_by, explain, alone}
use Rattle.explained.proofs.Whole.{agree-frame, agree-reading}
use Rattle.explained.proofs.Jump.{first-here, first_past}

module _ (L : Layout) (file : List ℕ) (room : ℕ) where
  -- what is refused before the room is asked for
  before-room : (n o c : ℕ) → reading L file ≡ refuse n o c → explain L file room ≡ explanation (first (file_steps L file)) 0
  unfolding explain room_steps needed_by
  before-room n o c e =
      ap (λ f. explanation f (needed_by (reading L file))) (first-here (file_steps L file) _ (reading L file) (agree-reading L file) n o c e)
      ∙ ap (λ r. explanation (first (file_steps L file)) (needed_by r)) e

  pub unframed : (n : ℕ) → frame L file ≡ fault n → explain L file room ≡ explanation (first (frame_steps L file)) 0
  unfolding reading file_steps
  unframed n e = before-room n 0 0 (rw e refl) ∙ ap (λ f. explanation f 0) (first-here (frame_steps L file) _ (frame L file) (agree-frame L file) n 0 0 e)

  module _ (f : Frame) (framed : frame L file ≡ pass f) where
    past-frame : first (file_steps L file) ≡ first (read_steps (f.start + f.size) (root file f) ++ Step.◌>>=◌ (given (checked (root file f))) (manifest_steps L f.start))
    unfolding file_steps
    past-frame = first_past (frame_steps L file) _ (frame L file) (agree-frame L file) f framed ∙ (rw framed refl)

    pub unread : (n : ℕ) (q : List ℕ) → root file f ≡ refused n q → explain L file room ≡ explanation (some (alone n (head_span (f.start + f.size) q))) 0
    unfolding reading root read_steps checked
    unread n q e = before-room n 0 0 (rw (framed, e) refl) ∙ ap (λ s. explanation s 0) (past-frame ∙ (rw e refl))

    pub in_tree : (t : Node Span) (q : List ℕ) → root file f ≡ got t q → (n o c : ℕ) → judge L f.start t ≡ refuse n o c
        → explain L file room ≡ explanation (first (manifest_steps L f.start t)) 0
    unfolding reading root read_steps checked
    in_tree t q e n o c h = before-room n o c (rw (framed, e, h) refl) ∙ ap (λ s. explanation s 0) (past-frame ∙ (rw e refl))

  module _ (r : Reading) (reads : reading L file ≡ pass r) where
    pub no_room : leb (room_for r.model) room ≡ false → explain L file room ≡ explanation (some (alone ROOM (span 0 0))) (room_for r.model)
    unfolding explain room_steps needed_by
    no_room e =
        ap (λ f. explanation f (needed_by (reading L file))) (first_past (file_steps L file) _ (reading L file) (agree-reading L file) r reads ∙ (rw (reads, e) refl))
        ∙ ap (λ k. explanation (some (alone ROOM (span 0 0))) (needed_by k)) reads

    pub room-enough : leb (room_for r.model) room ≡ true → explain L file room ≡ explanation none 0
    unfolding explain room_steps explanation
    room-enough e =
        let z : first (room_steps L room file) ≡ none = first_past (file_steps L file) _ (reading L file) (agree-reading L file) r reads ∙ (rw (reads, e) refl) in
        ap (λ f. explanation f (needed_by (reading L file))) z
