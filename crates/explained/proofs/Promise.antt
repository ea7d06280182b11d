-- The promise is kept for every refused file.
use Prim.Native.Nat.{ℕ, ◌+◌, ◌-◌}
use mathlib.Core.List.{List, ◌++◌}
use mathlib.Core.Bool.{true, ◌&&◌}
use mathlib.Core.Option.{Option, none}
use mathlib.Core.Path.{◌≡◌, refl, ap, subst}
use lib.ListN.{length, take, drop}
use lib.Dec.{leb}
use Rattle.meaning.specs.Tree.{Node}
use Rattle.meaning.specs.Check.{pass, refuse}
use Rattle.meaning.specs.Text.{same, all}
use Rattle.meaning.specs.Refusal.{SHORT, HEADER, FOOTER, BIG, FIT, ROOM}
use Rattle.meaning.specs.Limit.{manifest_limit}
use Rattle.meaning.specs.Model.{Word}
use Rattle.meaning.specs.Read.{Span, Outcome, got, refused}
use Rattle.meaning.specs.Layouts.{Layout, magic, current, old, layout_of}
use Rattle.meaning.specs.Frame.{Frame, frame, checked, Reading, reading}
use Rattle.meaning.specs.Rows.{room_for, read_into}
use Rattle.meaning.proofs.WhichLayout.{by_layout}
use Rattle.explained.specs.Step
use Rattle.explained.specs.Step.{Step, given, first}
use Rattle.explained.specs.Order.{manifest_steps}
use Rattle.explained.specs.Fields.{Sided, on_component, on_object}
use Rattle.explained.specs.Explain.{span, frame_steps, read_steps, root, file_steps, room_steps, explanation, needed_by, explain}
use Rattle.explained.specs.Promise
use Rattle.explained.specs.Promise.{InFile, Promise, size_of}
use Rattle.explained.proofs.Truly.{Truly, nothing, also, truly-at, truly-then, truly-given, truly-this}
use Rattle.explained.proofs.TruthWhole.{truth-manifest}
use Rattle.explained.proofs.Whole.{agree-read_into}
use Rattle.explained.proofs.Why.{first-none, first_passes, file-refused}

-- a relation that holds where another does
truly-up : {P : Type 0} {B C : ℕ → ℕ → ℕ → Option (Word P) → Option (Word P) → P → Type 0} {ss : List (Step P)}
    → ((n o c : ℕ) (a b : Option (Word P)) (w : P) → B n o c a b w → C n o c a b w) → Truly B ss → Truly C ss
truly-up f nothing = nothing
truly-up f (also {s = s} q g) = also (λ e. f s.number s.object s.component s.object_name s.component_name s.place (q e)) (λ e. truly-up f (g e))

module _ (L : Layout) (z : Sided L) (file : List ℕ) (room : ℕ) where
  truth-frame : Truly (InFile L file room) (frame_steps L file)
  unfolding frame_steps size_of
  truth-frame =
      truly-then (truly-at SHORT _ (leb L.least (length file)) λ e. Promise.short e)
      (truly-then (truly-at HEADER _ (same magic (take 8 file)) λ e. Promise.header e)
      (truly-then (truly-at FOOTER _ (same L.footer (drop (length file - length L.footer) file)) λ e. Promise.footer e)
      (truly-then (truly-at BIG _ (leb (size_of L file) manifest_limit) λ e. Promise.big e)
      (truly-at FIT _ (leb 1 (size_of L file) && leb (size_of L file) (length file - L.least)) λ e. Promise.fit e))))

  truth-root : (f : Frame) → frame L file ≡ pass f → (o : Outcome (Node Span)) → root file f ≡ o
      → Truly (InFile L file room) (read_steps (f.start + f.size) o ++ Step.◌>>=◌ (given (checked o)) (manifest_steps L f.start))
  unfolding read_steps checked
  truth-root f e (got t s) h = truly-up (λ n o c a b w x. Promise.tree e h x) (truth-manifest L f.start t z)
  truth-root f e (refused n s) h = also (λ z. Promise.head e h) (λ z. nothing)

  truth-file : Truly (InFile L file room) (file_steps L file)
  unfolding file_steps
  truth-file = truly-then truth-frame (truly-given (frame L file) λ f e. truth-root f e (root file f) refl)

  truth-room : Truly (InFile L file room) (room_steps L room file)
  unfolding room_steps
  truth-room = truly-then truth-file (truly-given (reading L file) λ r e. truly-at ROOM (span 0 0) (leb (room_for r.model) room) λ g. Promise.room' e g)

  pub kept : (n o c : ℕ) → read_into L file room ≡ refuse n o c → Promise L file room n o c
  unfolding explain
  kept n o c e =
      let r = file-refused L file room n o c e in
      let w = r.why in
      record {
        this = r.this;
        shown = ap (λ f. explanation f (needed_by (reading L file))) r.shown;
        number = r.number;
        object = r.object;
        component = r.component;
        truth = truly-this w.before w.after r.this (subst (Truly (InFile L file room)) w.split truth-room) w.earlier w.breaks;
        why = w;
      }

  -- of an accepted file every check is right, and nothing is said
  pub accepted : (r : Reading) → read_into L file room ≡ pass r → (all (λ s. s.right) (room_steps L room file) ≡ true) × ((explain L file room).number ≡ 0)
  unfolding explain explanation
  accepted r e =
      let h : first (room_steps L room file) ≡ none = first_passes (room_steps L room file) (read_into L file room) (agree-read_into L room file) r e in
      (first-none (room_steps L room file) h, ap (λ f. (explanation f (needed_by (reading L file))).number) h)

-- both layouts have their dtype on one side
pub sided : (n : ℕ) → Sided (layout_of n)
unfolding current old
sided n = by_layout (λ n L. Sided L) n (λ e. of-old) (λ e. of-current)
  where
    of-old : Sided old
    of-old = on_object refl refl refl

    of-current : Sided current
    of-current = on_component refl refl

-- for the layout that a caller names, every file, every room
pub promised : (layout : ℕ) (file : List ℕ) (room n o c : ℕ) → read_into (layout_of layout) file room ≡ refuse n o c → Promise (layout_of layout) file room n o c
promised layout = kept (layout_of layout) (sided layout)
