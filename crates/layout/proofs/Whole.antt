-- The whole file that sound rows ask for. Assumes nothing.
use Prim.Native.Nat.{ℕ, ◌≤◌}
use native.Mathlib.Nat.{zero-add}
use mathlib.Core.List.{List, ◌++◌}
use mathlib.Core.Bool.{true}
use mathlib.Core.Path.{◌≡◌, sym, ap, ◌∙◌, subst}
use lib.ListN.{length, drop}
use Rattle.meaning.specs.Sound.{rows_sound}
use Rattle.rows.specs.Turns.{turn_limit}
use Rattle.emit.specs.Laid.{Room, Laid}
use Rattle.emit.proofs.LaidPieces.{as_bytes, room_as}
use Rattle.layout.specs.AskedFile.{root_attributes, asked_file, last_turn}
use Rattle.layout.specs.Pieces.{whole_of}
use Rattle.layout.specs.Rows.{WholeRows}
use Rattle.layout.proofs.Fit.{rows_fit}
use Rattle.layout.proofs.Meant.{whole-meant}

module _ (buffer plan rows : List ℕ) (objects components place size : ℕ) (sound : rows_sound buffer rows objects components (root_attributes place size) ≡ true)
    (low : last_turn buffer plan rows objects components place size ≤ turn_limit plan) where
  abbrev file : List ℕ
  file = asked_file buffer plan rows objects components place size

  fit : WholeRows buffer plan rows objects components place size
  fit = rows_fit buffer plan rows objects components (root_attributes place size) sound low

  is-asked : whole_of buffer plan rows objects components place size ≡ file
  is-asked = whole-meant buffer plan rows objects components place size sound fit

  pub whole-can : {xs : List ℕ} → length file ≤ length xs → WholeRows buffer plan rows objects components place size × Room (whole_of buffer plan rows objects components place size) 0 xs
  whole-can {xs} h = (fit, room_as (sym is-asked) (record { fits = subst (λ (k : ℕ). k ≤ length xs) (sym (zero-add (length file))) h }))

  pub file-laid : {xs ys : List ℕ} {r : ℕ} → Laid (whole_of buffer plan rows objects components place size) 0 xs ys r → (r ≡ length file) × (ys ≡ file ++ drop (length file) xs)
  file-laid {xs} v = let w = as_bytes is-asked v in (w.past ∙ zero-add (length file), w.is ∙ ap (λ (k : ℕ). file ++ drop k xs) (zero-add (length file)))
