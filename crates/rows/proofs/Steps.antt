-- What a writer lays, step by step over sound rows: the entry of the next object.
use Prim.Native.Nat.{ℕ, ◌+◌, ◌-◌, ◌*◌, ◌≤◌, ◌<◌}
use mathlib.Core.List.{List, ◌∷◌}
use mathlib.Core.Bool.{true}
use mathlib.Core.Path.{◌≡◌, sym, ap, ◌∙◌}
use lib.ListN.{drop, get_or}
use Rattle.meaning.specs.Columns.{object_width, component_width, count_column}
use Rattle.meaning.specs.Text.{all}
use Rattle.meaning.specs.Read.{bytes_at}
use Rattle.meaning.specs.Asked.{AskedComponent, asked_object, asked_component}
use Rattle.meaning.specs.Sound.{component_sound}
use Rattle.meaning.specs.Described.{described_object, described_objects}
use Rattle.meaning.specs.Manifest.{Keyed, under}
use Rattle.rows.specs.Placed.{objects_at, components_at}
use Rattle.rows.specs.Turns.{reached, blob_sizes, object_from, objects_from}
use Rattle.rows.proofs.EachRow.{all-taken, first_rows}
use Rattle.rows.proofs.Describes.{described-next, blobs-as-long}

-- `left` objects from the place `row` on in os, `due` components from the place `from` on in cs, where the turn p is reached

module _ (plan buffer os cs : List ℕ) (left due row from p : ℕ) where
  abbrev objects-at : ℕ → ℕ → ℕ → ℕ → ℕ → List (Keyed (List ℕ))
  objects-at left due row from p = objects_from plan p (described_objects buffer (objects_at left row os) (components_at due from cs))

  abbrev count : ℕ
  count = get_or os (row + count_column) 0

  abbrev own : List AskedComponent
  own = components_at count from cs

  pub next-object : 0 < left → count ≤ due → all (component_sound buffer) own ≡ true
      → objects-at left due row from p
      ≡ under (bytes_at buffer (asked_object (drop row os)).name) (object_from plan p (described_object buffer (asked_object (drop row os)) own))
      ∷ objects-at (left - 1) (due - count) (row + object_width) (from + component_width * count) (reached plan p (blob_sizes own))
  unfolding objects_from described_object
  next-object h k e =
      ap (objects_from plan p) (described-next buffer os cs left due row from h k)
      ∙ ap (λ (ls : List ℕ). under (bytes_at buffer (asked_object (drop row os)).name) (object_from plan p (described_object buffer (asked_object (drop row os)) own))
      ∷ objects-at (left - 1) (due - count) (row + object_width) (from + component_width * count) (reached plan p ls))
      (blobs-as-long buffer own e)

  -- of all that are due, an object's own are sound
  pub own-sound : count ≤ due → all (component_sound buffer) (components_at due from cs) ≡ true → all (component_sound buffer) own ≡ true
  own-sound k e =
      sym (ap (all (component_sound buffer)) (first_rows asked_component component_width due count from cs k)) ∙ all-taken (component_sound buffer) count (components_at due from cs) e
