-- A file that is accepted, in any layout, describes objects and components without a repeated name: the theorems hold of any two accepted files.
use Prim.Native.Nat.{ℕ, zero, suc}
use mathlib.Core.List.{List, [], ◌∷◌, map}
use mathlib.Core.Bool.{true}
use mathlib.Core.Option.{some, some-injective, none-ne-some}
use mathlib.Core.Path.{◌≡◌, refl, ap, ◌∙◌, subst}
use lib.ListN.{get_elem?}
use Rattle.meaning.specs.Check.{pass}
use Rattle.meaning.specs.Text.{distinct}
use Rattle.meaning.specs.Read.{Span}
use Rattle.meaning.specs.Model.{Component, Object}
use Rattle.meaning.specs.Layouts.{Layout}
use Rattle.meaning.specs.Frame.{Reading, reading}
use Rattle.meaning.specs.Described.{DescribedObject, read_component, read_object, described_by}
use Rattle.meaning.proofs.AcceptedModel.{ObjectSound, reading-sound}
use Rattle.meaning.specs.Every.{Every}
use Rattle.changes.specs.Differs.{part_name, object_name, Named}

module _ (file : List ℕ) where
  parts-named : (cs : List (Component Span)) → map part_name (map (read_component file) cs) ≡ map (λ c. c.name.letters) cs
  unfolding read_component
  parts-named [] = refl
  parts-named (c ∷ cs) = ap {B = List (List ℕ)} (λ r. c.name.letters ∷ r) (parts-named cs)

  objects-named : (os : List (Object Span)) → map object_name (map (read_object file) os) ≡ map (λ o. o.name.letters) os
  unfolding read_object
  objects-named [] = refl
  objects-named (o ∷ os) = ap {B = List (List ℕ)} (λ r. o.name.letters ∷ r) (objects-named os)

  part-once : (start : ℕ) (o : Object Span) → ObjectSound start o → distinct (map part_name (read_object file o).components) ≡ true
  unfolding read_object
  part-once start o h = ap distinct (parts-named o.components) ∙ h.names.once

  every-once : (start : ℕ) (os : List (Object Span)) → Every (ObjectSound start) os
      → (i : ℕ) (p : DescribedObject) → get_elem? (map (read_object file) os) i ≡ some p → distinct (map part_name p.components) ≡ true
  every-once start [] h i p e = absurd (none-ne-some p e)
  every-once start (o ∷ os) h zero p e =
      subst (λ (u : DescribedObject). distinct (map part_name u.components) ≡ true) (some-injective (read_object file o) p e) (part-once start o h.0)
  every-once start (o ∷ os) h (suc i) p e = every-once start os h.1 i p e

  pub accepted-named : (L : Layout) (r : Reading) → reading L file ≡ pass r → Named (described_by file r.model)
  unfolding described_by
  accepted-named L r e =
      let h = reading-sound L file r e
      in record { objects = ap distinct (objects-named r.model.objects) ∙ h.names.once; parts = every-once r.start r.model.objects h.objects }
