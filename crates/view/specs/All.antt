-- All components of a model, in the order of their rows: an index of a view counts them.
use Rattle.std.specs.Prelude.{List, [], ◌∷◌, ◌++◌}
use Rattle.meaning.specs.Model.{Component, Object}

unfoldable pub all_components : {P : Type 0} → List (Object P) → List (Component P)
all_components [] = []
all_components (o ∷ os) = o.components ++ all_components os
