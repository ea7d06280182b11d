-- A reading whose counts are within the limits and whose dimensions are below 2 ^ 64.
use Rattle.std.specs.Prelude.{◌≤◌, length}
use Rattle.meaning.specs.Limit.{object_limit, component_limit}
use Rattle.meaning.specs.Model.{Object, Model}
use Rattle.meaning.specs.Every.{Every}
use Rattle.readback.specs.Fine.{Fits}

module _ {P : Type 0} where
  pub record SizedObject (o : Object P) : Type 0 where
    pub shape : Every Fits o.shape
    pub count : length o.components ≤ component_limit

  pub record Sized (m : Model P) : Type 0 where
    pub count : length m.objects ≤ object_limit
    pub objects : Every SizedObject m.objects
