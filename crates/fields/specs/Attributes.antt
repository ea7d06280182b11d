-- The attributes of a root or of an object, at a place that may be none: a map that may hold anything, or absent.
use Rattle.std.specs.Prelude.{ℕ, List, Bool, cond, ◌≡◌}
use Rattle.meaning.specs.Check.{pass, fault, optional}
use Rattle.meaning.specs.Refusal.{KIND}
use Rattle.meaning.specs.Judge.{attributes_of}
use Rattle.fields.specs.Slots.{OptionAt}

abbrev pub AttributesAt : List ℕ → ℕ → Bool → Type 0
AttributesAt s left r = OptionAt s left λ o. optional attributes_of o ≡ cond r (pass o) (fault KIND)
