-- The reader's verdict on a written file, from the description alone. Only DEEP, TEXT, COUNT, TWICE, TYPE, RANK, ROLE and LENGTH can come of one whose rows are sound.
use Rattle.std.specs.Prelude.{ℕ, List, [], ◌∷◌, map, Bool, true, false, cond, not, length, leb}
use Rattle.std.proofs.Math.Option.{Option, none, some}
use Rattle.meaning.specs.Refusal.{DEEP, TEXT, COUNT, TWICE, TYPE}
use Rattle.meaning.specs.Limit.{object_limit, component_limit}
use Rattle.meaning.specs.Text.{all, distinct, utf8}
use Rattle.meaning.specs.Check.{Check, pass, ◌>>◌, ◌unless◌, in_object, in_component, each}
use Rattle.meaning.specs.Types.{logicals, listed, fits_over}
use Rattle.meaning.specs.Format.{Part, format_rules}
use Rattle.meaning.specs.Sound.{root_levels, object_levels}
use Rattle.meaning.specs.Described.{DescribedComponent, DescribedObject, Described}
use Rattle.readback.specs.Trees.{deep_at}

-- UTF-8, count, repeats
unfoldable pub judged_names : ℕ → List (List ℕ) → Check (Unit {0})
judged_names limit ns = do
  TEXT unless all utf8 ns
  COUNT unless leb (length ns) limit
  TWICE unless distinct ns

unfoldable pub judged_type : ℕ → Option (List ℕ) → Check (Unit {0})
judged_type d none = pass tt
judged_type d (some w) = do
  TEXT unless utf8 w
  TYPE unless fits_over d (listed logicals w)

unfoldable pub judged_text : Option (List ℕ) → Check (Unit {0})
judged_text none = pass tt
judged_text (some w) = TEXT unless utf8 w

unfoldable pub judged_component : DescribedComponent → Check (Unit {0})
judged_component c = do
  judged_type c.dtype c.type
  judged_text c.digest

unfoldable pub part_of : DescribedComponent → Part
part_of c = record { called = c.name; code = c.dtype; typed = c.type; size = length c.blob }

unfoldable pub judged_object : DescribedObject → Check (Unit {0})
judged_object o = do
  TEXT unless utf8 o.format
  judged_names component_limit (map (λ c. c.name) o.components)
  each (λ j c. in_component j (judged_component c)) 0 o.components
  format_rules o.format o.shape (map part_of o.components)

unfoldable pub judged_objects : List DescribedObject → Check (Unit {0})
judged_objects os = do
  judged_names object_limit (map (λ o. o.name) os)
  each (λ i o. in_object i (judged_object o)) 0 os
  pass tt

-- attributes that get too deep for their place
unfoldable pub deep_option : ℕ → Option (List ℕ) → Bool
deep_option levels none = false
deep_option levels (some bs) = deep_at levels bs

unfoldable pub any_too_deep : List DescribedObject → Bool
any_too_deep [] = false
any_too_deep (o ∷ os) = cond (deep_option object_levels o.attributes) true (any_too_deep os)

unfoldable pub too_deep : Described → Bool
too_deep d = cond (deep_option root_levels d.attributes) true (any_too_deep d.objects)

unfoldable pub judged : Described → Check (Unit {0})
judged d = do
  DEEP unless not (too_deep d)
  judged_objects d.objects
