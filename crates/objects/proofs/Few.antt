-- An object that passes has no more components than an object may have; and totals of components.
use Prim.Native.Nat.{ℕ, ◌≤◌}
use native.Mathlib.Omega.{arith}
use mathlib.Core.List.{List, map}
use mathlib.Core.Path.{◌≡◌, ap, subst}
use mathlib.Core.Option.{Option}
use mathlib.Core.Bool.{Bool, true, false}
use lib.ListN.{length}
use Rattle.meaning.specs.Tree.{Node}
use Rattle.meaning.specs.Check.{pass, in_component, required, required_in, optional}
use Rattle.meaning.specs.Limit.{component_limit}
use Rattle.meaning.specs.Model.{Named, Object, Component}
use Rattle.meaning.specs.Kind.{a_text}
use Rattle.meaning.specs.Field.{object_fields, names}
use Rattle.meaning.specs.Format.{format_rules}
use Rattle.meaning.specs.Judge.{inherited, a_dtype, attributes_of, shape_of, component, components_of, part, object}
use Rattle.meaning.specs.Layouts.{Layout, slot, dtype_at}
use Rattle.meaning.proofs.Checks.{pass_same, passed_on, passed, each-length}
use Rattle.walk.specs.Reading.{Ends}
use Rattle.naming.proofs.NamesJudged.{few-names}
use Rattle.objects.specs.Found.{passed_over, judging}

few-components : (L : Layout) (start : ℕ) (above : List ℕ → Option ℕ) (t : Node Ends) (cs : List (Component Ends)) → components_of L start above t ≡ pass cs → length cs ≤ component_limit
unfolding components_of
few-components L start above t cs e =
    let ns = passed (names component_limit t) _ cs e in
    let few = few-names component_limit t ns.value ns.is in
    let same = each-length (λ j c. in_component j (component L start (above c.name.letters) c)) 0 ns.value cs ns.then in
    omega arith

few-in-object : (L : Layout) (start : ℕ) (n : Named Ends) (o : Object Ends) → object L start n ≡ pass o → length o.components ≤ component_limit
unfolding object
few-in-object L start n o e =
    let fields = passed (object_fields L.object n.value) _ o e in
    let own = passed (required_in (slot dtype_at L.object) fields.value.dtype) _ o fields.then in
    let shape = passed (required fields.value.shape) _ o own.then in
    let format = passed (required fields.value.format) _ o shape.then in
    let components = passed (required fields.value.components) _ o format.then in
    let dtype = passed (optional (a_dtype L) own.value) _ o components.then in
    let dims = passed (shape_of shape.value) _ o dtype.then in
    let text = passed (a_text format.value) _ o dims.then in
    let attributes = passed (optional attributes_of fields.value.attributes) _ o text.then in
    let found = passed (components_of L start (inherited text.value.letters dtype.value) components.value) _ o attributes.then in
    let whole = passed_on (format_rules text.value.letters dims.value (map part found.value)) _ o found.then in
    let same : found.value ≡ o.components = ap (λ (o : Object Ends). o.components) (pass_same whole) in
    subst (λ cs. length cs ≤ component_limit) same (few-components L start (inherited text.value.letters dtype.value) components.value found.value found.is)

pub few-in-judging : (deep : Bool) (L : Layout) (start : ℕ) (n : Named Ends) (o : Object Ends) → judging deep L start n ≡ pass o → length o.components ≤ component_limit
unfolding judging passed_over
few-in-judging true L start n o e = few-in-object L start n o e
few-in-judging false L start n o e = subst (λ (o : Object Ends). length o.components ≤ component_limit) (pass_same e) (omega arith)
