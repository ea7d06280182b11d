-- The end of a `components` map: its names judged, and then the first fault of its entries, or how many there are.
use Prim.Native.Nat.{ℕ, ◌≤◌}
use native.Mathlib.Omega.{arith}
use mathlib.Core.List.{List, map}
use mathlib.Core.Path.{◌≡◌, sym, subst}
use lib.ListN.{length, length-map}
use Rattle.meaning.specs.Tree.{Node, Pair}
use Rattle.meaning.specs.Limit.{component_limit}
use Rattle.meaning.specs.Kind.{kind, mapping}
use Rattle.meaning.specs.Field.{names}
use Rattle.meaning.specs.Judge.{inherited, components_of}
use Rattle.meaning.specs.Layouts.{layout_of}
use Rattle.component.specs.Value.{given}
use Rattle.walk.specs.Reading.{Ends}
use Rattle.walk.proofs.Passed.{Here}
use Rattle.naming.specs.NotedNames.{named_anyway, told, Tallied, Judged}
use Rattle.naming.specs.declared.Tally.{Tally}
use Rattle.naming.proofs.NamesJudged.{few-names, names-told}
use Rattle.components.specs.Firsts.{FoundIs, Concluded}
use Rattle.components.proofs.FirstFault.{names-fault, entry-fault, all-fine}
use Rattle.std.specs.Prelude.{Ok, Err, Result}
use Rattle.numbers.specs.declared.refusal.Refusal.{Refusal}
use Rattle.numbers.specs.declared.fault.ObjectFault.{ObjectFault}

module _ (m : List ℕ) (t : Tally) (first : Result (Unit {0}) ObjectFault) (left size : List ℕ) (room : length left ≡ 16) (x : Result (Unit {0}) Refusal) (h : Judged (Here m 0) t (Here left 0) (Here size 0) x) where
  judged : (y : Result (Unit {0}) Refusal) → x ≡ y → (done : List (Pair Ends)) → Tallied m done t left size → (u : Node Ends) → kind u ≡ mapping done → names component_limit u ≡ told done y
  judged = names-told component_limit m t left size room x h

  pub names-conclude : (n : Refusal) → x ≡ Err n → (found : Result ℕ ObjectFault) → found ≡ Err (record { refusal = n; component = 0 }) → Concluded m t first left size found
  names-conclude n e found z g start rows ps kept u ku f is has = rw z (names-fault (layout_of g.layout) (inherited f (given g.code)) start ps u n rows (judged (Err n) e ps kept.named u ku))

  module _ (e : x ≡ (Ok tt)) where
    pub fault-concludes : (n : ObjectFault) → first ≡ Err n → (found : Result ℕ ObjectFault) → found ≡ Err n → Concluded m t first left size found
    fault-concludes n f found is g start rows ps kept u ku format so has =
        subst (λ x. FoundIs (components_of (layout_of g.layout) start (inherited format (given g.code)) u) x rows) (sym is)
        (entry-fault (layout_of g.layout) (inherited format (given g.code)) start ps u n rows (judged (Ok tt) e ps kept.named u ku) (rw f at (kept.judged format so has)))

    pub fine-concludes : first ≡ (Ok tt) → Concluded m t first left size (Ok t.count)
    fine-concludes f g start rows ps kept u ku format so has =
        let j = judged (Ok tt) e ps kept.named u ku in
        let few : length (map named_anyway ps) ≤ component_limit = few-names component_limit u (map named_anyway ps) j in
        let c = kept.named.counted in
        all-fine (layout_of g.layout) (inherited format (given g.code)) start ps u t.count rows j (rw f at (kept.judged format so has)) c (omega (arith, length-map ps named_anyway))
