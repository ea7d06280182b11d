-- The end of the `objects` map: its names judged, and then the first fault of its entries, or how many objects and components there are.
use Prim.Native.Nat.{ℕ}
use mathlib.Core.List.{List}
use mathlib.Core.Path.{◌≡◌}
use lib.ListN.{length}
use Rattle.meaning.specs.Tree.{Node, Pair}
use Rattle.meaning.specs.Limit.{object_limit}
use Rattle.meaning.specs.Kind.{kind, mapping}
use Rattle.meaning.specs.Field.{names}
use Rattle.walk.specs.Reading.{Ends}
use Rattle.walk.proofs.Passed.{Here}
use Rattle.naming.specs.NotedNames.{told, Tallied, Judged}
use Rattle.naming.specs.declared.Tally.{Tally}
use Rattle.naming.proofs.NamesJudged.{names-told}
use Rattle.objects.specs.Firsts.{Concluded}
use Rattle.objects.proofs.FirstFault.{names-fault, entry-fault, all-fine}
use Rattle.std.specs.Prelude.{Ok, Err, Result}
use Rattle.numbers.specs.declared.refusal.Refusal.{Refusal}
use Rattle.numbers.specs.declared.fault.FileFault.{FileFault}
use Rattle.objects.specs.declared.Found.{Found}

module _ (m : List ℕ) (t : Tally) (first : Result ℕ FileFault) (left size : List ℕ) (room : length left ≡ 1024) (x : Result (Unit {0}) Refusal) (h : Judged (Here m 0) t (Here left 0) (Here size 0) x) where
  judged : (y : Result (Unit {0}) Refusal) → x ≡ y → (done : List (Pair Ends)) → Tallied m done t left size → (u : Node Ends) → kind u ≡ mapping done → names object_limit u ≡ told done y
  judged = names-told object_limit m t left size room x h

  pub names-conclude : (n : Refusal) → x ≡ Err n → (q : Result Found FileFault) → q ≡ Err (record { refusal = n; object = 0; component = 0 }) → Concluded m t first left size q
  names-conclude n e q is-q deep L start ps kept u ku = rw is-q (names-fault deep L start ps u n (judged (Err n) e ps kept.named u ku))

  module _ (e : x ≡ (Ok tt)) where
    pub fault-concludes : (k : FileFault) → first ≡ Err k → (q : Result Found FileFault) → q ≡ Err k → Concluded m t first left size q
    fault-concludes k f q is-q deep L start ps kept u ku = rw is-q (entry-fault deep L start ps u (judged (Ok tt) e ps kept.named u ku) k (rw f at kept.judged))

    pub fine-concludes : (total : ℕ) → first ≡ Ok total → Concluded m t first left size (Ok (record { objects = t.count; components = total }))
    fine-concludes total f deep L start ps kept u ku = all-fine deep L start ps u (judged (Ok tt) e ps kept.named u ku) t.count total kept.named.counted (rw f at kept.judged)
