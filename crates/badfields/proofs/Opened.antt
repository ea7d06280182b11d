-- A map that was lent whole to `walk::map`, which answered x, and whose entries `first` passed: its pairs, and what is known of them.
use Prim.Native.Nat.{ℕ, suc, ◌+◌}
use mathlib.Core.List.{List}
use mathlib.Core.Path.{◌≡◌, ap, sym, ◌∙◌, subst}
use lib.ListN.{length, drop, replicate}
use borrow.Author.Rules.{part_to_end}
use Rattle.meaning.specs.Tree.{Node, Pair, note_of}
use Rattle.meaning.specs.Kind.{kind, mapping}
use Rattle.meaning.specs.Layouts.{Slots}
use Rattle.walk.specs.Reading.{Ends, Reads, Chain, foldl}
use Rattle.walk.specs.Places.{MapIs}
use Rattle.walk.specs.declared.Opening.{Opening}
use Rattle.walk.proofs.ReadSays.{note-of}
use Rattle.walk.proofs.Passed.{Here}
use Rattle.walk.proofs.Opens as opens
use Rattle.fields.specs.Slots.{marks}
use Rattle.explained.specs.Step.{first}
use Rattle.spot.specs.Shown.{shown}
use Rattle.spot.specs.Shown.{Spot}
use Rattle.badfields.specs.Fields.{entry_steps, FirstIs}
use Rattle.std.specs.Prelude.{Some, Option}

-- so many places, as the code makes them
pub zeros : (ns ms : Slots) → ns ≡ ms → (n : ℕ) → length ms ≡ n → replicate {A = ℕ} (n + 3) 0 ≡ replicate (length ns + 3) 0
zeros ns ms same n many = ap (λ (i : ℕ). replicate {A = ℕ} (i + 3) 0) (sym (ap length same ∙ many))

pub whole_is : (d : ℕ) (s : List ℕ) (t : Node Ends) (q : List ℕ) → Reads (suc d) s t q → length s ≡ length (note_of t).start
whole_is d s t q r = sym (ap (λ (e : Ends). length e.start) (note-of (suc d) s t q r))

-- of a list of n fields
pub record Met (ms : Slots) (n d : ℕ) (s p : List ℕ) (k : Spot) (t : Node Ends) : Type 0 where
  pub pairs : List (Pair Ends)
  pub last : List ℕ
  pub chain : Chain d s pairs last
  pub slots : p ≡ foldl (marks ms) (replicate (n + 3) 0) pairs
  pub kind-is : kind t ≡ mapping pairs
  pub first-is : k ≡ shown (first (entry_steps ms pairs))

-- ns is the list as the code asks for it, and ms as the layout has it
module _ (ns ms : Slots) (same : ns ≡ ms) (n : ℕ) (many : length ms ≡ n) (d : ℕ) (s : List ℕ) (x : Option Opening) (h : MapIs (Here s 0) x)
    (op : Opening) (is : x ≡ Some op) (p : List ℕ) (k : Spot) (asked : FirstIs ns d op.mode op.count (Here s op.size) p k) where
  pub met : (t : Node Ends) (q : List ℕ) → Reads (suc d) s t q → Met ms n d (drop op.size s) p k t
  met t q y =
      let m = (opens.opened s x h op is).trees d t q y in
      let f : FirstIs ms d op.mode op.count (drop op.size s) p k = subst (λ u. FirstIs u d op.mode op.count (drop op.size s) p k) same (subst (λ u. FirstIs ns d op.mode op.count u p k) (part_to_end s op.size) asked) in
      let w = f m.pairs m.last m.due in
      record {
        pairs = m.pairs;
        last = m.last;
        chain = m.due.chain;
        slots = w.0 ∙ ap (λ (i : ℕ). foldl (marks ms) (replicate (i + 3) 0) m.pairs) many;
        kind-is = m.kind-is;
        first-is = w.1;
      }
