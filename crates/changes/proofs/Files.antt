-- The theorems of any two accepted files, each of its own layout: the list of what they describe holds every true entry and no other, in order; it is the only such list; exchanging the
-- files exchanges it; a file has none with itself.
use Prim.Native.Nat.{ℕ}
use mathlib.Core.List.{List, []}
use mathlib.Core.Path.{◌≡◌}
use Rattle.meaning.specs.Check.{pass}
use Rattle.meaning.specs.Layouts.{Layout}
use Rattle.meaning.specs.Frame.{Reading, reading}
use Rattle.meaning.specs.Described.{Described, described_by}
use Rattle.changes.specs.Changes.{Entry, changes, change_numbers}
use Rattle.changes.specs.Differs.{In, Change, Named, swapped}
use Rattle.changes.specs.Order.{Rising}
use Rattle.changes.proofs.AcceptedNamed.{accepted-named}
use Rattle.changes.proofs.Exactly as exactly
use Rattle.changes.proofs.InOrder as order
use Rattle.changes.proofs.OnlyList as only
use Rattle.changes.proofs.Itself as itself
use Rattle.changes.proofs.Exchanged as back

module _ (L M : Layout) (first second : List ℕ) (r s : Reading) (reads : reading L first ≡ pass r) (reads₂ : reading M second ≡ pass s) where
  abbrev a : Described
  a = described_by first r.model

  abbrev b : Described
  b = described_by second s.model

  named-first : Named a
  named-first = accepted-named first L r reads

  named-second : Named b
  named-second = accepted-named second M s reads₂

  pub complete : (e : Entry) → Change a b e → In e (changes a b)
  complete = exactly.complete a b named-second

  pub nothing-else : (e : Entry) → In e (changes a b) → Change a b e
  nothing-else = exactly.nothing-else a b named-second

  pub in_order : Rising (changes a b)
  in_order = order.in_order a b

  pub only-list : (l : List Entry) → Rising l → ((e : Entry) → In e l → Change a b e) → ((e : Entry) → Change a b e → In e l) → l ≡ changes a b
  only-list = only.only-list a b named-second

  pub exchanged : (e : Entry) → In e (changes a b) → In (swapped e) (changes b a)
  exchanged = back.exchanged a b named-first named-second

module _ (L : Layout) (file : List ℕ) (r : Reading) (reads : reading L file ≡ pass r) where
  pub unchanged : change_numbers (described_by file r.model) (described_by file r.model) ≡ []
  unchanged = itself.no-numbers (described_by file r.model) (accepted-named file L r reads)
