-- The loop over a shape's elements: those that are due, and the checks that are left.
use Prim.Native.Nat.{ℕ, suc, ◌+◌, ◌-◌, ◌≤◌, ◌<◌}
use native.Mathlib.Omega.{arith}
use mathlib.Core.List.{List, [], ◌∷◌, ◌++◌}
use mathlib.Core.Bool.{Bool, true, false}
use mathlib.Core.Path.{◌≡◌, refl, ap, sym, ◌∙◌, subst}
use lib.ListN.{length, drop, length-drop}
use lib.Seq.{drop-drop}
use lib.Dec.{leb}
use borrow.Author.Tests.{le-leb, lt-leb}
use borrow.Author.Rules.{part_to_end}
use Rattle.meaning.specs.Tree.{Node, note_of}
use Rattle.meaning.specs.Check.{Check, pass, refuse, ◌>>=◌, fault, each}
use Rattle.meaning.specs.Refusal.{KIND, COUNT}
use Rattle.meaning.specs.Limit.{rank_limit}
use Rattle.meaning.specs.Kind as kinds
use Rattle.meaning.specs.Kind.{a_number, a_list}
use Rattle.meaning.specs.Read.{item, no_note}
use Rattle.meaning.proofs.ReadPrefix.{item-exact, item-hungry}
use Rattle.cbor.specs.Ending.{FAULT, code, item_end}
use Rattle.cbor.proofs.Loops as loops
use Rattle.walk.specs.Reading.{Ends, Reads, DueNodes}
use Rattle.walk.specs.Places.{ListIs, NumberIs, numeral, MoreIs, is_any}
use Rattle.walk.specs.declared.Opening.{Opening}
use Rattle.walk.proofs.Lists.{none_read, past-node}
use Rattle.walk.proofs.Passed.{Here}
use Rattle.walk.proofs.ReadSays.{note-of}
use Rattle.walk.proofs.Found.{number_read}
use Rattle.explained.specs.Step as steps
use Rattle.explained.specs.Step.{Step, first, given, passes, every}
use Rattle.explained.specs.Order.{shape_steps}
use Rattle.explained.proofs.Why.{or_else, first-++}
use Rattle.spot.specs.Shown.{spot, shown}
use Rattle.spot.specs.Shown.{Spot}
use Rattle.badshape.specs.Steps.{ShapeIs}
use Rattle.std.specs.Prelude.{Some, None, Option as Optional}

-- ---------------------------------------------------------------- the checks that are left after `rank` numbers

abbrev counts : Node Ends → ℕ → List ℕ → List (Step Ends)
counts t rank more = steps.◌at◌unless◌ COUNT (note_of t) (leb (length more + rank) rank_limit)

abbrev element_steps : List (Node Ends) → List (Step Ends)
element_steps = every KIND note_of (λ d. passes (a_number d))

abbrev left_steps : Node Ends → ℕ → List (Node Ends) → List (Step Ends)
left_steps t rank items = element_steps items ++ steps.◌>>=◌ (given (each (λ i. a_number) rank items)) (counts t rank)

-- what is asked of the numbers, in another form
same-counts : (f g : List ℕ → List (Step Ends)) (c : Check (List ℕ)) → ((l : List ℕ) → first (f l) ≡ first (g l)) → first (steps.◌>>=◌ (given c) f) ≡ first (steps.◌>>=◌ (given c) g)
same-counts f g (pass l) h = h l
same-counts f g (refuse n i j) h = refl

after_same : (s r q : List (Step Ends)) → first r ≡ first q → first (s ++ r) ≡ first (s ++ q)
after_same s r q e = first-++ s r ∙ ap (λ x. or_else (first s) x) e ∙ sym (first-++ s q)

all_left : (t : Node Ends) (items : List (Node Ends)) → a_list t ≡ pass items → first (shape_steps t) ≡ first (left_steps t 0 items)
unfolding shape_steps
all_left t items e = rw e (after_same (element_steps items) _ _ (same-counts _ (counts t 0) (each (λ i. a_number) 0 items) (λ l. ap (λ (n : ℕ). first (steps.◌at◌unless◌ COUNT (note_of t) (leb n rank_limit))) (let z : length l ≡ length l + 0 = omega arith in z))))

one_fewer : (t : Node Ends) (rank : ℕ) (x : Node Ends) (xs : List (Node Ends)) (n : ℕ) → a_number x ≡ pass n → first (left_steps t rank (x ∷ xs)) ≡ first (left_steps t (rank + 1) xs)
one_fewer t rank x xs n e = let u : rank + 1 ≡ suc rank = omega arith in rw (e, u) (after_same (element_steps xs) _ _ (go (each (λ i. a_number) (suc rank) xs)))
  where
    go : (c : Check (List ℕ)) → first (steps.◌>>=◌ (given (c >>= λ more. pass (n ∷ more))) (counts t rank)) ≡ first (steps.◌>>=◌ (given c) (counts t (suc rank)))
    go (pass more) = ap (λ (n : ℕ). first (steps.◌at◌unless◌ COUNT (note_of t) (leb n rank_limit))) (let z : suc (length more) + rank ≡ length more + suc rank = omega arith in z)
    go (refuse m i j) = refl

not-a-number : (t : Node Ends) (rank : ℕ) (x : Node Ends) (xs : List (Node Ends)) → a_number x ≡ fault KIND → spot 8 (length (note_of x).start) ≡ shown (first (left_steps t rank (x ∷ xs)))
unfolding shown
not-a-number t rank x xs e = rw e refl

module _ (t : Node Ends) (rank left : ℕ) (is : left ≡ length (note_of t).start) where
  too_many : rank_limit < rank → spot 15 left ≡ shown (first (left_steps t rank []))
  unfolding shown
  too_many l = rw (lt-leb (0 + rank) rank_limit (omega (arith, l)), is) refl

  not-too-many : rank ≤ rank_limit → spot 0 0 ≡ shown (first (left_steps t rank []))
  unfolding shown
  not-too-many l = rw (le-leb (0 + rank) rank_limit (omega (arith, l))) refl

-- ---------------------------------------------------------------- the loop

-- of the shape t, from s on, after `rank` elements
pub record Rest (mode due : ℕ) (s : List ℕ) (rank : ℕ) (t : Node Ends) (items : List (Node Ends)) : Type 0 where
  pub last : List ℕ
  pub due-are : DueNodes 28 mode due s items last
  pub first-is : first (shape_steps t) ≡ first (left_steps t rank items)

pub record Standing (mode due : ℕ) (s : List ℕ) (rank : ℕ) (t : Node Ends) : Type 0 where
  pub items : List (Node Ends)
  pub rest : Rest mode due s rank t items

-- the loop's invariant
pub record Passing (mode count : ℕ) (s : List ℕ) (at rank : ℕ) : Type 0 where
  pub within : at ≤ length s
  pub few : rank ≤ at
  pub short : length s < FAULT
  pub trees : (t : Node Ends) (r : List ℕ) → Reads 29 s t r → Standing mode (count - rank) (drop at s) rank t

whole_is : (d : ℕ) (s : List ℕ) (t : Node Ends) (r : List ℕ) → Reads d s t r → length s ≡ length (note_of t).start
whole_is d s t r e = sym (ap (λ (x : Ends). length x.start) (note-of d s t r e))

module _ (s : List ℕ) {v : Optional Opening} (h : ListIs (Here s 0) v) where
  pub no-list : v ≡ None → {z : Spot} → z ≡ spot 8 (length s) → ShapeIs s z
  unfolding shape_steps shown
  no-list e y t r x = let k : ListIs s None = rw (part_to_end s 0, e) at h in y ∙ (rw (k 28 t r x, whole_is 29 s t r x) refl)

  pub begins : {op : Opening} → length s < FAULT → v ≡ Some op → Passing op.mode op.count s op.size 0
  unfolding kinds.a_list kinds.as_list
  begins {op} short e =
      let k : ListIs s (Some op) = rw (part_to_end s 0, e) at h in
      record {
        within = k.within;
        few = omega arith;
        short = short;
        trees = λ t r x.
            let l = k.trees 28 t r x in
            let z : op.count - 0 ≡ op.count = omega arith in
            record { items = l.items; rest = record { last = l.last; due-are = rw z l.due; first-is = all_left t l.items (rw l.kind-is refl) } };
      }

module _ {mode count : ℕ} {s : List ℕ} {at rank : ℕ} (p : Passing mode count s at rank) where
  module _ {k : ℕ} (is-k : k ≡ code (item_end 28 (Here s at))) where
    ends_so : k ≡ code (item_end 28 (drop at s))
    ends_so = is-k ∙ ap (λ u. code (item_end 28 u)) (part_to_end s at)

    takes-a-byte : k ≤ length s - at → 1 ≤ k
    takes-a-byte l = loops.takes-a-byte (item no_note 28) (item-exact 28) (item-hungry 28) s p.short at p.within k ends_so l

    pub nearer : k ≤ length s - at → length s - (at + k) < length s - at
    nearer l = let w = p.within in let o = takes-a-byte l in omega (arith, w, o, l)

  module _ {more : Bool} (h : MoreIs mode (count - rank) (Here s at) more) where
    abbrev Now : Node Ends → List (Node Ends) → Type 0
    Now t = Rest mode (count - rank) (drop at s) rank t

    any-due : (t : Node Ends) (r : List ℕ) (e : Reads 29 s t r) → is_any (p.trees t r e).items ≡ more
    any-due t r e = let z = (p.trees t r e).rest in subst (λ u. MoreIs mode (count - rank) u more) (part_to_end s at) h 28 (p.trees t r e).items z.last z.due-are

    module _ (done : more ≡ false) {z : Spot} where
      at-the-end : (t : Node Ends) (r : List ℕ) → Reads 29 s t r → z ≡ shown (first (left_steps t rank [])) → z ≡ shown (first (shape_steps t))
      at-the-end t r e f = go (p.trees t r e).items (any-due t r e ∙ done) (p.trees t r e).rest
        where
          go : (items : List (Node Ends)) → is_any items ≡ false → Now t items → z ≡ shown (first (shape_steps t))
          go [] i y = f ∙ ap shown (sym y.first-is)
          go (x ∷ xs) i y = absurd (let z : ◌≡◌ {A = ℕ} 0 1 = cc in omega arith)

      pub many-dimensions : rank_limit < rank → z ≡ spot 15 (length s) → ShapeIs s z
      many-dimensions l y t r e = at-the-end t r e (y ∙ too_many t rank (length s) (whole_is 29 s t r e) l)

      pub dimensions-are : rank ≤ rank_limit → z ≡ spot 0 0 → ShapeIs s z
      dimensions-are l y t r e = at-the-end t r e (y ∙ not-too-many t rank (length s) (whole_is 29 s t r e) l)

    module _ (on : more ≡ true) where
      at-the-next : (v : Optional ℕ) → NumberIs (Here s at) v → (P : Node Ends → Type 0)
          → ((t : Node Ends) (x : Node Ends) (xs : List (Node Ends)) (q : List ℕ) → Reads 28 (drop at s) x q → a_number x ≡ numeral v → Now t (x ∷ xs) → P t)
          → (t : Node Ends) (r : List ℕ) → Reads 29 s t r → P t
      at-the-next v is-v P f t r e = go (p.trees t r e).items (any-due t r e ∙ on) (p.trees t r e).rest
        where
          go : (items : List (Node Ends)) → is_any items ≡ true → Now t items → P t
          go [] z y = absurd (let z : ◌≡◌ {A = ℕ} 0 1 = cc in omega arith)
          go (x ∷ xs) z y =
              let c = y.due-are.chain in
              f t x xs c.0 c.1 (number_read 28 (drop at s) v (subst (λ u. NumberIs u v) (part_to_end s at) is-v) x c.0 c.1) y

      module _ {v : Optional ℕ} (is-v : NumberIs (Here s at) v) where
        pub no_number : v ≡ None → {z : Spot} → z ≡ spot 8 (length s - at) → ShapeIs s z
        no_number e {z} i = at-the-next v is-v (λ t. z ≡ shown (first (shape_steps t))) λ t x xs q w u y.
            i ∙ ap (spot 8) (sym (length-drop at s) ∙ whole_is 28 (drop at s) x q w) ∙ not-a-number t rank x xs (u ∙ ap numeral e) ∙ ap shown (sym y.first-is)

        module _ {n : ℕ} (is-n : v ≡ Some n) {k : ℕ} (is-k : k ≡ code (item_end 28 (Here s at))) where
          -- no element of a tree is refused
          pub no_end : length s - at < k → {z : Spot} → ShapeIs s z
          no_end l {z} =
              let f = loops.fails (item no_note 28) (item-exact 28) (item-hungry 28) s p.short at p.within k (ends_so is-k) l in
              at-the-next v is-v (λ t. z ≡ shown (first (shape_steps t))) λ t x xs q w u y.
              absurd (let z : true ≡ false = none_read 28 f.number (drop at s) (x ∷ xs) y.last f.is-fault y.due-are.chain in let z : ◌≡◌ {A = ℕ} 0 1 = cc in omega arith)

          pub goes_on : k ≤ length s - at → Passing mode count s (at + k) (rank + 1)
          goes_on l =
              let w = p.within in let m = p.few in let o = takes-a-byte is-k l in
              let e = loops.passes (item no_note 28) (item-exact 28) (item-hungry 28) s p.short at p.within k (ends_so is-k) l in
              let z : count - rank - 1 ≡ count - (rank + 1) = omega arith in
              record {
                within = omega arith;
                few = omega arith;
                short = p.short;
                trees = at-the-next v is-v _ λ t x xs q _ u y. record {
                  items = xs;
                  rest = rw (← z, ← drop-drop k at s) (record { last = y.last; due-are = past-node e y.due-are; first-is = y.first-is ∙ one_fewer t rank x xs n (u ∙ ap numeral is-n) });
                };
              }
