-- The loop over a shape's elements: the numbers so far, the elements still due, and the verdict on the whole.
use Prim.Native.Nat.{ℕ, suc, ◌+◌, ◌-◌, ◌*◌, ◌≤◌, ◌<◌}
use native.Mathlib.Omega.{arith}
use mathlib.Core.List.{List, [], ◌∷◌, ◌++◌, append_assoc, append-nil}
use mathlib.Core.Bool.{Bool, true, false}
use mathlib.Core.Path.{◌≡◌, refl, ap, sym, ◌∙◌, subst}
use lib.ListN.{length, get_or, set, take, drop, length-append}
use lib.Seq.{drop-drop, take-suc-set}
use lib.Dec.{leb}
use borrow.Author.Tests.{lt-ltb, le-ltb, le-leb, lt-leb}
use borrow.Author.Rules.{part_to_end}
use Rattle.meaning.specs.Tree.{Node}
use Rattle.meaning.specs.Check.{Check, pass, refuse, ◌>>=◌, ◌>>◌, ◌unless◌, fault, each}
use Rattle.meaning.specs.Refusal.{KIND, COUNT}
use Rattle.meaning.specs.Limit.{rank_limit}
use Rattle.meaning.specs.Kind as kinds
use Rattle.meaning.specs.Kind.{a_number}
use Rattle.meaning.specs.Read.{item, no_note}
use Rattle.meaning.proofs.ReadPrefix.{item-exact, item-hungry}
use Rattle.cbor.specs.Ending.{FAULT, code, took, item_end}
use Rattle.cbor.proofs.Loops as loops
use Rattle.walk.specs.Reading.{Ends, Reads, DueNodes}
use Rattle.walk.specs.Places.{ListIs, NumberIs, numeral, MoreIs, is_any}
use Rattle.walk.specs.declared.Opening.{Opening}
use Rattle.walk.proofs.Lists.{none_read, past-node}
use Rattle.meaning.specs.Judge.{shape_of}
use Rattle.walk.specs.Put.{put}
use Rattle.walk.proofs.Puts.{length-put, put_other}
use Rattle.walk.proofs.Found.{number_read}
use Rattle.shape.specs.Shape.{ShapeRead}
use Rattle.std.specs.Prelude.{Some, None, Ok, Err, Option}
use Rattle.numbers.specs.declared.refusal.Refusal.{Refusal}
use Rattle.numbers.specs.declared.refusal.Refusal.TheVariants as refusals

module _ (a : List ℕ) (i x : ℕ) where
  pub put-there : i < length a → set a i x ≡ put a i x
  put-there h = rw (lt-ltb i (length a) h) refl

  pub put-past : length a ≤ i → a ≡ put a i x
  put-past h = rw (le-ltb i (length a) h) refl

abbrev numbers : ℕ → List (Node Ends) → Check (List ℕ)
numbers = each (λ i. a_number)

abbrev bounded : List ℕ → Check (List ℕ)
bounded s = COUNT unless leb (length s) rank_limit >> pass s

-- the verdict on the numbers `found` with those that follow
abbrev joined : List ℕ → Check (List ℕ) → Check (List ℕ)
joined found c = c >>= λ more. bounded (found ++ more)

-- from s on, after `rank` elements
pub record Rest (d mode n : ℕ) (s dims : List ℕ) (rank : ℕ) (verdict : Check (List ℕ)) (found : List ℕ) (items : List (Node Ends)) : Type 0 where
  pub last : List ℕ
  pub due : DueNodes d mode n s items last
  pub many : length found ≡ rank
  pub noted : rank ≤ rank_limit → found ≡ take rank dims
  pub verdict-is : verdict ≡ joined found (numbers rank items)

pub record Standing (d mode due : ℕ) (s dims : List ℕ) (rank : ℕ) (verdict : Check (List ℕ)) : Type 0 where
  pub found : List ℕ
  pub items : List (Node Ends)
  pub rest : Rest d mode due s dims rank verdict found items

-- the loop's invariant
pub record Passing (d mode count : ℕ) (s before dims : List ℕ) (at rank : ℕ) : Type 0 where
  pub short : length s < FAULT
  pub within : at ≤ length s
  pub few : rank ≤ at
  pub room : length dims ≡ rank_limit
  pub others : (j : ℕ) → rank ≤ j → get_or dims j 0 ≡ get_or before j 0
  pub trees : (t : Node Ends) (r : List ℕ) → Reads (suc d) s t r → Standing d mode (count - rank) (drop at s) dims rank (shape_of t)

-- ---------------------------------------------------------------- one element

joined-next : (found : List ℕ) (n : ℕ) (c : Check (List ℕ)) → joined found (c >>= λ more. pass (n ∷ more)) ≡ joined (found ++ n ∷ []) c
joined-next found n (pass more) = ap bounded (sym (append_assoc found (n ∷ []) more))
joined-next found n (refuse m o c) = refl

module _ {d mode due : ℕ} {s dims : List ℕ} {rank : ℕ} {verdict : Check (List ℕ)} {found : List ℕ} where
  module _ {x : Node Ends} {xs : List (Node Ends)} (h : Rest d mode due s dims rank verdict found (x ∷ xs)) where
    not-a-number : a_number x ≡ fault KIND → verdict ≡ fault KIND
    not-a-number e = h.verdict-is ∙ (rw e refl)

    another : {n k : ℕ} → length dims ≡ rank_limit → a_number x ≡ pass n → item_end d s ≡ took k → Rest d mode (due - 1) (drop k s) (put dims rank n) (rank + 1) verdict (found ++ n ∷ []) xs
    another {n} {k} room e z =
        let u : rank + 1 ≡ suc rank = omega arith in
        let many = h.many in
        record {
          last = h.last;
          due = past-node z h.due;
          many = length-append found (n ∷ []) ∙ (omega arith);
          noted = λ l. rw (u, lt-ltb rank (length dims) (omega arith)) (ap (λ f. f ++ n ∷ []) (h.noted (omega arith)) ∙ sym (take-suc-set dims rank n (omega arith)));
          verdict-is = h.verdict-is ∙ (rw (e, u) (joined-next found n (numbers (suc rank) xs)));
        }

  module _ (h : Rest d mode due s dims rank verdict found []) where
    all_found : verdict ≡ bounded found
    all_found = h.verdict-is ∙ simp append-nil

    too_many : rank_limit < rank → verdict ≡ fault COUNT
    too_many l = let m = h.many in all_found ∙ (rw (lt-leb (length found) rank_limit (omega arith)) refl)

    not-too-many : rank ≤ rank_limit → verdict ≡ pass (take rank dims)
    not-too-many l = let m = h.many in all_found ∙ (rw (le-leb (length found) rank_limit (omega arith)) (ap pass (h.noted l)))

-- ---------------------------------------------------------------- as the code passes them

refused : {r : Refusal} {rank : ℕ} → Err r ≡ Ok rank → ⊥
refused e = let z : ◌≡◌ {A = ℕ} 0 1 = cc in omega arith

-- what is known of the length of a slice that is lent
abbrev Lent : List ℕ → Type 0
Lent s = length s * 1 < FAULT

abbrev From : List ℕ → ℕ → List ℕ
From s at = take (length s - at) (drop at s)

module _ {d : ℕ} {s dims : List ℕ} (room : length dims ≡ rank_limit) {v : Option Opening} (h : ListIs (From s 0) v) where
  pub no-list : v ≡ None → ShapeRead d s dims dims (Err refusals.Kind)
  unfolding shape_of
  no-list e = let k : ListIs s None = rw (part_to_end s 0, e) at h in record { room = room; others = λ _ z. absurd (refused z); trees = λ t r x. rw (k d t r x) refl }

  pub begins : {op : Opening} → Lent s → v ≡ Some op → Passing d op.mode op.count s dims dims op.size 0
  unfolding shape_of kinds.a_list kinds.as_list
  begins {op} lent e =
      let k : ListIs s (Some op) = rw (part_to_end s 0, e) at h in
      record {
        short = omega arith;
        within = k.within;
        few = omega arith;
        room = room;
        others = λ j l. refl;
        trees = λ t r x.
            let l = k.trees d t r x in
            let z : op.count - 0 ≡ op.count = omega arith in
            record { found = []; items = l.items; rest = record { last = l.last; due = rw z l.due; many = refl; noted = λ _. refl; verdict-is = rw l.kind-is refl } };
      }

module _ {d mode count : ℕ} {s before dims : List ℕ} {at rank : ℕ} (p : Passing d mode count s before dims at rank) where
  module _ {k : ℕ} (is-k : k ≡ code (item_end d (From s at))) where
    ends_so : k ≡ code (item_end d (drop at s))
    ends_so = is-k ∙ ap (λ u. code (item_end d u)) (part_to_end s at)

    takes-a-byte : k ≤ length s - at → 1 ≤ k
    takes-a-byte l = loops.takes-a-byte (item no_note d) (item-exact d) (item-hungry d) s p.short at p.within k ends_so l

    pub fewer-left : k ≤ length s - at → length s - (at + k) < length s - at
    fewer-left l = omega (arith, takes-a-byte l)

  module _ {more : Bool} (h : MoreIs mode (count - rank) (From s at) more) where
    abbrev Here : Node Ends → List ℕ → List (Node Ends) → Type 0
    Here t = Rest d mode (count - rank) (drop at s) dims rank (shape_of t)

    any-due : (t : Node Ends) (r : List ℕ) (e : Reads (suc d) s t r) → is_any (p.trees t r e).items ≡ more
    any-due t r e = let z = (p.trees t r e).rest in subst (λ u. MoreIs mode (count - rank) u more) (part_to_end s at) h d (p.trees t r e).items z.last z.due

    module _ (done : more ≡ false) where
      at-the-end : (P : Node Ends → Type 0) → ((t : Node Ends) (found : List ℕ) → Here t found [] → P t) → (t : Node Ends) (r : List ℕ) → Reads (suc d) s t r → P t
      at-the-end P f t r e = go (p.trees t r e).items (any-due t r e ∙ done) (p.trees t r e).rest
        where
          go : (items : List (Node Ends)) → is_any items ≡ false → Here t (p.trees t r e).found items → P t
          go [] z y = f t (p.trees t r e).found y
          go (x ∷ xs) z y = absurd (let z : ◌≡◌ {A = ℕ} 0 1 = cc in omega arith)

      pub many-dimensions : rank_limit < rank → ShapeRead d s before dims (Err refusals.Count)
      many-dimensions l = record { room = p.room; others = λ _ z. absurd (refused z); trees = at-the-end _ λ t found y. too_many y l }

      pub dimensions-are : rank ≤ rank_limit → ShapeRead d s before dims (Ok rank)
      dimensions-are l = record { room = p.room; others = λ r z j h. p.others j (let y : rank ≡ r = cc in omega (arith, y, h)); trees = at-the-end _ λ t found y. (not-too-many y l, l) }

    module _ (on : more ≡ true) where
      at-the-next : (v : Option ℕ) → NumberIs (From s at) v → (P : Node Ends → Type 0) → ((t : Node Ends) (found : List ℕ) (x : Node Ends) (xs : List (Node Ends)) → a_number x ≡ numeral v → Here t found (x ∷ xs) → P t)
          → (t : Node Ends) (r : List ℕ) → Reads (suc d) s t r → P t
      at-the-next v is-v P f t r e = go (p.trees t r e).items (any-due t r e ∙ on) (p.trees t r e).rest
        where
          go : (items : List (Node Ends)) → is_any items ≡ true → Here t (p.trees t r e).found items → P t
          go [] z y = absurd (let z : ◌≡◌ {A = ℕ} 0 1 = cc in omega arith)
          go (x ∷ xs) z y =
              let c = y.due.chain in
              f t (p.trees t r e).found x xs (number_read d (drop at s) v (subst (λ u. NumberIs u v) (part_to_end s at) is-v) x c.0 c.1) y

      module _ {v : Option ℕ} (is-v : NumberIs (From s at) v) where
        pub no_number : v ≡ None → ShapeRead d s before dims (Err refusals.Kind)
        no_number e = record { room = p.room; others = λ _ z. absurd (refused z); trees = at-the-next v is-v _ λ t found x xs z y. not-a-number y (z ∙ ap numeral e) }

        module _ {n : ℕ} (is-n : v ≡ Some n) {k : ℕ} (is-k : k ≡ code (item_end d (From s at))) {noted : List ℕ} (is-noted : noted ≡ put dims rank n) where
          still-room : length noted ≡ rank_limit
          still-room = ap length is-noted ∙ length-put dims rank n ∙ p.room

          -- no element of a tree is refused
          pub no_end : length s - at < k → ShapeRead d s before noted (Err refusals.Kind)
          no_end l =
              let f = loops.fails (item no_note d) (item-exact d) (item-hungry d) s p.short at p.within k (ends_so is-k) l in
              record {
                room = still-room;
                others = λ _ z. absurd (refused z);
                trees = at-the-next v is-v _ λ t found x xs z y.
                    absurd (let z : true ≡ false = none_read d f.number (drop at s) (x ∷ xs) y.last f.is-fault y.due.chain in let z : ◌≡◌ {A = ℕ} 0 1 = cc in omega arith);
              }

          pub goes_on : k ≤ length s - at → Passing d mode count s before noted (at + k) (rank + 1)
          goes_on l =
              let w = p.within in let m = p.few in let o = takes-a-byte is-k l in
              let e = loops.passes (item no_note d) (item-exact d) (item-hungry d) s p.short at p.within k (ends_so is-k) l in
              let z : count - rank - 1 ≡ count - (rank + 1) = omega arith in
              record {
                short = p.short;
                within = omega arith;
                few = omega arith;
                room = still-room;
                others = λ j h. ap (λ (l : List ℕ). get_or l j 0) is-noted ∙ put_other dims rank j n (λ z. omega (arith, z, h)) ∙ p.others j (omega (arith, h));
                trees = at-the-next v is-v _ λ t found x xs q y. record {
                  found = found ++ n ∷ [];
                  items = xs;
                  rest = rw (is-noted, ← z, ← drop-drop k at s) (another y p.room (q ∙ ap numeral is-n) e);
                };
              }
