-- Keys and repeats, from the places of the leftmost of each.
use Prim.Native.Nat.{ℕ, ◌<◌}
use mathlib.Core.List.{List, [], ◌∷◌}
use mathlib.Core.Option.{Option, none, some}
use mathlib.Core.Path.{◌≡◌, refl, ap, sym, ◌∙◌, subst}
use native.Mathlib.Omega.{arith}
use lib.ListN.{length}
use borrow.Author.Rules.{part_to_end}
use Rattle.meaning.specs.Tree.{Pair}
use Rattle.meaning.specs.Layouts.{Slots, somes}
use Rattle.meaning.specs.Field.{key_of}
use Rattle.walk.specs.Reading.{Ends, Due}
use Rattle.walk.proofs.Passed.{Here}
use Rattle.explained.specs.Step.{Step, first}
use Rattle.explained.specs.Order.{key_steps, repeat_steps, more}
use Rattle.keys.specs.Odd.{Noted, left_first}
use Rattle.keys.specs.declared.Odd.{Odd}
use Rattle.keys.proofs.Leftmost.{KeysSome}
use Rattle.keys.proofs.Parts.{chain-some}
use Rattle.spot.specs.Shown.{spot, shown}
use Rattle.spot.specs.Shown.{Spot}
use Rattle.badfields.specs.Fields.{entry_steps, FirstIs}
use Rattle.badfields.proofs.Firsts.{Each, no_more, and_so, each_first, each-++, Numbered, none_first, shown-here}

-- a check with this number of something that is there
abbrev There : ℕ → Step Ends → Type 0
There n s = (s.number ≡ n) × (0 < length s.place.start)

keys-there : (ps : List (Pair Ends)) → KeysSome ps → Each (There 9) (key_steps ps)
unfolding key_steps
keys-there [] h = no_more
keys-there (p ∷ ps) h = and_so (refl, h.0) (keys-there ps h.1)

repeats-there : (known before : List (List ℕ)) (ps : List (Pair Ends)) → KeysSome ps → Each (There 11) (repeat_steps known before ps)
unfolding repeat_steps
repeats-there known before [] h = no_more
repeats-there known before (p ∷ ps) h = and_so (refl, h.0) (repeats-there known (more before (key_of p)) ps h.1)

-- keys and repeats have numbers
pub keys-numbered : {P : Type 0} (ps : List (Pair P)) → Each Numbered (key_steps ps)
unfolding key_steps
keys-numbered [] = no_more
keys-numbered (p ∷ ps) = and_so (let z : 0 < 9 = omega arith in z) (keys-numbered ps)

pub repeats-numbered : {P : Type 0} (known before : List (List ℕ)) (ps : List (Pair P)) → Each Numbered (repeat_steps known before ps)
unfolding repeat_steps
repeats-numbered known before [] = no_more
repeats-numbered known before (p ∷ ps) = and_so (let z : 0 < 11 = omega arith in z) (repeats-numbered known (more before (key_of p)) ps)

pub entries-numbered : {P : Type 0} (ns : Slots) (ps : List (Pair P)) → Each Numbered (entry_steps ns ps)
entries-numbered ns ps = each-++ (keys-numbered ps) (repeats-numbered (somes ns) [] ps)

-- the first of a list, from its place
module _ (n k : ℕ) (ss : List (Step Ends)) (there : Each (There n) ss) (is : k ≡ left_first (first ss)) where
  nothing_left : k ≡ 0 → first ss ≡ none
  unfolding left_first
  nothing_left z = go (first ss) refl
    where
      go : (f : Option (Step Ends)) → first ss ≡ f → first ss ≡ none
      go none e = e
      go (some x) e = let l = (each_first there x e).1 in let y : k ≡ length x.place.start = is ∙ ap left_first e in absurd (omega (arith, l, y, z))

  something-left : (k ≡ 0 → ⊥) → spot n k ≡ shown (first ss)
  unfolding left_first shown
  something-left z = go (first ss) refl
    where
      go : (f : Option (Step Ends)) → first ss ≡ f → spot n k ≡ shown (first ss)
      go none e = absurd (z (is ∙ ap left_first e))
      go (some x) e = rw (e, is ∙ ap left_first e, ← (each_first there x e).0) refl

module _ (ns : Slots) (d mode count : ℕ) (s p : List ℕ) (o : Odd) (noted : Noted ns d mode count (Here s 0) p o) (r : Spot) where
  abbrev Shows : Type 0
  Shows = (ps : List (Pair Ends)) → KeysSome ps → o.key ≡ left_first (first (key_steps ps)) → o.again ≡ left_first (first (repeat_steps (somes ns) [] ps)) → r ≡ shown (first (entry_steps ns ps))

  shows : Shows → FirstIs ns d mode count s p r
  shows f ps q h =
      let n = noted ps q (subst (λ u. Due d mode count u ps q) (sym (part_to_end s 0)) h) in
      (n.0, f ps (chain-some d s ps q h.chain).1 n.1 n.2)

  pub odd-key : (o.key ≡ 0 → ⊥) → r ≡ spot 9 o.key → FirstIs ns d mode count s p r
  odd-key z e = shows λ ps k x y. e ∙ shown-here (key_steps ps) (spot 9 o.key) (something-left 9 o.key (key_steps ps) (keys-there ps k) x z) (repeat_steps (somes ns) [] ps) (λ w. omega (arith, w))

  module _ (a : o.key ≡ 0) where
    past-keys : (ps : List (Pair Ends)) → KeysSome ps → o.key ≡ left_first (first (key_steps ps)) → first (entry_steps ns ps) ≡ first (repeat_steps (somes ns) [] ps)
    past-keys ps k x = none_first (key_steps ps) (repeat_steps (somes ns) [] ps) (nothing_left 9 o.key (key_steps ps) (keys-there ps k) x a)

    pub again : (o.again ≡ 0 → ⊥) → r ≡ spot 11 o.again → FirstIs ns d mode count s p r
    again z e = shows λ ps k x y. e ∙ something-left 11 o.again (repeat_steps (somes ns) [] ps) (repeats-there (somes ns) [] ps k) y z ∙ ap shown (sym (past-keys ps k x))

    pub all_known : o.again ≡ 0 → r ≡ spot 0 0 → FirstIs ns d mode count s p r
    unfolding shown
    all_known z e = shows λ ps k x y. e ∙ ap shown (sym (past-keys ps k x ∙ nothing_left 11 o.again (repeat_steps (somes ns) [] ps) (repeats-there (somes ns) [] ps k) y z))
