-- The checks of a component have numbers below those of a format's rules; those of names belong to no component.
use Prim.Native.Nat.{ℕ, ◌<◌}
use mathlib.Core.List.{List, [], ◌∷◌, map}
use mathlib.Core.Option.{Option, none, some}
use mathlib.Core.Path.{◌≡◌, refl}
use native.Mathlib.Omega.{arith}
use Rattle.meaning.specs.Tree.{Node, Pair, note_of}
use Rattle.meaning.specs.Check.{optional, each}
use Rattle.meaning.specs.Kind.{a_number, a_word, a_text, a_mapping, present}
use Rattle.meaning.specs.Model.{Word, Named}
use Rattle.meaning.specs.Layouts.{Layout, somes}
use Rattle.meaning.specs.Field.{field, key_of, name_of}
use Rattle.meaning.specs.Judge.{or_else, a_dtype}
use Rattle.walk.specs.Reading.{Ends}
use Rattle.explained.specs.Fields as at
use Rattle.explained.specs.Step as steps
use Rattle.explained.specs.Step.{Step, given, each_of}
use Rattle.explained.specs.Order.{more, number_steps, word_steps, mapping_steps, text_steps, dtype_steps, type_steps, raw_steps, key_steps, repeat_steps, field_steps, missing, missing_in, same_name_steps, name_steps, component_steps}
use Rattle.badfields.proofs.Firsts.{Each, no_more, and_so, each-++, each-found, each-every, each_of_lem}
use Rattle.badvalues.proofs.Alone.{Plain}

pub record Low {P : Type 0} (x : Step P) : Type 0 where
  pub low : x.number < 21

low-at : {P : Type 0} (x : Step P) (n : ℕ) → x.number ≡ n → n < 21 → Low x
low-at x n e l = record { low = omega (arith, e, l) }

module _ {P : Type 0} where
  number-low : (t : Node P) → Each Low (number_steps t)
  unfolding number_steps
  number-low t = and_so (low-at _ 8 refl (omega arith)) no_more

  word_low : (t : Node P) → Each Low (word_steps t)
  unfolding word_steps
  word_low t = and_so (low-at _ 8 refl (omega arith)) no_more

  table-low : (t : Node P) → Each Low (mapping_steps t)
  unfolding mapping_steps
  table-low t = and_so (low-at _ 8 refl (omega arith)) no_more

  text-low : (t : Node P) → Each Low (text_steps t)
  unfolding text_steps
  text-low t = each-++ (word_low t) (each-found (given (a_word t)) _ λ w. and_so (low-at _ 10 refl (omega arith)) no_more)

  dtype-low : (L : Layout) (t : Node P) → Each Low (dtype_steps L t)
  unfolding dtype_steps
  dtype-low L t = each-++ (word_low t) (each-found (given (a_word t)) _ λ w. and_so (low-at _ 16 refl (omega arith)) no_more)

  type-low : (d : ℕ) (t : Node P) → Each Low (type_steps d t)
  unfolding type_steps
  type-low d t = each-++ (text-low t) (each-found (given (a_text t)) _ λ w. and_so (low-at _ 18 refl (omega arith)) no_more)

  raw-low : (t : Node P) → Each Low (raw_steps t)
  unfolding raw_steps
  raw-low t = each-++ (word_low t) (each-found (given (a_word t)) _ λ w. and_so (low-at _ 17 refl (omega arith)) no_more)

  missing-low : {A : Type 0} (t : Node P) (v : Option A) → Each Low (missing t v)
  unfolding missing
  missing-low t v = and_so (low-at _ 12 refl (omega arith)) no_more

  missing-in-low : (name : Option (List ℕ)) (t : Node P) (v : Option (Node P)) → Each Low (missing_in name t v)
  unfolding missing_in
  missing-in-low none t v = no_more
  missing-in-low (some n) t v = missing-low t v

  keys-low : (ps : List (Pair P)) → Each Low (key_steps ps)
  unfolding key_steps
  keys-low [] = no_more
  keys-low (p ∷ ps) = and_so (low-at _ 9 refl (omega arith)) (keys-low ps)

  repeats-low : (known before : List (List ℕ)) (ps : List (Pair P)) → Each Low (repeat_steps known before ps)
  unfolding repeat_steps
  repeats-low known before [] = no_more
  repeats-low known before (p ∷ ps) = and_so (low-at _ 11 refl (omega arith)) (repeats-low known (more before (key_of p)) ps)

  pub component-low : (L : Layout) (start : ℕ) (above : Option ℕ) (n : Named P) → Each Low (component_steps L start above n)
  unfolding component_steps field_steps
  component-low L start above n =
      each-++ (each-++ (table-low n.value) (each-found (given (a_mapping n.value)) _ λ ps. each-++ (keys-low ps) (repeats-low (somes L.component) [] ps)))
      (each-found (given (a_mapping n.value)) _ λ ps.
      each-++ (missing-in-low (at.dtype_on L at.component) n.value (field (at.dtype_on L at.component) ps))
      (each-++ (missing-low n.value (field (at.offset_of L) ps))
      (each-++ (missing-low n.value (field (at.length_of L) ps))
      (each-found (field (at.offset_of L) ps) _ λ offset.
      each-found (field (at.length_of L) ps) _ λ length.
      each-++ (each-found (field (at.dtype_on L at.component) ps) _ (dtype-low L))
      (each-found (given (optional (a_dtype L) (field (at.dtype_on L at.component) ps))) _ λ own.
      each-++ (missing-low n.value (or_else own above))
      (each-found (or_else own above) _ λ d.
      each-++ (each-found (present (field (at.type_of L) ps)) _ (type-low d))
      (each-++ (number-low offset) (each-found (given (a_number offset)) _ λ o.
      each-++ (number-low length) (each-found (given (a_number length)) _ λ l.
      each-++ (each-found (present (field (at.unpacked_of L) ps)) _ number-low)
      (each-++ (each-found (field (at.encoding_of L) ps) _ raw-low)
      (each-++ (each-found (present (field (at.digest_of L) ps)) _ text-low)
      (each-++ (and_so (low-at _ 19 refl (omega arith)) no_more) (and_so (low-at _ 20 refl (omega arith)) no_more)))))))))))))

  -- in its component
  in-component : (j : ℕ) (w : Option (Word P)) {ss : List (Step P)} → Each Low ss → Each Low (map (steps.in_component j w) ss)
  in-component j w no_more = no_more
  in-component j w (and_so q h) = and_so (record { low = q.low }) (in-component j w h)

  pub each-low : (L : Layout) (start : ℕ) (above : Named P → Option ℕ) (ns : List (Named P))
      → Each Low (each_of (λ j n. map (steps.in_component j (some n.name)) (component_steps L start (above n) n)) 0 ns)
  each-low L start above ns = each_of_lem _ (λ j n. in-component j (some n.name) (component-low L start (above n) n)) 0 ns

-- ---------------------------------------------------------------- names

plain : (n : ℕ) → 0 < n → (0 < n) × (◌≡◌ {A = Option (Word Ends)} none none)
plain n h = (h, refl)

same-names-plain : (before : List (List ℕ)) (ns : List (Named Ends)) → Each Plain (same_name_steps before ns)
unfolding same_name_steps
same-names-plain before [] = no_more
same-names-plain before (n ∷ ns) = and_so (plain 11 (omega arith)) (same-names-plain (n.name.letters ∷ before) ns)

pub names-plain : (limit : ℕ) (t : Node Ends) → Each Plain (name_steps limit t)
unfolding name_steps mapping_steps key_steps
names-plain limit t =
    each-++ (and_so (plain 8 (omega arith)) no_more)
    (each-found (given (a_mapping t)) _ λ ps.
    each-++ (each-every 9 (λ p. note_of p.key) _ (λ p. and_so (plain 9 (omega arith)) no_more) ps)
    (each-found (given (each (λ i. name_of) 0 ps)) _ λ ns.
    each-++ (each-every 10 (λ n. n.name.note) _ (λ n. and_so (plain 10 (omega arith)) no_more) ns)
    (each-++ (and_so (plain 15 (omega arith)) no_more) (same-names-plain [] ns))))
