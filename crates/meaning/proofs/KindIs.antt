-- What an item is if it passes as a text or as a map. Assumes nothing.
use mathlib.Core.List.{List}
use mathlib.Core.Option.{Option, none, some}
use mathlib.Core.Path.{◌≡◌, refl, ap, sym, ◌∙◌}
use Rattle.meaning.specs.Tree.{Node, Pair}
use Rattle.meaning.specs.Check.{pass, fault, ◌>>◌, optional}
use Rattle.meaning.specs.Refusal.{KIND}
use Rattle.meaning.specs.Model.{Word}
use Rattle.meaning.specs.Kind.{Kind, number, words, list, mapping, null, another, as_word, as_mapping, a_mapping}
use Rattle.meaning.specs.Field.{key_kind}
use Rattle.meaning.specs.Judge.{attributes_of}
use Rattle.meaning.proofs.Checks.{pass_same, refused-is-not, passed, passed_on}

module _ {P : Type 0} where
  -- a key that is a text has its letters
  pub key-of-word : (k : Kind P) (w : Word P) → as_word k ≡ pass w → key_kind k ≡ some w.letters
  unfolding as_word key_kind
  key-of-word (number n) w e = absurd (refused-is-not e)
  key-of-word (words v) w e = ap (λ (u : Word P). some u.letters) (pass_same e)
  key-of-word (list l) w e = absurd (refused-is-not e)
  key-of-word (mapping l) w e = absurd (refused-is-not e)
  key-of-word null w e = absurd (refused-is-not e)
  key-of-word another w e = absurd (refused-is-not e)

  -- and one that is none has none
  pub key-of-none : (k : Kind P) → as_word k ≡ fault KIND → key_kind k ≡ none
  unfolding as_word key_kind
  key-of-none (number n) e = refl
  key-of-none (words v) e = absurd (refused-is-not (sym e))
  key-of-none (list l) e = refl
  key-of-none (mapping l) e = refl
  key-of-none null e = refl
  key-of-none another e = refl

  pub table-kind : (k : Kind P) (ps : List (Pair P)) → as_mapping k ≡ pass ps → k ≡ mapping ps
  unfolding as_mapping
  table-kind (number n) ps e = absurd (refused-is-not e)
  table-kind (words w) ps e = absurd (refused-is-not e)
  table-kind (list l) ps e = absurd (refused-is-not e)
  table-kind (mapping l) ps e = ap mapping (pass_same e)
  table-kind null ps e = absurd (refused-is-not e)
  table-kind another ps e = absurd (refused-is-not e)

  -- attributes pass as they are
  pub attributes-stay : (o a : Option (Node P)) → optional attributes_of o ≡ pass a → a ≡ o
  unfolding attributes_of
  attributes-stay none a e = sym (pass_same e)
  attributes-stay (some t) a e =
      let b = passed (a_mapping t >> pass t) (λ b. pass (some b)) a e in
      let c : t ≡ b.value = pass_same (passed_on (a_mapping t) (pass t) b.value b.is) in
      sym (pass_same b.then) ∙ ap some (sym c)
