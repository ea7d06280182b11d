-- The code of the role that a key names: by its letters, or none where it isn't a text.
use Prim.Native.Nat.{ℕ}
use native.Mathlib.Omega.{arith}
use mathlib.Core.List.{List, []}
use mathlib.Core.Path.{◌≡◌, refl, ap, sym, ◌∙◌}
use Rattle.meaning.specs.Check.{pass, fault}
use Rattle.meaning.specs.Refusal.{KIND}
use Rattle.meaning.specs.Model.{Word}
use Rattle.meaning.specs.Kind as kinds
use Rattle.meaning.specs.Kind.{Kind, kind, a_word, as_word}
use Rattle.types.specs.Known.{position, role_names}
use Rattle.walk.specs.Reading.{Ends}
use Rattle.walk.specs.Places.{TextIs}
use Rattle.walk.specs.declared.Letters.{Letters}
use Rattle.naming.specs.NotedNames.{word_or}
use Rattle.fields.proofs.Texts.{Here, no_word, word, letters}
use Rattle.table.specs.Stored.{RoleIs}
use Rattle.std.specs.Prelude.{Some, None, Option}

no-letters : (e : Ends) (k : Kind Ends) → as_word k ≡ fault KIND → (word_or e k).letters ≡ []
unfolding as_word
no-letters e (kinds.number n) h = refl
no-letters e (kinds.words w) h = absurd (let z : ◌≡◌ {A = ℕ} 0 1 = cc in omega arith)
no-letters e (kinds.list l) h = refl
no-letters e (kinds.mapping l) h = refl
no-letters e kinds.null h = refl
no-letters e kinds.another h = refl

its-letters : (e : Ends) (k : Kind Ends) (w : Word Ends) → as_word k ≡ pass w → w.letters ≡ (word_or e k).letters
unfolding as_word
its-letters e (kinds.number n) w h = absurd (let z : ◌≡◌ {A = ℕ} 0 1 = cc in omega arith)
its-letters e (kinds.words v) w h = let z : w ≡ v = cc in ap (λ (u : Word Ends). u.letters) z
its-letters e (kinds.list l) w h = absurd (let z : ◌≡◌ {A = ℕ} 0 1 = cc in omega arith)
its-letters e (kinds.mapping l) w h = absurd (let z : ◌≡◌ {A = ℕ} 0 1 = cc in omega arith)
its-letters e kinds.null w h = absurd (let z : ◌≡◌ {A = ℕ} 0 1 = cc in omega arith)
its-letters e kinds.another w h = absurd (let z : ◌≡◌ {A = ℕ} 0 1 = cc in omega arith)

no-role : 8 ≡ position role_names []
unfolding position role_names
no-role = refl

module _ (s : List ℕ) (l : Option Letters) (h : TextIs (Here s 0) l) where
  pub role-odd : l ≡ None → RoleIs s 8
  unfolding a_word
  role-odd e d t q r = no-role ∙ ap (position role_names) (sym (no-letters _ (kind t) (no_word s l h e d t q r)))

  pub role-named : (at n : ℕ) (e : l ≡ Some (record { at = at; size = n })) (u : ℕ) → u ≡ position role_names (letters s l h at n e) → RoleIs s u
  unfolding a_word
  role-named at n e u is d t q r = is ∙ ap (position role_names) (its-letters _ (kind t) _ (word s l h at n e d t q r))
