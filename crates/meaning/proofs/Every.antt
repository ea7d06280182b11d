-- What holds of every element of a list: of its parts, of each one that is found, and what follows for each; so a model that stands in its file stands by whatever its terms imply.
use Prim.Native.Nat.{ℕ, zero, suc, ◌<◌}
use native.Mathlib.Omega.{arith}
use mathlib.Core.List.{List, [], ◌∷◌, ◌++◌, map}
use mathlib.Core.Bool.{Bool, true}
use mathlib.Core.Option.{Option, none, some}
use mathlib.Core.Path.{◌≡◌, subst}
use lib.ListN.{length, take, drop, get_or, get_elem?}
use Rattle.meaning.specs.Text.{all}
use Rattle.meaning.specs.Tree.{Node}
use Rattle.meaning.specs.Read.{Span}
use Rattle.meaning.specs.Model.{Word, Component, Object, Model}
use Rattle.meaning.specs.Sound.{root_levels, object_levels}
use Rattle.meaning.specs.Every.{Every, IfAny}
use Rattle.meaning.specs.Stands.{WordStands, ComponentStands, ObjectStands, ModelStands}
use Rattle.meaning.proofs.Tests.{both_left, both_right}

module _ {A : Type 0} (P : A → Type 0) where
  pub every_take : (n : ℕ) (l : List A) → Every P l → Every P (take n l)
  every_take zero l h = tt
  every_take (suc n) [] h = tt
  every_take (suc n) (a ∷ l) (h, hs) = (h, every_take n l hs)

  pub every_drop : (n : ℕ) (l : List A) → Every P l → Every P (drop n l)
  every_drop zero l h = h
  every_drop (suc n) [] h = tt
  every_drop (suc n) (a ∷ l) (h, hs) = every_drop n l hs

  pub every_append : (l k : List A) → Every P l → Every P k → Every P (l ++ k)
  every_append [] k h g = g
  every_append (a ∷ l) k (h, hs) g = (h, every_append l k hs g)

  pub every-found : (l : List A) (j : ℕ) (a : A) → Every P l → get_elem? l j ≡ some a → P a
  every-found [] j a h g = absurd (let z : ◌≡◌ {A = ℕ} 0 1 = cc in omega arith)
  every-found (b ∷ l) zero a h g = let z : b ≡ a = cc in subst P z h.0
  every-found (b ∷ l) (suc j) a h g = every-found l j a h.1 g

-- told of each index
pub every-by-index : {A : Type 0} (P : A → Type 0) (d : A) (l : List A) → ((i : ℕ) → i < length l → P (get_or l i d)) → Every P l
every-by-index P d [] h = tt
every-by-index P d (a ∷ l) h = (h 0 (omega arith), every-by-index P d l (λ i k. h (suc i) (omega arith)))

pub every_map : {A B : Type 0} (P : A → Type 0) (Q : B → Type 0) (f : A → B) (l : List A) → ((a : A) → P a → Q (f a)) → Every P l → Every Q (map f l)
every_map P Q f [] k h = tt
every_map P Q f (a ∷ l) k (h, hs) = (k a h, every_map P Q f l k hs)

pub every-all : {A : Type 0} (p : A → Bool) (l : List A) → all p l ≡ true → Every (λ a. p a ≡ true) l
every-all p [] h = tt
every-all p (a ∷ l) h = (both_left (p a) (all p l) h, every-all p l (both_right (p a) (all p l) h))

-- what each of them implies holds of every one
pub every-so : {A : Type 0} {P Q : A → Type 0} (l : List A) → ((a : A) → P a → Q a) → Every P l → Every Q l
every-so [] f h = tt
every-so (a ∷ l) f h = (f a h.0, every-so l f h.1)

pub any-so : {A : Type 0} {P Q : A → Type 0} (o : Option A) → ((a : A) → P a → Q a) → IfAny P o → IfAny Q o
any-so none f h = tt
any-so (some a) f h = f a h

-- ---- a model that stands by some terms stands by those that they imply

word-so : {Lies Lies' : Span → Type 0} (file : List ℕ) → ((s : Span) → Lies s → Lies' s) → (w : Word Span) → WordStands Lies file w → WordStands Lies' file w
word-so file lies w h = record { lies = lies _ h.lies; spelled = h.spelled }

module _ {Lies Lies' : Span → Type 0} {Attributes Attributes' : ℕ → Node Span → Type 0} {Part Part' : Component Span → Type 0} (file : List ℕ)
    (lies : (s : Span) → Lies s → Lies' s) (inner : (t : Node Span) → Attributes object_levels t → Attributes' object_levels t)
    (outer : (t : Node Span) → Attributes root_levels t → Attributes' root_levels t) (part : (c : Component Span) → Part c → Part' c) where
  component-so : (c : Component Span) → ComponentStands Lies Attributes Part file c → ComponentStands Lies' Attributes' Part' file c
  component-so c h = record {
    name = word-so file lies c.name h.name;
    dtype = h.dtype;
    type = any-so c.type (word-so file lies) h.type;
    digest = any-so c.digest (word-so file lies) h.digest;
    part = part c h.part;
  }

  object-so : (o : Object Span) → ObjectStands Lies Attributes Part file o → ObjectStands Lies' Attributes' Part' file o
  object-so o h = record {
    name = word-so file lies o.name h.name;
    rank = h.rank;
    format = word-so file lies o.format h.format;
    attributes = any-so o.attributes inner h.attributes;
    components = every-so o.components component-so h.components;
  }

  pub stands-so : (m : Model Span) → ModelStands Lies Attributes Part file m → ModelStands Lies' Attributes' Part' file m
  stands-so m h = record { attributes = any-so m.attributes outer h.attributes; objects = every-so m.objects object-so h.objects }
