-- A device of the proofs: one relation that holds between a tree and what is left when unknown fields are dropped, and between trees whose pairs are moved about.
use Prim.Native.Nat.{ℕ, zero, suc}
use mathlib.Core.List.{List, [], ◌∷◌}
use mathlib.Core.Bool.{true, false, ◌&&◌}
use mathlib.Core.Path.{◌≡◌}
use Rattle.meaning.specs.Tree.{Node, Pair, text}
use Rattle.meaning.specs.Version.{version_shape, major_one}
use Rattle.meaning.specs.Layouts.{Slots, slot, Layout}
use Rattle.meaning.specs.Drop.{known, holds}
use Rattle.meaning.specs.Moved.{Inserted, Entries, InMaps}

-- what must be alike in the values of the field at each place
abbrev pub Values : Type 0 → Type 1
Values P = ℕ → Node P → Node P → Type 0

module _ {P : Type 0} where
  -- the same key, and of a known field an alike value
  pub record PairAlike (slots : Slots) (W : Values P) (p q : Pair P) : Type 0 where
    pub key : p.key ≡ q.key
    pub value : (i : ℕ) → holds (slot i slots) p ≡ true → W i p.value q.value

  -- the pairs of a map: moved about, with unknown ones on either side
  pub data Rearranged (slots : Slots) (W : Values P) : List (Pair P) → List (Pair P) → Type 0 where
    done : Rearranged slots W [] []
    put : {p q : Pair P} {l m n : List (Pair P)} → PairAlike slots W p q → Rearranged slots W l m → Inserted q m n → Rearranged slots W (p ∷ l) n
    more : {p : Pair P} {l m : List (Pair P)} → known slots p ≡ false → Rearranged slots W l m → Rearranged slots W (p ∷ l) m
    less : {q : Pair P} {l m n : List (Pair P)} → known slots q ≡ false → Rearranged slots W l m → Inserted q m n → Rearranged slots W l n

  -- the same, or two versions of the major that we read
  pub data VersionAlike : Node P → Node P → Type 0 where
    same : {t : Node P} → VersionAlike t t
    versions : {p : P} {v w : List ℕ} → (version_shape v && major_one v) ≡ true → (version_shape w && major_one w) ≡ true → VersionAlike (text p v) (text p w)

  module _ (L : Layout) where
    abbrev pub ComponentAlike : Node P → Node P → Type 0
    ComponentAlike = InMaps (Rearranged L.component (λ i x y. x ≡ y))

    abbrev pub ObjectValue : Values P
    ObjectValue zero x y = x ≡ y
    ObjectValue (suc zero) x y = x ≡ y
    ObjectValue (suc (suc zero)) x y = x ≡ y
    ObjectValue (suc (suc (suc zero))) x y = x ≡ y
    ObjectValue (suc (suc (suc (suc zero)))) x y = InMaps (Entries ComponentAlike) x y
    ObjectValue (suc (suc (suc (suc (suc i))))) x y = x ≡ y

    abbrev pub ObjectAlike : Node P → Node P → Type 0
    ObjectAlike = InMaps (Rearranged L.object ObjectValue)

    abbrev pub RootValue : Values P
    RootValue zero x y = VersionAlike x y
    RootValue (suc zero) x y = x ≡ y
    RootValue (suc (suc zero)) x y = InMaps (Entries ObjectAlike) x y
    RootValue (suc (suc (suc i))) x y = x ≡ y

    abbrev pub RootAlike : Node P → Node P → Type 0
    RootAlike = InMaps (Rearranged L.root RootValue)
