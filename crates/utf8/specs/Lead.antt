-- What must follow a first byte of UTF-8, as three numbers: how many bytes, and from where to where the first of them goes.
use Rattle.std.specs.Prelude.{ℕ, zero, suc, ◌≤◌, List, [], ◌∷◌, false, ◌≡◌, length, drop}
use Rattle.std.proofs.Math.Option.{none, some}
use Rattle.meaning.specs.Text.{Range, tail, follow, following, utf8}
use Rattle.utf8.specs.declared.Lead.{Lead}

abbrev pub lead_of : ℕ → ℕ → ℕ → Lead
lead_of n l h = record { need = n; low = l; high = h }

unfoldable pub tails : ℕ → List Range
tails zero = []
tails (suc k) = tail ∷ tails k

unfoldable pub ranges : ℕ → ℕ → ℕ → List Range
ranges zero l h = []
ranges (suc k) l h = record { low = l; high = h } ∷ tails k

-- what a first byte b asks
pub record Leads (b : ℕ) (r : Lead) : Type 0 where
  pub few : r.need ≤ 4
  pub none-can : r.need ≡ 4 → follow b ≡ none
  pub some-can : (r.need ≡ 4 → ⊥) → follow b ≡ some (ranges r.need r.low r.high)

-- the first k bytes are whole characters, so that the rest decides
pub record Rest (t : List ℕ) (k : ℕ) : Type 0 where
  pub inside : k ≤ length t
  pub decides : utf8 t ≡ utf8 (drop k t)

-- the first k bytes, of n or more, are whole characters, so that the rest decides; k is 0 if they can't be
pub record Ends (t : List ℕ) (n k : ℕ) : Type 0 where
  pub wrong : k ≡ 0 → utf8 t ≡ false
  pub least : (k ≡ 0 → ⊥) → n ≤ k
  pub inside : k ≤ length t
  pub decides : (k ≡ 0 → ⊥) → utf8 t ≡ utf8 (drop k t)

abbrev pub CharIs : List ℕ → ℕ → Type 0
CharIs s k = Ends s 1 k

abbrev pub EightIs : List ℕ → ℕ → Type 0
EightIs t k = Ends t 8 k

-- the same where two bytes are right and this many must still come
abbrev pub ThirdIs : List ℕ → ℕ → ℕ → Type 0
ThirdIs s need k = utf8 s ≡ following (tails need) (drop 2 s) → Ends s 1 k
