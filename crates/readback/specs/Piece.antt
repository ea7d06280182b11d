-- A part of the manifest as it is read: its bytes, what is got there before whatever follows, and whether DEEP is met in it instead.
use Rattle.std.specs.Prelude.{ℕ, List, [], ◌∷◌, ◌++◌, map, Bool, true, false, cond, ◌≡◌}
use Rattle.meaning.specs.Refusal.{DEEP}
use Rattle.meaning.specs.Read.{Outcome, got, refused, Reader, joined}

pub record Piece (A : Type 0) : Type 0 where
  pub written : List ℕ
  pub meant : List ℕ → A
  pub deep : Bool

-- refused with DEEP, anywhere
pub record Sunk {A : Type 0} (o : Outcome A) : Type 0 where
  pub left : List ℕ
  pub is : o ≡ refused DEEP left

-- DEEP, or a is got and x is left
abbrev pub Ends : {A : Type 0} → Bool → Outcome A → A → List ℕ → Type 0
Ends true o a x = Sunk o
Ends false o a x = o ≡ got a x

module _ {A : Type 0} where
  abbrev pub all_written : List (Piece A) → List ℕ
  all_written ps = joined (map (λ p. p.written) ps)

  abbrev pub all_meant : List (Piece A) → List ℕ → List A
  all_meant [] x = []
  all_meant (p ∷ ps) x = p.meant (all_written ps ++ x) ∷ all_meant ps x

  abbrev pub any_deep : List (Piece A) → Bool
  any_deep [] = false
  any_deep (p ∷ ps) = cond p.deep true (any_deep ps)

  -- the reader m ends as the piece says, whatever follows
  abbrev pub Goes : Reader A → Piece A → Type 0
  Goes m p = (x : List ℕ) → Ends p.deep (m (p.written ++ x)) (p.meant x) x
