-- meaning's answer as the code's, and what the output then holds.
use Rattle.std.specs.Prelude.{ℕ, ◌<◌, ◌^◌, List, ◌≡◌, length, get_or}
use Rattle.meaning.specs.Check.{Check}
use Rattle.meaning.specs.Write.{write_answer, output_after}
use Rattle.writer.specs.declared.Written.{Written}

abbrev pub refused : ℕ → ℕ → ℕ → Written
refused n o c = record { number = n; object = o; component = c; length = 0 }

unfoldable pub told : Check (List ℕ) → Written
told k =
    record { number = (write_answer k).number; object = (write_answer k).object; component = (write_answer k).component; length = (write_answer k).length }

-- what is answered, and what the output holds
abbrev pub Answered : Check (List ℕ) → Written → List ℕ → List ℕ → Type 0
Answered k r before after = (r ≡ told k) × (after ≡ output_after before k)

-- every number is below 2^64
abbrev pub Numbers : List ℕ → Type 0
Numbers s = (i : ℕ) → i < length s → get_or s i 0 < 256 ^ 8
