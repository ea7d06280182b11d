-- Document 01, "The writer": where blobs are placed, as a list of offsets, one for each blob in row order.
use Rattle.std.specs.Prelude.{ℕ, ◌+◌, ◌-◌, ◌*◌, ◌/◌, max, List, [], ◌∷◌, length}
use Rattle.meaning.specs.Limit.{alignment}
use Rattle.meaning.specs.Layouts.{magic}

-- the least multiple of 64 not below a place
unfoldable pub aligned : ℕ → ℕ
aligned n = (n + (alignment - 1)) / alignment * alignment

-- blobs of these lengths, where the place n is reached
unfoldable pub placed_from : ℕ → List ℕ → List ℕ
placed_from n [] = []
placed_from n (l ∷ ls) = aligned n ∷ placed_from (aligned n + l) ls

unfoldable pub placement : List ℕ → List ℕ
placement = placed_from (length magic)

-- the greatest end of blobs with these lengths at any offsets, n if none is greater; where offsets rise, the last one's end
unfoldable pub end_from : ℕ → List ℕ → List ℕ → ℕ
end_from n [] ls = n
end_from n (o ∷ os) [] = n
end_from n (o ∷ os) (l ∷ ls) = end_from (max n (o + l)) os ls

unfoldable pub last_end : List ℕ → List ℕ → ℕ
last_end = end_from (length magic)
