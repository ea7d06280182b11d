-- Rescues that are computed: one object of three, all, none; each refusal and each room in its order; layout 1.0.
use Prim.Native.Nat.{ℕ}
use mathlib.Core.List.{[], ◌∷◌}
use mathlib.Core.Path.{◌≡◌, refl}
use lib.ListN.{length}
use Rattle.meaning.specs.Refusal.{SHORT, DTYPE, TWICE, RANK, LENGTH}
use Rattle.meaning.specs.Layouts.{current, old}
use Rattle.meaning.specs.Computed.{computed}
use Rattle.roundtrip.specs.Again.{plain_file}
use Rattle.rescuing.specs.Sift.{Dropped, opened, kept, dropped, verdicts, sift, sifted}
use Rattle.rescuing.specs.Rescue.{done, refused, short, after, rescue_into, rescue}
use Rattle.rescuing.specs.Instances.{dense, rankless, file_of, old_file, of_old}

abbrev drop : ℕ → ℕ → ℕ → Dropped
drop i n c = record { index = i; number = n; component = c }

-- the second of three; the root's attributes are kept
pub one_of_three : rescue current (file_of (dense "v" (1 ∷ 2 ∷ []) ∷ dense "w" (3 ∷ []) ∷ dense "x" (4 ∷ 5 ∷ []) ∷ [])) 56 3 1000
    ≡ done (file_of (dense "v" (1 ∷ 2 ∷ []) ∷ dense "x" (4 ∷ 5 ∷ []) ∷ [])) 2 (drop 1 LENGTH 0 ∷ [])
unfolding computed plain_file opened kept dropped verdicts sift sifted after rescue_into rescue
one_of_three = refl

-- each with its own number
pub all-dropped : rescue current (file_of (rankless "v" ∷ dense "w" (3 ∷ []) ∷ [])) 0 6 1000 ≡ done (file_of []) 0 (drop 0 RANK 0 ∷ drop 1 LENGTH 0 ∷ [])
unfolding computed plain_file opened kept dropped verdicts sift sifted after rescue_into rescue
all-dropped = refl

pub none_dropped : rescue current (file_of (dense "v" (1 ∷ 2 ∷ []) ∷ [])) 28 0 1000 ≡ done (file_of (dense "v" (1 ∷ 2 ∷ []) ∷ [])) 1 []
unfolding computed plain_file opened kept dropped verdicts sift sifted after rescue_into rescue
none_dropped = refl

-- a number of rows, of the list, a byte of the output too few: what would have been answered
pub short-of-rows : rescue current (file_of (dense "v" (1 ∷ 2 ∷ []) ∷ rankless "w" ∷ [])) 27 3 1000 ≡ short 1 1 (length (file_of (dense "v" (1 ∷ 2 ∷ []) ∷ [])))
unfolding computed plain_file opened kept dropped verdicts sift sifted after rescue_into rescue
short-of-rows = refl

pub short-of-list : rescue current (file_of (rankless "v" ∷ [])) 0 2 1000 ≡ short 0 1 (length (file_of []))
unfolding computed plain_file opened kept dropped verdicts sift sifted after rescue_into rescue
short-of-list = refl

pub short-of-output : rescue current (file_of (rankless "v" ∷ [])) 0 3 47 ≡ short 0 1 (length (file_of []))
unfolding computed plain_file opened kept dropped verdicts sift sifted after rescue_into rescue
short-of-output = refl

-- a name twice, though neither object is sound and there is no room at all
pub twice-first : rescue current (file_of (rankless "v" ∷ rankless "v" ∷ [])) 0 0 0 ≡ refused TWICE 0 0
unfolding computed plain_file opened kept dropped verdicts sift sifted after rescue_into rescue
twice-first = refl

pub too_short : rescue old [] 0 0 0 ≡ refused SHORT 0 0
unfolding computed plain_file opened kept dropped verdicts sift sifted after rescue_into rescue
too_short = refl

-- the components of a tensor are judged after its dtype
pub of-old : rescue old old_file 28 6 1000 ≡ done (plain_file of_old) 1 (drop 0 DTYPE 0 ∷ drop 2 LENGTH 0 ∷ [])
unfolding computed plain_file opened kept dropped verdicts sift sifted after rescue_into rescue
of-old = refl
