-- The head that begins a slice, by the low five bits of its first byte.
use Prim.Native.Nat.{ℕ, zero, suc, ◌+◌, ◌-◌, ◌*◌, ◌%◌, ◌≤◌, ◌<◌}
use native.Mathlib.Omega.{arith}
use mathlib.Core.List.{List, [], ◌∷◌}
use mathlib.Core.Logic.{⊎_elim}
use mathlib.Core.Path.{◌≡◌, refl, ap, sym, ◌∙◌}
use lib.ListN.{length, get_or, drop}
use borrow.Author.Tests.{lt-ltb, le-ltb}
use Rattle.meaning.specs.Read as read
use Rattle.meaning.specs.Read.{Outcome, got, refused, Argument, known, indefinite, argument, info_of, long_arguments, wide, number, malformed}
use Rattle.endian.specs.Word.{word}
use Rattle.endian.proofs.Laws.{number-is-word}
use Rattle.endian.proofs.Which.{eq-or, lt-or}
use Rattle.cbor.specs.Ending.{headed, head_of, argued, endless, FAULT}

pub head-none : (s : List ℕ) → length s ≡ 0 → argued 0 (FAULT + 6) ≡ head_of s
unfolding head_of
head-none [] e = refl
head-none (b ∷ s) e = absurd (omega arith)

pub head_small : (s : List ℕ) (i : ℕ) → 1 ≤ length s → i ≡ get_or s 0 0 % 32 → i < 24 → argued i 1 ≡ head_of s
unfolding head_of argument info_of
head_small [] i l e h = absurd (omega arith)
head_small (b ∷ s) i l e h = rw (← e, lt-ltb i 24 h)

-- the low five bits 24 to 31
long : (b i : ℕ) (s : List ℕ) → i ≡ b % 32 → 24 ≤ i → argument [] (info_of b) s ≡ get_or long_arguments (i - 24) malformed [] s
unfolding argument info_of
long b i s e h = rw (← e, le-ltb i 24 h)

number-ends-early : (k a : ℕ) (s : List ℕ) → length s < k → number k a s ≡ refused 6 []
unfolding number read.byte
number-ends-early zero a s l = absurd (omega arith)
number-ends-early (suc k) a [] l = refl
number-ends-early (suc k) a (b ∷ s) l = number-ends-early k (256 * a + b) s (omega arith)

-- an argument of w bytes
module _ (w : ℕ) where
  wide_fits : (b : ℕ) (s : List ℕ) → w < length (b ∷ s) → headed (wide w s) ≡ argued (word w (b ∷ s) 1 0) (w + 1)
  unfolding wide
  wide_fits b s l = rw (number-is-word w (b ∷ s) 1 0 (omega arith))

  wide_short : (s : List ℕ) → length s < w → headed (wide w s) ≡ argued 0 (FAULT + 6)
  unfolding wide
  wide_short s l = rw (number-ends-early w 0 s l)

  module _ (i : ℕ) (is : (s : List ℕ) → get_or long_arguments (i - 24) malformed [] s ≡ wide w s) where
    pub head-fits : (s : List ℕ) → i ≡ get_or s 0 0 % 32 → 24 ≤ i → w < length s → argued (word w s 1 0) (w + 1) ≡ head_of s
    unfolding head_of
    head-fits [] e h l = absurd (omega arith)
    head-fits (b ∷ s) e h l = sym (ap headed (long b i s e h ∙ is s) ∙ wide_fits b s l)

    pub head-short : (s : List ℕ) → i ≡ get_or s 0 0 % 32 → 24 ≤ i → 1 ≤ length s → length s ≤ w → argued 0 (FAULT + 6) ≡ head_of s
    unfolding head_of
    head-short [] e h k l = absurd (omega arith)
    head-short (b ∷ s) e h k l = sym (ap headed (long b i s e h ∙ is s) ∙ wide_short s (omega arith))

pub is-24 : (s : List ℕ) → get_or long_arguments (24 - 24) malformed [] s ≡ wide 1 s
unfolding long_arguments
is-24 s = refl

pub is-25 : (s : List ℕ) → get_or long_arguments (25 - 24) malformed [] s ≡ wide 2 s
unfolding long_arguments
is-25 s = refl

pub is-26 : (s : List ℕ) → get_or long_arguments (26 - 24) malformed [] s ≡ wide 4 s
unfolding long_arguments
is-26 s = refl

pub is-27 : (s : List ℕ) → get_or long_arguments (27 - 24) malformed [] s ≡ wide 8 s
unfolding long_arguments
is-27 s = refl

pub head-open : (s : List ℕ) → 31 ≡ get_or s 0 0 % 32 → 1 ≤ length s → argued endless 1 ≡ head_of s
unfolding head_of long_arguments
head-open [] e l = absurd (omega arith)
head-open (b ∷ s) e l = sym (ap headed (long b 31 s e (omega arith)))

-- the low five bits 28 to 30
late : (j : ℕ) (o s : List ℕ) → 4 ≤ j → (j ≡ 7 → ⊥) → get_or long_arguments j malformed o s ≡ refused 6 o
unfolding long_arguments
late zero o s l n = absurd (omega arith)
late (suc zero) o s l n = absurd (omega arith)
late (suc (suc zero)) o s l n = absurd (omega arith)
late (suc (suc (suc zero))) o s l n = absurd (omega arith)
late (suc (suc (suc (suc zero)))) o s l n = refl
late (suc (suc (suc (suc (suc zero))))) o s l n = refl
late (suc (suc (suc (suc (suc (suc zero)))))) o s l n = refl
late (suc (suc (suc (suc (suc (suc (suc zero))))))) o s l n = absurd (n refl)
late (suc (suc (suc (suc (suc (suc (suc (suc j)))))))) o s l n = refl

pub head-wrong : (s : List ℕ) (i : ℕ) → i ≡ get_or s 0 0 % 32 → 28 ≤ i → (i ≡ 31 → ⊥) → 1 ≤ length s → argued 0 (FAULT + 6) ≡ head_of s
unfolding head_of
head-wrong [] i e h n l = absurd (omega arith)
head-wrong (b ∷ s) i e h n l = sym (ap headed (long b i s e (omega arith) ∙ late (i - 24) [] s (omega arith) (λ z. n (omega arith))))

-- ---------------------------------------------------------------- what stands at the low five bits i, with the bytes t after the initial byte

pub record Refuses (o : Outcome Argument) : Type 0 where
  pub at : List ℕ
  pub is : o ≡ refused 6 at

-- the low five bits are 24 exactly where the argument is one byte more
abbrev pub OneMore : ℕ → ℕ → Type 0
OneMore i w = (i ≡ 24 → w ≡ 1) × (w ≡ 1 → i ≡ 24)

pub data Look (i : ℕ) (t : List ℕ) : Type 0 where
  sized : (w n : ℕ) → w ≤ length t → ((o : List ℕ) → argument o i t ≡ got (known w n) (drop w t)) → i < 28 → OneMore i w → Look i t
  loose : i ≡ 31 → ((o : List ℕ) → argument o i t ≡ got indefinite t) → Look i t
  wrong : (i ≡ 31 → ⊥) → ((o : List ℕ) → Refuses (argument o i t)) → Look i t

module _ (i : ℕ) (t : List ℕ) where
  later : (o : List ℕ) → 24 ≤ i → argument o i t ≡ get_or long_arguments (i - 24) malformed o t
  unfolding argument
  later o h = rw (le-ltb i 24 h)

  look-small : i < 24 → Look i t
  unfolding argument
  look-small h = sized 0 i (omega arith) (λ o. rw (lt-ltb i 24 h)) (omega arith) ((λ e. omega arith), (λ e. omega arith))

  look-wide : (w : ℕ) → 24 ≤ i → i < 28 → OneMore i w → ((o : List ℕ) → get_or long_arguments (i - 24) malformed o t ≡ wide w t) → Look i t
  unfolding wide
  look-wide w h k one is = ⊎_elim
      (λ l. wrong (λ e. omega arith) (λ o. record { at = []; is = later o h ∙ is o ∙ ap (λ x. read.after x (λ n. read.pure (known w n))) (number-ends-early w 0 t l) }))
      (λ l. sized w (word w t 0 0) l (λ o. later o h ∙ is o ∙ ap (λ x. read.after x (λ n. read.pure (known w n))) (fits l)) k one)
      (lt-or (length t) w)
    where
      fits : w ≤ length t → number w 0 t ≡ got (word w t 0 0) (drop w t)
      fits l = let z : 0 + w ≡ w = omega arith in rw z at (number-is-word w t 0 0 (omega arith))

  look-late : 28 ≤ i → (i ≡ 31 → ⊥) → Look i t
  look-late h n = wrong n (λ o. record { at = o; is = later o (omega arith) ∙ late (i - 24) o t (omega arith) (λ z. n (omega arith)) })

pub look : (i : ℕ) (t : List ℕ) → Look i t
unfolding long_arguments argument
look i t =
    ⊎_elim (look-small i t) (λ h.
    ⊎_elim (λ e. rw e (look-wide 24 t 1 (omega arith) (omega arith) ((λ e. refl), (λ e. refl)) (λ o. refl))) (λ a.
    ⊎_elim (λ e. rw e (look-wide 25 t 2 (omega arith) (omega arith) ((λ e. omega arith), (λ e. omega arith)) (λ o. refl))) (λ b.
    ⊎_elim (λ e. rw e (look-wide 26 t 4 (omega arith) (omega arith) ((λ e. omega arith), (λ e. omega arith)) (λ o. refl))) (λ c.
    ⊎_elim (λ e. rw e (look-wide 27 t 8 (omega arith) (omega arith) ((λ e. omega arith), (λ e. omega arith)) (λ o. refl))) (λ d.
    ⊎_elim (λ e. rw e (loose refl (λ o. refl))) (look-late i t (omega arith))
    (eq-or i 31)) (eq-or i 27)) (eq-or i 26)) (eq-or i 25)) (eq-or i 24)) (lt-or i 24)
