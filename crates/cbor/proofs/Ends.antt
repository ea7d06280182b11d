-- How readings end: where one goes on with what follows, and where it stops. Laws of `ending`, for any reader that takes a prefix.
use Prim.Native.Nat.{ℕ, ◌+◌, ◌-◌, ◌≤◌, ◌<◌}
use native.Mathlib.Omega.{arith}
use mathlib.Core.List.{List, [], ◌∷◌}
use mathlib.Core.Path.{◌≡◌, refl, ap, sym, ◌∙◌}
use lib.ListN.{length, get_or, drop, length-drop}
use lib.Seq.{drop_at}
use borrow.Author.Tests.{eq-eqb, ne_eqb}
use Rattle.meaning.specs.Read.{Outcome, got, refused, Reader, after, ◌>>=◌, pure, to_break}
use Rattle.meaning.proofs.ReadPrefix.{still, Took, Exact, Hungry, took-length}
use Rattle.meaning.proofs.ReadPrefix as prefix
use Rattle.meaning.proofs.ReadTurns.{one_turn, break-ends, nothing-ends-early, another-turn}
use Rattle.cbor.specs.Ending.{Ending, took, fault, FAULT, code, ending, shift}

-- an ending that lies within the bytes
abbrev pub Fine : List ℕ → Ending → Type 0
Fine s (took k) = k ≤ length s
Fine s (fault n) = Unit {0}

pub fine-ending : {A : Type 0} (s : List ℕ) (o : Outcome A) → Fine s (ending s o)
fine-ending s (got a r) = omega arith
fine-ending s (refused n q) = tt

pub shift-shift : (j k : ℕ) (e : Ending) → shift j (shift k e) ≡ shift (j + k) e
shift-shift j k (took n) = ap took (omega arith)
shift-shift j k (fault n) = refl

pub shift_zero : (e : Ending) → shift 0 e ≡ e
shift_zero (took n) = ap took (omega arith)
shift_zero (fault n) = refl

-- what the one number says
module _ (s : List ℕ) (room : length s < FAULT) (r : ℕ) where
  pub is-took : (e : Ending) → Fine s e → r ≡ code e → r ≤ length s → e ≡ took r
  is-took (took k) f h l = ap took (sym h)
  is-took (fault n) f h l = absurd (omega arith)

  pub record Faulty (e : Ending) : Type 0 where
    pub number : ℕ
    pub is : e ≡ fault number
    pub coded : r ≡ FAULT + number

  pub is-fault : (e : Ending) → Fine s e → r ≡ code e → length s < r → Faulty e
  is-fault (took k) f h l = absurd (omega arith)
  is-fault (fault n) f h l = record { number = n; is = refl; coded = h }

module _ {A : Type 0} (m : Reader A) (exact : Exact (still m)) (s : List ℕ) where
  pub record Got (k : ℕ) : Type 0 where
    pub value : A
    pub is : m s ≡ got value (drop k s)
    pub within : k ≤ length s

  pub record Refused (n : ℕ) : Type 0 where
    pub at : List ℕ
    pub is : m s ≡ refused n at

  pub got-what : (k : ℕ) → ending s (m s) ≡ took k → Got k
  got-what k = go (m s) refl
    where
      go : (o : Outcome A) → m s ≡ o → ending s o ≡ took k → Got k
      go (got a r) e h =
          let t : Took (still m) s a r = exact [] s a r e in
          let l : length s ≡ length t.eaten + length r = took-length t in
          let z : length s - length r ≡ k = cc in
          let y : length t.eaten ≡ k = omega arith in
          record { value = a; is = e ∙ ap (got a) (sym (ap (drop k) t.split ∙ drop_at t.eaten r k y)); within = omega arith }
      go (refused n q) e h = absurd (let z : ◌≡◌ {A = ℕ} 0 1 = cc in omega arith)

  pub refused-what : (n : ℕ) → ending s (m s) ≡ fault n → Refused n
  refused-what n = go (m s) refl
    where
      go : (o : Outcome A) → m s ≡ o → ending s o ≡ fault n → Refused n
      go (got a r) e h = absurd (let z : ◌≡◌ {A = ℕ} 0 1 = cc in omega arith)
      go (refused k q) e h = record { at = q; is = e ∙ ap (λ k. refused k q) (cc) }

pub ending-map : {A B : Type 0} (s : List ℕ) (o : Outcome A) (g : A → List ℕ → B) → ending s (after o (λ a r. got (g a r) r)) ≡ ending s o
ending-map s (got a r) g = refl
ending-map s (refused n q) g = refl

-- what is read k bytes further on
pub further : {A : Type 0} (m : Reader A) → Exact (still m) → (s : List ℕ) (k : ℕ) → k ≤ length s → ending s (m (drop k s)) ≡ shift k (ending (drop k s) (m (drop k s)))
further {A} m exact s k l = go (m (drop k s)) refl
  where
    go : (o : Outcome A) → m (drop k s) ≡ o → ending s o ≡ shift k (ending (drop k s) o)
    go (got a r) e = ap took (omega (arith, length-drop k s, took-length (exact [] (drop k s) a r e)))
    go (refused n q) e = refl

-- a reading, and what is read after it
module _ {A B : Type 0} (m : Reader A) (f : A → Reader B) (exact : Exact (still m)) where
  pub bind_stops : (s : List ℕ) (n : ℕ) → ending s (m s) ≡ fault n → ending s ((m >>= f) s) ≡ fault n
  bind_stops s n e = ap (λ o. ending s (after o f)) (refused-what m exact s n e).is

  pub bind-goes-on : ((a : A) → Exact (still (f a))) → (s : List ℕ) (k : ℕ) (x : Ending) → ending s (m s) ≡ took k
      → ((a : A) → ending (drop k s) (f a (drop k s)) ≡ x) → ending s ((m >>= f) s) ≡ shift k x
  bind-goes-on hf s k x e h =
      let p : Got m exact s k = got-what m exact s k e in
      ap (λ o. ending s (after o f)) p.is ∙ further (f p.value) (hf p.value) s k p.within ∙ ap (shift k) (h p.value)

-- ---------------------------------------------------------------- up to a break

module _ {A : Type 0} (m : Reader A) (exact : Exact (still m)) (hungry : Hungry (still m)) (all : Exact (still (to_break m))) where
  pub turn-begins : (s : List ℕ) → 1 ≤ length s → (get_or s 0 0 ≡ 255 → ⊥) → to_break m s ≡ one_turn m s
  turn-begins [] l n = absurd (omega arith)
  turn-begins (b ∷ s) l n = another-turn m hungry b s (ne_eqb b 255 n)

  pub break-goes-on : (s : List ℕ) (k : ℕ) → 1 ≤ length s → (get_or s 0 0 ≡ 255 → ⊥) → ending s (m s) ≡ took k
      → ending s (to_break m s) ≡ shift k (ending (drop k s) (to_break m (drop k s)))
  break-goes-on s k l n e =
      ap (ending s) (turn-begins s l n)
      ∙ bind-goes-on m (λ x. to_break m >>= λ xs. pure (x ∷ xs)) exact rest s k _ e (λ a. ending-map (drop k s) (to_break m (drop k s)) (λ xs r. a ∷ xs))
    where
      rest : (a : A) → Exact (still (to_break m >>= λ xs. pure (a ∷ xs)))
      rest a = prefix.bind-exact (still (to_break m)) (λ o xs. pure (a ∷ xs)) all (λ xs. prefix.pure-exact (a ∷ xs))

  pub break-stops : (s : List ℕ) (n : ℕ) → 1 ≤ length s → (get_or s 0 0 ≡ 255 → ⊥) → ending s (m s) ≡ fault n → ending s (to_break m s) ≡ fault n
  break-stops s n l b e = ap (ending s) (turn-begins s l b) ∙ bind_stops m (λ x. to_break m >>= λ xs. pure (x ∷ xs)) exact s n e

  pub break-here : (s : List ℕ) → 1 ≤ length s → get_or s 0 0 ≡ 255 → ending s (to_break m s) ≡ took 1
  break-here [] l e = absurd (omega arith)
  break-here (b ∷ s) l e = ap (ending (b ∷ s)) (break-ends m b s (eq-eqb b 255 e)) ∙ ap took (omega arith)

  pub break-missing : (s : List ℕ) → length s ≡ 0 → ending s (to_break m s) ≡ fault 6
  break-missing [] e = ap (ending []) (nothing-ends-early m)
  break-missing (b ∷ s) e = absurd (omega arith)
