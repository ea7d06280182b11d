-- The storages' names, as the code.s table has them: four bytes for each, after how many of them it has.
use Prim.Native.Nat.{ℕ, zero, suc, ◌+◌, ◌-◌, ◌*◌, ◌≤◌, ◌<◌}
use native.Mathlib.Omega.{arith}
use mathlib.Core.List.{List, [], ◌∷◌, ◌++◌}
use mathlib.Core.Path.{◌≡◌, refl, sym, ap}
use lib.ListN.{take, drop, get_or, get_or-eq_default}
use lib.Dec.{lit≤}
use Rattle.meaning.specs.Text.{ascii}
use Rattle.meaning.specs.Types.{Storage, storages, storage_of}
use Rattle.put.proofs.PiecesInTurn.{Owned, as_bytes, nothing}
use Rattle.put.specs.Wrote.{capped, Wrote}

abbrev pub names : List ℕ
names =
    3 ∷ ascii "f64 "
    ++ (3 ∷ ascii "f32 "
    ++ (3 ∷ ascii "f16 "
    ++ (4 ∷ ascii "bf16"
    ++ (3 ∷ ascii "i64 "
    ++ (3 ∷ ascii "i32 "
    ++ (3 ∷ ascii "i16 "
    ++ (2 ∷ ascii "i8  "
    ++ (3 ∷ ascii "u64 "
    ++ (3 ∷ ascii "u32 "
    ++ (3 ∷ ascii "u16 "
    ++ (2 ∷ ascii "u8  "
    ++ (4 ∷ ascii "bool"))))))))))))

-- the name that stands at a code
pub named : (c : ℕ) → c < 13 → (get_or names (5 * c) 0 ≤ 4) × (take (5 * c + 1 + get_or names (5 * c) 0 - (5 * c + 1)) (drop (5 * c + 1) names) ≡ (storage_of c).called)
unfolding storages storage_of
named zero h = (lit≤ tt, refl)
named (suc zero) h = (lit≤ tt, refl)
named (suc (suc zero)) h = (lit≤ tt, refl)
named (suc (suc (suc zero))) h = (lit≤ tt, refl)
named (suc (suc (suc (suc zero)))) h = (lit≤ tt, refl)
named (suc (suc (suc (suc (suc zero))))) h = (lit≤ tt, refl)
named (suc (suc (suc (suc (suc (suc zero)))))) h = (lit≤ tt, refl)
named (suc (suc (suc (suc (suc (suc (suc zero))))))) h = (lit≤ tt, refl)
named (suc (suc (suc (suc (suc (suc (suc (suc zero)))))))) h = (lit≤ tt, refl)
named (suc (suc (suc (suc (suc (suc (suc (suc (suc zero))))))))) h = (lit≤ tt, refl)
named (suc (suc (suc (suc (suc (suc (suc (suc (suc (suc zero)))))))))) h = (lit≤ tt, refl)
named (suc (suc (suc (suc (suc (suc (suc (suc (suc (suc (suc zero))))))))))) h = (lit≤ tt, refl)
named (suc (suc (suc (suc (suc (suc (suc (suc (suc (suc (suc (suc zero)))))))))))) h = (lit≤ tt, refl)
named (suc (suc (suc (suc (suc (suc (suc (suc (suc (suc (suc (suc (suc c))))))))))))) h = absurd (omega (arith, h))

unnamed : (c : ℕ) → 13 ≤ c → (storage_of c).called ≡ []
unfolding storages storage_of
unnamed c h = ap (λ (s : Storage). s.called) (get_or-eq_default storages (record { called = []; width = 0 }) h)

pub short-name : (c : ℕ) → c < 13 → get_or names (5 * c) 0 ≤ 4
short-name c h = (named c h).0

module _ (c : ℕ) {xs ys : List ℕ} {at r : ℕ} where
  pub name-written : c < 13 → Wrote (take (5 * c + 1 + get_or names (5 * c) 0 - (5 * c + 1)) (drop (5 * c + 1) names)) at xs ys r → Wrote (storage_of c).called at xs ys r
  name-written h w = as_bytes (named c h).1 w

pub no-name-written : (c : ℕ) {xs : List ℕ} {at r : ℕ} → 13 ≤ c → Owned xs → r ≡ capped at → Wrote (storage_of c).called at xs xs r
no-name-written c {xs} {r = r} h l e = as_bytes (sym (unnamed c h)) (nothing r (omega arith) e)
