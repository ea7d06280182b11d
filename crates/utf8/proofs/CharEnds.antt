-- The end of a character of several bytes, byte by byte: which test decides what. Assumes nothing.
use mathlib.Core.Path.{◌≡◌, refl, subst}
use mathlib.Core.List.{List}
use Prim.Native.Nat.{ℕ, ◌-◌, ◌≤◌, ◌<◌}
use native.Mathlib.Omega.{arith}
use lib.ListN.{length, get_or, take, drop}
use borrow.Author.Rules.{part_to_end}
use Rattle.meaning.specs.Text.{following, utf8}
use Rattle.utf8.specs.Lead.{tails, Leads, Ends, ThirdIs}
use Rattle.utf8.specs.declared.Lead.{Lead}
use Rattle.utf8.proofs.Utf8Steps.{Says, says_all, says_any, lead-none, lead-some, next_under, next-over, next-right, ended-early, never_ends, ends_at, says-third, third-says}

-- two bytes are right, and `need` must still come
module _ {s : List ℕ} (need : ℕ) (so : utf8 s ≡ following (tails need) (drop 2 s)) (n : 1 ≤ need) (few : need ≤ 2) where
  third : Says s 2 need 128 191
  third = says-third so

  pub third-missing : length s < 3 → Ends s 1 0
  third-missing l = never_ends (ended-early third (omega arith) (omega arith))

  module _ {b : ℕ} (is : b ≡ get_or s 2 0) (l : 3 ≤ length s) where
    pub third-under : b < 128 → Ends s 1 0
    third-under h = never_ends (next_under third is (omega arith) (omega arith) h)

    pub third-over : 191 < b → Ends s 1 0
    third-over h = never_ends (next-over third is (omega arith) (omega arith) h)

    module _ (p : 128 ≤ b) (q : b ≤ 191) where
      fourth : Says s 3 (need - 1) 128 191
      fourth = next-right third is (omega arith) (omega arith) p q

      pub third_last : need ≡ 1 → Ends s 1 3
      third_last e = ends_at (says_any fourth (omega arith)) (omega arith) (omega arith) (omega arith)

      module _ (two : need ≡ 1 → ⊥) where
        pub fourth-missing : length s < 4 → Ends s 1 0
        fourth-missing h = never_ends (ended-early fourth (omega arith) (omega arith))

        module _ {d : ℕ} (is2 : d ≡ get_or s 3 0) (m : 4 ≤ length s) where
          pub fourth-under : d < 128 → Ends s 1 0
          fourth-under h = never_ends (next_under fourth is2 (omega arith) (omega arith) h)

          pub fourth-over : 191 < d → Ends s 1 0
          fourth-over h = never_ends (next-over fourth is2 (omega arith) (omega arith) h)

          pub fourth-last : 128 ≤ d → d ≤ 191 → Ends s 1 4
          fourth-last x y = ends_at (says_any (next-right fourth is2 (omega arith) (omega arith) x y) (omega arith)) (omega arith) (omega arith) (omega arith)

-- the first byte asks r
module _ {s : List ℕ} {b : ℕ} (is : b ≡ get_or s 0 0) (l : 1 ≤ length s) {r : Lead} (k : Leads b r) where
  pub no_char : r.need ≡ 4 → Ends s 1 0
  no_char e = never_ends (lead-none (says_all s) is (omega arith) k refl e)

  module _ (some : r.need ≡ 4 → ⊥) where
    second : Says s 1 r.need r.low r.high
    second = lead-some (says_all s) is (omega arith) k refl some

    pub one_byte : r.need ≡ 0 → Ends s 1 1
    one_byte e = ends_at (says_any second e) (omega arith) (omega arith) l

    module _ (more : r.need ≡ 0 → ⊥) where
      pub second-missing : length s < 2 → Ends s 1 0
      second-missing h = never_ends (ended-early second (omega arith) (omega arith))

      module _ {c : ℕ} (is2 : c ≡ get_or s 1 0) (m : 2 ≤ length s) where
        pub second-under : c < r.low → Ends s 1 0
        second-under h = never_ends (next_under second is2 (omega arith) (omega arith) h)

        pub second-over : r.high < c → Ends s 1 0
        second-over h = never_ends (next-over second is2 (omega arith) (omega arith) h)

        module _ (p : r.low ≤ c) (q : c ≤ r.high) where
          later : Says s 2 (r.need - 1) 128 191
          later = next-right second is2 (omega arith) (omega arith) p q

          pub two_bytes : r.need ≡ 1 → Ends s 1 2
          two_bytes e = ends_at (says_any later (omega arith)) (omega arith) (omega arith) m

          -- the function for the third byte was called on the whole of s
          pub more_bytes : {n : ℕ} → ThirdIs (take (length s - 0) (drop 0 s)) (r.need - 1) n → Ends s 1 n
          more_bytes {n} h = subst (λ p. ThirdIs p (r.need - 1) n) (part_to_end s 0) h (third-says later)
