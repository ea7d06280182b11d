-- A branch of the functions each.
use Prim.Native.Nat.{ℕ}
use mathlib.Core.List.{List}
use mathlib.Core.Bool.{Bool, true, false, not}
use mathlib.Core.Path.{◌≡◌, refl, ap, sym, ◌∙◌}
use lib.Dec.{eqb}
use borrow.Author.Tests.{eq-eqb, ne_eqb}
use Rattle.meaning.specs.Format.{Part, plain}
use Rattle.formats.specs.Parts.{flag, part_rows, role_name, RoleIs}
use Rattle.formats.specs.declared.Filled.{Filled}
use Rattle.badrules.specs.Blame.{not_plain, there, odd, of_csr, blames}
use Rattle.std.specs.Prelude.{Some, None, Option}

module _ (parts n : List ℕ) (r : Option Filled) (h : (cs : List Part) → parts ≡ part_rows cs → RoleIs n cs r) where
  is : (q : Option Filled) → r ≡ q → (cs : List Part) → parts ≡ part_rows cs → RoleIs n cs q
  is q e cs k = rw e at h cs k

  pub not_there : r ≡ None → (cs : List Part) → parts ≡ part_rows cs → false ≡ there n cs
  unfolding there
  not_there e cs k = rw (is None e cs k) refl

  pub not-odd : r ≡ None → (cs : List Part) → parts ≡ part_rows cs → false ≡ odd n cs
  unfolding odd
  not-odd e cs k = rw (is None e cs k) refl

  module _ (f : Filled) (e : r ≡ Some f) where
    pub is-there : (cs : List Part) → parts ≡ part_rows cs → true ≡ there n cs
    unfolding there
    is-there cs k = rw (is (Some f) e cs k).1 refl

    pub is_odd : (cs : List Part) → parts ≡ part_rows cs → not (eqb f.plain 1) ≡ odd n cs
    unfolding odd
    is_odd cs k = let x = is (Some f) e cs k in ap (λ (q : ℕ). not (eqb q 1)) x.3 ∙ go (plain x.0) ∙ sym (ap not_plain x.1)
      where
        go : (b : Bool) → not (eqb (flag b) 1) ≡ not b
        go true = refl
        go false = refl

module _ (parts : List ℕ) where
  abbrev Tells : (List Part → Bool) → Bool → Type 0
  Tells f b = (cs : List Part) → parts ≡ part_rows cs → b ≡ f cs

  told : (f : List Part → Bool) (b : Bool) → Tells f b → (cs : List Part) → parts ≡ part_rows cs → b ≡ f cs
  told f b h cs k = h cs k

  module _ (a : Bool) (ha : Tells (odd (role_name 2)) a) where
    pub odd-indices : a ≡ true → (cs : List Part) → parts ≡ part_rows cs → true ≡ of_csr cs
    unfolding of_csr
    odd-indices e cs k = rw (sym (told _ a ha cs k) ∙ e) refl

    module _ (e : a ≡ false) (b : Bool) (hb : Tells (there (role_name 2)) b) where
      pub then-indptr : b ≡ true → (c : Bool) → Tells (odd (role_name 3)) c → (cs : List Part) → parts ≡ part_rows cs → c ≡ of_csr cs
      unfolding of_csr
      then-indptr f c hc cs k = rw (sym (told _ a ha cs k) ∙ e, sym (told _ b hb cs k) ∙ f) (told _ c hc cs k)

      pub no-indices : b ≡ false → (cs : List Part) → parts ≡ part_rows cs → false ≡ of_csr cs
      unfolding of_csr
      no-indices f cs k = rw (sym (told _ a ha cs k) ∙ e, sym (told _ b hb cs k) ∙ f) refl

  module _ (format : ℕ) (a : Bool) (ha : Tells (there (role_name 1)) a) where
    pub no-values : a ≡ false → (cs : List Part) → parts ≡ part_rows cs → false ≡ blames format cs
    unfolding blames
    no-values e cs k = rw (sym (told _ a ha cs k) ∙ e) refl

    module _ (e : a ≡ true) where
      pub as-csr : format ≡ 1 → (b : Bool) → Tells of_csr b → (cs : List Part) → parts ≡ part_rows cs → b ≡ blames format cs
      unfolding blames
      as-csr f b hb cs k = rw (sym (told _ a ha cs k) ∙ e, eq-eqb format 1 f) (told _ b hb cs k)

      module _ (f : format ≡ 1 → ⊥) where
        pub as-coo : format ≡ 2 → (b : Bool) → Tells (odd (role_name 4)) b → (cs : List Part) → parts ≡ part_rows cs → b ≡ blames format cs
        unfolding blames
        as-coo g b hb cs k = rw (sym (told _ a ha cs k) ∙ e, ne_eqb format 1 f, eq-eqb format 2 g) (told _ b hb cs k)

        pub as-other : (format ≡ 2 → ⊥) → (cs : List Part) → parts ≡ part_rows cs → false ≡ blames format cs
        unfolding blames
        as-other g cs k = rw (sym (told _ a ha cs k) ∙ e, ne_eqb format 1 f, ne_eqb format 2 g) refl
