-- Pieces of writing, one after the other. Where a place is stopped nothing is written any more, so what is left is the same.
use Prim.Native.Nat.{ℕ, suc, ◌+◌, ◌-◌, ◌*◌, ◌/◌, ◌%◌, ◌^◌, ◌≤◌, ◌<◌, min}
use native.Mathlib.Nat.{add-zero, add-suc, suc-add}
use native.Mathlib.Omega.{arith}
use mathlib.Core.List.{List, [], ◌∷◌, ◌++◌}
use mathlib.Core.Bool.{Bool, true, false, ◌&&◌, not}
use mathlib.Core.Path.{◌≡◌, refl, sym, ap, ◌∙◌, subst}
use lib.ListN.{length, get_or, drop, set, length-append}
use lib.Seq.{sets, length-sets, set_out}
use lib.Dec.{ltb, eqb}
use borrow.Author.Tests.{lt-ltb, le-ltb, ltb-true, ltb-false}
use Rattle.meaning.specs.Text.{within}
use Rattle.meaning.specs.Listing.{decimal, hex, shown, shown_text}
use Rattle.put.proofs.Pieces.{next, at-end, next-shown, shown-end, shown-plain, shown-escaped, decimal-one, decimal-more}
use Rattle.put.specs.Wrote.{most, capped, Wrote}

pub capped-low : (n : ℕ) → n < most → capped n ≡ n
unfolding capped
capped-low n h = rw (lt-ltb n most h) refl

pub capped-high : (n : ℕ) → most ≤ n → capped n ≡ most
unfolding capped
capped-high n h = rw (le-ltb n most h) refl

-- what holds below the last place, and from it on, holds
pub by_place : (n : ℕ) {A : Type 0} → (n < most → A) → (most ≤ n → A) → A
by_place n {A} low high = by (ltb n most) refl
  where
    by : (b : Bool) → ltb n most ≡ b → A
    by true e = low (ltb-true n most e)
    by false e = high (ltb-false n most e)

pub capped-least : (n : ℕ) {r : ℕ} → r ≡ min n most → r ≡ capped n
capped-least n e = e ∙ by_place n (λ h. (omega arith) ∙ sym (capped-low n h)) (λ h. (omega arith) ∙ sym (capped-high n h))

-- two numbers that are equal or both past all places
capped_more : (m n : ℕ) → m ≤ n → (m < most → m ≡ n) → capped m ≡ capped n
capped_more m n l e = by_place m (λ h. ap capped (e h)) (λ h. capped-high m h ∙ sym (capped-high n (omega arith)))

capped-add : (n m : ℕ) → capped (capped n + m) ≡ capped (n + m)
capped-add n m =
    by_place n (λ h. ap (λ (k : ℕ). capped (k + m)) (capped-low n h))
    (λ h. ap (λ (k : ℕ). capped (k + m)) (capped-high n h) ∙ capped-high (most + m) (omega arith) ∙ sym (capped-high (n + m) (omega (arith, h))))

module _ (l : List ℕ) where
  sets-out : (i : ℕ) (bs : List ℕ) → length l ≤ i → sets l i bs ≡ l
  sets-out i [] h = refl
  sets-out i (b ∷ bs) h = ap (λ (k : List ℕ). sets k (suc i) bs) (set_out l i b h) ∙ sets-out (suc i) bs (omega (arith, h))

  sets-capped : (i : ℕ) (bs : List ℕ) → length l < most → sets l (capped i) bs ≡ sets l i bs
  sets-capped i bs h =
      by_place i (λ p. ap (λ (k : ℕ). sets l k bs) (capped-low i p))
      (λ p. sets-out (capped i) bs (let e : capped i ≡ most = capped-high i p in omega (arith, e, h)) ∙ sym (sets-out i bs (omega (arith, p, h))))

sets-append : (l : List ℕ) (i : ℕ) (us bs : List ℕ) → sets (sets l i us) (i + length us) bs ≡ sets l i (us ++ bs)
sets-append l i [] bs = ap (λ (k : ℕ). sets l k bs) (add-zero i)
sets-append l i (a ∷ us) bs =
    ap (λ (k : ℕ). sets (sets (set l i a) (suc i) us) k bs) (add-suc i (length us) ∙ sym (suc-add i (length us)))
    ∙ sets-append (set l i a) (suc i) us bs

module _ {us bs : List ℕ} {at : ℕ} {xs ys zs : List ℕ} {r q : ℕ} where
  -- two pieces, one after the other
  pub then : Wrote us at xs ys r → Wrote bs r ys zs q → Wrote (us ++ bs) at xs zs q
  then a b = record {
    short = a.short;
    stored =
        b.stored
        ∙ ap (λ (k : ℕ). sets ys k bs) a.past
        ∙ sets-capped ys (at + length us) bs b.short
        ∙ ap (λ (l : List ℕ). sets l (at + length us) bs) a.stored
        ∙ sets-append xs at us bs;
    past =
        b.past
        ∙ ap (λ (k : ℕ). capped (k + length bs)) a.past
        ∙ capped-add (at + length us) (length bs)
        ∙ ap capped (let e : length (us ++ bs) ≡ length us + length bs = length-append us bs in
        let f : at + length us + length bs ≡ at + length (us ++ bs) = omega (arith, e) in f);
  }

-- nothing more
pub nothing : {r : ℕ} {ys : List ℕ} (q : ℕ) → length ys < most → q ≡ capped r → Wrote [] r ys ys q
nothing {r = r} q h e = record { short = h; stored = refl; past = e ∙ ap capped (sym (add-zero r)) }

module _ {bs : List ℕ} {at : ℕ} {xs ys : List ℕ} {r : ℕ} where
  pub same_length : Wrote bs at xs ys r → length ys ≡ length xs
  same_length w = ap length w.stored ∙ length-sets xs at bs

  pub still-short : Wrote bs at xs ys r → length ys < most
  still-short w = let e : length ys ≡ length xs = same_length w in omega (arith, e, w.short)

-- other bytes that are equal
pub as_bytes : {us bs : List ℕ} {at : ℕ} {xs ys : List ℕ} {r : ℕ} → us ≡ bs → Wrote us at xs ys r → Wrote bs at xs ys r
as_bytes {at = at} {xs} {ys} {r} e w = subst (λ (b : List ℕ). Wrote b at xs ys r) e w

module _ (xs : List ℕ) (at b : ℕ) (short : length xs < most) where
  pub one_in : at < length xs → Wrote (b ∷ []) at xs (set xs at b) (at + 1)
  one_in h = record { short = short; stored = refl; past = sym (capped-low (at + 1) (omega (arith, h, short))) }

  pub one-past : length xs ≤ at → {n r : ℕ} → n ≡ min (at + 1) (2 ^ 64 - 1) → r ≡ capped n → Wrote (b ∷ []) at xs xs r
  one-past h {n} p q = record { short = short; stored = sym (set_out xs at b h); past = q ∙ capped_more n (at + 1) (omega arith) (omega arith) }

-- what is still to be written, after which all is
abbrev pub Rest : List ℕ → ℕ → List ℕ → List ℕ → ℕ → List ℕ → Type 0
Rest all at xs rest r ys = (length ys < most) × ((zs : List ℕ) (q : ℕ) → Wrote rest r ys zs q → Wrote all at xs zs q)

pub rest_all : (all : List ℕ) (at : ℕ) (xs : List ℕ) → length xs < most → Rest all at xs all at xs
rest_all all at xs h = (h, λ zs q w. w)

module _ {all rest : List ℕ} {at : ℕ} {xs : List ℕ} {r : ℕ} {ys : List ℕ} where
  pub rest-less : {one less : List ℕ} {s : ℕ} {zs : List ℕ} → Rest all at xs rest r ys → rest ≡ one ++ less → Wrote one r ys zs s → Rest all at xs less s zs
  rest-less h e w = (still-short w, λ vs q v. h.1 vs q (as_bytes (sym e) (then w v)))

  pub rest-none : (q : ℕ) → Rest all at xs rest r ys → rest ≡ [] → q ≡ capped r → Wrote all at xs ys q
  rest-none q h e p = h.1 ys q (as_bytes (sym e) (nothing q h.0 p))

pub byte-then : {bs xs ys zs : List ℕ} {b at r q : ℕ} → Wrote (b ∷ []) at xs ys r → Wrote bs r ys zs q → Wrote (b ∷ bs) at xs zs q
byte-then v w = then v w

-- ---- a byte that is shown

module _ (b : ℕ) {xs ys : List ℕ} {at r : ℕ} {plain : Bool} (e : plain ≡ within 33 126 b && not (eqb b 92)) where
  pub plain-shown : plain ≡ true → Wrote (b ∷ []) at xs ys r → Wrote (shown b) at xs ys r
  plain-shown t w = as_bytes (shown-plain b (sym e ∙ t)) w

  pub escaped-shown : {us vs : List ℕ} {n m h l : ℕ} → plain ≡ false → h ≡ hex (b / 16) → l ≡ hex (b % 16) → Wrote (92 ∷ []) at xs us n → Wrote (h ∷ []) n us vs m → Wrote (l ∷ []) m vs ys r
      → Wrote (shown b) at xs ys r
  escaped-shown {h = h} {l = l} f p q u v w = as_bytes (shown-escaped b h l (sym e ∙ f) p q) (then u (then v w))

-- ---- a number

module _ (n : ℕ) {xs ys : List ℕ} {at r : ℕ} where
  pub one-digit : n < 10 → Wrote ((48 + n) ∷ []) at xs ys r → Wrote (decimal n) at xs ys r
  one-digit h w = as_bytes (decimal-one n h) w

  pub more-digits : n < 18446744073709551616 → 10 ≤ n → {zs : List ℕ} {q : ℕ} → Wrote (decimal (n / 10)) at xs ys r → Wrote ((48 + n % 10) ∷ []) r ys zs q → Wrote (decimal n) at xs zs q
  more-digits s h v w = as_bytes (decimal-more n s h) (then v w)

-- ---- the loops over a text, at its place i: what each writes for the rest of it is still to be written

pub record Writing (of : List ℕ → List ℕ) (t : List ℕ) (at : ℕ) (xs : List ℕ) (r i : ℕ) (ys : List ℕ) : Type 0 where
  pub inside : i ≤ length t
  pub rest : Rest (of t) at xs (of (drop i t)) r ys

-- what a slice of bytes that is owned is: it has less than 2 ^ 63
abbrev pub Owned : List ℕ → Type 0
Owned xs = length xs * 1 < most

owned-short : (xs : List ℕ) → Owned xs → length xs < most
owned-short xs h = omega arith

pub written_none : {of : List ℕ → List ℕ} {t xs : List ℕ} {at : ℕ} → Owned xs → Writing of t at xs at 0 xs
written_none {of} {t} {xs} {at} h = record { inside = omega arith; rest = rest_all (of t) at xs (owned-short xs h) }

module _ {t xs ys zs : List ℕ} {at r i s : ℕ} where
  pub byte-written : Writing (λ (u : List ℕ). u) t at xs r i ys → i < length t → Wrote (get_or t i 0 ∷ []) r ys zs s → Writing (λ (u : List ℕ). u) t at xs s (i + 1) zs
  byte-written w l e = record { inside = omega arith; rest = rest-less w.rest (next t i l) e }

  pub shown-written : Writing shown_text t at xs r i ys → i < length t → Wrote (shown (get_or t i 0)) r ys zs s → Writing shown_text t at xs s (i + 1) zs
  shown-written w l e = record { inside = omega arith; rest = rest-less w.rest (next-shown t i l) e }

module _ {t xs ys : List ℕ} {at r i : ℕ} where
  module _ (w : Writing (λ (u : List ℕ). u) t at xs r i ys) (l : length t ≤ i) where
    pub all-bytes : {q : ℕ} → q ≡ capped r → Wrote t at xs ys q
    all-bytes {q} e = rest-none q w.rest (at-end t i l) e

    pub bytes-as-long : length ys ≡ length xs
    bytes-as-long = same_length (all-bytes refl)

  module _ (w : Writing shown_text t at xs r i ys) (l : length t ≤ i) where
    pub all_shown : {q : ℕ} → q ≡ capped r → Wrote (shown_text t) at xs ys q
    all_shown {q} e = rest-none q w.rest (shown-end t i l) e

    pub shown-as-long : length ys ≡ length xs
    shown-as-long = same_length (all_shown refl)
