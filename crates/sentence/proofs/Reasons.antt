-- The reasons, as the code's table has them.
use Prim.Native.Nat.{ℕ, zero, suc, ◌+◌, ◌-◌, ◌≤◌, ◌<◌}
use native.Mathlib.Omega.{arith}
use mathlib.Core.List.{List, [], ◌∷◌, ◌++◌}
use mathlib.Core.Bool.{Bool, true, false, cond}
use mathlib.Core.Path.{◌≡◌, refl, ap, sym, ◌∙◌}
use lib.ListN.{take, drop, get_or, length, get_or-eq_default}
use lib.Dec.{eqb, ltb, lit≤}
use borrow.Author.Tests.{lt-ltb, le-ltb, eq-eqb, ne_eqb, ltb-true, ltb-false}
use Rattle.meaning.specs.Text.{ascii}
use Rattle.meaning.specs.Layouts.{Layout, layout_of, current, old}
use Rattle.meaning.proofs.WhichLayout.{by_layout}
use Rattle.meaning.specs.Listing.{decimal, digits}
use Rattle.put.specs.Wrote.{Wrote}
use Rattle.put.proofs.PiecesInTurn as writing
use Rattle.explained.specs.Sentence.{reasons, reason}
use Rattle.sentence.specs.Given.{listed}

abbrev pub table : List ℕ
table =
    ascii "SHORT: file under 24 bytesHEADER: first 8 wrongFOOTER: last 8 wrongBIG: manifest size over"
    ++ ascii " 16777216FIT: manifest size 0 or over file length - 24CBOR: malformed, ended early, or byt"
    ++ ascii "es left overDEEP: an item at depth 33 beginsKIND: known value of another kind, or chunked "
    ++ ascii "text in a known placeKEY: a key or name isn't whole textTEXT: name, format, type or digest"
    ++ ascii " isn't UTF-8TWICE: a known field or a name repeatedMISSING: required field absentVERSION: "
    ++ ascii "not two or three runs of 1 to 9 digits joined by dots, without leading zerosMAJOR: major i"
    ++ ascii "sn't 1COUNT: over 1024 objects, 16 components an object or rank 8DTYPE: not one of the 13 "
    ++ ascii "dtypesENCODING: present and not rawTYPE: listed type over another dtypeALIGN: offset not a"
    ++ ascii " multiple of 64BOUNDS: offset under 64, or offset + length over the manifest startRANK: sp"
    ++ ascii "arse_csr not of rank 2ROLE: needed role absent, or index role not plain u64LENGTH: length "
    ++ ascii "rule brokenROOM: lent table too shortSHORT: file under 16 bytesFIT: manifest size 0 or ove"
    ++ ascii "r file length - 16"

abbrev pub begins : List ℕ
begins = 0 ∷ 0 ∷ 26 ∷ 47 ∷ 67 ∷ 99 ∷ 144 ∷ 192 ∷ 224 ∷ 291 ∷ 326 ∷ 372 ∷ 411 ∷ 441 ∷ 526 ∷ 546 ∷ 605 ∷ 636 ∷ 665 ∷ 701 ∷ 735 ∷ 802 ∷ 832 ∷ 885 ∷ 911 ∷ 937 ∷ 963 ∷ 1008 ∷ []

-- what stands at a place of the list
abbrev pub listed_at : ℕ → List ℕ
listed_at k = take (get_or begins (k + 1) 0 - get_or begins k 0) (drop (get_or begins k 0) table)

listed-low : (layout n : ℕ) → listed layout n ≤ 26
unfolding listed
listed-low layout n = go (ltb 24 n) refl (eqb layout 1) (eqb n 1) (eqb n 5)
  where
    go : (a : Bool) → ltb 24 n ≡ a → (b c d : Bool) → cond a 0 (cond b (cond c 25 (cond d 26 n)) n) ≤ 26
    go true e b c d = lit≤ tt
    go false e true true d = lit≤ tt
    go false e true false true = lit≤ tt
    go false e true false false = let h : n ≤ 24 = ltb-false 24 n e in omega (arith, h)
    go false e false c d = let h : n ≤ 24 = ltb-false 24 n e in omega (arith, h)

-- the list rises, within the table
rising : (k : ℕ) → k ≤ 26 → (get_or begins k 0 ≤ get_or begins (k + 1) 0) × (get_or begins (k + 1) 0 ≤ 1008)
rising zero h = (lit≤ tt, lit≤ tt)
rising (suc zero) h = (lit≤ tt, lit≤ tt)
rising (suc (suc zero)) h = (lit≤ tt, lit≤ tt)
rising (suc (suc (suc zero))) h = (lit≤ tt, lit≤ tt)
rising (suc (suc (suc (suc zero)))) h = (lit≤ tt, lit≤ tt)
rising (suc (suc (suc (suc (suc zero))))) h = (lit≤ tt, lit≤ tt)
rising (suc (suc (suc (suc (suc (suc zero)))))) h = (lit≤ tt, lit≤ tt)
rising (suc (suc (suc (suc (suc (suc (suc zero))))))) h = (lit≤ tt, lit≤ tt)
rising (suc (suc (suc (suc (suc (suc (suc (suc zero)))))))) h = (lit≤ tt, lit≤ tt)
rising (suc (suc (suc (suc (suc (suc (suc (suc (suc zero))))))))) h = (lit≤ tt, lit≤ tt)
rising (suc (suc (suc (suc (suc (suc (suc (suc (suc (suc zero)))))))))) h = (lit≤ tt, lit≤ tt)
rising (suc (suc (suc (suc (suc (suc (suc (suc (suc (suc (suc zero))))))))))) h = (lit≤ tt, lit≤ tt)
rising (suc (suc (suc (suc (suc (suc (suc (suc (suc (suc (suc (suc zero)))))))))))) h = (lit≤ tt, lit≤ tt)
rising (suc (suc (suc (suc (suc (suc (suc (suc (suc (suc (suc (suc (suc zero))))))))))))) h = (lit≤ tt, lit≤ tt)
rising (suc (suc (suc (suc (suc (suc (suc (suc (suc (suc (suc (suc (suc (suc zero)))))))))))))) h = (lit≤ tt, lit≤ tt)
rising (suc (suc (suc (suc (suc (suc (suc (suc (suc (suc (suc (suc (suc (suc (suc zero))))))))))))))) h = (lit≤ tt, lit≤ tt)
rising (suc (suc (suc (suc (suc (suc (suc (suc (suc (suc (suc (suc (suc (suc (suc (suc zero)))))))))))))))) h = (lit≤ tt, lit≤ tt)
rising (suc (suc (suc (suc (suc (suc (suc (suc (suc (suc (suc (suc (suc (suc (suc (suc (suc zero))))))))))))))))) h = (lit≤ tt, lit≤ tt)
rising (suc (suc (suc (suc (suc (suc (suc (suc (suc (suc (suc (suc (suc (suc (suc (suc (suc (suc zero)))))))))))))))))) h = (lit≤ tt, lit≤ tt)
rising (suc (suc (suc (suc (suc (suc (suc (suc (suc (suc (suc (suc (suc (suc (suc (suc (suc (suc (suc zero))))))))))))))))))) h = (lit≤ tt, lit≤ tt)
rising (suc (suc (suc (suc (suc (suc (suc (suc (suc (suc (suc (suc (suc (suc (suc (suc (suc (suc (suc (suc zero)))))))))))))))))))) h = (lit≤ tt, lit≤ tt)
rising (suc (suc (suc (suc (suc (suc (suc (suc (suc (suc (suc (suc (suc (suc (suc (suc (suc (suc (suc (suc (suc zero))))))))))))))))))))) h = (lit≤ tt, lit≤ tt)
rising (suc (suc (suc (suc (suc (suc (suc (suc (suc (suc (suc (suc (suc (suc (suc (suc (suc (suc (suc (suc (suc (suc zero)))))))))))))))))))))) h = (lit≤ tt, lit≤ tt)
rising (suc (suc (suc (suc (suc (suc (suc (suc (suc (suc (suc (suc (suc (suc (suc (suc (suc (suc (suc (suc (suc (suc (suc zero))))))))))))))))))))))) h = (lit≤ tt, lit≤ tt)
rising (suc (suc (suc (suc (suc (suc (suc (suc (suc (suc (suc (suc (suc (suc (suc (suc (suc (suc (suc (suc (suc (suc (suc (suc zero)))))))))))))))))))))))) h = (lit≤ tt, lit≤ tt)
rising (suc (suc (suc (suc (suc (suc (suc (suc (suc (suc (suc (suc (suc (suc (suc (suc (suc (suc (suc (suc (suc (suc (suc (suc (suc zero))))))))))))))))))))))))) h = (lit≤ tt, lit≤ tt)
rising (suc (suc (suc (suc (suc (suc (suc (suc (suc (suc (suc (suc (suc (suc (suc (suc (suc (suc (suc (suc (suc (suc (suc (suc (suc (suc zero)))))))))))))))))))))))))) h = (lit≤ tt, lit≤ tt)
rising (suc (suc (suc (suc (suc (suc (suc (suc (suc (suc (suc (suc (suc (suc (suc (suc (suc (suc (suc (suc (suc (suc (suc (suc (suc (suc (suc k))))))))))))))))))))))))))) h = absurd (omega (arith, h))

of-current : (n : ℕ) → n ≤ 24 → listed_at n ≡ reason current n
unfolding reason reasons current decimal digits
of-current zero h = refl
of-current (suc zero) h = refl
of-current (suc (suc zero)) h = refl
of-current (suc (suc (suc zero))) h = refl
of-current (suc (suc (suc (suc zero)))) h = refl
of-current (suc (suc (suc (suc (suc zero))))) h = refl
of-current (suc (suc (suc (suc (suc (suc zero)))))) h = refl
of-current (suc (suc (suc (suc (suc (suc (suc zero))))))) h = refl
of-current (suc (suc (suc (suc (suc (suc (suc (suc zero)))))))) h = refl
of-current (suc (suc (suc (suc (suc (suc (suc (suc (suc zero))))))))) h = refl
of-current (suc (suc (suc (suc (suc (suc (suc (suc (suc (suc zero)))))))))) h = refl
of-current (suc (suc (suc (suc (suc (suc (suc (suc (suc (suc (suc zero))))))))))) h = refl
of-current (suc (suc (suc (suc (suc (suc (suc (suc (suc (suc (suc (suc zero)))))))))))) h = refl
of-current (suc (suc (suc (suc (suc (suc (suc (suc (suc (suc (suc (suc (suc zero))))))))))))) h = refl
of-current (suc (suc (suc (suc (suc (suc (suc (suc (suc (suc (suc (suc (suc (suc zero)))))))))))))) h = refl
of-current (suc (suc (suc (suc (suc (suc (suc (suc (suc (suc (suc (suc (suc (suc (suc zero))))))))))))))) h = refl
of-current (suc (suc (suc (suc (suc (suc (suc (suc (suc (suc (suc (suc (suc (suc (suc (suc zero)))))))))))))))) h = refl
of-current (suc (suc (suc (suc (suc (suc (suc (suc (suc (suc (suc (suc (suc (suc (suc (suc (suc zero))))))))))))))))) h = refl
of-current (suc (suc (suc (suc (suc (suc (suc (suc (suc (suc (suc (suc (suc (suc (suc (suc (suc (suc zero)))))))))))))))))) h = refl
of-current (suc (suc (suc (suc (suc (suc (suc (suc (suc (suc (suc (suc (suc (suc (suc (suc (suc (suc (suc zero))))))))))))))))))) h = refl
of-current (suc (suc (suc (suc (suc (suc (suc (suc (suc (suc (suc (suc (suc (suc (suc (suc (suc (suc (suc (suc zero)))))))))))))))))))) h = refl
of-current (suc (suc (suc (suc (suc (suc (suc (suc (suc (suc (suc (suc (suc (suc (suc (suc (suc (suc (suc (suc (suc zero))))))))))))))))))))) h = refl
of-current (suc (suc (suc (suc (suc (suc (suc (suc (suc (suc (suc (suc (suc (suc (suc (suc (suc (suc (suc (suc (suc (suc zero)))))))))))))))))))))) h = refl
of-current (suc (suc (suc (suc (suc (suc (suc (suc (suc (suc (suc (suc (suc (suc (suc (suc (suc (suc (suc (suc (suc (suc (suc zero))))))))))))))))))))))) h = refl
of-current (suc (suc (suc (suc (suc (suc (suc (suc (suc (suc (suc (suc (suc (suc (suc (suc (suc (suc (suc (suc (suc (suc (suc (suc zero)))))))))))))))))))))))) h = refl
of-current (suc (suc (suc (suc (suc (suc (suc (suc (suc (suc (suc (suc (suc (suc (suc (suc (suc (suc (suc (suc (suc (suc (suc (suc (suc n))))))))))))))))))))))))) h = absurd (omega (arith, h))

of-old : (n : ℕ) → n ≤ 24 → listed_at (cond (eqb n 1) 25 (cond (eqb n 5) 26 n)) ≡ reason old n
unfolding reason reasons old decimal digits
of-old zero h = refl
of-old (suc zero) h = refl
of-old (suc (suc zero)) h = refl
of-old (suc (suc (suc zero))) h = refl
of-old (suc (suc (suc (suc zero)))) h = refl
of-old (suc (suc (suc (suc (suc zero))))) h = refl
of-old (suc (suc (suc (suc (suc (suc zero)))))) h = refl
of-old (suc (suc (suc (suc (suc (suc (suc zero))))))) h = refl
of-old (suc (suc (suc (suc (suc (suc (suc (suc zero)))))))) h = refl
of-old (suc (suc (suc (suc (suc (suc (suc (suc (suc zero))))))))) h = refl
of-old (suc (suc (suc (suc (suc (suc (suc (suc (suc (suc zero)))))))))) h = refl
of-old (suc (suc (suc (suc (suc (suc (suc (suc (suc (suc (suc zero))))))))))) h = refl
of-old (suc (suc (suc (suc (suc (suc (suc (suc (suc (suc (suc (suc zero)))))))))))) h = refl
of-old (suc (suc (suc (suc (suc (suc (suc (suc (suc (suc (suc (suc (suc zero))))))))))))) h = refl
of-old (suc (suc (suc (suc (suc (suc (suc (suc (suc (suc (suc (suc (suc (suc zero)))))))))))))) h = refl
of-old (suc (suc (suc (suc (suc (suc (suc (suc (suc (suc (suc (suc (suc (suc (suc zero))))))))))))))) h = refl
of-old (suc (suc (suc (suc (suc (suc (suc (suc (suc (suc (suc (suc (suc (suc (suc (suc zero)))))))))))))))) h = refl
of-old (suc (suc (suc (suc (suc (suc (suc (suc (suc (suc (suc (suc (suc (suc (suc (suc (suc zero))))))))))))))))) h = refl
of-old (suc (suc (suc (suc (suc (suc (suc (suc (suc (suc (suc (suc (suc (suc (suc (suc (suc (suc zero)))))))))))))))))) h = refl
of-old (suc (suc (suc (suc (suc (suc (suc (suc (suc (suc (suc (suc (suc (suc (suc (suc (suc (suc (suc zero))))))))))))))))))) h = refl
of-old (suc (suc (suc (suc (suc (suc (suc (suc (suc (suc (suc (suc (suc (suc (suc (suc (suc (suc (suc (suc zero)))))))))))))))))))) h = refl
of-old (suc (suc (suc (suc (suc (suc (suc (suc (suc (suc (suc (suc (suc (suc (suc (suc (suc (suc (suc (suc (suc zero))))))))))))))))))))) h = refl
of-old (suc (suc (suc (suc (suc (suc (suc (suc (suc (suc (suc (suc (suc (suc (suc (suc (suc (suc (suc (suc (suc (suc zero)))))))))))))))))))))) h = refl
of-old (suc (suc (suc (suc (suc (suc (suc (suc (suc (suc (suc (suc (suc (suc (suc (suc (suc (suc (suc (suc (suc (suc (suc zero))))))))))))))))))))))) h = refl
of-old (suc (suc (suc (suc (suc (suc (suc (suc (suc (suc (suc (suc (suc (suc (suc (suc (suc (suc (suc (suc (suc (suc (suc (suc zero)))))))))))))))))))))))) h = refl
of-old (suc (suc (suc (suc (suc (suc (suc (suc (suc (suc (suc (suc (suc (suc (suc (suc (suc (suc (suc (suc (suc (suc (suc (suc (suc n))))))))))))))))))))))))) h = absurd (omega (arith, h))

no-reason : (L : Layout) (n : ℕ) → 24 < n → reason L n ≡ []
unfolding reason reasons
no-reason L n h = let g : length ([] ∷ reasons L) ≤ n = omega (arith, h) in get_or-eq_default ([] ∷ reasons L) [] g

reasoned : (layout n : ℕ) → listed_at (listed layout n) ≡ reason (layout_of layout) n
unfolding listed
reasoned layout n = by_layout (λ layout L. listed_at (listed layout n) ≡ reason L n) layout (λ e. as-old e) (λ e. as-current e)
  where
    as-old : {layout : ℕ} → layout ≡ 1 → listed_at (listed layout n) ≡ reason old n
    as-old {layout} e = rw (eq-eqb layout 1 e) (go (ltb 24 n) refl)
      where
        go : (a : Bool) → ltb 24 n ≡ a → listed_at (cond a 0 (cond (eqb n 1) 25 (cond (eqb n 5) 26 n))) ≡ reason old n
        go true h = sym (no-reason old n (ltb-true 24 n h))
        go false h = of-old n (ltb-false 24 n h)

    as-current : {layout : ℕ} → (layout ≡ 1 → ⊥) → listed_at (listed layout n) ≡ reason current n
    as-current {layout} e = rw (ne_eqb layout 1 e) (go (ltb 24 n) refl)
      where
        go : (a : Bool) → ltb 24 n ≡ a → listed_at (cond a 0 n) ≡ reason current n
        go true h = sym (no-reason current n (ltb-true 24 n h))
        go false h = of-current n (ltb-false 24 n h)

module _ (layout n : ℕ) where
  pub too-high : 24 < n → 0 ≡ listed layout n
  unfolding listed
  too-high h = rw (lt-ltb 24 n h)

  pub old-short : n ≤ 24 → layout ≡ 1 → n ≡ 1 → 25 ≡ listed layout n
  unfolding listed
  old-short h e f = rw (le-ltb 24 n h, eq-eqb layout 1 e, eq-eqb n 1 f)

  pub old-fit : n ≤ 24 → layout ≡ 1 → (n ≡ 1 → ⊥) → n ≡ 5 → 26 ≡ listed layout n
  unfolding listed
  old-fit h e f g = rw (le-ltb 24 n h, eq-eqb layout 1 e, ne_eqb n 1 f, eq-eqb n 5 g)

  pub old-other : n ≤ 24 → layout ≡ 1 → (n ≡ 1 → ⊥) → (n ≡ 5 → ⊥) → n ≡ listed layout n
  unfolding listed
  old-other h e f g = rw (le-ltb 24 n h, eq-eqb layout 1 e, ne_eqb n 1 f, ne_eqb n 5 g)

  pub as-numbered : n ≤ 24 → (layout ≡ 1 → ⊥) → n ≡ listed layout n
  unfolding listed
  as-numbered h e = rw (le-ltb 24 n h, ne_eqb layout 1 e)

-- of the code's answer
module _ (layout n : ℕ) {k : ℕ} (e : k ≡ listed layout n) where
  pub low-as : k ≤ 26
  low-as = let h = listed-low layout n in omega (arith, e, h)

  pub begins-first : get_or begins k 0 ≤ get_or begins (k + 1) 0
  begins-first = (rising k low-as).0

  pub ends-inside : get_or begins (k + 1) 0 ≤ 1008
  ends-inside = (rising k low-as).1

  pub reason-written : {at r : ℕ} {xs ys : List ℕ} → Wrote (listed_at k) at xs ys r → Wrote (reason (layout_of layout) n) at xs ys r
  reason-written w = writing.as_bytes (ap listed_at e ∙ reasoned layout n) w
