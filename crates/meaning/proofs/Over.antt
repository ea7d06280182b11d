-- Blobs laid one over the other: how long the file gets, that a blob stands where it was laid, and which bytes stay.
use Prim.Native.Nat.{ℕ, zero, suc, ◌+◌, ◌-◌, ◌≤◌, ◌<◌, min, max}
use native.Mathlib.Omega.{arith}
use mathlib.Core.List.{List, [], ◌∷◌, ◌++◌, map, append_assoc, append-nil}
use mathlib.Core.Bool.{Bool, true, false, ◌||◌}
use mathlib.Core.Path.{◌≡◌, refl, ap, sym, ◌∙◌, subst}
use lib.Dec.{eqb, leb}
use lib.ListN.{length, take, drop, get_or, replicate, length-append, length-take, length-drop, length-replicate, take-append-drop, get_or-replicate, get_or-append, get_or-eq_default}
use lib.Seq.{take_at, drop_at, take-append-le, drop-append-le, drop-append-add, get_or-append-add, get_or-drop, drop-drop, take_all}
use borrow.Author.Tests.{leb-true, leb-false, eqb-true, ne_eqb}
use Rattle.meaning.specs.Plan.{ranged, apart}
use Rattle.meaning.specs.Placement.{end_from}
use Rattle.meaning.specs.WrittenFile.{over, blobs_over}
use Rattle.meaning.proofs.Tests.{false-not}

-- what stands between two parts
pub between : (a b c : List ℕ) (n : ℕ) → length a ≡ n → take (length b) (drop n (a ++ (b ++ c))) ≡ b
between a b c n e = ap (take (length b)) (drop_at a (b ++ c) n e) ∙ take_at b c (length b) refl

-- ---- one blob

module _ (file : List ℕ) (o : ℕ) (b : List ℕ) where
  abbrev Z : List ℕ
  Z = replicate (o - length file) 0

  abbrev R : List ℕ
  R = drop (o + length b) file

  front : length (take o file) ≡ min o (length file)
  front = length-take o file

  gap : length Z ≡ o - length file
  gap = length-replicate {A = ℕ} (o - length file) 0

  laid-length : length (take o file ++ (Z ++ b)) ≡ o + length b
  laid-length = omega (arith, length-append (take o file) (Z ++ b), length-append Z b, front, gap)

  pub over-length : length (over file o b) ≡ max (length file) (o + length b)
  unfolding over
  over-length =
      omega (arith, length-append (take o file) (Z ++ (b ++ R)), length-append Z (b ++ R), length-append b R, front, gap, length-drop (o + length b) file)

  pub over-here : take (length b) (drop o (over file o b)) ≡ b
  unfolding over
  over-here =
      ap (λ (f : List ℕ). take (length b) (drop o f)) (sym (append_assoc (take o file) Z (b ++ R)))
      ∙ between (take o file ++ Z) b R o (omega (arith, length-append (take o file) Z, front, gap))

regrouped : (a z b r : List ℕ) → a ++ (z ++ (b ++ r)) ≡ (a ++ (z ++ b)) ++ r
regrouped a z b r = simp append_assoc

-- what stands before a place doesn't depend on what follows
same-front : (a r s : List ℕ) (p l : ℕ) → p + l ≤ length a → take l (drop p (a ++ r)) ≡ take l (drop p (a ++ s))
same-front a r s p l h =
    ap (take l) (drop-append-le p a r (omega arith))
    ∙ take-append-le l (drop p a) r (omega (arith, length-drop p a))
    ∙ sym (ap (take l) (drop-append-le p a s (omega arith)) ∙ take-append-le l (drop p a) s (omega (arith, length-drop p a)))

module _ (file : List ℕ) (o : ℕ) (b : List ℕ) (p l : ℕ) (within : p + l ≤ length file) where
  stays-before : p + l ≤ o → take l (drop p (over file o b)) ≡ take l (drop p file)
  unfolding over
  stays-before h =
      same-front (take o file) (Z file o b ++ (b ++ R file o b)) (drop o file) p l (omega (arith, length-take o file))
      ∙ ap (λ (f : List ℕ). take l (drop p f)) (take-append-drop o file)

  stays_after : o + length b ≤ p → take l (drop p (over file o b)) ≡ take l (drop p file)
  unfolding over
  stays_after h =
      let A : List ℕ = take o file ++ (Z file o b ++ b) in
      let k : length A ≡ o + length b = laid-length file o b in
      let q : p ≡ length A + (p - (o + length b)) = omega (arith, k) in
      let r : o + length b + (p - (o + length b)) ≡ p = omega arith in
      ap (take l)
      (ap (drop p) (regrouped (take o file) (Z file o b) b (R file o b))
      ∙ ap (λ (n : ℕ). drop n (A ++ R file o b)) q
      ∙ drop-append-add A (R file o b) (p - (o + length b))
      ∙ drop-drop (p - (o + length b)) (o + length b) file
      ∙ ap (λ (n : ℕ). drop n file) r)

-- so does the front, whatever the blob
pub over-front : (file : List ℕ) (o : ℕ) (b : List ℕ) (n : ℕ) → n ≤ length file → n ≤ o → take n (over file o b) ≡ take n file
over-front file o b n h k = stays-before file o b 0 n (omega (arith, h)) (omega (arith, k))

-- an empty blob where the file has got already
over_nothing : (file : List ℕ) (o : ℕ) → o ≤ length file → over file o [] ≡ file
unfolding over
over_nothing file o h =
    let z : o - length file ≡ 0 = omega arith in
    let r : o + 0 ≡ o = omega arith in
    ap (λ (k : ℕ). take o file ++ (replicate k 0 ++ drop (o + 0) file)) z ∙ ap (λ (k : ℕ). take o file ++ drop k file) r ∙ take-append-drop o file

-- a range that shares no byte with the blob stays
pub over-keeps : (file : List ℕ) (o : ℕ) (b : List ℕ) (p l : ℕ) → p + l ≤ length file → apart (ranged o (length b)) (ranged p l) ≡ true
    → take l (drop p (over file o b)) ≡ take l (drop p file)
unfolding apart
over-keeps file o [] p l h k = go (leb o (length file)) refl
  where
    go : (t : Bool) → leb o (length file) ≡ t → take l (drop p (over file o [])) ≡ take l (drop p file)
    go true e = ap (λ (f : List ℕ). take l (drop p f)) (over_nothing file o (leb-true o (length file) e))
    go false e = stays-before file o [] p l h (omega (arith, leb-false o (length file) e))
over-keeps file o (x ∷ b) p l h k = go (eqb l 0) refl (leb (o + length (x ∷ b)) p) refl (leb (p + l) o) refl (nonempty ∙ k)
  where
    nonempty : (eqb l 0 || leb (o + length (x ∷ b)) p || leb (p + l) o) ≡ (eqb (length (x ∷ b)) 0 || eqb l 0 || leb (o + length (x ∷ b)) p || leb (p + l) o)
    nonempty = let e : eqb (length (x ∷ b)) 0 ≡ false = ne_eqb (length (x ∷ b)) 0 (λ z. omega (arith, z)) in rw e refl

    go : (t : Bool) → eqb l 0 ≡ t → (u : Bool) → leb (o + length (x ∷ b)) p ≡ u → (v : Bool) → leb (p + l) o ≡ v → (t || u || v) ≡ true
        → take l (drop p (over file o (x ∷ b))) ≡ take l (drop p file)
    go true e u f v g k = let z = eqb-true l 0 e in rw z refl
    go false e true f v g k = stays_after file o (x ∷ b) p l h (leb-true (o + length (x ∷ b)) p f)
    go false e false f true g k = stays-before file o (x ∷ b) p l h (leb-true (p + l) o g)
    go false e false f false g k = absurd (false-not k)

-- so does a byte that the blob doesn't cover: 0 where nothing stands
module _ (file : List ℕ) (o : ℕ) (b : List ℕ) (k : ℕ) where
  abbrev rest : List ℕ
  rest = b ++ R file o b

  pub byte-before : k < o → get_or (over file o b) k 0 ≡ get_or file k 0
  unfolding over
  byte-before h = go (leb (length file) k) refl
    where
      go : (t : Bool) → leb (length file) k ≡ t → get_or (take o file ++ (Z file o b ++ rest)) k 0 ≡ get_or file k 0
      go false e =
          let l : k < length (take o file) = omega (arith, leb-false (length file) k e, front file o b) in
          get_or-append (take o file) (Z file o b ++ rest) 0 k l
          ∙ sym (get_or-append (take o file) (drop o file) 0 k l)
          ∙ ap (λ (f : List ℕ). get_or f k 0) (take-append-drop o file)
      go true e =
          let g : length file ≤ k = leb-true (length file) k e in
          let w : take o file ≡ file = take_all o file (omega arith) in
          let q : k ≡ length file + (k - length file) = omega arith in
          let z : k - length file < o - length file = omega arith in
          ap (λ (f : List ℕ). get_or (f ++ (Z file o b ++ rest)) k 0) w
          ∙ ap (λ (n : ℕ). get_or (file ++ (Z file o b ++ rest)) n 0) q
          ∙ get_or-append-add file (Z file o b ++ rest) (k - length file) 0
          ∙ get_or-append (Z file o b) rest 0 (k - length file) (omega (arith, gap file o b))
          ∙ get_or-replicate (o - length file) (k - length file) 0 0 z
          ∙ sym (get_or-eq_default file 0 g)

  pub byte-after : o + length b ≤ k → get_or (over file o b) k 0 ≡ get_or file k 0
  unfolding over
  byte-after h =
      let A : List ℕ = take o file ++ (Z file o b ++ b) in
      let q : k ≡ length A + (k - (o + length b)) = omega (arith, laid-length file o b) in
      let r : o + length b + (k - (o + length b)) ≡ k = omega arith in
      ap (λ (f : List ℕ). get_or f k 0) (regrouped (take o file) (Z file o b) b (R file o b))
      ∙ ap (λ (n : ℕ). get_or (A ++ R file o b) n 0) q
      ∙ get_or-append-add A (R file o b) (k - (o + length b)) 0
      ∙ get_or-drop (o + length b) file (k - (o + length b)) 0
      ∙ ap (λ (n : ℕ). get_or file n 0) r

-- ---- blob after blob

pub blobs-length : (file os : List ℕ) (bs : List (List ℕ)) → length (blobs_over file os bs) ≡ end_from (length file) os (map length bs)
unfolding blobs_over end_from
blobs-length file [] bs = refl
blobs-length file (o ∷ os) [] = refl
blobs-length file (o ∷ os) (b ∷ bs) = blobs-length (over file o b) os bs ∙ ap (λ (n : ℕ). end_from n os (map length bs)) (over-length file o b)

pub end-above : (n : ℕ) (os ls : List ℕ) → n ≤ end_from n os ls
unfolding end_from
end-above n [] ls = omega arith
end-above n (o ∷ os) [] = omega arith
end-above n (o ∷ os) (l ∷ ls) = omega (arith, end-above (max n (o + l)) os ls)
