-- Pieces of writing, one after the other; a loop that stores a byte a turn; a piece over the front of a part that is lent. Assumes nothing.
use Prim.Native.Nat.{ℕ, suc, ◌+◌, ◌-◌, ◌≤◌, ◌<◌}
use native.Mathlib.Nat.{zero-add, add-zero}
use native.Mathlib.Numerals.{add-one}
use native.Mathlib.Omega.{arith}
use mathlib.Core.List.{List, [], ◌∷◌, ◌++◌, map, append_assoc, append-nil}
use mathlib.Core.Path.{◌≡◌, refl, sym, ap, ◌∙◌, subst}
use lib.ListN.{length, take, drop, get_or, set, replicate, length-replicate, length-append, length-drop, length-set, drop_of_length-le, take-append-drop}
use lib.Seq.{take-suc, drop-cons, set_at, set_split, take_at, drop_at, take-length, drop-append-add, drop-drop, length-take-le}
use borrow.Author.Rules.{part_to_end}
use Rattle.meaning.specs.Manifest.{number_bytes}
use Rattle.meaning.specs.Read.{joined}
use Rattle.emit.specs.Laid.{Room, Laid}

-- ---- one after the other

module _ {bs xs ys : List ℕ} {at r : ℕ} where
  pub same_length : Laid bs at xs ys r → length ys ≡ length xs
  same_length w =
      let k : length (take at xs) ≡ at = length-take-le at xs (omega (arith, w.fits)) in
      ap length w.is ∙ simp (length-append, length-drop) (omega (arith, k, w.fits))

-- nothing more
pub nothing : (at : ℕ) (xs : List ℕ) → at ≤ length xs → Laid [] at xs xs at
nothing at xs h = record {
  past = sym (add-zero at);
  fits = rw add-zero h;
  is = rw add-zero (sym (take-append-drop at xs));
}

-- other bytes that are equal
pub as_bytes : {us bs xs ys : List ℕ} {at r : ℕ} → us ≡ bs → Laid us at xs ys r → Laid bs at xs ys r
as_bytes {xs = xs} {ys} {at} {r} e w = subst (λ (b : List ℕ). Laid b at xs ys r) e w

pub room_as : {us bs xs : List ℕ} {at : ℕ} → us ≡ bs → Room us at xs → Room bs at xs
room_as {xs = xs} {at} e w = subst (λ (b : List ℕ). Room b at xs) e w

pub room_back : {us bs xs : List ℕ} {at : ℕ} → us ≡ bs → Room bs at xs → Room us at xs
room_back e w = room_as (sym e) w

-- room for the first of two, and for the second after the first
pub room-first : {us xs : List ℕ} {at : ℕ} (bs : List ℕ) → Room (us ++ bs) at xs → Room us at xs
room-first {us} bs h = record { fits = omega (arith, length-append us bs, h.fits) }

pub room_next : {us bs xs ys : List ℕ} {at r : ℕ} → Laid us at xs ys r → Room (us ++ bs) at xs → Room bs r ys
room_next {us} {bs} w h = record { fits = omega (arith, length-append us bs, h.fits, w.past, same_length w) }

pub then : {us bs xs ys zs : List ℕ} {at r q : ℕ} → Laid us at xs ys r → Laid bs r ys zs q → Laid (us ++ bs) at xs zs q
then {us} {bs} {xs} {ys} {zs} {at} {r} {q} v w =
    let k : length (take at xs) ≡ at = length-take-le at xs (omega (arith, v.fits)) in
    let front : length (take at xs ++ us) ≡ r = omega (arith, length-append (take at xs) us, k, v.past) in
    let y : ys ≡ (take at xs ++ us) ++ drop (at + length us) xs = v.is ∙ sym (append_assoc (take at xs) us _) in
    record {
      past = omega (arith, v.past, w.past, length-append us bs);
      fits = omega (arith, v.past, w.fits, same_length v, length-append us bs);
      is =
          w.is
          ∙ rw (
            y,
            take_at (take at xs ++ us) (drop (at + length us) xs) r front,
            ← drop-drop (length bs) r _,
            drop_at (take at xs ++ us) (drop (at + length us) xs) r front,
            drop-drop (length bs) (at + length us) xs,
          )
          (append_assoc (take at xs) us _
          ∙ ap (λ (z : List ℕ). take at xs ++ z) (sym (append_assoc us bs _))
          ∙ ap (λ (n : ℕ). take at xs ++ ((us ++ bs) ++ drop n xs))
          (let n : at + length us + length bs ≡ at + length (us ++ bs) = omega (arith, length-append us bs) in n));
    }

-- ---- the front of the output

-- what stands there already
pub stands : (at : ℕ) (xs : List ℕ) → at ≤ length xs → Laid (take at xs) 0 xs xs at
stands at xs h =
    let k : length (take at xs) ≡ at = length-take-le at xs h in
    record { past = omega (arith, k); fits = omega (arith, k); is = rw (zero-add (length (take at xs)), k) (sym (take-append-drop at xs)) }

module _ {f xs ys : List ℕ} {r : ℕ} (w : Laid f 0 xs ys r) where
  front-is : ys ≡ f ++ drop (length f) xs
  front-is = w.is ∙ ap (λ (k : ℕ). f ++ drop k xs) (zero-add (length f))

  pub front_of : take r ys ≡ f
  front_of = ap (take r) front-is ∙ take_at f (drop (length f) xs) r (sym (w.past ∙ zero-add (length f)))

  -- a longer front over it
  pub relaid : {g zs : List ℕ} {q : ℕ} → Laid g 0 ys zs q → length f ≤ length g → Laid g 0 xs zs q
  relaid {g} {zs} v h = record {
    past = v.past;
    fits = omega (arith, v.fits, same_length w);
    is = v.is ∙ ap (λ (d : List ℕ). g ++ d) beyond;
  }
    where
      beyond : drop (0 + length g) ys ≡ drop (0 + length g) xs
      beyond =
          let k : 0 + length g ≡ length f + (length g - length f) = omega (arith, h) in
          ap (λ (n : ℕ). drop n ys) k ∙ ap (drop (length f + (length g - length f))) front-is
          ∙ drop-append-add f (drop (length f) xs) (length g - length f) ∙ drop-drop (length g - length f) (length f) xs ∙ ap (λ (n : ℕ). drop n xs) (sym k)

-- a piece after it
pub with-front : {bs xs ys : List ℕ} {at r : ℕ} → Laid bs at xs ys r → Laid (take at xs ++ bs) 0 xs ys r
with-front {bs} {xs} {ys} {at} {r} w =
    let k : length (take at xs) ≡ at = length-take-le at xs (omega (arith, w.fits)) in
    let l : length (take at xs ++ bs) ≡ at + length bs = omega (arith, length-append (take at xs) bs, k) in
    record {
      past = omega (arith, w.past, l);
      fits = omega (arith, w.fits, l);
      is = w.is ∙ sym (append_assoc (take at xs) bs (drop (at + length bs) xs)) ∙ ap (λ (n : ℕ). (take at xs ++ bs) ++ drop n xs) (sym (zero-add (length (take at xs ++ bs)) ∙ l));
    }

-- ---- a loop whose turns lay the pieces of `all`: what is laid, and what is still to be

pub record Going (all : List ℕ) (at : ℕ) (xs rest : List ℕ) (r : ℕ) (ys : List ℕ) : Type 0 where
  pub done : List ℕ
  pub split : all ≡ done ++ rest
  pub room : Room all at xs
  pub laid : Laid done at xs ys r

pub going : (all : List ℕ) (at : ℕ) (xs : List ℕ) → Room all at xs → Going all at xs all at xs
going all at xs h = record { done = []; split = refl; room = h; laid = nothing at xs (omega (arith, h.fits)) }

module _ {all xs rest ys : List ℕ} {at r : ℕ} where
  pub room-rest : Going all at xs rest r ys → Room rest r ys
  room-rest g = room_next g.laid (room_as g.split g.room)

  -- room for one more
  pub room-one : {one : List ℕ} (less : List ℕ) → Going all at xs rest r ys → rest ≡ one ++ less → Room one r ys
  room-one less g e = room-first less (room_as e (room-rest g))

  pub go_on : {one less zs : List ℕ} {q : ℕ} → Going all at xs rest r ys → rest ≡ one ++ less → Laid one r ys zs q → Going all at xs less q zs
  go_on {one} {less} g e w = record {
    done = g.done ++ one;
    split = g.split ∙ ap (λ (z : List ℕ). g.done ++ z) e ∙ sym (append_assoc g.done one less);
    room = g.room;
    laid = then g.laid w;
  }

  pub all_laid : Going all at xs rest r ys → rest ≡ [] → Laid all at xs ys r
  all_laid g e = as_bytes (sym (g.split ∙ ap (λ (z : List ℕ). g.done ++ z) e ∙ append-nil g.done)) g.laid

  pub same-so-far : Going all at xs rest r ys → length ys ≡ length xs
  same-so-far g = same_length g.laid

-- ---- one byte, and a loop that stores the bytes of `bs` over the front of xs in turn

pub stored : (xs : List ℕ) (at b : ℕ) → at < length xs → Laid (b ∷ []) at xs (set xs at b) (at + 1)
stored xs at b h = record { past = refl; fits = omega (arith, h); is = rw (add-one at) (set_split xs at b h) }

byte_next : (bs : List ℕ) (i : ℕ) → i < length bs → drop i bs ≡ (get_or bs i 0 ∷ []) ++ drop (i + 1) bs
byte_next bs i h = rw (add-one i) (drop-cons bs i 0 h)

-- what is written for each number of a list, from the number i on
pub number-next : (f : ℕ → List ℕ) (ns : List ℕ) (i : ℕ) → i < length ns → joined (map f (drop i ns)) ≡ f (get_or ns i 0) ++ joined (map f (drop (i + 1) ns))
number-next f ns i h = ap (λ (z : List ℕ). joined (map f z)) (byte_next ns i h)

pub numbers-end : (f : ℕ → List ℕ) (ns : List ℕ) (i : ℕ) → length ns ≤ i → joined (map f (drop i ns)) ≡ []
numbers-end f ns i h = ap (λ (z : List ℕ). joined (map f z)) (drop_of_length-le ns h)

-- the loop over the numbers of a list, at its place i
pub record NumbersLaid (ns : List ℕ) (at : ℕ) (xs : List ℕ) (r i : ℕ) (ys : List ℕ) : Type 0 where
  pub inside : i ≤ length ns
  pub going_on : Going (joined (map number_bytes ns)) at xs (joined (map number_bytes (drop i ns))) r ys

pub no-numbers : {ns xs : List ℕ} {at : ℕ} → Room (joined (map number_bytes ns)) at xs → NumbersLaid ns at xs at 0 xs
no-numbers h = record { inside = omega arith; going_on = going _ _ _ h }

module _ {ns xs ys : List ℕ} {at r i : ℕ} (w : NumbersLaid ns at xs r i ys) where
  pub room-for-number : i < length ns → Room (number_bytes (get_or ns i 0)) r ys
  room-for-number l = room-one _ w.going_on (number-next number_bytes ns i l)

  pub one_number : {zs : List ℕ} {q : ℕ} → i < length ns → Laid (number_bytes (get_or ns i 0)) r ys zs q → NumbersLaid ns at xs q (i + 1) zs
  one_number l e = record { inside = omega arith; going_on = go_on w.going_on (number-next number_bytes ns i l) e }

  pub all-numbers : length ns ≤ i → Laid (joined (map number_bytes ns)) at xs ys r
  all-numbers l = all_laid w.going_on (numbers-end number_bytes ns i l)

  pub numbers-as-long : length ys ≡ length xs
  numbers-as-long = same-so-far w.going_on

-- i bytes of `bs`, n in number, are stored
pub record Filling (bs : List ℕ) (n : ℕ) (xs ys : List ℕ) (i : ℕ) : Type 0 where
  pub size : length bs ≡ n
  pub within : i ≤ n
  pub fits : n ≤ length xs
  pub long : length ys ≡ length xs
  pub is : ys ≡ take i bs ++ drop i xs

pub begin : (bs : List ℕ) (n : ℕ) (xs : List ℕ) → length bs ≡ n → n ≤ length xs → Filling bs n xs xs 0
begin bs n xs e h = record { size = e; within = omega arith; fits = h; long = refl; is = refl }

one_more : (bs xs : List ℕ) (i v : ℕ) → i < length bs → length bs ≤ length xs → v ≡ get_or bs i 0 → set (take i bs ++ drop i xs) i v ≡ take (suc i) bs ++ drop (suc i) xs
one_more bs xs i v l h e =
    let m : i < length xs = omega arith in
    let k : length (take i bs) ≡ i = length-take-le i bs (omega arith) in
    rw (drop-cons xs i 0 m, take-suc bs i 0 l)
    (set_at (take i bs) (get_or xs i 0) (drop (suc i) xs) v i k
    ∙ ap (λ (z : ℕ). take i bs ++ z ∷ drop (suc i) xs) e
    ∙ sym (append_assoc (take i bs) (get_or bs i 0 ∷ []) (drop (suc i) xs)))

pub more : {bs xs ys : List ℕ} {n i v : ℕ} → Filling bs n xs ys i → i < n → v ≡ get_or bs i 0 → Filling bs n xs (set ys i v) (i + 1)
more {bs} {xs} {ys} {n} {i} {v} f l e = record {
  size = f.size;
  within = omega arith;
  fits = f.fits;
  long = length-set ys i v ∙ f.long;
  is = rw (f.is, add-one i) (one_more bs xs i v (omega (arith, f.size)) (omega (arith, f.size, f.fits)) e);
}

pub filled : {bs xs ys : List ℕ} {n i r : ℕ} → Filling bs n xs ys i → n ≤ i → r ≡ n → Laid bs 0 xs ys r
filled {bs} {xs} {ys} {n} {i} {r} f l e =
    let q : i ≡ length bs = omega (arith, f.within, f.size) in
    record {
      past = e ∙ sym f.size ∙ sym (zero-add (length bs));
      fits = omega (arith, f.size, f.fits);
      is = f.is ∙ rw (q, take-length bs, zero-add (length bs));
    }

pub all-filled : {bs xs ys : List ℕ} {n i : ℕ} → Filling bs n xs ys i → n ≤ i → Laid bs 0 xs ys n
all-filled f l = filled f l refl

-- ---- the part of xs from a place on, lent, and the whole with what it then holds

abbrev pub part : ℕ → List ℕ → List ℕ
part a xs = take (length xs - a) (drop a xs)

abbrev pub back : ℕ → List ℕ → List ℕ → List ℕ
back a xs zs = take a xs ++ (zs ++ drop (length xs - a) (drop a xs))

pub part_length : (a : ℕ) (xs : List ℕ) → length (part a xs) ≡ length xs - a
part_length a xs = ap length (part_to_end xs a) ∙ length-drop a xs

pub back_is : (a : ℕ) (xs zs : List ℕ) → back a xs zs ≡ take a xs ++ zs
back_is a xs zs =
    let h : length (drop a xs) ≤ length xs - a = omega (arith, length-drop a xs) in
    ap (λ (z : List ℕ). take a xs ++ (zs ++ z)) (drop_of_length-le (drop a xs) h) ∙ ap (λ (z : List ℕ). take a xs ++ z) (append-nil zs)

pub room-lent : {bs xs : List ℕ} {at : ℕ} → Room bs at xs → Room bs 0 (part at xs)
room-lent {bs} {xs} {at} h = record { fits = rw (part_length at xs) (omega (arith, h.fits)) }

pub lent : {bs xs zs : List ℕ} {at n : ℕ} → Room bs at xs → Laid bs 0 (part at xs) zs n → Laid bs at xs (back at xs zs) (at + n)
lent {bs} {xs} {zs} {at} {n} h w = record {
  past = omega (arith, w.past);
  fits = h.fits;
  is =
      back_is at xs zs
      ∙ ap (λ (z : List ℕ). take at xs ++ z) w.is
      ∙ rw (part_to_end xs at, zero-add (length bs), drop-drop (length bs) at xs);
}

pub lent-as-long : {bs xs zs : List ℕ} {at n : ℕ} → Room bs at xs → Laid bs 0 (part at xs) zs n → length (back at xs zs) ≡ length xs
lent-as-long h w = same_length (lent h w)

pub zeros-fit : {xs : List ℕ} {at n : ℕ} → Room (replicate n 0) at xs → n ≤ length (part at xs)
zeros-fit {xs} {at} {n} h = rw (part_length at xs) (omega (arith, h.fits, length-replicate {A = ℕ} n 0))

-- a byte, and more over the front of the part after it
module _ {bs xs : List ℕ} {b at : ℕ} (room : Room (b ∷ bs) at xs) where
  byte-stored : Laid (b ∷ []) at xs (set xs at b) (at + 1)
  byte-stored = stored xs at b (omega (arith, room.fits))

  room-after-byte : Room bs (at + 1) (set xs at b)
  room-after-byte = room_next byte-stored room

  pub lent-after-byte : {zs : List ℕ} {n : ℕ} → Laid bs 0 (part (at + 1) (set xs at b)) zs n → Laid (b ∷ bs) at xs (back (at + 1) (set xs at b) zs) (at + 1 + n)
  lent-after-byte w = then byte-stored (lent room-after-byte w)
