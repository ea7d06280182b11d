-- A blob over the front of the output: after zeros where the front isn't so far, else into it. Assumes nothing.
use Prim.Native.Nat.{ℕ, ◌+◌, ◌-◌, ◌≤◌, ◌<◌, max}
use native.Mathlib.Omega.{arith}
use mathlib.Core.List.{List, ◌++◌, append_assoc, append-nil}
use mathlib.Core.Bool.{Bool, true, false}
use mathlib.Core.Path.{◌≡◌, refl, sym, ap, ◌∙◌}
use lib.Dec.{leb}
use lib.ListN.{length, take, drop, replicate, length-replicate, take-append-drop, drop_of_length-le}
use lib.Seq.{take_all, take-append-le, drop-append-le, length-take-le}
use borrow.Author.Tests.{leb-true, leb-false}
use Rattle.meaning.specs.WrittenFile.{over}
use Rattle.meaning.proofs.Over.{over-length}
use Rattle.emit.specs.Laid.{Room, Laid}
use Rattle.layout.specs.Pieces.{range}
use Rattle.layout.specs.Rows.{Within, BlobRoom}
use Rattle.layout.proofs.RowLoop.{within-length}
use Rattle.emit.proofs.LaidPieces.{as_bytes, then, with-front, same_length}

module _ (xs b : List ℕ) (past start : ℕ) (front : past ≤ length xs) where
  long : length (take past xs) ≡ past
  long = length-take-le past xs front

  -- ---- past the front

  module _ (h : past ≤ start) where
    beyond : over (take past xs) start b ≡ take past xs ++ (replicate (start - past) 0 ++ b)
    unfolding over
    beyond =
        let n : length (take past xs) ≤ start + length b = omega (arith, long, h) in
        let m : length (take past xs) ≤ start = omega (arith, long, h) in
        rw (take_all start (take past xs) m, long, drop_of_length-le (take past xs) n, append-nil b) refl

    blob-beyond : {ys zs : List ℕ} {from r : ℕ} → Laid (replicate (start - past) 0) past xs ys from → Laid b from ys zs r → Laid (over (take past xs) start b) 0 xs zs r
    blob-beyond v w = as_bytes (sym beyond) (with-front (then v w))

  -- ---- into it

  inside : start ≤ past → over (take past xs) start b ≡ take start xs ++ (b ++ drop (start + length b) (take past xs))
  unfolding over
  inside h =
      let z : start - length (take past xs) ≡ 0 = omega (arith, h, long) in
      let n : start ≤ length (take past xs) = omega (arith, h, long) in
      let t : take start (take past xs) ≡ take start xs = sym (take-append-le start (take past xs) (drop past xs) n) ∙ ap (take start) (take-append-drop past xs) in
      rw (t, z) refl

  -- what is left of the front, and what lies behind it
  behind : (e : ℕ) → drop e (take past xs) ++ drop (max past e) xs ≡ drop e xs
  behind e = go (leb e past) refl
    where
      go : (t : Bool) → leb e past ≡ t → drop e (take past xs) ++ drop (max past e) xs ≡ drop e xs
      go true q =
          let g = leb-true e past q in
          let m : max past e ≡ past = omega (arith, g) in
          ap (λ (k : ℕ). drop e (take past xs) ++ drop k xs) m
          ∙ sym (drop-append-le e (take past xs) (drop past xs) (omega (arith, g, long)))
          ∙ ap (drop e) (take-append-drop past xs)
      go false q =
          let g = leb-false e past q in
          let m : max past e ≡ e = omega (arith, g) in
          let n : length (take past xs) ≤ e = omega (arith, g, long) in
          ap (λ (k : ℕ). drop e (take past xs) ++ drop k xs) m ∙ ap (λ (d : List ℕ). d ++ drop e xs) (drop_of_length-le (take past xs) n)

  blob-into : {ys : List ℕ} {end r : ℕ} → start ≤ past → Laid b start xs ys end → r ≡ max past end → Laid (over (take past xs) start b) 0 xs ys r
  blob-into {ys} {end} {r} h w e = record {
    past = omega (arith, e, w.past, over-length (take past xs) start b, long);
    fits = omega (arith, w.fits, over-length (take past xs) start b, long, front);
    is = w.is ∙ sym whole;
  }
    where
      regrouped : (a c d f : List ℕ) → (a ++ (c ++ d)) ++ f ≡ a ++ (c ++ (d ++ f))
      regrouped a c d f = simp append_assoc

      whole : over (take past xs) start b ++ drop (0 + length (over (take past xs) start b)) xs ≡ take start xs ++ (b ++ drop (start + length b) xs)
      whole =
          let l : 0 + length (over (take past xs) start b) ≡ max past (start + length b) = omega (arith, over-length (take past xs) start b, long) in
          ap (λ (k : ℕ). over (take past xs) start b ++ drop k xs) l
          ∙ ap (λ (f : List ℕ). f ++ drop (max past (start + length b)) xs) (inside h)
          ∙ regrouped (take start xs) b (drop (start + length b) (take past xs)) (drop (max past (start + length b)) xs)
          ∙ ap (λ (d : List ℕ). take start xs ++ (b ++ d)) (behind (start + length b))

-- ---- a range of the buffer as a blob, where there is room for it

module _ {xs buffer : List ℕ} {past start place size : ℕ} (room : BlobRoom xs past start size) (w : Within buffer place size) where
  pub room-for-gap : past < start → Room (replicate (start - past) 0) past xs
  room-for-gap h = record { fits = omega (arith, room.blob, length-replicate {A = ℕ} (start - past) 0, h) }

  module _ (h : past < start) {ys : List ℕ} {from : ℕ} (v : Laid (replicate (start - past) 0) past xs ys from) where
    pub room-after-gap : Room (range buffer place size) from ys
    room-after-gap = record { fits = omega (arith, room.blob, within-length w, same_length v, v.past, length-replicate {A = ℕ} (start - past) 0, h) }

    pub laid-after-gap : {zs : List ℕ} {r : ℕ} → Laid (range buffer place size) from ys zs r → Laid (over (take past xs) start (range buffer place size)) 0 xs zs r
    laid-after-gap b = blob-beyond xs (range buffer place size) past start room.front (omega (arith, h)) v b

  pub room-inside : Room (range buffer place size) start xs
  room-inside = record { fits = omega (arith, room.blob, within-length w) }

  pub laid-inside : {ys : List ℕ} {end r : ℕ} → start ≤ past → Laid (range buffer place size) start xs ys end → r ≡ max past end → Laid (over (take past xs) start (range buffer place size)) 0 xs ys r
  laid-inside h b e = blob-into xs (range buffer place size) past start room.front h b e
