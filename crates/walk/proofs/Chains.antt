-- Parts that are read one after the other, by their count or up to a break; pairs, the bytes that they take, and what an item takes.
use Prim.Native.Nat.{ℕ, zero, suc, ◌+◌, ◌-◌, ◌≤◌, ◌<◌}
use native.Mathlib.Omega.{arith}
use mathlib.Core.List.{List, [], ◌∷◌}
use mathlib.Core.Bool.{Bool, true, false}
use mathlib.Core.Path.{◌≡◌, refl, ap, sym, ◌∙◌, subst}
use lib.ListN.{length, drop, length-drop}
use lib.Dec.{eqb}
use borrow.Author.Tests.{eqb-true}
use Rattle.meaning.specs.Tree.{Node, Pair}
use Rattle.meaning.specs.Read.{got, Reader, after, ◌>>=◌, pure, stop, times, until_break, to_break, pair, item, no_note}
use Rattle.meaning.proofs.ReadPrefix.{never-got, alike, Alike, item-exact, item-hungry}
use Rattle.cbor.specs.Ending.{took, ending, item_end}
use Rattle.cbor.proofs.Ends.{Got, got-what}
use Rattle.cbor.proofs.Agree.{annotations-change-no-ending, rest-follows}
use Rattle.walk.specs.Reading.{Ends, ends, Reads, Row, Chain}
use Rattle.walk.proofs.ReadSays.{bound}

-- what an item that was read takes
pub record Ate (d : ℕ) (s r : List ℕ) : Type 0 where
  pub size : ℕ
  pub ends_so : item_end d s ≡ took size
  pub is : r ≡ drop size s
  pub some : 1 ≤ size
  pub fits : size ≤ length s

pub ate : (d : ℕ) (s : List ℕ) (t : Node Ends) (r : List ℕ) → Reads d s t r → Ate d s r
ate d s t r e =
    let k : item_end d s ≡ took (length s - length r) = sym (annotations-change-no-ending ends d s) ∙ ap (ending s) e in
    let p : Got (item no_note d) (item-exact d) s (length s - length r) = got-what (item no_note d) (item-exact d) s (length s - length r) k in
    let h : length (drop (length s - length r) s) < length s = item-hungry d [] s p.value (drop (length s - length r) s) p.is in
    record { size = length s - length r; ends_so = k; is = rest-follows ends d s t r (length s - length r) e k; some = omega (arith, h, length-drop (length s - length r) s); fits = p.within }

-- parts of any kind, by their count or up to a break
module _ {A : Type 0} (m : Reader A) where
  pub record Counted (n : ℕ) (s : List ℕ) (xs : List A) (r : List ℕ) : Type 0 where
    pub row : Row m s xs r
    pub count : length xs ≡ n

  pub counted : (n : ℕ) (s : List ℕ) (xs : List A) (r : List ℕ) → times m n s ≡ got xs r → Counted n s xs r
  unfolding times
  counted zero s xs r e = let z = alike e in subst (λ xs. Counted 0 s xs r) z.value (record { row = z.rest; count = refl })
  counted (suc n) s xs r e =
      let b = bound (m s) _ xs r e in
      let c = bound (times m n b.next) _ xs r b.then in
      let z : Alike (b.value ∷ c.value) xs c.next r = alike c.then in
      let h = counted n b.next c.value r (c.is ∙ ap (got c.value) z.rest) in
      subst (λ xs. Counted (suc n) s xs r) z.value (record { row = (b.next, b.is, h.row); count = ap suc h.count })

  pub record Broken (s : List ℕ) (xs : List A) (r : List ℕ) : Type 0 where
    pub last : List ℕ
    pub row : Row m s xs last
    pub breaks : last ≡ 255 ∷ r

  broken : (f : ℕ) (s : List ℕ) (xs : List A) (r : List ℕ) → until_break m f s ≡ got xs r → Broken s xs r
  unfolding until_break stop
  broken zero s xs r e = absurd (never-got e)
  broken (suc f) [] xs r e = absurd (never-got e)
  broken (suc f) (b ∷ s) xs r e = go (eqb b 255) refl (λ s xs r. broken f s xs r)
    where
      go : (t : Bool) → eqb b 255 ≡ t → ((s : List ℕ) (xs : List A) (r : List ℕ) → until_break m f s ≡ got xs r → Broken s xs r) → Broken (b ∷ s) xs r
      go true t ih =
          let z : Alike [] xs s r = alike (rw t at e) in
          let y : b ≡ 255 = eqb-true b 255 t in
          subst (λ xs. Broken (b ∷ s) xs r) z.value (record { last = b ∷ s; row = refl; breaks = rw (y, z.rest) refl })
      go false t ih =
          let c = bound (m (b ∷ s)) (λ x. until_break m f >>= λ xs. pure (x ∷ xs)) xs r (rw t at e) in
          let g = bound (until_break m f c.next) (λ xs. pure (c.value ∷ xs)) xs r c.then in
          let z : Alike (c.value ∷ g.value) xs g.next r = alike g.then in
          let h = ih c.next g.value r (g.is ∙ ap (got g.value) z.rest) in
          subst (λ xs. Broken (b ∷ s) xs r) z.value (record { last = h.last; row = (c.next, c.is, h.row); breaks = h.breaks })

  pub until-broken : (s : List ℕ) (xs : List A) (r : List ℕ) → to_break m s ≡ got xs r → Broken s xs r
  unfolding to_break
  until-broken s xs r e = broken (length s) s xs r e

module _ (d : ℕ) where
  -- a pair is a key, and then a value
  pub record Paired (s : List ℕ) (p : Pair Ends) (r : List ℕ) : Type 0 where
    pub middle : List ℕ
    pub key : Reads d s p.key middle
    pub value : Reads d middle p.value r

  pub paired : (s : List ℕ) (p : Pair Ends) (r : List ℕ) → pair ends (item ends d) s ≡ got p r → Paired s p r
  unfolding pair
  paired s p r e =
      let b = bound (item ends d s) (λ k. item ends d >>= λ v. pure (record { key = k; value = v })) p r e in
      let c = bound (item ends d b.next) (λ v. pure (record { key = b.value; value = v })) p r b.then in
      let z : Alike (record { key = b.value; value = c.value }) p c.next r = alike c.then in
      subst (λ p. Paired s p r) z.value (record { middle = b.next; key = b.is; value = c.is ∙ ap (got c.value) z.rest })

  pub pairs-chained : (ps : List (Pair Ends)) (s r : List ℕ) → Row (pair ends (item ends d)) s ps r → Chain d s ps r
  pairs-chained [] s r h = h
  pairs-chained (p ∷ ps) s r h = let q = paired s p h.0 h.1 in (q.middle, h.0, q.key, q.value, pairs-chained ps h.0 r h.2)

  -- a pair takes two bytes at least
  pub chain-long : (ps : List (Pair Ends)) (s r : List ℕ) → Chain d s ps r → length ps + length ps + length r ≤ length s
  chain-long [] s r h = let z : length s ≡ length r = ap length h in omega arith
  chain-long (p ∷ ps) s r h =
      let k = ate d s p.key h.0 h.2 in
      let v = ate d h.0 p.value h.1 h.3 in
      let z = chain-long ps h.1 r h.4 in
      let x : length h.0 ≡ length s - k.size = ap length k.is ∙ length-drop k.size s in
      let y : length h.1 ≡ length h.0 - v.size = ap length v.is ∙ length-drop v.size h.0 in
      omega (arith, k.some, k.fits, v.some, v.fits)
