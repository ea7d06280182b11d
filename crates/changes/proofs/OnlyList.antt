-- No other list will do: what holds exactly the true entries, in the stated order, is the list.
use Prim.Native.Nat.{ℕ}
use mathlib.Core.List.{List, [], ◌∷◌}
use mathlib.Core.Logic.{inl, inr}
use mathlib.Core.Path.{◌≡◌, refl, sym, ap₂, ◌∙◌, subst}
use native.Mathlib.Omega.{arith}
use Rattle.meaning.specs.Described.{Described}
use Rattle.changes.specs.Changes.{Entry, changes}
use Rattle.changes.specs.Differs.{In, Change, Named}
use Rattle.changes.specs.Order.{key, Less, Rising}
use Rattle.changes.proofs.Exactly.{nothing-else, complete}
use Rattle.changes.proofs.InOrder.{in_order}

one_way : (x y : List ℕ) → Less x y → Less y x → ⊥
one_way [] y h g = h
one_way (a ∷ x) [] h g = h
one_way (a ∷ x) (b ∷ y) (inl h) (inl g) = omega arith
one_way (a ∷ x) (b ∷ y) (inl h) (inr (q, g)) = omega arith
one_way (a ∷ x) (b ∷ y) (inr (p, h)) (inl g) = omega arith
one_way (a ∷ x) (b ∷ y) (inr (p, h)) (inr (q, g)) = one_way x y h g

same_head : (x y : Entry) (l m : List Entry) → Rising (x ∷ l) → Rising (y ∷ m) → In x (y ∷ m) → In y (x ∷ l) → x ≡ y
same_head x y l m r s (inl e) v = e
same_head x y l m r s (inr u) (inl e) = sym e
same_head x y l m r s (inr u) (inr v) = absurd (one_way (key y) (key x) (s.0 x u) (r.0 y v))

-- what follows the head isn't the head
behind : (x y : Entry) (l m : List Entry) → Rising (x ∷ l) → x ≡ y → (e : Entry) → In e l → In e (y ∷ m) → In e m
behind x y l m r q e u (inr v) = v
behind x y l m r q e u (inl p) = let h : Less (key x) (key x) = subst (λ z. Less (key x) (key z)) (p ∙ sym q) (r.0 e u) in absurd (one_way (key x) (key x) h h)

rising-one : (l m : List Entry) → Rising l → Rising m → ((e : Entry) → In e l → In e m) → ((e : Entry) → In e m → In e l) → l ≡ m
rising-one [] [] r s f g = refl
rising-one [] (y ∷ m) r s f g = absurd (g y (inl refl))
rising-one (x ∷ l) [] r s f g = absurd (f x (inl refl))
rising-one (x ∷ l) (y ∷ m) r s f g =
    let q = same_head x y l m r s (f x (inl refl)) (g y (inl refl))
    in ap₂ {C = List Entry} (λ u v. u ∷ v) q
    (rising-one l m r.1 s.1 (λ e u. behind x y l m r q e u (f e (inr u))) (λ e u. behind y x m l s (sym q) e u (g e (inr u))))

pub only-list : (a b : Described) → Named b → (l : List Entry) → Rising l → ((e : Entry) → In e l → Change a b e) → ((e : Entry) → Change a b e → In e l) → l ≡ changes a b
only-list a b named l r f g = rising-one l (changes a b) r (in_order a b) (λ e u. complete a b named e (f e u)) (λ e u. g e (nothing-else a b named e u))
