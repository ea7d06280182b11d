-- What lending parts of the shared numbers leaves, as stores.
use Prim.Native.Nat.{ℕ, ◌+◌, ◌-◌, ◌≤◌}
use native.Mathlib.Omega.{arith}
use mathlib.Core.List.{List, ◌++◌, append_assoc}
use mathlib.Core.Path.{◌≡◌, sym, ap, ap₂, ◌∙◌}
use lib.ListN.{length, take, drop, take-append-drop}
use lib.Seq.{sets, sets-eq, take-take, take-add, drop-drop, drop-append-le, length-take-le}

-- `&mut l[a..b]` lends `take (b - a) (drop a l)`; when it holds q afterwards, l is
abbrev pub lent : ℕ → ℕ → List ℕ → List ℕ → List ℕ
lent a b l q = take a l ++ (q ++ drop (b - a) (drop a l))

-- zeros, or a state: the part is as long as it was
pub lent_is : (a b : ℕ) (l q : List ℕ) → a + length q ≡ b → b ≤ length l → lent a b l q ≡ sets l a q
lent_is a b l q e h =
    let d : b - a ≡ length q = omega (arith, e) in
    ap (λ (z : List ℕ). take a l ++ (q ++ z)) (ap (λ (n : ℕ). drop n (drop a l)) d ∙ drop-drop (length q) a l)
    ∙ sym (sets-eq q l a (omega (arith, e, h)) ∙ append_assoc (take a l) q (drop (a + length q) l))

-- rows over the front of a part that begins the list
pub front-is : (f n : ℕ) (l R : List ℕ) → length R ≡ n → n ≤ f → f ≤ length l → (R ++ drop n (take f l)) ++ drop f l ≡ sets l 0 R
front-is f n l R e h k =
    let t : length (take f l) ≡ f = length-take-le f l k in
    let z : 0 + length R ≡ n = omega (arith, e) in
    append_assoc R (drop n (take f l)) (drop f l)
    ∙ ap (λ (x : List ℕ). R ++ x) (sym (drop-append-le n (take f l) (drop f l) (omega (arith, t, h))) ∙ ap (drop n) (take-append-drop f l) ∙ ap (λ (i : ℕ). drop i l) (sym z))
    ∙ sym (sets-eq R l 0 (omega (arith, e, h, k)))

-- rows that end a part: p numbers before it, f in it, of which the last n are the rows'
pub end_is : (p f n : ℕ) (l R : List ℕ) → length R ≡ n → n ≤ f → p + f ≤ length l
    → take p l ++ ((take (f - n) (take f (drop p l)) ++ R) ++ drop f (drop p l)) ≡ sets l (p + (f - n)) R
end_is p f n l R e h k =
    let z : p + f ≡ p + (f - n) + length R = omega (arith, e, h) in
    let r : List ℕ = drop f (drop p l) in
    let d : r ≡ drop (p + (f - n) + length R) l = drop-drop f p l ∙ ap (λ (i : ℕ). drop i l) z in
    let a : take (f - n) (take f (drop p l)) ≡ take (f - n) (drop p l) = take-take (f - n) f (drop p l) (omega arith) in
    ap (λ (x : List ℕ). take p l ++ x) (append_assoc (take (f - n) (take f (drop p l))) R r)
    ∙ sym (append_assoc (take p l) (take (f - n) (take f (drop p l))) (R ++ r))
    ∙ ap₂ {A = List ℕ} {B = List ℕ} (λ x y. x ++ (R ++ y)) (ap (λ (x : List ℕ). take p l ++ x) a ∙ sym (take-add p (f - n) l)) d
    ∙ sym (sets-eq R l (p + (f - n)) (omega (arith, e, h, k)) ∙ append_assoc (take (p + (f - n)) l) R (drop (p + (f - n) + length R) l))
