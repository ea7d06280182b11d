-- The map that begins some bytes: its pairs, counted or up to a break, for every tree that is read there.
use Prim.Native.Nat.{ℕ, suc, ◌+◌, ◌-◌, ◌/◌, ◌%◌, ◌≤◌, ◌<◌}
use native.Mathlib.Omega.{arith}
use mathlib.Core.List.{List, [], ◌∷◌}
use mathlib.Core.Bool.{Bool, true, false, cond}
use mathlib.Core.Logic.{◌⊎◌, ⊎_elim}
use mathlib.Core.Path.{◌≡◌, refl, ap, sym, ◌∙◌, subst}
use lib.ListN.{length, get_or, drop, length-drop}
use lib.Dec.{ltb}
use borrow.Author.Tests.{lt-ltb}
use Rattle.meaning.specs.Tree.{pairs, pair_list-pairs}
use Rattle.meaning.specs.Check.{fault}
use Rattle.meaning.specs.Refusal.{KIND}
use Rattle.meaning.specs.Kind as kinds
use Rattle.meaning.specs.Kind.{Kind, kind}
use Rattle.meaning.specs.Read.{known, indefinite, major_of, Major, Argument, pair, item}
use Rattle.meaning.specs.Read.{map_of}
use Rattle.cbor.specs.Ending.{head_of, argued, endless, FAULT, doubled}
use Rattle.cbor.proofs.Heads as heads
use Rattle.cbor.proofs.FirstByte as first
use Rattle.cbor.proofs.Loops.{holds-others}
use Rattle.walk.specs.Reading.{Ends, ends}
use Rattle.walk.specs.Places.{Whatever, Mapped, OpenMap}
use Rattle.walk.proofs.ReadSays.{Says, KindSays, kind-says, Stood, sized, loose, stood, nothing_read}
use Rattle.walk.proofs.Found.{major-is, major-tells, by_kind}
use Rattle.walk.proofs.Chains.{counted, until-broken, pairs-chained, chain-long}

abbrev NotTable : Kind Ends → Type 0
NotTable k = kinds.as_mapping k ≡ fault KIND

not_table : (m : Major) (a : Argument) (k : Kind Ends) → KindSays m a k → (m ≡ map_of → ⊥) → NotTable k
unfolding kinds.as_mapping
not_table m a k h x = by_kind NotTable m a k h (λ e n. refl) (λ e n w. refl) (λ e xs. refl) (λ e ps. absurd (x e)) (λ e. refl) refl

map-byte : (b : ℕ) → major_of b ≡ map_of → b / 32 ≡ 5
map-byte b e = ⊎_elim (λ h. h) (λ h. absurd (let y = h.1 in let z : ◌≡◌ {A = ℕ} 0 1 = cc in omega arith)) (major-tells b map_of e)

pub no-map : (s : List ℕ) → (1 ≤ length s → 160 ≤ get_or s 0 0 → get_or s 0 0 < 192 → ⊥) → Whatever s λ d t r. kinds.a_mapping t ≡ fault KIND
unfolding kinds.a_mapping
no-map [] n d t r e = absurd (nothing_read d [] t r refl e)
no-map (b ∷ s) n d t r e = go (stood d b s t r e)
  where
    other : major_of b ≡ map_of → ⊥
    other e = let z = map-byte b e in n (omega arith) (omega arith) (omega arith)

    go : Stood d b s t r → kinds.as_mapping (kind t) ≡ fault KIND
    go (sized w n l h k y) = not_table (major_of b) (known w n) (kind t) (kind-says (b ∷ s) d (drop w s) t r (major_of b) (known w n) y) other
    go (loose k h y) = not_table (major_of b) indefinite (kind t) (kind-says (b ∷ s) d s t r (major_of b) indefinite y) other

-- a head that runs past the bytes is no head of a tree
pub no-head : (s : List ℕ) → 1 ≤ length s → length s < (head_of s).size → Whatever s λ d t r. ⊥
no-head [] l n d t r e = absurd (omega arith)
no-head (b ∷ s) l n d t r e = go (stood d b s t r e)
  where
    go : Stood d b s t r → ⊥
    go (sized w v k h i y) = let z : (head_of (b ∷ s)).size ≡ w + 1 = ap (λ a. a.size) h in omega arith
    go (loose k h y) = let z : (head_of (b ∷ s)).size ≡ 1 = ap (λ a. a.size) h in omega arith

doubled-even : (n : ℕ) → doubled n % 2 ≡ 0
unfolding doubled
doubled-even n = go (ltb n 4_611_686_018_427_387_904)
  where
    go : (t : Bool) → cond t (n + n) FAULT % 2 ≡ 0
    go true = omega arith
    go false = refl

doubled-is : (n : ℕ) → n + n < FAULT → doubled n ≡ n + n
unfolding doubled
doubled-is n l = rw (lt-ltb n 4_611_686_018_427_387_904 (omega arith))

module _ (b : ℕ) (s : List ℕ) (room : length (b ∷ s) < FAULT) (low : 160 ≤ b) (high : b < 192) where
  is-map : major_of b ≡ map_of
  is-map = major-is b 5 (omega arith)

  counted-map : (b ≡ 191 → ⊥) → Whatever (b ∷ s) λ d t r. Mapped d 0 (doubled (head_of (b ∷ s)).value) (drop (head_of (b ∷ s)).size (b ∷ s)) t
  unfolding kind
  counted-map n d t r e = go (stood d b s t r e)
    where
      go : Stood d b s t r → Mapped d 0 (doubled (head_of (b ∷ s)).value) (drop (head_of (b ∷ s)).size (b ∷ s)) t
      go (sized w v l h k y) =
          let z = subst (λ m. Says (b ∷ s) d m (known w v) (drop w s) t r) is-map y in
          let c = counted (pair ends (item ends d)) v (drop w s) z.value r z.is in
          let p = pairs-chained d z.value (drop w s) r c.row in
          let q = chain-long d z.value (drop w s) r p in
          let u : w + 1 ≡ suc w = omega arith in
          let x = c.count in
          rw h (rw (u, doubled-is v (omega (arith, length-drop w s))) (record {
            pairs = z.value;
            kind-is = ap kind z.node ∙ ap kinds.mapping (pair_list-pairs z.value);
            last = r;
            due = record { chain = p; counted = λ _. omega arith; closed = λ k. absurd (omega arith) };
          }))
      go (loose k h y) = absurd (n (omega arith))

  broken-map : b ≡ 191 → Whatever (b ∷ s) λ d t r. Mapped d 2 (head_of (b ∷ s)).value (drop (head_of (b ∷ s)).size (b ∷ s)) t
  unfolding kind
  broken-map n d t r e = go (stood d b s t r e)
    where
      go : Stood d b s t r → Mapped d 2 (head_of (b ∷ s)).value (drop (head_of (b ∷ s)).size (b ∷ s)) t
      go (sized w v l h k y) = absurd (omega arith)
      go (loose k h y) =
          let z = subst (λ m. Says (b ∷ s) d m indefinite s t r) is-map y in
          let c = until-broken (pair ends (item ends d)) s z.value r z.is in
          rw h (record {
            pairs = z.value;
            kind-is = ap kind z.node ∙ ap kinds.mapping (pair_list-pairs z.value);
            last = c.last;
            due = record { chain = pairs-chained d z.value s c.last c.row; counted = λ k. absurd (omega arith); closed = λ k. ap (λ l. get_or l 0 0) c.breaks };
          })

pub map-counted : (s : List ℕ) → 1 ≤ length s → length s < FAULT → 160 ≤ get_or s 0 0 → get_or s 0 0 < 192 → (get_or s 0 0 ≡ 191 → ⊥) → (head_of s).size ≤ length s
    → OpenMap s 0 (doubled (head_of s).value) (head_of s).size
map-counted [] l r x y n f = absurd (omega arith)
map-counted (b ∷ s) l r x y n f = record {
  within = f;
  modes = record { even = λ _. doubled-even (head_of (b ∷ s)).value; loose = λ k. absurd (omega arith) };
  ending-is = λ d. (first.map-holds (b ∷ s) l r x y n).inside f (holds-others b (omega arith) (omega arith)) d;
  trees = counted-map b s r x y n;
}

pub loose-value : (b : ℕ) (s : List ℕ) → b % 32 ≡ 31 → head_of (b ∷ s) ≡ argued endless 1
loose-value b s e = sym (heads.head-open (b ∷ s) (sym e) (omega arith))

pub map-broken : (s : List ℕ) → 1 ≤ length s → length s < FAULT → get_or s 0 0 ≡ 191 → (head_of s).size ≤ length s → OpenMap s 2 (head_of s).value (head_of s).size
map-broken [] l r x f = absurd (omega arith)
map-broken (b ∷ s) l r x f = record {
  within = f;
  modes = record { even = λ k. absurd (omega arith); loose = λ _. (refl, ap (λ a. a.value) (loose-value b s (omega arith))) };
  ending-is = λ d. (first.open-map-holds (b ∷ s) l r x).inside f (holds-others b (omega arith) (omega arith)) d;
  trees = broken-map b s r (omega arith) (omega arith) x;
}
