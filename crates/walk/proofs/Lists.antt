-- The array that begins some bytes: its items, counted or up to a break, for every tree that is read there; and whether one more of them is due.
use Prim.Native.Nat.{ℕ, suc, ◌+◌, ◌-◌, ◌/◌, ◌≤◌, ◌<◌}
use native.Mathlib.Omega.{arith}
use mathlib.Core.List.{List, [], ◌∷◌}
use mathlib.Core.Bool.{true, false}
use mathlib.Core.Logic.{⊎_elim}
use mathlib.Core.Path.{◌≡◌, refl, ap, sym, ◌∙◌, subst}
use lib.ListN.{length, get_or, drop}
use lib.Dec.{ltb}
use borrow.Author.Tests.{lt-ltb, le-ltb}
use Rattle.meaning.specs.Tree.{Node, node_list-nodes}
use Rattle.meaning.specs.Check.{fault}
use Rattle.meaning.specs.Refusal.{KIND}
use Rattle.meaning.specs.Kind as kinds
use Rattle.meaning.specs.Kind.{Kind, kind}
use Rattle.meaning.specs.Read.{known, indefinite, major_of, Major, Argument, array_of, item}
use Rattle.cbor.specs.Ending as ending
use Rattle.cbor.specs.Ending.{head_of, took, item_end}
use Rattle.cbor.proofs.Rest as due
use Rattle.cbor.proofs.Agree.{rest-follows}
use Rattle.walk.specs.Reading.{Ends, ends, NodeChain, DueNodes}
use Rattle.walk.specs.Places.{Whatever, Listed, OpenList, MoreIs, is_any}
use Rattle.walk.proofs.ReadSays.{Says, KindSays, kind-says, Stood, sized, loose, stood, nothing_read}
use Rattle.walk.proofs.Found.{major-is, major-tells, by_kind}
use Rattle.walk.proofs.Chains.{ate, counted, until-broken}
use Rattle.walk.proofs.Maps.{loose-value}

abbrev NotList : Kind Ends → Type 0
NotList k = kinds.as_list k ≡ fault KIND

not-list : (m : Major) (a : Argument) (k : Kind Ends) → KindSays m a k → (m ≡ array_of → ⊥) → NotList k
unfolding kinds.as_list
not-list m a k h x = by_kind NotList m a k h (λ e n. refl) (λ e n w. refl) (λ e xs. absurd (x e)) (λ e ps. refl) (λ e. refl) refl

list-byte : (b : ℕ) → major_of b ≡ array_of → b / 32 ≡ 4
list-byte b e = ⊎_elim (λ h. h) (λ h. absurd (let y = h.1 in let z : ◌≡◌ {A = ℕ} 0 1 = cc in omega arith)) (major-tells b array_of e)

pub no-list : (s : List ℕ) → (1 ≤ length s → 128 ≤ get_or s 0 0 → get_or s 0 0 < 160 → ⊥) → Whatever s λ d t r. kinds.a_list t ≡ fault KIND
unfolding kinds.a_list
no-list [] n d t r e = absurd (nothing_read d [] t r refl e)
no-list (b ∷ s) n d t r e = go (stood d b s t r e)
  where
    other : major_of b ≡ array_of → ⊥
    other e = let z = list-byte b e in n (omega arith) (omega arith) (omega arith)

    go : Stood d b s t r → kinds.as_list (kind t) ≡ fault KIND
    go (sized w n l h k y) = not-list (major_of b) (known w n) (kind t) (kind-says (b ∷ s) d (drop w s) t r (major_of b) (known w n) y) other
    go (loose k h y) = not-list (major_of b) indefinite (kind t) (kind-says (b ∷ s) d s t r (major_of b) indefinite y) other

module _ (b : ℕ) (s : List ℕ) (low : 128 ≤ b) (high : b < 160) where
  is-array : major_of b ≡ array_of
  is-array = major-is b 4 (omega arith)

  counted-list : (b ≡ 159 → ⊥) → Whatever (b ∷ s) λ d t r. Listed d 0 (head_of (b ∷ s)).value (drop (head_of (b ∷ s)).size (b ∷ s)) t
  unfolding kind
  counted-list n d t r e = go (stood d b s t r e)
    where
      go : Stood d b s t r → Listed d 0 (head_of (b ∷ s)).value (drop (head_of (b ∷ s)).size (b ∷ s)) t
      go (sized w v l h k y) =
          let z = subst (λ m. Says (b ∷ s) d m (known w v) (drop w s) t r) is-array y in
          let c = counted (item ends d) v (drop w s) z.value r z.is in
          let u : w + 1 ≡ suc w = omega arith in
          rw h (rw u (record {
            items = z.value;
            kind-is = ap kind z.node ∙ ap kinds.list (node_list-nodes z.value);
            last = r;
            due = record { chain = c.row; counted = λ _. sym c.count; closed = λ k. absurd (omega arith) };
          }))
      go (loose k h y) = absurd (n (omega arith))

  broken-list : b ≡ 159 → Whatever (b ∷ s) λ d t r. Listed d 1 (head_of (b ∷ s)).value (drop (head_of (b ∷ s)).size (b ∷ s)) t
  unfolding kind
  broken-list n d t r e = go (stood d b s t r e)
    where
      go : Stood d b s t r → Listed d 1 (head_of (b ∷ s)).value (drop (head_of (b ∷ s)).size (b ∷ s)) t
      go (sized w v l h k y) = absurd (omega arith)
      go (loose k h y) =
          let z = subst (λ m. Says (b ∷ s) d m indefinite s t r) is-array y in
          let c = until-broken (item ends d) s z.value r z.is in
          rw h (record {
            items = z.value;
            kind-is = ap kind z.node ∙ ap kinds.list (node_list-nodes z.value);
            last = c.last;
            due = record { chain = c.row; counted = λ k. absurd (omega arith); closed = λ k. ap (λ l. get_or l 0 0) c.breaks };
          })

pub list_counted : (s : List ℕ) → 1 ≤ length s → 128 ≤ get_or s 0 0 → get_or s 0 0 < 160 → (get_or s 0 0 ≡ 159 → ⊥) → (head_of s).size ≤ length s → OpenList s 0 (head_of s).value (head_of s).size
list_counted [] l x y n f = absurd (omega arith)
list_counted (b ∷ s) l x y n f = record { within = f; loose = λ k. absurd (omega arith); trees = counted-list b s x y n }

pub list-broken : (s : List ℕ) → 1 ≤ length s → get_or s 0 0 ≡ 159 → (head_of s).size ≤ length s → OpenList s 1 (head_of s).value (head_of s).size
list-broken [] l x f = absurd (omega arith)
list-broken (b ∷ s) l x f = record {
  within = f;
  loose = λ _. (refl, ap (λ a. a.value) (loose-value b s (omega arith)));
  trees = broken-list b s (omega arith) (omega arith) x;
}

-- ---------------------------------------------------------------- one more item

pub more-counted : (s : List ℕ) (mode count done : ℕ) → mode ≡ 0 → MoreIs mode (count - done) s (ltb done count)
more-counted s mode count done m d [] r h = let z = h.counted m in sym (le-ltb done count (omega arith))
more-counted s mode count done m d (x ∷ xs) r h = let z = h.counted m in sym (lt-ltb done count (omega arith))

-- where no item ends well, none is read
pub none_read : (d c : ℕ) (s : List ℕ) (xs : List (Node Ends)) (r : List ℕ) → item_end d s ≡ ending.fault c → NodeChain d s xs r → is_any xs ≡ false
none_read d c s [] r e h = refl
none_read d c s (x ∷ xs) r e h =
    let k = ate d s x h.0 h.1 in
    let z : took k.size ≡ ending.fault c = sym k.ends_so ∙ e in
    absurd (let y : ◌≡◌ {A = ℕ} 0 1 = cc in omega arith)

pub more-missing : (s : List ℕ) (mode n : ℕ) → length s ≡ 0 → MoreIs mode n s false
more-missing s mode n e d xs r h = none_read d 6 s xs r (due.never-empty d s e) h.chain

pub more-broken : (s : List ℕ) (mode n : ℕ) → 1 ≤ length s → get_or s 0 0 ≡ 255 → MoreIs mode n s false
more-broken s mode n l e d xs r h = none_read d 6 s xs r (due.never-break d s l e) h.chain

pub more-here : (s : List ℕ) (mode n : ℕ) → 1 ≤ mode → (get_or s 0 0 ≡ 255 → ⊥) → MoreIs mode n s true
more-here s mode n m e d [] r h = absurd (e (ap (λ u. get_or u 0 0) h.chain ∙ h.closed m))
more-here s mode n m e d (x ∷ xs) r h = refl

-- past the next item, which takes k bytes
pub past-node : {d mode n k : ℕ} {s : List ℕ} {x : Node Ends} {xs : List (Node Ends)} {r : List ℕ} → item_end d s ≡ took k → DueNodes d mode n s (x ∷ xs) r → DueNodes d mode (n - 1) (drop k s) xs r
past-node {d} {mode} {n} {k} {s} {x} {xs} {r} e h =
    let c = h.chain in
    record {
      chain = subst (λ u. NodeChain d u xs r) (rest-follows ends d s x c.0 k c.1 e) c.2;
      counted = λ m. let y = h.counted m in omega arith;
      closed = h.closed;
    }
