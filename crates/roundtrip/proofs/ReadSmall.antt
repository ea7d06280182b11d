-- What is read from bytes has unsigned integers below 2 ^ 64.
use Prim.Native.Nat.{ℕ, zero, suc}
use native.Mathlib.Omega.{arith}
use mathlib.Core.List.{List, [], ◌∷◌}
use mathlib.Core.Path.{◌≡◌, refl, ap, ◌∙◌, subst}
use Rattle.meaning.specs.Limit.{depth_limit}
use Rattle.meaning.specs.Tree as tree
use Rattle.meaning.specs.Tree.{Node, Nodes, Pairs, ε, ◌▸◌, ∅, ◌⇒◌▸◌, map_p, map_nodes, map_pairs, nothing, meaning}
use Rattle.meaning.specs.Read.{Outcome, got, refused, after, closed, item, manifest, no_note}
use Rattle.meaning.specs.Encoding as enc
use Rattle.meaning.specs.Encoding.{Bytes, Low, Head, head, Encodes, Elements, Entries}
use Rattle.meaning.proofs.ReadNatural.{map_out, item-follows}
use Rattle.meaning.proofs.ExactOnly.{Encoded, whatever-is-read-is-encoded}
use Rattle.readback.specs.Fine.{Fits}
use Rattle.roundtrip.specs.Small.{Small, SmallNodes, SmallPairs}

-- ---- encodings

low_small : {w n l : ℕ} → Low w n l → Fits n
low_small (enc.inside h) = omega (arith, h)
low_small (enc.one h) = omega (arith, h)
low_small (enc.two h) = omega (arith, h)
low_small (enc.four h) = omega (arith, h)
low_small (enc.eight h) = h

head_small : {m w n : ℕ} {hs : List ℕ} → Head m w n hs → Fits n
head_small (head low) = low_small low

module _ (d : ℕ) (every : (t : enc.Tree) (bs : List ℕ) → Encodes d t bs → Small t) where
  elements-small : {ns : Nodes (Unit {0})} {bs : List ℕ} → Elements d ns bs → SmallNodes ns
  elements-small enc.end = tt
  elements-small (enc.next {t} {ns} {bs} {cs} e es) = (every t bs e, elements-small es)

  entries-small : {ps : Pairs (Unit {0})} {bs : List ℕ} → Entries d ps bs → SmallPairs ps
  entries-small enc.end_pairs = tt
  entries-small (enc.next_pair {k} {v} {ps} {ks} {vs} {cs} ek ev es) = (every v vs ev, entries-small es)

  level-small : {t : enc.Tree} {bs : List ℕ} → Encodes (suc d) t bs → Small t
  level-small (enc.uint h) = head_small h
  level-small (enc.nint h) = tt
  level-small (enc.bytes h) = tt
  level-small (enc.text h) = tt
  level-small (enc.chunked_bytes c) = tt
  level-small (enc.chunked_text c) = tt
  level-small (enc.array h e) = elements-small e
  level-small (enc.open_array e) = elements-small e
  level-small (enc.dict h e) = entries-small e
  level-small (enc.open_dict e) = entries-small e
  level-small (enc.tag h e) = tt
  level-small (enc.simple h l k) = tt
  level-small (enc.float h l) = tt

encodes-small : (d : ℕ) (t : enc.Tree) (bs : List ℕ) → Encodes d t bs → Small t
encodes-small zero t bs e = elim e [ ]
encodes-small (suc d) t bs e = level-small d (encodes-small d) e

-- ---- annotations don't count

module _ {P Q : Type 0} (f : P → Q) where
  mutual
    small-noted : (t : Node P) → Small (map_p f t) → Small t
    small-noted (tree.uint p n) h = h
    small-noted (tree.nint p n) h = tt
    small-noted (tree.bytes p bs) h = tt
    small-noted (tree.text p bs) h = tt
    small-noted (tree.chunked_bytes p bs) h = tt
    small-noted (tree.chunked_text p bs) h = tt
    small-noted (tree.array p ns) h = nodes-noted ns h
    small-noted (tree.dict p ps) h = pairs-noted ps h
    small-noted (tree.tag p n t) h = tt
    small-noted (tree.simple p n) h = tt
    small-noted (tree.float p w b) h = tt

    nodes-noted : (ns : Nodes P) → SmallNodes (map_nodes f ns) → SmallNodes ns
    nodes-noted ε h = tt
    nodes-noted (◌▸◌ n ns) h = (small-noted n h.0, nodes-noted ns h.1)

    pairs-noted : (ps : Pairs P) → SmallPairs (map_pairs f ps) → SmallPairs ps
    pairs-noted ∅ h = tt
    pairs-noted (◌⇒◌▸◌ k v ps) h = (small-noted v h.0, pairs-noted ps h.1)

-- ---- a manifest

module _ {P : Type 0} (note : List ℕ → List ℕ → P) where
  bare-got : (d : ℕ) (s : List ℕ) (t : Node P) (r : List ℕ) → item note d s ≡ got t r → item no_note d s ≡ got (meaning t) r
  unfolding no_note
  bare-got d s t r e = item-follows nothing note d s ∙ ap (map_out (map_p nothing)) e

  item-small : (d : ℕ) (s : List ℕ) (t : Node P) (r : List ℕ) → Bytes s → item note d s ≡ got t r → Small t
  item-small d s t r h e =
      let k : Encoded d (meaning t) s r = whatever-is-read-is-encoded d s (meaning t) r h (bare-got d s t r e) in
      small-noted nothing t (encodes-small d (meaning t) k.eaten k.encodes)

  pub manifest-small : (s : List ℕ) (t : Node P) (r : List ℕ) → Bytes s → manifest note s ≡ got t r → Small t
  unfolding manifest closed
  manifest-small s t r h = go (item note depth_limit s) refl
    where
      same-got : {x y : Node P} {a b : List ℕ} → got x a ≡ got y b → x ≡ y
      same-got e = cc

      never : {n : ℕ} {y : Node P} {a b : List ℕ} → refused n a ≡ got y b → ⊥
      never e = let z : ◌≡◌ {A = ℕ} 0 1 = cc in omega arith

      close : (u : Node P) (q : List ℕ) → closed u q ≡ got t r → u ≡ t
      close u [] e = same-got e
      close u (b ∷ q) e = absurd (never e)

      go : (o : Outcome (Node P)) → item note depth_limit s ≡ o → after o closed ≡ got t r → Small t
      go (got u q) i e = subst Small (close u q e) (item-small depth_limit s u q h i)
      go (refused n q) i e = absurd (never e)
