-- RFC 8949's grammar under document 01, "CBOR carried" (02, Req 09): which bytes encode which tree where d levels are left. The choices are free: the width of each argument,
-- definite or indefinite length, and where an indefinite string is cut. What is read is exactly this (proofs/Exact).
use Rattle.std.specs.Prelude.{ℕ, zero, suc, ◌+◌, ◌*◌, ◌/◌, ◌%◌, ◌^◌, ◌<◌, ◌≤◌, List, [], ◌∷◌, ◌++◌, true, ◌≡◌, length}
use Rattle.std.proofs.Math.Pow.{are_bytes}
use Rattle.meaning.specs.Tree as tree
use Rattle.meaning.specs.Tree.{Node, Nodes, Pairs, ε, ◌▸◌, ∅, ◌⇒◌▸◌, node_list, pair_list}

-- every number is below 256
abbrev pub Bytes : List ℕ → Type 0
Bytes s = are_bytes s ≡ true

-- w bytes of a number, the most significant first
unfoldable pub big : ℕ → ℕ → List ℕ
big zero n = []
big (suc w) n = n / 256 ^ w ∷ big w (n % 256 ^ w)

-- the low five bits of a head whose argument n has width w
pub data Low : ℕ → ℕ → ℕ → Type 0 where
  inside : {n : ℕ} → n < 24 → Low 0 n n
  one : {n : ℕ} → n < 256 ^ 1 → Low 1 n 24
  two : {n : ℕ} → n < 256 ^ 2 → Low 2 n 25
  four : {n : ℕ} → n < 256 ^ 4 → Low 4 n 26
  eight : {n : ℕ} → n < 256 ^ 8 → Low 8 n 27

-- a head of major type m
pub data Head (m : ℕ) : ℕ → ℕ → List ℕ → Type 0 where
  head : {w n l : ℕ} → Low w n l → Head m w n ((m * 32 + l) ∷ big w n)

-- definite strings of major type m, one after the other: the bytes that they hold together
pub data Chunks (m : ℕ) : List ℕ → List ℕ → Type 0 where
  done : Chunks m [] []
  chunk : {w : ℕ} (b : List ℕ) {bs hs cs : List ℕ} → Head m w (length b) hs → Chunks m bs cs → Chunks m (b ++ bs) (hs ++ b ++ cs)

abbrev pub Tree : Type 0
Tree = Node (Unit {0})

mutual
  pub data Encodes : ℕ → Tree → List ℕ → Type 0 where
    uint : {d w n : ℕ} {hs : List ℕ} → Head 0 w n hs → Encodes (suc d) (tree.uint tt n) hs
    nint : {d w n : ℕ} {hs : List ℕ} → Head 1 w n hs → Encodes (suc d) (tree.nint tt n) hs
    bytes : {d w : ℕ} {b hs : List ℕ} → Head 2 w (length b) hs → Encodes (suc d) (tree.bytes tt b) (hs ++ b)
    text : {d w : ℕ} {b hs : List ℕ} → Head 3 w (length b) hs → Encodes (suc d) (tree.text tt b) (hs ++ b)
    chunked_bytes : {d : ℕ} {b cs : List ℕ} → Chunks 2 b cs → Encodes (suc d) (tree.chunked_bytes tt b) (0x5f ∷ cs ++ 0xff ∷ [])
    chunked_text : {d : ℕ} {b cs : List ℕ} → Chunks 3 b cs → Encodes (suc d) (tree.chunked_text tt b) (0x7f ∷ cs ++ 0xff ∷ [])
    array : {d w : ℕ} {ns : Nodes (Unit {0})} {hs bs : List ℕ} → Head 4 w (length (node_list ns)) hs → Elements d ns bs → Encodes (suc d) (tree.array tt ns) (hs ++ bs)
    open_array : {d : ℕ} {ns : Nodes (Unit {0})} {bs : List ℕ} → Elements d ns bs → Encodes (suc d) (tree.array tt ns) (0x9f ∷ bs ++ 0xff ∷ [])
    dict : {d w : ℕ} {ps : Pairs (Unit {0})} {hs bs : List ℕ} → Head 5 w (length (pair_list ps)) hs → Entries d ps bs → Encodes (suc d) (tree.dict tt ps) (hs ++ bs)
    open_dict : {d : ℕ} {ps : Pairs (Unit {0})} {bs : List ℕ} → Entries d ps bs → Encodes (suc d) (tree.dict tt ps) (0xbf ∷ bs ++ 0xff ∷ [])
    tag : {d w n : ℕ} {t : Tree} {hs bs : List ℕ} → Head 6 w n hs → Encodes d t bs → Encodes (suc d) (tree.tag tt n t) (hs ++ bs)
    -- in a second byte, from 32 on
    simple : {d w n : ℕ} {hs : List ℕ} → Head 7 w n hs → w ≤ 1 → (w ≡ 1 → 32 ≤ n) → Encodes (suc d) (tree.simple tt n) hs
    float : {d w n : ℕ} {hs : List ℕ} → Head 7 w n hs → 2 ≤ w → Encodes (suc d) (tree.float tt w n) hs

  pub data Elements : ℕ → Nodes (Unit {0}) → List ℕ → Type 0 where
    end : {d : ℕ} → Elements d ε []
    next : {d : ℕ} {t : Tree} {ns : Nodes (Unit {0})} {bs cs : List ℕ} → Encodes d t bs → Elements d ns cs → Elements d (◌▸◌ t ns) (bs ++ cs)

  pub data Entries : ℕ → Pairs (Unit {0}) → List ℕ → Type 0 where
    end_pairs : {d : ℕ} → Entries d ∅ []
    next_pair : {d : ℕ} {k v : Tree} {ps : Pairs (Unit {0})} {ks vs cs : List ℕ} → Encodes d k ks → Encodes d v vs → Entries d ps cs → Entries d (◌⇒◌▸◌ k v ps) (ks ++ vs ++ cs)
