-- What the acceptance check says of a file, with no word of how it is read: the frame, RFC 8949's grammar, and document 01's judgement of the tree.
use Rattle.std.specs.Prelude.{ℕ, List, ◌⊎◌, ◌↔◌, ◌≡◌, take, drop}
use Rattle.meaning.specs.Check.{pass}
use Rattle.meaning.specs.Refusal.{CBOR, DEEP}
use Rattle.meaning.specs.Limit.{depth_limit}
use Rattle.meaning.specs.Encoding.{Tree, Encodes}
use Rattle.meaning.specs.Model.{Model}
use Rattle.meaning.specs.Layouts.{Layout}
use Rattle.meaning.specs.Judge.{judge}
use Rattle.meaning.specs.Frame.{Frame, frame, reading}
use Rattle.reader.specs.Verdict.{verdict}

module _ (file : List ℕ) where
  -- the manifest's bytes
  abbrev pub manifest_in : Frame → List ℕ
  manifest_in f = take f.size (drop f.start file)

  abbrev pub NoTree : Frame → Type 0
  NoTree f = (t : Tree) → Encodes depth_limit t (manifest_in f) → ⊥

module _ (L : Layout) (file : List ℕ) where
  -- the number that the acceptance check answers
  abbrev pub number : ℕ
  number = (verdict (reading L file)).number

  -- there is a frame, a tree that the manifest encodes where the root is at depth 1 of 32, and a model that the judgement passes
  pub record Sound : Type 0 where
    pub framing : Frame
    pub framed : frame L file ≡ pass framing
    pub tree : Tree
    pub encodes : Encodes depth_limit tree (manifest_in file framing)
    pub model : Model (Unit {0})
    pub judged : judge L framing.start tree ≡ pass model

  pub record Exactly : Type 0 where
    -- accepted: these files and no others
    pub accepted : (number ≡ 0) ↔ Sound
    -- past the frame CBOR or DEEP: those that encode no tree and no others
    pub malformed : (f : Frame) → frame L file ≡ pass f → ((number ≡ CBOR) ⊎ (number ≡ DEEP)) ↔ NoTree file f
