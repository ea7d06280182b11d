-- Document 01's order up to and with the objects' names, with the places that request 08 asks for; and what is answered about a root.
use Rattle.std.specs.Prelude.{ℕ, ◌<◌, List, map, ◌≡◌, length, get_or}
use Rattle.std.proofs.Math.Option.{some}
use Rattle.meaning.specs.Tree.{Node, Pair, note_of}
use Rattle.meaning.specs.Check.{pass}
use Rattle.meaning.specs.Limit.{object_limit}
use Rattle.meaning.specs.Model.{Named}
use Rattle.meaning.specs.Kind.{kind, mapping, a_mapping}
use Rattle.meaning.specs.Layouts.{Layout, slot}
use Rattle.meaning.specs.Field.{field, names}
use Rattle.walk.specs.Reading.{Ends, Reads}
use Rattle.walk.specs.Places.{Whatever}
use Rattle.fields.specs.Slots.{Holds}
use Rattle.explained.specs.Fields.{root, version_of, attributes_on, objects_field}
use Rattle.explained.specs.Step.{Step, ◌>>=◌, ◌>>◌, first, in_object, given, each_of}
use Rattle.explained.specs.Order.{mapping_steps, version_steps, field_steps, missing, name_steps, object_steps, manifest_steps}
use Rattle.spot.specs.Shown.{shown}
use Rattle.spot.specs.Shown.{Spot}
use Rattle.badnames.specs.Keys.{Tells}

module _ {P : Type 0} (L : Layout) where
  -- attributes, objects and their names, of a root t with these pairs
  unfoldable pub later_steps : Node P → List (Pair P) → List (Step P)
  later_steps t ps = do
    field (attributes_on L root) ps >>= mapping_steps
    missing t (field (objects_field L) ps)
    objects ← field (objects_field L) ps
    name_steps object_limit objects

  -- the version, and then these
  unfoldable pub value_steps : Node P → List (Pair P) → List (Step P)
  value_steps t ps = do
    missing t (field (version_of L) ps)
    version ← field (version_of L) ps
    version_steps version
    later_steps t ps

  unfoldable pub opening_steps : Node P → List (Step P)
  opening_steps t = do
    field_steps L.root t
    ps ← given (a_mapping t)
    value_steps t ps

  -- the checks of each object in turn
  unfoldable pub each_object : ℕ → List (Named P) → List (Step P)
  each_object start = each_of (λ i n. map (in_object i (some n.name)) (object_steps L start n)) 0

module _ {P : Type 0} (L : Layout) (start : ℕ) (t : Node P) where
  -- the objects that are gone on to
  pub record Opened : Type 0 where
    pub pairs : List (Pair P)
    pub objects : Node P
    pub named : List (Named P)
    pub kind-is : kind t ≡ mapping pairs
    pub found : field (objects_field L) pairs ≡ some objects
    pub names-are : names object_limit objects ≡ pass named
    pub rest : first (manifest_steps L start t) ≡ first (each_object L start named)

-- ---------------------------------------------------------------- what is answered

abbrev pub VersionIs : List ℕ → Spot → Type 0
VersionIs s r = Whatever s λ d t q. r ≡ shown (first (version_steps t))

-- the places p are those of the fields of the pairs ps, which are read from s on
abbrev pub Stood : Layout → List ℕ → List ℕ → List (Pair Ends) → Type 0
Stood L s p ps = (i : ℕ) → i < 3 → Holds 31 s (get_or p i 0) (field (slot i L.root) ps)

-- of a root with `whole` bytes left
abbrev pub Answers : (Layout → Node Ends → List (Pair Ends) → List (Step Ends)) → List ℕ → List ℕ → ℕ → ℕ → Spot → Type 0
Answers f s p whole n r = (L : Layout) (t : Node Ends) (ps : List (Pair Ends)) → length (note_of t).start ≡ whole → Stood L s p ps → Tells n (first (f L t ps)) r

abbrev pub LaterIs : List ℕ → List ℕ → ℕ → ℕ → Spot → Type 0
LaterIs = Answers (λ L. later_steps L)

abbrev pub ValuesIs : List ℕ → List ℕ → ℕ → ℕ → Spot → Type 0
ValuesIs = Answers (λ L. value_steps L)

-- of whatever root is read at s
abbrev pub RootIs : Layout → List ℕ → ℕ → Spot → Type 0
RootIs L s n r = (t : Node Ends) (q : List ℕ) → Reads 32 s t q → Tells n (first (opening_steps L t)) r

-- the place of the objects of whatever map s is read as
abbrev pub ObjectsAt : Layout → List ℕ → ℕ → Type 0
ObjectsAt L s left = (t : Node Ends) (q : List ℕ) → Reads 32 s t q → (ps : List (Pair Ends)) → kind t ≡ mapping ps → Holds 31 s left (field (objects_field L) ps)
