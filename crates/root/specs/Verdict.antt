-- A root's judgement in pieces, one for each function, and what the whole walk answers.
use Rattle.std.specs.Prelude.{ℕ, suc, List, Bool, cond, ◌≡◌, length, get_or, eqb, Ok, Err, Result}
use Rattle.meaning.specs.Tree.{Node, Pair}
use Rattle.meaning.specs.Check.{Check, pass, refuse, ◌>>=◌, ◌>>◌, required, optional}
use Rattle.meaning.specs.Model.{Model}
use Rattle.meaning.specs.Field.{field, root_fields}
use Rattle.meaning.specs.Kind.{kind, mapping}
use Rattle.meaning.specs.Judge.{attributes_of, a_version, judge}
use Rattle.meaning.specs.Rows.{component_count}
use Rattle.meaning.specs.Layouts.{Layout, slot, objects_at}
use Rattle.walk.specs.Reading.{Ends, Reads, Chain, left_at}
use Rattle.walk.specs.Places.{Whatever}
use Rattle.fields.specs.Slots.{ItemAt, Holds}
use Rattle.objects.specs.Found.{objects_by}
use Rattle.objects.specs.declared.Found.{Found}
use Rattle.root.specs.Walk.{Noted}
use Rattle.root.specs.declared.Judged.{Judged}
use Rattle.numbers.specs.declared.refusal.Refusal.{Refusal}
use Rattle.numbers.specs.declared.fault.FileFault.{FileFault}
use Rattle.numbers.specs.declared.refusal.Refusal.TheVariants as refusals
use Rattle.numbers.specs.Answered.{answered, in_file}

-- keys, repeats, version missing: what the slots say
unfoldable pub known : List ℕ → Result (Unit {0}) Refusal
known p = cond (eqb (get_or p 4 0) 0) (cond (eqb (get_or p 5 0) 0) (cond (eqb (get_or p 0 0) 0) (Err refusals.Missing) (Ok tt)) (Err refusals.Twice)) (Err refusals.Key)

abbrev pub VersionIs : List ℕ → Result (Unit {0}) Refusal → Type 0
VersionIs s r = Whatever s λ d t q. a_version t ≡ answered r

abbrev pub VersionAt : List ℕ → ℕ → Result (Unit {0}) Refusal → Type 0
VersionAt s left r = ItemAt s left λ t. a_version t ≡ answered r

-- attributes, objects missing, and then the objects
abbrev pub counted : ℕ → Result Found FileFault → Result Judged FileFault
counted left (Err f) = Err f
counted left (Ok v) = Ok (record { objects = v.objects; components = v.components; attributes = left })

abbrev pub told : Bool → ℕ → ℕ → Result Found FileFault → Result Judged FileFault
told map left objects found = cond map (cond (eqb objects 0) (Err (record { refusal = refusals.Missing; object = 0; component = 0 })) (counted left found)) (Err (record { refusal = refusals.Kind; object = 0; component = 0 }))

-- ---------------------------------------------------------------- the whole

-- a root with its objects judged, or passed over where only their names are asked for
unfoldable pub judge_by : {P : Type 0} → Bool → Layout → ℕ → Node P → Check (Model P)
judge_by deep L start t = do
  r ← root_fields L.root t
  version ← required r.version
  a_version version
  a ← optional attributes_of r.attributes
  objects ← required r.objects
  os ← objects_by deep L start objects
  pass (record { attributes = a; objects = os })

abbrev pub judged : Check (Model Ends) → Check Judged
judged (pass m) = pass (record { objects = length m.objects; components = component_count m.objects; attributes = left_at m.attributes })
judged (refuse n o c) = refuse n o c

-- for every map of the pairs that are read from s on, where p holds their slots, and `found` what the objects say
abbrev pub VerdictIs : List ℕ → List ℕ → Result Found FileFault → Result Judged FileFault → Type 0
VerdictIs s p found r = (deep : Bool) (L : Layout) (start d : ℕ) (ps : List (Pair Ends)) (q : List ℕ) → Chain (suc d) s ps q → Noted deep L start p found ps
    → (t : Node Ends) → kind t ≡ mapping ps → in_file r ≡ judged (judge_by deep L start t)

abbrev pub WholeIs : Bool → Layout → List ℕ → ℕ → Result Judged FileFault → Type 0
WholeIs deep L s start r = (t : Node Ends) (q : List ℕ) → Reads 32 s t q → in_file r ≡ judged (judge_by deep L start t)

-- all is judged
abbrev pub RootIs : Layout → List ℕ → ℕ → Result Judged FileFault → Type 0
RootIs L s start r = (t : Node Ends) (q : List ℕ) → Reads 32 s t q → in_file r ≡ judged (judge L start t)

-- the place of the objects of whatever map s is read as
abbrev pub ObjectsAt : Layout → List ℕ → ℕ → Type 0
ObjectsAt L s left = (t : Node Ends) (q : List ℕ) → Reads 32 s t q → (ps : List (Pair Ends)) → kind t ≡ mapping ps → Holds 31 s left (field (slot objects_at L.root) ps)
