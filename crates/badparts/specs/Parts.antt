-- The checks of an object's components and of its format's rules, and what is answered of them.
use Rattle.std.specs.Prelude.{ℕ, ◌≤◌, ◌<◌, List, map, Bool, ◌≡◌, length}
use Rattle.std.proofs.Math.Option.{Option, none, some}
use Rattle.meaning.specs.Tree.{Node, note_of}
use Rattle.meaning.specs.Check.{pass}
use Rattle.meaning.specs.Limit.{component_limit}
use Rattle.meaning.specs.Model.{Word, Named, Component}
use Rattle.meaning.specs.Layouts.{Layout, layout_of}
use Rattle.meaning.specs.Field.{names}
use Rattle.meaning.specs.Judge.{inherited, part, components_of}
use Rattle.walk.specs.Reading.{Ends, Reads}
use Rattle.fields.specs.Slots.{Stands}
use Rattle.component.specs.Value as value
use Rattle.object.specs.Place.{format_code}
use Rattle.explained.specs.Step.{Step, first, ◌>>=◌, ◌>>◌, given}
use Rattle.explained.specs.Order.{all_of, component_steps, components_steps, format_steps, length_note}
use Rattle.explained.specs.Breaks.{At}
use Rattle.spot.specs.Shown.{spot, shown}
use Rattle.spot.specs.Shown.{Spot}
use Rattle.badrules.specs.Blame.{blames}
use Rattle.spot.specs.Shown.{told}
use Rattle.badparts.specs.declared.Owned as code

-- a spot, and the bytes left at the name of the component that it belongs to, 0 for none
pub record Owned : Type 0 where
  pub spot : Spot
  pub key : ℕ

abbrev pub owned : Spot → ℕ → Owned
owned z k = record { spot = z; key = k }

-- what an answer of the code tells
abbrev pub owning : code.Owned → Owned
owning r = owned (told r.spot) r.key

-- what is told of a check that breaks: its spot, and the bytes left at the name of its component
unfoldable pub owned_by : Step Ends → Owned
owned_by s = owned (spot s.number (length s.place.start)) (value.left_word s.component_name)

-- the rules of an object's format, over components that pass
unfoldable pub rule_steps : Layout → Node Ends → Node Ends → List ℕ → Word Ends → List (Component Ends) → List (Step Ends)
rule_steps L shape components s f cs = format_steps L (note_of shape) (note_of components) s (all_of (names component_limit components)) (map part cs) f.letters

-- components, then rules
unfoldable pub part_steps : Layout → ℕ → Node Ends → Node Ends → Option ℕ → List ℕ → Word Ends → List (Step Ends)
part_steps L start shape components d s f = do
  components_steps L start (inherited f.letters d) components
  cs ← given (components_of L start (inherited f.letters d) components)
  rule_steps L shape components s f cs

-- ---------------------------------------------------------------- what is answered

-- of component c of whatever map of names is read at s
abbrev pub ComponentAt : List ℕ → ℕ → (Named Ends → Type 0) → Type 0
ComponentAt s c P = (t : Node Ends) (q : List ℕ) → Reads 29 s t q → (ns : List (Named Ends)) → names component_limit t ≡ pass ns → (n : Named Ends) → At c n 0 ns → P n

abbrev pub key_of : Named Ends → ℕ
key_of n = length n.name.note.start

abbrev pub InsideIs : ℕ → ℕ → List ℕ → ℕ → ℕ → Owned → Type 0
InsideIs layout code s start c r = ComponentAt s c λ n. r ≡ owned (shown (first (component_steps (layout_of layout) start (value.given code) n))) (key_of n)

abbrev pub ValueIs : List ℕ → ℕ → Owned → Type 0
ValueIs s c r = ComponentAt s c λ n. r ≡ owned (spot 22 (length (note_of n.value).start)) (key_of n)

abbrev pub LengthIs : ℕ → List ℕ → ℕ → Owned → Type 0
LengthIs layout s c r = ComponentAt s c λ n. r ≡ owned (spot 23 (length (length_note (layout_of layout) n).start)) (key_of n)

-- an object has a dtype in layout 1.0, and nowhere else; 13 or more is none
pub record Fits (layout code : ℕ) : Type 0 where
  pub tensor : layout ≡ 1 → code < 13
  pub plain : (layout ≡ 1 → ⊥) → value.given code ≡ none

-- the components t that are read at s pass, in an object of this format
pub record Passing (layout format code : ℕ) (s : List ℕ) (start : ℕ) (t : Node Ends) (f : Word Ends) (cs : List (Component Ends)) : Type 0 where
  pub rest : List ℕ
  pub reads : Reads 29 s t rest
  pub format-is : format ≡ format_code f
  pub fits : Fits layout code
  pub pass-so : components_of (layout_of layout) start (inherited f.letters (value.given code)) t ≡ pass cs

abbrev pub BlameIs : ℕ → ℕ → ℕ → List ℕ → ℕ → Bool → Type 0
BlameIs layout format code s start r = (t : Node Ends) (f : Word Ends) (cs : List (Component Ends)) → Passing layout format code s start t f cs → r ≡ blames format (map part cs)

-- a rule that breaks, with this number and component
pub record Rule (layout : ℕ) (shape t : Node Ends) (dims : List ℕ) (f : Word Ends) (cs : List (Component Ends)) (n c : ℕ) (x : Step Ends) : Type 0 where
  pub breaks : first (rule_steps (layout_of layout) shape t dims f cs) ≡ some x
  pub number : x.number ≡ n
  pub component : x.component ≡ c

abbrev pub RoleIs : ℕ → ℕ → ℕ → List ℕ → ℕ → ℕ → Owned → Type 0
RoleIs layout format code s start c r =
    (t : Node Ends) (f : Word Ends) (cs : List (Component Ends)) → Passing layout format code s start t f cs
    → (shape : Node Ends) (dims : List ℕ) (x : Step Ends) → Rule layout shape t dims f cs 22 c x → r ≡ owned_by x

abbrev pub RuledIs : ℕ → ℕ → ℕ → List ℕ → ℕ → ℕ → ℕ → ℕ → Owned → Type 0
RuledIs layout format code s start a n c r =
    (t : Node Ends) (f : Word Ends) (cs : List (Component Ends)) → Passing layout format code s start t f cs
    → (shape : Node Ends) → a ≡ length (note_of shape).start → (dims : List ℕ) (x : Step Ends) → 21 ≤ n → Rule layout shape t dims f cs n c x → r ≡ owned_by x

-- of the components that stand where b bytes of s are left, in an object of this format, code and shape
abbrev pub WithinIs : ℕ → ℕ → ℕ → List ℕ → ℕ → ℕ → ℕ → ℕ → ℕ → Owned → Type 0
WithinIs layout format code s start a b n c r =
    (shape t : Node Ends) (f : Word Ends) (dims : List ℕ) → a ≡ length (note_of shape).start → Stands 29 s b t → format ≡ format_code f → Fits layout code
    → (x : Step Ends) → first (part_steps (layout_of layout) start shape t (value.given code) dims f) ≡ some x → x.number ≡ n → x.component ≡ c → r ≡ owned_by x
