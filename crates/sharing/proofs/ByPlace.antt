-- The calls' laws in the code's terms: by the place x that `standing` answered, of the shared numbers or of all of them lent on.
use Prim.Native.Nat.{ℕ, ◌+◌, ◌-◌, ◌*◌, ◌≤◌, ◌<◌}
use native.Mathlib.Omega.{arith}
use mathlib.Core.List.{List, [], ◌∷◌}
use mathlib.Core.Path.{◌≡◌, refl, sym, ◌∙◌}
use lib.ListN.{length, take, drop, replicate}
use lib.Seq.{sets}
use mir.Syntax.{w64}
use mir.Val.{Fits}
use Rattle.meaning.specs.Check.{Check}
use Rattle.meaning.specs.Columns.{object_width, component_width}
use Rattle.meaning.specs.Layouts.{layout_of}
use Rattle.meaning.specs.Rows.{read_into}
use Rattle.meaning.specs.View.{viewed}
use Rattle.view.specs.Extents as views
use Rattle.view.specs.declared.Extent.{Extent}
use Rattle.panel.specs.Lines as lines
use Rattle.panel.specs.ListedText as panels
use Rattle.panel.specs.declared.Listed.{Listed}
use Rattle.reader.specs.Answer as read
use Rattle.reader.specs.declared.into.Answer.{Answer}
use Rattle.engines.specs.Calls.{load, drops, holds, view, list, Said, answered, leaves}
use Rattle.states.specs.Places.{standing}
use Rattle.states.specs.declared.Place.{Place}
use Rattle.states.specs.declared.Place.TheVariants.{Nowhere, Idle, Loaded}
use Rattle.sharing.specs.declared.Held.{Held}
use Rattle.sharing.specs.EngineAnswers.{answer, number, held_with, held, extent, listed, text_after, laid, state_with}
use Rattle.sharing.proofs.Drops as drops
use Rattle.sharing.proofs.Looked as looked
use Rattle.sharing.proofs.Loads as loads

-- ---------------------------------------------------------------- calls that look

module _ (engine : ℕ) (l : List ℕ) (x : Place) (told : x ≡ standing 65536 engine l) where
  stood : (y : Place) → x ≡ y → standing 65536 engine l ≡ y
  stood y e = sym told ∙ e

  module _ (p q o c : ℕ) (is : x ≡ Loaded p q o c) where
    at : standing 65536 engine l ≡ Loaded p q o c
    at = stood (Loaded p q o c) is

    pub rows_fit : Fits w64 (p + q)
    rows_fit = record { fits = omega (arith, drops.rows-low 65536 engine l p q o c at) }

    pub place-fits : Fits w64 (p * 8)
    place-fits = record { fits = omega (arith, drops.rows-low 65536 engine l p q o c at) }

    pub rows_inside : p + q ≤ length l
    rows_inside = drops.rows_inside 65536 engine l p q o c at

    pub known : engine ≤ 1
    known = drops.loaded-small 65536 engine l p q o c at

    module _ (r : ℕ) (e : r ≡ 65536 + 8 * engine) where
      pub state-fits : Fits w64 (r + 8)
      state-fits = record { fits = omega (arith, known, e) }

      pub state-place-fits : Fits w64 (r * 8)
      state-place-fits = record { fits = omega (arith, known, e) }

      pub state-inside : r + 8 ≤ length l
      state-inside = drops.state-fits 65536 engine l p q o c at r e

      pub loaded-held : (h : Held) → h ≡ held_with 0 (p ∷ take 6 (drop 1 (take (r + 8 - r) (drop r l)))) → h ≡ held (answered 65536 engine holds l)
      loaded-held h says = says ∙ looked.loaded-holds 65536 engine l p q o c at r e

  module _ (file : List ℕ) (index : ℕ) where
    pub nowhere-viewed : x ≡ Nowhere → ◌≡◌ {A = Extent} (record { number = 26; offset = 0; length = 0 }) (extent (answered 65536 engine (view file index) l))
    nowhere-viewed e = looked.nowhere-view 65536 engine l file index (stood Nowhere e)

    pub idle-viewed : (free : ℕ) → x ≡ Idle free → ◌≡◌ {A = Extent} (record { number = 26; offset = 0; length = 0 }) (extent (answered 65536 engine (view file index) l))
    idle-viewed free e = looked.idle-view 65536 engine l file index free (stood (Idle free) e)

    pub loaded-viewed : (p q o c : ℕ) → x ≡ Loaded p q o c → (r : Extent) → r ≡ views.told (viewed file (take (p + q - p) (drop p l)) o c index)
        → r ≡ extent (answered 65536 engine (view file index) l)
    loaded-viewed p q o c e r says = says ∙ looked.loaded-view 65536 engine l file index p q o c (stood (Loaded p q o c) e)

  module _ (file text : List ℕ) where
    abbrev lists : Check Said
    lists = answered 65536 engine (list file (length text)) l

    pub nowhere-listed : x ≡ Nowhere → ◌≡◌ {A = Listed} (record { number = 26; length = 0 }) (listed lists)
    nowhere-listed e = (looked.nowhere-list 65536 engine l file text (stood Nowhere e)).0

    pub nowhere-text : x ≡ Nowhere → text ≡ text_after lists text
    nowhere-text e = (looked.nowhere-list 65536 engine l file text (stood Nowhere e)).1

    pub idle-listed : (free : ℕ) → x ≡ Idle free → ◌≡◌ {A = Listed} (record { number = 26; length = 0 }) (listed lists)
    idle-listed free e = (looked.idle-list 65536 engine l file text free (stood (Idle free) e)).0

    pub idle-text : (free : ℕ) → x ≡ Idle free → text ≡ text_after lists text
    idle-text free e = (looked.idle-list 65536 engine l file text free (stood (Idle free) e)).1

    module _ (p q o c : ℕ) (is : x ≡ Loaded p q o c) where
      abbrev shows : Check (List ℕ)
      shows = lines.listed file (take (p + q - p) (drop p l)) o c

      pub loaded-listed : (r : Listed) → r ≡ panels.told shows (length text) → r ≡ listed lists
      loaded-listed r says = (looked.loaded-list 65536 engine l file text p q o c (stood (Loaded p q o c) is) r (panels.text_after shows text) says refl).0

      pub loaded-text : (after : List ℕ) → after ≡ panels.text_after shows text → after ≡ text_after lists text
      loaded-text after put = (looked.loaded-list 65536 engine l file text p q o c (stood (Loaded p q o c) is) (panels.told shows (length text)) after refl put).1

  pub nowhere-held : x ≡ Nowhere → (h : Held) → h ≡ held_with 26 [] → h ≡ held (answered 65536 engine holds l)
  nowhere-held e h says = says ∙ looked.nowhere-holds 65536 engine l (stood Nowhere e)

  pub idle-held : (free : ℕ) → x ≡ Idle free → (h : Held) → h ≡ held_with 0 [] → h ≡ held (answered 65536 engine holds l)
  idle-held free e h says = says ∙ looked.idle-holds 65536 engine l free (stood (Idle free) e)

-- ---------------------------------------------------------------- calls that write

module _ (engine : ℕ) (l : List ℕ) (x : Place) (told : x ≡ standing 65536 engine (take (length l - 0) (drop 0 l))) where
  stands : (y : Place) → x ≡ y → standing 65536 engine l ≡ y
  stands y e = looked.asked 65536 engine l x y told e

  pub nowhere-dropped : x ≡ Nowhere → 26 ≡ number (answered 65536 engine drops l)
  nowhere-dropped e = (drops.nowhere-drops 65536 engine l (stands Nowhere e)).0

  pub nowhere-left : x ≡ Nowhere → l ≡ leaves 65536 engine drops l
  nowhere-left e = (drops.nowhere-drops 65536 engine l (stands Nowhere e)).1

  pub idle-dropped : (free : ℕ) → x ≡ Idle free → 0 ≡ number (answered 65536 engine drops l)
  idle-dropped free e = (drops.idle-drops 65536 engine l free (stands (Idle free) e)).0

  pub idle-left : (free : ℕ) → x ≡ Idle free → l ≡ leaves 65536 engine drops l
  idle-left free e = (drops.idle-drops 65536 engine l free (stands (Idle free) e)).1

  module _ (p q o c : ℕ) (is : x ≡ Loaded p q o c) where
    loaded : standing 65536 engine l ≡ Loaded p q o c
    loaded = stands (Loaded p q o c) is

    pub to_clear : p + q ≤ length l
    to_clear = drops.rows_inside 65536 engine l p q o c loaded

    pub engine-known : engine ≤ 1
    engine-known = drops.loaded-small 65536 engine l p q o c loaded

    module _ (y : List ℕ) (cleared : y ≡ sets l p (replicate q 0)) (r : ℕ) (e : r ≡ 65536 + 8 * engine) where
      pub state-to-clear : r + 8 ≤ length y
      state-to-clear = drops.state-inside 65536 engine l p q o c loaded y cleared r e

      pub loaded-left : (z : List ℕ) → z ≡ sets y r (replicate 8 0) → z ≡ leaves 65536 engine drops l
      loaded-left z also = (drops.loaded-drops 65536 engine l p q o c loaded y cleared r e z also).1

    pub loaded-dropped : 0 ≡ number (answered 65536 engine drops l)
    loaded-dropped =
        (drops.loaded-drops 65536 engine l p q o c loaded (sets l p (replicate q 0)) refl (65536 + 8 * engine) refl
        (sets (sets l p (replicate q 0)) (65536 + 8 * engine) (replicate 8 0)) refl).0

  module _ (layout : ℕ) (file : List ℕ) where
    abbrev loads-as : Check Said
    loads-as = answered 65536 engine (load layout file) l

    abbrev then-holds : List ℕ
    then-holds = leaves 65536 engine (load layout file) l

    pub nowhere-loaded : x ≡ Nowhere → (a : Answer) → a ≡ read.refused 26 0 0 → a ≡ answer loads-as
    nowhere-loaded e a says = (loads.nowhere-loads 65536 engine layout file l (stands Nowhere e) a says).0

    pub nowhere-kept : x ≡ Nowhere → l ≡ then-holds
    nowhere-kept e = (loads.nowhere-loads 65536 engine layout file l (stands Nowhere e) (read.refused 26 0 0) refl).1

    pub busy-loaded : (p q o c : ℕ) → x ≡ Loaded p q o c → (a : Answer) → a ≡ read.refused 28 0 0 → a ≡ answer loads-as
    busy-loaded p q o c e a says = (loads.busy-loads 65536 engine layout file l p q o c (stands (Loaded p q o c) e) a says).0

    pub busy-kept : (p q o c : ℕ) → x ≡ Loaded p q o c → l ≡ then-holds
    busy-kept p q o c e = (loads.busy-loads 65536 engine layout file l p q o c (stands (Loaded p q o c) e) (read.refused 28 0 0) refl).1

    module _ (free : ℕ) (is : x ≡ Idle free) (a : Answer) (says : a ≡ read.answered (read_into (layout_of layout) file free)) where
      idle : standing 65536 engine l ≡ Idle free
      idle = stands (Idle free) is

      pub idle-loaded : a ≡ answer loads-as
      idle-loaded = says ∙ sym (loads.answer-found 65536 engine layout file l free idle)

      pub few-rows : a.number ≤ 0 → object_width * a.objects + component_width * a.components ≤ 65536
      few-rows fine = (loads.settle-asks 65536 engine layout file l free idle a (laid 65536 engine l (read_into (layout_of layout) file free)) (says, refl) fine).1.0

      module _ (y : List ℕ) (lies : y ≡ laid 65536 engine l (read_into (layout_of layout) file free)) where
        pub refused-kept : 0 < a.number → y ≡ then-holds
        refused-kept told-why = (loads.refused-loads 65536 engine layout file l free idle a y (says, lies) told-why).1

        module _ (fine : a.number ≤ 0) where
          pub still-whole : length y ≡ 65552
          still-whole = (loads.settle-asks 65536 engine layout file l free idle a y (says, lies) fine).1.1

          pub accepted-kept : (z : List ℕ) → z ≡ sets y (65536 + 8 * engine) (state_with layout a.objects a.components a.start a.place a.size) → z ≡ then-holds
          accepted-kept z settled = (loads.accepted-loads 65536 engine layout file l free idle a y (says, lies) fine z settled).1

  -- what laying the rows asks
  module _ (free : ℕ) (is : x ≡ Idle free) where
    pub free-fits : free ≤ 65536
    free-fits = (loads.lay-asks 65536 engine 0 [] l free (stands (Idle free) is)).0

    pub all-lent : length l ≡ 65552
    all-lent = (loads.lay-asks 65536 engine 0 [] l free (stands (Idle free) is)).1

    pub idle-known : engine ≤ 1
    idle-known = loads.idle-small 65536 engine 0 [] l free (stands (Idle free) is)
