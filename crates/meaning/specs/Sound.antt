-- Document 01, "The writer": which rows are sound. All others are ROW.
use Rattle.std.specs.Prelude.{ℕ, suc, ◌+◌, ◌-◌, ◌*◌, ◌/◌, List, [], ◌∷◌, ◌++◌, map, Bool, true, false, ◌&&◌, length, replicate, eqb, leb, ltb}
use Rattle.std.proofs.Math.Option.{Option, none, some}
use Rattle.meaning.specs.Text.{same, all}
use Rattle.meaning.specs.Refusal.{DEEP}
use Rattle.meaning.specs.Limit.{depth_limit, rank_limit}
use Rattle.meaning.specs.Read.{Span, Outcome, got, refused, item, no_note}
use Rattle.meaning.specs.Types.{storages}
use Rattle.meaning.specs.Columns.{object_width, component_width}
use Rattle.meaning.specs.Asked.{AskedObject, AskedComponent, Asked, asked, present_at}

unfoldable pub begins_as_map : List ℕ → Bool
begins_as_map [] = false
begins_as_map (b ∷ s) = eqb (b / 32) 5

-- one item that fills its range, or one that gets too deep before any fault
unfoldable pub fills_or_deep : {A : Type 0} → Outcome A → Bool
fills_or_deep (got t []) = true
fills_or_deep (got t (b ∷ s)) = false
fills_or_deep (refused n s) = eqb n DEEP

-- exactly one well-formed map where so many levels are left; attributes that begin as a map and get too deep for their place aren't ROW
unfoldable pub a_map : ℕ → List ℕ → Bool
a_map levels bs = begins_as_map bs && fills_or_deep (item no_note levels bs)

-- what is read at a depth has so many levels left; the root's attributes stand at depth 2, an object's at 4
abbrev pub root_levels : ℕ
root_levels = suc depth_limit - 2

abbrev pub object_levels : ℕ
object_levels = suc depth_limit - 4

unfoldable pub absent_or : (List ℕ → Bool) → Option (List ℕ) → Bool
absent_or p none = true
absent_or p (some bs) = p bs

-- the owners that the counts ask for, of the objects from index i on: each its count of times, in order
unfoldable pub owners : ℕ → List AskedObject → List ℕ
owners i [] = []
owners i (o ∷ os) = replicate o.count i ++ owners (suc i) os

module _ (buffer : List ℕ) where
  unfoldable pub inside : Span → Bool
  inside s = leb (s.place + s.size) (length buffer)

  unfoldable pub attributes_sound : ℕ → Span → Bool
  attributes_sound levels s = inside s && absent_or (a_map levels) (present_at buffer s)

  unfoldable pub object_sound : AskedObject → Bool
  object_sound o = inside o.name && leb o.rank rank_limit && inside o.format && attributes_sound object_levels o.attributes

  unfoldable pub component_sound : AskedComponent → Bool
  component_sound c = inside c.name && ltb c.dtype (length storages) && inside c.type && inside c.blob && inside c.digest

  unfoldable pub asked_sound : Asked → Bool
  asked_sound a =
      same (owners 0 a.objects) (map (λ c. c.owner) a.components)
      && attributes_sound root_levels a.attributes && all object_sound a.objects && all component_sound a.components

  -- rows as long as the counts say, and all of them sound
  unfoldable pub rows_sound : List ℕ → ℕ → ℕ → Span → Bool
  rows_sound rows objects components attributes =
      leb (object_width * objects + component_width * components) (length rows) && asked_sound (asked rows objects components attributes)
