-- What one sound row gives: its ranges lie in the buffer, its rank and code are known; so each text and blob is as long as its row says.
use Prim.Native.Nat.{ℕ, ◌≤◌, ◌<◌}
use mathlib.Core.List.{List}
use mathlib.Core.Bool.{true, ◌&&◌}
use mathlib.Core.Path.{◌≡◌}
use lib.ListN.{length}
use lib.Dec.{leb, ltb}
use borrow.Author.Tests.{leb-true, ltb-true}
use Rattle.meaning.specs.Limit.{rank_limit}
use Rattle.meaning.specs.Types.{storages}
use Rattle.meaning.specs.Read.{Span}
use Rattle.meaning.specs.Asked.{AskedObject, AskedComponent, present_at}
use Rattle.meaning.specs.Sound.{absent_or, a_map, inside, attributes_sound, object_sound, component_sound}
use Rattle.meaning.proofs.Tests.{both_left, both_right}

module _ (buffer : List ℕ) where
  module _ (c : AskedComponent) (e : component_sound buffer c ≡ true) where
    before-digest : inside buffer c.name && ltb c.dtype (length storages) && inside buffer c.type && inside buffer c.blob ≡ true
    unfolding component_sound
    before-digest = both_left _ (inside buffer c.digest) e

    before-blob : inside buffer c.name && ltb c.dtype (length storages) && inside buffer c.type ≡ true
    before-blob = both_left _ (inside buffer c.blob) before-digest

    before-type : inside buffer c.name && ltb c.dtype (length storages) ≡ true
    before-type = both_left _ (inside buffer c.type) before-blob

    pub component-name-inside : inside buffer c.name ≡ true
    component-name-inside = both_left _ (ltb c.dtype (length storages)) before-type

    pub component-known : c.dtype < 13
    unfolding storages
    component-known = ltb-true c.dtype 13 (both_right (inside buffer c.name) _ before-type)

    pub component-type-inside : inside buffer c.type ≡ true
    component-type-inside = both_right (inside buffer c.name && ltb c.dtype (length storages)) _ before-blob

    pub component-blob-inside : inside buffer c.blob ≡ true
    component-blob-inside = both_right (inside buffer c.name && ltb c.dtype (length storages) && inside buffer c.type) _ before-digest

    pub component-digest-inside : inside buffer c.digest ≡ true
    unfolding component_sound
    component-digest-inside = both_right (inside buffer c.name && ltb c.dtype (length storages) && inside buffer c.type && inside buffer c.blob) _ e

  module _ (levels : ℕ) (s : Span) (e : attributes_sound buffer levels s ≡ true) where
    pub attributes-inside : inside buffer s ≡ true
    unfolding attributes_sound
    attributes-inside = both_left _ (absent_or (a_map levels) (present_at buffer s)) e

  module _ (o : AskedObject) (e : object_sound buffer o ≡ true) where
    before-attributes : inside buffer o.name && leb o.rank rank_limit && inside buffer o.format ≡ true
    unfolding object_sound
    before-attributes = both_left _ (attributes_sound buffer 29 o.attributes) e

    before-format : inside buffer o.name && leb o.rank rank_limit ≡ true
    before-format = both_left _ (inside buffer o.format) before-attributes

    pub object-name-inside : inside buffer o.name ≡ true
    object-name-inside = both_left _ (leb o.rank rank_limit) before-format

    pub object-rank-small : o.rank ≤ 8
    object-rank-small = leb-true o.rank 8 (both_right (inside buffer o.name) _ before-format)

    pub object-format-inside : inside buffer o.format ≡ true
    object-format-inside = both_right (inside buffer o.name && leb o.rank rank_limit) _ before-attributes

    pub object-attributes-sound : attributes_sound buffer 29 o.attributes ≡ true
    unfolding object_sound
    object-attributes-sound = both_right (inside buffer o.name && leb o.rank rank_limit && inside buffer o.format) _ e
