-- Sound rows of numbers below 2 ^ 64, with a buffer that is no longer, give a fine description.
use Prim.Native.Nat.{ℕ, zero, suc, ◌+◌, ◌*◌, ◌≤◌}
use native.Mathlib.Omega.{arith}
use mathlib.Core.List.{List, [], ◌∷◌, map}
use mathlib.Core.Bool.{Bool, true, false, cond, ◌&&◌}
use mathlib.Core.Option.{none, some}
use mathlib.Core.Path.{◌≡◌}
use lib.Dec.{eqb, leb, ltb}
use lib.ListN.{length, take, drop, get_or, length-take, length-map}
use borrow.Author.Tests.{leb-true, ltb-true}
use Rattle.meaning.specs.Columns.{object_width, component_width}
use Rattle.meaning.specs.Limit.{rank_limit}
use Rattle.meaning.specs.Text.{all, same}
use Rattle.meaning.specs.Read.{Span, bytes_at}
use Rattle.meaning.specs.Types.{storages}
use Rattle.meaning.specs.Asked.{AskedObject, AskedComponent, Asked, asked_object, asked_component, each_row, asked, present_at}
use Rattle.meaning.specs.Sound.{a_map, root_levels, object_levels, absent_or, owners, inside, attributes_sound, object_sound, component_sound, asked_sound, rows_sound}
use Rattle.meaning.specs.Described.{described_component, described_object, described_objects, described}
use Rattle.meaning.proofs.Tests.{both_left, both_right, four-true}
use Rattle.meaning.proofs.Lengths.{take-shorter, drop-shorter, each-row-length, described-counted}
use Rattle.meaning.specs.Every.{Every}
use Rattle.meaning.proofs.Every.{every_take, every_drop, every_map, every-all}
use Rattle.readback.specs.Fine.{Fits, Brief, BriefOption, FineComponent, FineObject, Fine}

-- ---- rows

module _ {A : Type 0} (read : List ℕ → A) (width : ℕ) where
  each-row-every : (Q : A → Type 0) (n : ℕ) (rows : List ℕ) → ((s : List ℕ) → Every Fits s → Q (read s)) → Every Fits rows → Every Q (each_row read width n rows)
  unfolding each_row
  each-row-every Q zero rows k h = tt
  each-row-every Q (suc n) rows k h = (k rows h, each-row-every Q n (drop width rows) k (every_drop Fits width rows h))

-- ---- parts of the buffer

-- name, code, type, blob
pub component-tests : (buffer : List ℕ) (c : AskedComponent) → component_sound buffer c ≡ true
    → (inside buffer c.name ≡ true) × ((ltb c.dtype (length storages) ≡ true) × ((inside buffer c.type ≡ true) × (inside buffer c.blob ≡ true)))
unfolding component_sound
component-tests buffer c h =
    four-true (inside buffer c.name) (ltb c.dtype (length storages)) (inside buffer c.type) (inside buffer c.blob) (both_left _ (inside buffer c.digest) h)

module _ (buffer : List ℕ) (small : Brief buffer) where
  part-brief : (s : Span) → Brief (bytes_at buffer s)
  part-brief s = omega (arith, take-shorter s.size (drop s.place buffer), drop-shorter s.place buffer)

  present-brief : (s : Span) → BriefOption (present_at buffer s)
  unfolding present_at
  present-brief s = go (eqb s.place 0 && eqb s.size 0)
    where
      go : (b : Bool) → BriefOption (cond b none (some (bytes_at buffer s)))
      go true = tt
      go false = part-brief s

  component-fine : (c : AskedComponent) → component_sound buffer c ≡ true → FineComponent (described_component buffer c)
  unfolding described_component
  component-fine c h = record {
    name = part-brief c.name;
    dtype = ltb-true c.dtype (length storages) (component-tests buffer c h).1.0;
    type = present-brief c.type;
    digest = present-brief c.digest;
    blob = part-brief c.blob;
  }

  components-fine : (cs : List AskedComponent) → Every (λ c. component_sound buffer c ≡ true) cs → Every FineComponent (map (described_component buffer) cs)
  components-fine cs h = every_map (λ c. component_sound buffer c ≡ true) FineComponent (described_component buffer) cs component-fine h

  attributes-fine : (levels : ℕ) (s : Span) → attributes_sound buffer levels s ≡ true → absent_or (a_map levels) (present_at buffer s) ≡ true
  unfolding attributes_sound
  attributes-fine levels s h = both_right (inside buffer s) (absent_or (a_map levels) (present_at buffer s)) h

  -- a row whose dimensions fit, and no longer than its rank says
  pub record Shaped (o : AskedObject) : Type 0 where
    pub sound : Every Fits o.shape
    pub short : length o.shape ≤ o.rank

  object-fine : (o : AskedObject) (cs : List AskedComponent) → Shaped o → object_sound buffer o ≡ true → Fits (length cs) → Every (λ c. component_sound buffer c ≡ true) cs
      → FineObject (described_object buffer o cs)
  unfolding object_sound described_object
  object-fine o cs shaped h n g =
      let k = four-true (inside buffer o.name) (leb o.rank rank_limit) (inside buffer o.format) (attributes_sound buffer object_levels o.attributes) h in
      record {
        name = part-brief o.name;
        rank = let r : o.rank ≤ rank_limit = leb-true o.rank rank_limit k.1.0 in omega (arith, r, shaped.short);
        shape = shaped.sound;
        format = part-brief o.format;
        attributes = attributes-fine object_levels o.attributes k.1.1.1;
        count = rw (length-map cs (described_component buffer)) n;
        components = components-fine cs g;
      }

  objects-fine : (os : List AskedObject) (cs : List AskedComponent) → Every Shaped os → Every (λ o. object_sound buffer o ≡ true) os → Fits (length cs)
      → Every (λ c. component_sound buffer c ≡ true) cs → Every FineObject (described_objects buffer os cs)
  unfolding described_objects
  objects-fine [] cs p h n g = tt
  objects-fine (o ∷ os) cs (p, ps) (h, hs) n g = (
    object-fine o (take o.count cs) p h (omega (arith, take-shorter o.count cs)) (every_take (λ c. component_sound buffer c ≡ true) o.count cs g),
    objects-fine os (drop o.count cs) ps hs (omega (arith, drop-shorter o.count cs)) (every_drop (λ c. component_sound buffer c ≡ true) o.count cs g),
  )

  shaped : (row : List ℕ) → Every Fits row → Shaped (asked_object row)
  unfolding asked_object
  shaped row h = record {
    sound = every_take Fits (get_or row 2 0) (drop 3 row) (every_drop Fits 3 row h);
    short = simp length-take (omega arith);
  }

  module _ (rows : List ℕ) (fit : Every Fits rows) (few : Brief rows) (objects components : ℕ) (attributes : Span) (sound : rows_sound buffer rows objects components attributes ≡ true) where
    abbrev all_asked : Asked
    all_asked = asked rows objects components attributes

    long-enough : object_width * objects + component_width * components ≤ length rows
    unfolding rows_sound
    long-enough = leb-true (object_width * objects + component_width * components) (length rows) (both_left _ (asked_sound buffer all_asked) sound)

    -- owners, attributes, objects, components
    pub tests : (same (owners 0 all_asked.objects) (map (λ c. c.owner) all_asked.components) ≡ true) × ((attributes_sound buffer root_levels all_asked.attributes ≡ true)
        × ((all (object_sound buffer) all_asked.objects ≡ true) × (all (component_sound buffer) all_asked.components ≡ true)))
    unfolding rows_sound asked_sound
    tests =
        four-true (same (owners 0 all_asked.objects) (map (λ c. c.owner) all_asked.components)) (attributes_sound buffer root_levels all_asked.attributes)
        (all (object_sound buffer) all_asked.objects) (all (component_sound buffer) all_asked.components)
        (both_right (leb (object_width * objects + component_width * components) (length rows)) _ sound)

    pub sound-is-fine : Fine (described buffer (asked rows objects components attributes))
    unfolding described asked
    sound-is-fine =
        let os : List AskedObject = each_row asked_object object_width objects rows in
        let cs : List AskedComponent = each_row asked_component component_width components (drop (object_width * objects) rows) in
        let nc : length cs ≡ components = each-row-length asked_component component_width components (drop (object_width * objects) rows) in
        let no : length os ≡ objects = each-row-length asked_object object_width objects rows in
        record {
          attributes = attributes-fine root_levels attributes tests.1.0;
          count = rw (described-counted buffer os cs) (omega (arith, no, long-enough));
          objects = objects-fine os cs (each-row-every asked_object object_width Shaped objects rows shaped fit) (every-all (object_sound buffer) os tests.1.1.0) (omega (arith, nc, long-enough))
              (every-all (component_sound buffer) cs tests.1.1.1);
        }
