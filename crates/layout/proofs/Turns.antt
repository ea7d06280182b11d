-- One turn of each loop over rows: what is laid, and what is still to be. Assumes nothing.
use Prim.Native.Nat.{ℕ, ◌+◌, ◌-◌, ◌*◌, ◌≤◌, ◌<◌}
use native.Mathlib.Omega.{arith}
use mathlib.Core.List.{List, ◌++◌}
use mathlib.Core.Path.{◌≡◌, refl, sym, ap, ◌∙◌, subst}
use lib.ListN.{length, take, drop, get_or}
use Rattle.meaning.specs.Columns.{object_width, component_width, count_column, offset_column, length_column}
use Rattle.meaning.specs.WrittenFile.{over}
use Rattle.meaning.proofs.Over.{over-length}
use Rattle.rows.specs.Turns.{offset_at, stepped}
use Rattle.emit.specs.Laid.{Room, Laid}
use Rattle.emit.proofs.LaidPieces.{Going, going, go_on, all_laid, room-one, room_as, as_bytes, same_length, stands, front_of, relaid, part}
use Rattle.rows.proofs.Turns.{reached-next, reached-none}
use borrow.Author.Rules.{part_to_end}
use Rattle.layout.specs.Pieces.{range, component_at, object_at, blobs_of, components_of, reached_past, objects_of}
use Rattle.layout.specs.Rows.{Within, FrontRoom, BlobRoom, ComponentRow, ObjectRow, ComponentRows, ObjectRows}
use Rattle.layout.proofs.RowLoop.{as_lent, within-length, first-component, first-blob, next-components, blobs-next, blobs-none, blobs-grow, components-next, components-none, first-object, object-long, its-components, next-objects, objects-next, objects-none}

-- ---- blobs: what stands at the output's front, and which are left where a turn is reached

pub record BlobsLeft (buffer plan rows whole xs : List ℕ) (left row turn past : ℕ) (ys : List ℕ) : Type 0 where
  pub rest : ComponentRows buffer plan rows left row turn
  pub front : List ℕ
  pub laid : Laid front 0 xs ys past
  pub same : whole ≡ blobs_of buffer plan rows front left row turn
  pub room : length whole ≤ length xs

pub blobs-begin : {buffer plan rows xs : List ℕ} {n first at turn : ℕ} → ComponentRows buffer plan rows n first turn → FrontRoom (blobs_of buffer plan rows (take at xs) n first turn) at xs
    → BlobsLeft buffer plan rows (blobs_of buffer plan rows (take at xs) n first turn) xs n first turn at xs
blobs-begin {xs} {at} rs h = record { rest = rs; front = take at xs; laid = stands at xs h.front; same = refl; room = h.fits }

module _ {buffer plan rows whole xs ys : List ℕ} {left row turn past : ℕ} (b : BlobsLeft buffer plan rows whole xs left row turn past ys) where
  pub all-blobs : left ≤ 0 → Laid whole 0 xs ys past
  all-blobs h = as_bytes (sym (b.same ∙ blobs-none buffer plan rows b.front left row turn h)) b.laid

  module _ (some : 0 < left) where
    abbrev size : ℕ
    size = get_or rows (row + length_column) 0

    abbrev blob : List ℕ
    blob = range buffer (get_or rows (row + offset_column) 0) size

    abbrev others : List ℕ
    others = over b.front (offset_at plan turn) blob

    grown : whole ≡ blobs_of buffer plan rows others (left - 1) (row + component_width) (stepped plan turn size)
    grown = b.same ∙ blobs-next buffer plan rows b.front left row turn some

    pub blob-can : {start : ℕ} → start ≡ offset_at plan turn → Within buffer (get_or rows (row + offset_column) 0) size × BlobRoom ys past start size
    blob-can {start} e = (
      first-blob b.rest some,
      record {
        front = omega (arith, b.laid.past, b.laid.fits, same_length b.laid);
        blob =
            omega (
              arith,
              e,
              b.room,
              ap length grown,
              blobs-grow buffer plan rows others (left - 1) (row + component_width) (stepped plan turn size),
              over-length b.front (offset_at plan turn) blob,
              within-length (first-blob b.rest some),
              same_length b.laid,
            );
      },
    )

    pub blob-turn : {zs : List ℕ} {start end u : ℕ} → start ≡ offset_at plan turn → Laid (over (take past ys) start blob) 0 ys zs end → u ≡ stepped plan turn size
        → BlobsLeft buffer plan rows whole xs (left - 1) (row + component_width) u end zs
    blob-turn {zs} {start} {end} {u} e w g =
        subst (λ (t : ℕ). BlobsLeft buffer plan rows whole xs (left - 1) (row + component_width) t end zs) (sym g)
        (record {
          rest = next-components b.rest some;
          front = others;
          laid = relaid b.laid (as_bytes (ap (λ (f : List ℕ). over f start blob) (front_of b.laid) ∙ ap (λ (k : ℕ). over b.front k blob) e) w)
              (omega (arith, over-length b.front (offset_at plan turn) blob));
          same = grown;
          room = b.room;
        })

-- ---- components: the same, and where all their blobs end

pub record ComponentsLeft (buffer plan rows all : List ℕ) (at : ℕ) (xs : List ℕ) (final left row end past : ℕ) (ys : List ℕ) : Type 0 where
  pub rest : ComponentRows buffer plan rows left row end
  pub going : Going all at xs (components_of buffer plan rows left row end) past ys
  pub ends : reached_past plan rows left row end ≡ final

pub components-begin : {buffer plan rows xs : List ℕ} {n first at turn : ℕ} → ComponentRows buffer plan rows n first turn → Room (components_of buffer plan rows n first turn) at xs
    → ComponentsLeft buffer plan rows (components_of buffer plan rows n first turn) at xs (reached_past plan rows n first turn) n first turn at xs
components-begin rs h = record { rest = rs; going = going _ _ _ h; ends = refl }

module _ {buffer plan rows all xs ys : List ℕ} {at final left row end past : ℕ} (b : ComponentsLeft buffer plan rows all at xs final left row end past ys) where
  pub all-components : left ≤ 0 → Laid all at xs ys past × (end ≡ final)
  all-components h = (all_laid b.going (components-none buffer plan rows left row end h), sym (reached-none plan left row end rows h) ∙ b.ends)

  module _ (some : 0 < left) {start : ℕ} (e : start ≡ offset_at plan end) where
    abbrev lent-entry : List ℕ
    lent-entry = component_at buffer (part row rows) start

    entry-is : lent-entry ≡ component_at buffer (drop row rows) (offset_at plan end)
    entry-is = ap (λ (r : List ℕ). component_at buffer r start) (part_to_end rows row) ∙ ap (component_at buffer (drop row rows)) e

    pub component-can : ComponentRow buffer (part row rows) × Room lent-entry past ys
    component-can = (as_lent rows row (ComponentRow buffer) (first-component b.rest some), room_as (sym entry-is) (room-one _ b.going (components-next buffer plan rows left row end some)))

    pub component-turn : {zs : List ℕ} {next u : ℕ} → Laid lent-entry past ys zs next → u ≡ stepped plan end (get_or rows (row + length_column) 0)
        → ComponentsLeft buffer plan rows all at xs final (left - 1) (row + component_width) u next zs
    component-turn {zs} {next} {u} w g =
        subst (λ (k : ℕ). ComponentsLeft buffer plan rows all at xs final (left - 1) (row + component_width) k next zs) (sym g)
        (record {
          rest = next-components b.rest some;
          going = go_on b.going (components-next buffer plan rows left row end some) (as_bytes entry-is w);
          ends = sym (reached-next plan left row end rows some) ∙ b.ends;
        })

-- ---- objects

pub record ObjectsLeft (buffer plan rows all : List ℕ) (at : ℕ) (xs : List ℕ) (left row from reached past : ℕ) (ys : List ℕ) : Type 0 where
  pub rest : ObjectRows buffer plan rows left row from reached
  pub going : Going all at xs (objects_of buffer plan rows left row from reached) past ys

pub objects-begin : {buffer plan rows xs : List ℕ} {n first at turn : ℕ} → ObjectRows buffer plan rows n 0 first turn → Room (objects_of buffer plan rows n 0 first turn) at xs
    → ObjectsLeft buffer plan rows (objects_of buffer plan rows n 0 first turn) at xs n 0 first turn at xs
objects-begin rs h = record { rest = rs; going = going _ _ _ h }

module _ {buffer plan rows all xs ys : List ℕ} {at left row from reached past : ℕ} (b : ObjectsLeft buffer plan rows all at xs left row from reached past ys) where
  pub all-objects : left ≤ 0 → Laid all at xs ys past
  all-objects h = all_laid b.going (objects-none buffer plan rows left row from reached h)

  module _ (some : 0 < left) where
    abbrev count : ℕ
    count = get_or rows (row + count_column) 0

    pub row-there : row + object_width ≤ length rows
    row-there = object-long b.rest some

    pub components-there : from + component_width * count ≤ length rows
    components-there = (its-components b.rest some).lie

    lent-object : object_at buffer (part row rows) ≡ object_at buffer (drop row rows)
    lent-object = ap (object_at buffer) (part_to_end rows row)

    pub object-can : ObjectRow buffer (part row rows) × Room (object_at buffer (part row rows)) past ys
    object-can = (as_lent rows row (ObjectRow buffer) (first-object b.rest some), room_as (sym lent-object) (room-one _ b.going (objects-next buffer plan rows left row from reached some)))

    module _ {us : List ℕ} {p : ℕ} (v : Laid (object_at buffer (part row rows)) past ys us p) where
      after-object : Going all at xs (components_of buffer plan rows count from reached
          ++ objects_of buffer plan rows (left - 1) (row + object_width) (from + component_width * count) (reached_past plan rows count from reached)) p us
      after-object = go_on b.going (objects-next buffer plan rows left row from reached some) (as_bytes lent-object v)

      pub components-can : ComponentRows buffer plan rows count from reached × Room (components_of buffer plan rows count from reached) p us
      components-can = (its-components b.rest some, room-one _ after-object refl)

      pub object-turn : {zs : List ℕ} {next reached' : ℕ} → Laid (components_of buffer plan rows count from reached) p us zs next → reached' ≡ reached_past plan rows count from reached
          → ObjectsLeft buffer plan rows all at xs (left - 1) (row + object_width) (from + component_width * count) reached' next zs
      object-turn {zs} {next} c e =
          subst (λ (k : ℕ). ObjectsLeft buffer plan rows all at xs (left - 1) (row + object_width) (from + component_width * count) k next zs) (sym e)
          (record { rest = next-objects b.rest some; going = go_on after-object refl c })
