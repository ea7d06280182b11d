-- Header, blobs, manifest, size and footer, one after the other. Assumes nothing.
use Prim.Native.Nat.{ℕ, ◌+◌, ◌*◌, ◌≤◌}
use native.Mathlib.Nat.{zero-add}
use mathlib.Core.List.{List, ◌++◌}
use mathlib.Core.Path.{◌≡◌, sym, ap, ◌∙◌}
use lib.ListN.{length, take}
use native.Mathlib.Omega.{arith}
use Rattle.meaning.specs.Columns.{object_width}
use Rattle.meaning.specs.Layouts.{magic}
use Rattle.meaning.specs.WrittenFile.{little_bytes}
use Rattle.rows.specs.Turns.{begun}
use Rattle.emit.specs.Laid.{Room, Laid}
use Rattle.emit.proofs.LaidPieces.{part, back, as_bytes, room_as, room-first, room_next, room-lent, then, lent, same_length, front_of, relaid}
use Rattle.layout.specs.Pieces.{blobs_of, root_front, objects_of, manifest_from, whole_of}
use Rattle.layout.specs.Rows.{Within, FrontRoom, ComponentRows, ObjectRows, WholeRows}
use Rattle.layout.proofs.RowLoop.{blobs-grow}

-- ---- blobs over a front that is laid

module _ {f xs ys : List ℕ} {start : ℕ} (over : List ℕ → List ℕ) (m : Laid f 0 xs ys start) where
  over-front : over (take start ys) ≡ over f
  over-front = ap over (front_of m)

  pub room-over : length (over f) ≤ length xs → FrontRoom (over (take start ys)) start ys
  room-over h = record { front = omega (arith, m.past, m.fits, same_length m); fits = rw over-front (omega (arith, h, same_length m)) }

  pub over-laid : {zs : List ℕ} {end : ℕ} → length f ≤ length (over f) → Laid (over (take start ys)) 0 ys zs end → Laid (over f) 0 xs zs end
  over-laid grows g = relaid m (as_bytes over-front g) grows

-- ---- behind the blobs: the manifest, its size and the footer

abbrev pub closed_by : List ℕ → List ℕ → List ℕ
closed_by front manifest = front ++ (manifest ++ (little_bytes 8 (length manifest) ++ magic))

module _ (front manifest : List ℕ) {xs zs : List ℕ} {end : ℕ} (room : Room (closed_by front manifest) 0 xs) (b : Laid front 0 xs zs end) where
  pub room-manifest : Room manifest end zs
  room-manifest = room-first _ (room_next b room)

  module _ {us : List ℕ} {n : ℕ} (f : Laid manifest 0 (part end zs) us n) where
    laid-behind : Laid manifest end zs (back end zs us) (end + n)
    laid-behind = lent room-manifest f

    size_is : little_bytes 8 (length manifest) ++ magic ≡ little_bytes 8 n ++ magic
    size_is = ap (λ (k : ℕ). little_bytes 8 k ++ magic) (sym (f.past ∙ zero-add (length manifest)))

    pub room-behind-manifest : Room (little_bytes 8 n ++ magic) (end + n) (back end zs us)
    room-behind-manifest = room_as size_is (room_next laid-behind (room_next b room))

    pub closed-laid : {ws : List ℕ} {r : ℕ} → Laid (little_bytes 8 n ++ magic) (end + n) (back end zs us) ws r → Laid (closed_by front manifest) 0 xs ws r
    closed-laid w = then b (then laid-behind (as_bytes (sym size_is) w))

-- ---- all of it

module _ {buffer plan rows xs : List ℕ} {objects components place size : ℕ} (rs : WholeRows buffer plan rows objects components place size)
    (room : Room (whole_of buffer plan rows objects components place size) 0 xs) where
  -- the front of the file from a turn on, over what stands there
  abbrev front : ℕ → List ℕ → List ℕ
  front turn file = blobs_of buffer plan rows file components (object_width * objects) turn

  abbrev manifest : List ℕ
  manifest = manifest_from buffer plan rows objects (object_width * objects) place size

  in_order : Room (closed_by (front (begun plan) magic) manifest) 0 xs
  unfolding whole_of
  in_order = room

  grows : length magic ≤ length (front (begun plan) magic)
  grows = blobs-grow buffer plan rows magic components (object_width * objects) (begun plan)

  pub whole-room-magic : Room magic 0 xs
  whole-room-magic = record { fits = omega (arith, (room-first {us = front (begun plan) magic} _ in_order).fits, grows) }

  module _ {ys : List ℕ} {start turn : ℕ} (m : Laid magic 0 xs ys start) (e : turn ≡ begun plan) where
    pub blobs-can : ComponentRows buffer plan rows components (object_width * objects) turn × FrontRoom (front turn (take start ys)) start ys
    blobs-can = rw e (rs.blobs, room-over (front (begun plan)) m (omega (arith, (room-first {us = front (begun plan) magic} _ in_order).fits)))

    module _ {zs : List ℕ} {end : ℕ} (g : Laid (front turn (take start ys)) 0 ys zs end) where
      b : Laid (front (begun plan) magic) 0 xs zs end
      b = over-laid (front (begun plan)) m grows (rw e at g)

      pub manifest-can : Within buffer place size × (ObjectRows buffer plan rows objects 0 (object_width * objects) (begun plan) × Room manifest 0 (part end zs))
      manifest-can = (rs.attributes, (rs.each, room-lent (room-manifest (front (begun plan) magic) manifest in_order b)))

      module _ {us : List ℕ} {n : ℕ} (f : Laid manifest 0 (part end zs) us n) where
        pub whole-room-behind : Room (little_bytes 8 n ++ magic) (end + n) (back end zs us)
        whole-room-behind = room-behind-manifest (front (begun plan) magic) manifest in_order b f

        pub whole-laid : {ws : List ℕ} {r : ℕ} → Laid (little_bytes 8 n ++ magic) (end + n) (back end zs us) ws r → Laid (whole_of buffer plan rows objects components place size) 0 xs ws r
        unfolding whole_of
        whole-laid w = closed-laid (front (begun plan) magic) manifest in_order b f w

-- ---- the manifest's two pieces

module _ {buffer plan rows xs : List ℕ} {objects first place size : ℕ} (attributes : Within buffer place size) (rs : ObjectRows buffer plan rows objects 0 first (begun plan))
    (room : Room (manifest_from buffer plan rows objects first place size) 0 xs) where
  pieces : Room (root_front buffer objects place size ++ objects_of buffer plan rows objects 0 first (begun plan)) 0 xs
  unfolding manifest_from
  pieces = room

  pub room-root : Room (root_front buffer objects place size) 0 xs
  room-root = room-first _ pieces

  module _ {ys : List ℕ} {past turn : ℕ} (root : Laid (root_front buffer objects place size) 0 xs ys past) (e : turn ≡ begun plan) where
    pub objects-can : ObjectRows buffer plan rows objects 0 first turn × Room (objects_of buffer plan rows objects 0 first turn) past ys
    objects-can = rw e (rs, room_next root pieces)

    pub manifest-laid : {zs : List ℕ} {r : ℕ} → Laid (objects_of buffer plan rows objects 0 first turn) past ys zs r → Laid (manifest_from buffer plan rows objects first place size) 0 xs zs r
    unfolding manifest_from
    manifest-laid w = then root (rw e at w)
