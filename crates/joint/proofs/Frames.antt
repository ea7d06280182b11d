-- Header, both files' blobs, manifest, size and footer, one after the other. Assumes nothing.
use Prim.Native.Nat.{ℕ, ◌+◌, ◌*◌, ◌≤◌}
use mathlib.Core.List.{List, [], ◌++◌}
use lib.ListN.{length, take}
use native.Mathlib.Omega.{arith}
use Rattle.meaning.specs.Columns.{object_width}
use Rattle.meaning.specs.Layouts.{magic}
use Rattle.meaning.specs.WrittenFile.{little_bytes}
use Rattle.emit.specs.Laid.{Room, Laid}
use Rattle.emit.proofs.LaidPieces.{part, back, room-first, room_next, room-lent, then}
use Rattle.layout.specs.Pieces.{blobs_of, objects_of, root_front}
use Rattle.layout.specs.Rows.{FrontRoom}
use Rattle.layout.proofs.RowLoop.{blobs-grow}
use Rattle.layout.proofs.Frames.{closed_by, room-over, over-laid, room-manifest, room-behind-manifest, closed-laid}
use Rattle.joint.specs.Joint.{front_of, manifest_of, whole_of}

-- ---- the front: the first's blobs over the header, and the second's over those

module _ (first rows second others : List ℕ) (n c k d turn : ℕ) {xs : List ℕ} (room : Room (front_of first rows n c second others k d turn) 0 xs) where
  abbrev firsts : List ℕ → List ℕ
  firsts file = blobs_of first [] rows file c (object_width * n) 8

  abbrev seconds : List ℕ → List ℕ
  seconds file = blobs_of second [] others file d (object_width * k) turn

  fits : length (seconds (firsts magic)) ≤ length xs
  unfolding front_of
  fits = omega (arith, room.fits)

  grows : length magic ≤ length (firsts magic)
  grows = blobs-grow first [] rows magic c (object_width * n) 8

  grows-on : length (firsts magic) ≤ length (seconds (firsts magic))
  grows-on = blobs-grow second [] others (firsts magic) d (object_width * k) turn

  pub room-magic : Room magic 0 xs
  room-magic = record { fits = omega (arith, fits, grows, grows-on) }

  module _ {ys : List ℕ} {start : ℕ} (m : Laid magic 0 xs ys start) where
    pub room-firsts : FrontRoom (firsts (take start ys)) start ys
    room-firsts = room-over firsts m (omega (arith, fits, grows-on))

    module _ {zs : List ℕ} {mid : ℕ} (g : Laid (firsts (take start ys)) 0 ys zs mid) where
      firsts-laid : Laid (firsts magic) 0 xs zs mid
      firsts-laid = over-laid firsts m grows g

      pub room-seconds : FrontRoom (seconds (take mid zs)) mid zs
      room-seconds = room-over seconds firsts-laid fits

      pub front-laid : {ws : List ℕ} {end : ℕ} → Laid (seconds (take mid zs)) 0 zs ws end → Laid (front_of first rows n c second others k d turn) 0 xs ws end
      unfolding front_of
      front-laid f = over-laid seconds firsts-laid grows-on f

-- ---- the manifest's three pieces

module _ (attributes first rows second others : List ℕ) (place size n k turn : ℕ) {xs : List ℕ} (room : Room (manifest_of attributes place size first rows n second others k turn) 0 xs) where
  pieces : Room (root_front attributes (n + k) place size ++ (objects_of first [] rows n 0 (object_width * n) 8 ++ objects_of second [] others k 0 (object_width * k) turn)) 0 xs
  unfolding manifest_of
  pieces = room

  pub room-root : Room (root_front attributes (n + k) place size) 0 xs
  room-root = room-first _ pieces

  module _ {ys : List ℕ} {a : ℕ} (r : Laid (root_front attributes (n + k) place size) 0 xs ys a) where
    pub room-objects : Room (objects_of first [] rows n 0 (object_width * n) 8) a ys
    room-objects = room-first _ (room_next r pieces)

    module _ {zs : List ℕ} {b : ℕ} (o : Laid (objects_of first [] rows n 0 (object_width * n) 8) a ys zs b) where
      pub room-others : Room (objects_of second [] others k 0 (object_width * k) turn) b zs
      room-others = room_next o (room_next r pieces)

      pub manifest-is : {us : List ℕ} {l : ℕ} → Laid (objects_of second [] others k 0 (object_width * k) turn) b zs us l → Laid (manifest_of attributes place size first rows n second others k turn) 0 xs us l
      unfolding manifest_of
      manifest-is p = then r (then o p)

-- ---- all of it: layout's laws of a front and a manifest

module _ (attributes first rows second others : List ℕ) (place size n c k d turn : ℕ) {xs : List ℕ} (room : Room (whole_of attributes place size first rows n c second others k d turn) 0 xs) where
  abbrev front : List ℕ
  front = front_of first rows n c second others k d turn

  abbrev manifest : List ℕ
  manifest = manifest_of attributes place size first rows n second others k turn

  in_order : Room (closed_by front manifest) 0 xs
  unfolding whole_of
  in_order = room

  pub room-front : Room front 0 xs
  room-front = room-first _ in_order

  module _ {ys : List ℕ} {end : ℕ} (b : Laid front 0 xs ys end) where
    pub whole-room-manifest : Room manifest 0 (part end ys)
    whole-room-manifest = room-lent (room-manifest front manifest in_order b)

    module _ {zs : List ℕ} {l : ℕ} (m : Laid manifest 0 (part end ys) zs l) where
      pub whole-room-behind : Room (little_bytes 8 l ++ magic) (end + l) (back end ys zs)
      whole-room-behind = room-behind-manifest front manifest in_order b m

      pub whole-laid : {us : List ℕ} {r : ℕ} → Laid (little_bytes 8 l ++ magic) (end + l) (back end ys zs) us r → Laid (whole_of attributes place size first rows n c second others k d turn) 0 xs us r
      unfolding whole_of
      whole-laid w = closed-laid front manifest in_order b m w
