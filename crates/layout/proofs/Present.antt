-- Fields and entries piece by piece: a field by whether its range is present, a part of the buffer, a map's head by what it counts. Assumes nothing.
use Prim.Native.Nat.{ℕ, ◌+◌, ◌-◌, ◌*◌, ◌≤◌, ◌<◌}
use native.Mathlib.Omega.{arith}
use mathlib.Core.List.{List, [], ◌++◌}
use mathlib.Core.Bool.{Bool, true, false, cond, ◌&&◌}
use mathlib.Core.Path.{◌≡◌, sym, ap, ◌∙◌}
use lib.ListN.{length, take, drop, get_or}
use lib.Dec.{eqb}
use Rattle.meaning.specs.Columns.{rank_column, shape_column, attributes_column, attributes_length_column, type_column, type_length_column, digest_column, digest_length_column}
use Rattle.meaning.specs.Text.{ascii}
use Rattle.meaning.specs.Types.{storage_of}
use Rattle.meaning.specs.Manifest.{shortest_head, text_bytes, list_bytes}
use Rattle.put.proofs.Names.{names, named}
use Rattle.emit.specs.Laid.{Room, Laid}
use Rattle.emit.proofs.LaidPieces.{as_bytes, nothing, room_as, room-first, room_next, then}
use Rattle.layout.specs.Pieces.{presence, shape_field, range, optional, component_fields, component_at, object_front, root_front}
use Rattle.layout.specs.Rows.{ObjectRow}

abbrev absence : ℕ → ℕ → Bool
absence place size = eqb place 0 && eqb size 0

module _ (place size : ℕ) {b : Bool} (e : b ≡ absence place size) where
  abbrev field_of : List ℕ → List ℕ → (List ℕ → List ℕ) → List ℕ
  field_of buffer key write = text_bytes key ++ write (range buffer place size)

  left_out : (buffer key : List ℕ) (write : List ℕ → List ℕ) → b ≡ true → [] ≡ optional buffer key write place size
  unfolding optional
  left_out buffer key write h = ap (λ (t : Bool). cond t [] (field_of buffer key write)) (sym h ∙ e)

  put_in : (buffer key : List ℕ) (write : List ℕ → List ℕ) → b ≡ false → field_of buffer key write ≡ optional buffer key write place size
  unfolding optional
  put_in buffer key write h = ap (λ (t : Bool). cond t [] (field_of buffer key write)) (sym h ∙ e)

-- a field that a range gives: nothing where it is absent, else its key and what is written of the range
module _ (write : List ℕ → List ℕ) (buffer key : List ℕ) (place size : ℕ) {xs : List ℕ} {at : ℕ} {b : Bool} (room : Room (optional buffer key write place size) at xs) (e : b ≡ absence place size) where
  pub nothing-laid : b ≡ true → Laid (optional buffer key write place size) at xs xs at
  nothing-laid h = as_bytes (left_out place size e buffer key write h) (nothing at xs (omega (arith, room.fits)))

  module _ (h : b ≡ false) where
    pub room-field : Room (text_bytes key ++ write (range buffer place size)) at xs
    room-field = room_as (sym (put_in place size e buffer key write h)) room

    pub field-laid : {ys : List ℕ} {r : ℕ} → Laid (text_bytes key ++ write (range buffer place size)) at xs ys r → Laid (optional buffer key write place size) at xs ys r
    field-laid w = as_bytes (put_in place size e buffer key write h) w

    pub room-key : Room (text_bytes key) at xs
    room-key = room-first _ room-field

    module _ {ys : List ℕ} {p : ℕ} (k : Laid (text_bytes key) at xs ys p) where
      pub room-value : Room (write (range buffer place size)) p ys
      room-value = room_next k room-field

      pub value-laid : {zs : List ℕ} {r : ℕ} → Laid (write (range buffer place size)) p ys zs r → Laid (optional buffer key write place size) at xs zs r
      value-laid w = field-laid (then k w)

-- the part from a range's place to its end, as it is written
ranged : (buffer : List ℕ) (place size : ℕ) → take (place + size - place) (drop place buffer) ≡ range buffer place size
ranged buffer place size = let e : place + size - place ≡ size = omega arith in ap (λ (n : ℕ). take n (drop place buffer)) e

module _ (write : List ℕ → List ℕ) (buffer : List ℕ) (place size : ℕ) {xs : List ℕ} {at : ℕ} where
  pub room-part : Room (write (range buffer place size)) at xs → Room (write (take (place + size - place) (drop place buffer))) at xs
  room-part h = room_as (ap write (sym (ranged buffer place size))) h

  pub part-laid : {ys : List ℕ} {r : ℕ} → Laid (write (take (place + size - place) (drop place buffer))) at xs ys r → Laid (write (range buffer place size)) at xs ys r
  part-laid w = as_bytes (ap write (ranged buffer place size)) w

-- an object's shape, which a part of its row is
module _ (row : List ℕ) {xs ys : List ℕ} {at p : ℕ} (k : Laid (text_bytes (ascii "shape")) at xs ys p) where
  pub room-shape : Room (shape_field row) at xs → Room (list_bytes (take (shape_column + get_or row rank_column 0 - shape_column) (drop shape_column row))) p ys
  room-shape h = room-part list_bytes row shape_column (get_or row rank_column 0) (room_next k h)

  pub shape-laid : {zs : List ℕ} {r : ℕ} → Laid (list_bytes (take (shape_column + get_or row rank_column 0 - shape_column) (drop shape_column row))) p ys zs r → Laid (shape_field row) at xs zs r
  shape-laid w = then k (part-laid list_bytes row shape_column (get_or row rank_column 0) w)

-- a storage's name, which a part of all names is
module _ (code : ℕ) (known : code < 13) where
  abbrev letters : ℕ
  letters = get_or names (5 * code) 0

  pub name-short : letters ≤ 4
  name-short = (named code known).0

  module _ {xs ys : List ℕ} {at p : ℕ} (k : Laid (text_bytes (ascii "dtype")) at xs ys p) where
    pub room-name : Room (text_bytes (ascii "dtype") ++ text_bytes (storage_of code).called) at xs → Room (text_bytes (take (5 * code + 1 + letters - (5 * code + 1)) (drop (5 * code + 1) names))) p ys
    room-name h = room_as (ap text_bytes (sym (named code known).1)) (room_next k h)

    pub name-laid : {zs : List ℕ} {r : ℕ} → Laid (text_bytes (take (5 * code + 1 + letters - (5 * code + 1)) (drop (5 * code + 1) names))) p ys zs r
        → Laid (text_bytes (ascii "dtype") ++ text_bytes (storage_of code).called) at xs zs r
    name-laid w = then k (as_bytes (ap text_bytes (named code known).1) w)

-- ---- a map's head, by how many of its ranges are present, among the pieces around it

head_of : (k : ℕ) {n m : ℕ} → n ≡ m → shortest_head 5 (k + n) ≡ shortest_head 5 (k + m)
head_of k e = ap (λ (n : ℕ). shortest_head 5 (k + n)) e

-- a component: its name, the head, its fields
module _ (buffer row : List ℕ) (offset : ℕ) {xs ys : List ℕ} {at a : ℕ} {t d : ℕ} (room : Room (component_at buffer row offset) at xs)
    (name : Laid (text_bytes (range buffer (get_or row 0 0) (get_or row 1 0))) at xs ys a)
    (typed : t ≡ presence (get_or row type_column 0) (get_or row type_length_column 0)) (digested : d ≡ presence (get_or row digest_column 0) (get_or row digest_length_column 0)) where
  abbrev whole-head : List ℕ
  whole-head = shortest_head 5 (3 + presence (get_or row type_column 0) (get_or row type_length_column 0) + presence (get_or row digest_column 0) (get_or row digest_length_column 0))

  head-is : shortest_head 5 (3 + t + d) ≡ whole-head
  head-is = rw (typed, digested)

  in_order : Room (whole-head ++ component_fields buffer row offset) a ys
  unfolding component_at
  in_order = room_next name room

  pub room-component-head : Room (shortest_head 5 (3 + t + d)) a ys
  room-component-head = room_as (sym head-is) (room-first _ in_order)

  module _ {zs : List ℕ} {p : ℕ} (head : Laid (shortest_head 5 (3 + t + d)) a ys zs p) where
    pub room-component-fields : Room (component_fields buffer row offset) p zs
    room-component-fields = room_next (as_bytes head-is head) in_order

    pub component-laid : {us : List ℕ} {r : ℕ} → Laid (component_fields buffer row offset) p zs us r → Laid (component_at buffer row offset) at xs us r
    unfolding component_at
    component-laid fields = then name (then (as_bytes head-is head) fields)

-- an object: its name, the head, its shape
pub shape-lies : {buffer row : List ℕ} → ObjectRow buffer row → shape_column + get_or row rank_column 0 ≤ length row
shape-lies o = omega (arith, o.rank, o.long)

module _ (buffer row : List ℕ) {xs ys : List ℕ} {at a : ℕ} {n : ℕ} (room : Room (object_front buffer row) at xs)
    (name : Laid (text_bytes (range buffer (get_or row 0 0) (get_or row 1 0))) at xs ys a) (noted : n ≡ presence (get_or row attributes_column 0) (get_or row attributes_length_column 0)) where
  name-then : Room (shortest_head 5 (3 + presence (get_or row attributes_column 0) (get_or row attributes_length_column 0)) ++ shape_field row) a ys
  unfolding object_front
  name-then = room_next name room

  pub room-object-head : Room (shortest_head 5 (3 + n)) a ys
  room-object-head = room_as (sym (head_of 3 noted)) (room-first _ name-then)

  module _ {zs : List ℕ} {p : ℕ} (head : Laid (shortest_head 5 (3 + n)) a ys zs p) where
    pub room-object-shape : Room (shape_field row) p zs
    room-object-shape = room_next (as_bytes (head_of 3 noted) head) name-then

    pub front-laid : {us : List ℕ} {r : ℕ} → Laid (shape_field row) p zs us r → Laid (object_front buffer row) at xs us r
    unfolding object_front
    front-laid shape = then name (then (as_bytes (head_of 3 noted) head) shape)

-- the root: the head, its version, its attributes, and the head of its objects
module _ (buffer : List ℕ) (objects place size : ℕ) {xs : List ℕ} {n : ℕ} (room : Room (root_front buffer objects place size) 0 xs) (noted : n ≡ presence place size) where
  abbrev attributes : List ℕ
  attributes = optional buffer (ascii "attributes") (λ bs. bs) place size

  abbrev heading : List ℕ
  heading = text_bytes (ascii "objects") ++ shortest_head 5 objects

  opened : Room (shortest_head 5 (2 + presence place size) ++ (text_bytes (ascii "version") ++ (text_bytes (ascii "1.2.0") ++ (attributes ++ heading)))) 0 xs
  unfolding root_front
  opened = room

  pub room-root-head : Room (shortest_head 5 (2 + n)) 0 xs
  room-root-head = room_as (sym (head_of 2 noted)) (room-first _ opened)

  module _ {ys : List ℕ} {a : ℕ} (head : Laid (shortest_head 5 (2 + n)) 0 xs ys a) where
    begun : Laid (shortest_head 5 (2 + presence place size)) 0 xs ys a
    begun = as_bytes (head_of 2 noted) head

    pub room-version-key : Room (text_bytes (ascii "version")) a ys
    room-version-key = room-first _ (room_next begun opened)

    module _ {zs : List ℕ} {b : ℕ} (key : Laid (text_bytes (ascii "version")) a ys zs b) where
      pub room-version : Room (text_bytes (ascii "1.2.0")) b zs
      room-version = room-first _ (room_next key (room_next begun opened))

      module _ {us : List ℕ} {c : ℕ} (version : Laid (text_bytes (ascii "1.2.0")) b zs us c) where
        pub room-attributes : Room attributes c us
        room-attributes = room-first _ (room_next version (room_next key (room_next begun opened)))

        module _ {vs : List ℕ} {d : ℕ} (given : Laid attributes c us vs d) where
          pub room-objects-head : Room heading d vs
          room-objects-head = room_next given (room_next version (room_next key (room_next begun opened)))

          pub root-laid : {ws : List ℕ} {r : ℕ} → Laid heading d vs ws r → Laid (root_front buffer objects place size) 0 xs ws r
          unfolding root_front
          root-laid w = then begun (then key (then version (then given w)))
