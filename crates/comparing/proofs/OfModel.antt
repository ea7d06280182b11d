-- A table that begins with the rows of an accepted file's model: its rows lie in it, and by their places they are what the file describes.
use Prim.Native.Nat.{ℕ, suc, ◌+◌, ◌-◌, ◌*◌, ◌≤◌, ◌<◌}
use native.Mathlib.Omega.{arith}
use mathlib.Core.List.{List, [], ◌∷◌, ◌++◌, map}
use mathlib.Core.Path.{◌≡◌, refl, sym, ap, ap₂, ◌∙◌}
use lib.ListN.{length, drop, get_or, length-append, length-map}
use lib.Seq.{get_or-drop, drop-drop}
use borrow.Author.Tests.{leb-true}
use Rattle.text.proofs.OrderIsTotal.{Which, less, more, equal, which}
use Rattle.meaning.specs.Columns.{object_width, component_width, rank_column, count_column}
use Rattle.meaning.specs.Limit.{object_limit, component_limit, rank_limit}
use Rattle.meaning.specs.Check.{pass}
use Rattle.meaning.specs.Read.{Span}
use Rattle.meaning.specs.Model.{Object}
use Rattle.meaning.specs.Layouts.{Layout}
use Rattle.meaning.specs.Frame.{Reading, reading}
use Rattle.meaning.specs.Rows.{rows, room_for, component_count}
use Rattle.meaning.specs.Asked.{AskedObject, Asked, each_row, asked_object, asked}
use Rattle.meaning.specs.Described.{DescribedObject, Described, described_object, described_objects, described, described_by}
use Rattle.meaning.proofs.AcceptedModel.{ObjectSound, ModelSound, reading-sound}
use Rattle.meaning.proofs.Lengths.{rows-length}
use Rattle.meaning.specs.Every.{Every}
use Rattle.readback.specs.Spelled.{asked_of_object, asked_of_model}
use Rattle.readback.proofs.RowsOfModel.{rows-asked}
use Rattle.shown.specs.Accepted.{Framing}
use Rattle.roundtrip.proofs.WrittenAgain as again
use Rattle.rows.specs.Placed.{objects_at, components_at}
use Rattle.rows.proofs.Describes.{described-none, described-next}
use Rattle.pairs.specs.Objects.{object_at, count_at, Sized}
use Rattle.models.specs.Tables.{Table, start_of, objects_from, object_of}

-- ---- the limits of an accepted file

pub record Within (o : Object Span) : Type 0 where
  pub rank : length o.shape ≤ rank_limit
  pub few : length o.components ≤ component_limit

each_within : (start : ℕ) (os : List (Object Span)) → Every (ObjectSound start) os → Every Within os
each_within start [] h = tt
each_within start (o ∷ os) (h, hs) =
    let ns = map (λ c. c.name.letters) o.components in
    let a : length ns ≤ component_limit = leb-true (length ns) component_limit h.names.few in
    (record { rank = leb-true (length o.shape) rank_limit h.rank; few = omega (arith, a, length-map o.components (λ c. c.name.letters)) }, each_within start os hs)

-- ---- rows that are a model's, by their places

heads : {A : Type 0} {x y : A} {xs ys : List A} → x ∷ xs ≡ y ∷ ys → (x ≡ y) × (xs ≡ ys)
heads e = (cc, cc)

module _ (T : List ℕ) (n : ℕ) where
  -- the objects from j on, whose components begin at q
  pub record From (os : List (Object Span)) (j q : ℕ) : Type 0 where
    pub begins : q ≡ start_of T n j
    pub are : objects_at (length os) (object_width * j) T ≡ map asked_of_object os
    pub within : Every Within os
    pub lie : object_width * (j + length os) ≤ length T
    pub parts : q + component_width * component_count os ≤ length T

  module _ {o : Object Span} {os : List (Object Span)} {j q : ℕ} (f : From (o ∷ os) j q) where
    split : (asked_object (drop (object_width * j) T) ≡ asked_of_object o) × (each_row asked_object object_width (length os) (drop object_width (drop (object_width * j) T)) ≡ map asked_of_object os)
    unfolding each_row
    split = heads f.are

    counts : count_at T (object_width * j) ≡ length o.components
    unfolding asked_object asked_of_object
    counts = sym (get_or-drop (object_width * j) T count_column 0) ∙ ap (λ (a : AskedObject). a.count) split.0

    ranks : get_or T (object_width * j + rank_column) 0 ≡ length o.shape
    unfolding asked_object asked_of_object
    ranks = sym (get_or-drop (object_width * j) T rank_column 0) ∙ ap (λ (a : AskedObject). a.rank) split.0

    from_next : From os (suc j) (q + component_width * length o.components)
    unfolding start_of component_count
    from_next = record {
      begins = ap₂ {A = ℕ} {B = ℕ} (λ x y. x + component_width * y) f.begins (sym counts);
      are =
          let z : object_width * j + object_width ≡ object_width * suc j = omega arith in
          ap (each_row asked_object object_width (length os)) (ap (λ (k : ℕ). drop k T) (sym z) ∙ sym (drop-drop object_width (object_width * j) T)) ∙ split.1;
      within = f.within.1;
      lie = let a = f.lie in omega (arith, a);
      parts = let a = f.parts in omega (arith, a);
    }

    here-sized : Sized T (object_width * j) (start_of T n j)
    unfolding component_count
    here-sized =
        let a = f.lie in
        let p = f.parts in
        let w = f.within.0 in
        let b = f.begins in
        record {
          own = record { lies = omega (arith, a); rank = let x = w.rank in omega (arith, x, ranks) };
          few = let x = w.few in omega (arith, x, counts);
          parts = omega (arith, p, b, counts);
        }

  sized : (os : List (Object Span)) (j q : ℕ) → From os j q → (i : ℕ) → j ≤ i → i < j + length os → Sized T (object_width * i) (start_of T n i)
  sized [] j q f i l k = absurd (omega (arith, l, k))
  sized (o ∷ os) j q f i l k = by (λ w. sized os (suc j) (q + component_width * length o.components) (from_next f) i w (omega (arith, k))) (which i j)
    where
      by : (suc j ≤ i → Sized T (object_width * i) (start_of T n i)) → Which i j → Sized T (object_width * i) (start_of T n i)
      by later (less w) = absurd (omega (arith, w, l))
      by later (more w) = later (omega (arith, w))
      by later (equal w) = rw w (here-sized f)

  joined : (file : List ℕ) (os : List (Object Span)) (j q : ℕ) {k p d : ℕ} → count_at T (object_width * j) ≡ k → suc (length os) - 1 ≡ length os → d ≡ component_count os
      → p ≡ object_width * suc j → q ≡ start_of T n j
      → described_objects file (objects_at (length os) (object_width * suc j) T) (components_at (component_count os) (q + component_width * k) T) ≡ objects_from file T n (suc j) (length os)
      → described_object file (asked_object (drop (object_width * j) T)) (components_at (count_at T (object_width * j)) q T)
      ∷ described_objects file (objects_at (suc (length os) - 1) p T) (components_at d (q + component_width * count_at T (object_width * j)) T)
      ≡ object_of file T n j ∷ objects_from file T n (suc j) (length os)
  unfolding object_at
  joined file os j q c z y x b h =
      ap₂ {A = DescribedObject} {B = List DescribedObject} (λ u v. u ∷ v) (ap (λ (i : ℕ). object_at file T (object_width * j) i) b) (rw (z, y, x, c) h)

  objects-same : (file : List ℕ) (os : List (Object Span)) (j q : ℕ) → From os j q
      → objects_from file T n j (length os) ≡ described_objects file (objects_at (length os) (object_width * j) T) (components_at (component_count os) q T)
  unfolding objects_from component_count
  objects-same file [] j q f = sym (described-none file T T 0 0 (object_width * j) q (omega arith))
  objects-same file (o ∷ os) j q f =
      let k = length o.components in
      let c = counts f in
      let z : suc (length os) - 1 ≡ length os = omega arith in
      let y : k + component_count os - count_at T (object_width * j) ≡ component_count os = omega (arith, c) in
      let x : object_width * j + object_width ≡ object_width * suc j = omega arith in
      let ih = objects-same file os (suc j) (q + component_width * k) (from_next f) in
      sym (described-next file T T (suc (length os)) (k + component_count os) (object_width * j) q (omega arith) (omega (arith, c)) ∙ joined file os j q c z y x f.begins (sym ih))

module _ (L : Layout) (framing : Framing L) (file : List ℕ) (r : Reading) (accepts : reading L file ≡ pass r) (R : List ℕ) where
  abbrev T : List ℕ
  T = rows r.model ++ R

  abbrev n : ℕ
  n = length r.model.objects

  sound : ModelSound r.start r.model
  sound = reading-sound L file _ accepts

  within : Every Within r.model.objects
  within = each_within r.start r.model.objects sound.objects

  ranked : (os : List (Object Span)) → Every Within os → Every (λ o. length o.shape ≤ rank_limit) os
  ranked [] h = tt
  ranked (o ∷ os) (h, hs) = (h.rank, ranked os hs)

  from_first : From T n r.model.objects 0 (object_width * n)
  unfolding start_of asked asked_of_model room_for
  from_first =
      let l = length-append (rows r.model) R in
      let k = rows-length r.model in
      record {
        begins = refl;
        are = ap (λ (a : Asked). a.objects) (rows-asked r.model R (ranked r.model.objects within));
        within = within;
        lie = omega (arith, l, k);
        parts = omega (arith, l, k);
      }

  pub table_of : Table T n
  table_of =
      let ns = map (λ o. o.name.letters) r.model.objects in
      let a : length ns ≤ object_limit = leb-true (length ns) object_limit sound.names.few in
      let f = from_first in
      let l = f.lie in
      record {
        few = omega (arith, a, length-map r.model.objects (λ o. o.name.letters));
        lie = omega (arith, l);
        each = λ j h. sized T n r.model.objects 0 (object_width * n) from_first j (omega arith) (omega (arith, h));
      }

  pub objects-are : objects_from file T n 0 n ≡ (described_by file r.model).objects
  unfolding described asked
  objects-are = objects-same T n file r.model.objects 0 (object_width * n) from_first ∙ ap (λ (d : Described). d.objects) (again.rows-described L framing file r accepts R)
