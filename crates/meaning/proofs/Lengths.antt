-- How long things are: parts of lists and of files, numbers written as bytes, rows. Assumes nothing.
use Prim.Native.Nat.{ℕ, zero, suc, ◌+◌, ◌*◌, ◌/◌, ◌%◌, ◌^◌, ◌≤◌, ◌<◌}
use native.Mathlib.Omega.{arith}
use mathlib.Core.List.{List, [], ◌∷◌, ◌++◌, map}
use mathlib.Core.Bool.{true}
use mathlib.Core.Path.{◌≡◌, refl, ap, ◌∙◌}
use lib.ListN.{length, take, drop, replicate, length-append, length-drop, length-replicate}
use lib.Seq.{length-take-le}
use borrow.Author.Tests.{leb-true}
use mir.Val.{Fits}
use mir.Syntax.{w64}
use Rattle.meaning.specs.Read.{Span, bytes_at}
use Rattle.meaning.specs.Encoding.{big}
use Rattle.meaning.specs.Columns.{object_width, component_width}
use Rattle.meaning.specs.Model.{Component, Object, Model}
use Rattle.meaning.specs.Rows.{dimensions, object_row, component_row, object_rows, rows_of, component_rows, rows, component_count, room_for}
use Rattle.meaning.specs.Asked.{AskedObject, AskedComponent, each_row}
use Rattle.meaning.specs.Described.{described_objects}
use Rattle.meaning.specs.Sound.{inside}
use Rattle.meaning.specs.Placement.{aligned}
use Rattle.meaning.specs.WrittenFile.{little_bytes}

-- ---- places

-- a place inside what is lent is a number of 64 bits: what lending tells comes first, so that `search` knows the list
pub place-fits : (n : ℕ) (s : List ℕ) → length s < 2 ^ 64 → n ≤ length s → Fits w64 n
place-fits n s small inside = record { fits = omega arith }

-- ---- lists

pub none_left : {A : Type 0} (l : List A) → length l ≡ 0 → l ≡ []
none_left [] h = refl
none_left (a ∷ l) h = absurd (omega arith)

pub take-shorter : {A : Type 0} (n : ℕ) (l : List A) → length (take n l) ≤ length l
take-shorter zero l = omega arith
take-shorter (suc n) [] = omega arith
take-shorter (suc n) (a ∷ l) = omega (arith, take-shorter n l)

pub drop-shorter : {A : Type 0} (n : ℕ) (l : List A) → length (drop n l) ≤ length l
drop-shorter zero l = omega arith
drop-shorter (suc n) [] = omega arith
drop-shorter (suc n) (a ∷ l) = omega (arith, drop-shorter n l)

pub map_both : {A B : Type 0} (f : A → B) (xs ys : List A) → map f (xs ++ ys) ≡ map f xs ++ map f ys
map_both f [] ys = refl
map_both {A} {B} f (x ∷ xs) ys = ap (λ (r : List B). f x ∷ r) (map_both f xs ys)

-- ---- bytes

pub part_length : (buffer : List ℕ) (s : Span) → inside buffer s ≡ true → length (bytes_at buffer s) ≡ s.size
unfolding inside
part_length buffer s e =
    let h = leb-true (s.place + s.size) (length buffer) e in
    length-take-le s.size (drop s.place buffer) (omega (arith, h, length-drop s.place buffer))

pub big-length : (w n : ℕ) → length (big w n) ≡ w
unfolding big
big-length zero n = refl
big-length (suc w) n = ap suc (big-length w (n % 256 ^ w))

pub little-length : (k n : ℕ) → length (little_bytes k n) ≡ k
unfolding little_bytes
little-length zero n = refl
little-length (suc k) n = ap suc (little-length k (n / 256))

pub aligned-above : (n : ℕ) → n ≤ aligned n
unfolding aligned
aligned-above n = omega arith

-- ---- rows that are read

pub each-row-length : {A : Type 0} (read : List ℕ → A) (width n : ℕ) (s : List ℕ) → length (each_row read width n s) ≡ n
unfolding each_row
each-row-length read width zero s = refl
each-row-length read width (suc n) s = ap suc (each-row-length read width n (drop width s))

pub described-counted : (buffer : List ℕ) (os : List AskedObject) (cs : List AskedComponent) → length (described_objects buffer os cs) ≡ length os
unfolding described_objects
described-counted buffer [] cs = refl
described-counted buffer (o ∷ os) cs = ap suc (described-counted buffer os (drop o.count cs))

-- ---- rows of a model

pub dimensions-length : (s : List ℕ) → length (dimensions s) ≡ 8
unfolding dimensions
dimensions-length s = length-take-le 8 (s ++ replicate 8 0) (omega (arith, length-append s (replicate 8 0), length-replicate {A = ℕ} 8 0))

pub object-length : (o : Object Span) → length (object_row o) ≡ object_width
unfolding object_row
object-length o = ap (λ (n : ℕ). suc (suc (suc n))) (length-append (dimensions o.shape) _ ∙ ap (λ (n : ℕ). n + 5) (dimensions-length o.shape))

pub objects-length : (os : List (Object Span)) → length (object_rows os) ≡ object_width * length os
unfolding object_rows
objects-length [] = refl
objects-length (o ∷ os) = omega (arith, length-append (object_row o) (object_rows os), object-length o, objects-length os)

pub parts-length : (i : ℕ) (cs : List (Component Span)) → length (rows_of i cs) ≡ component_width * length cs
unfolding rows_of component_row
parts-length i [] = refl
parts-length i (c ∷ cs) = omega (arith, parts-length i cs)

pub components-length : (i : ℕ) (os : List (Object Span)) → length (component_rows i os) ≡ component_width * component_count os
unfolding component_rows component_count
components-length i [] = refl
components-length i (o ∷ os) =
    omega (arith, length-append (rows_of i o.components) (component_rows (suc i) os), parts-length i o.components, components-length (suc i) os)

pub rows-length : (m : Model Span) → length (rows m) ≡ object_width * length m.objects + component_width * component_count m.objects
unfolding rows
rows-length m = omega (arith, length-append (object_rows m.objects) (component_rows 0 m.objects), objects-length m.objects, components-length 0 m.objects)

pub rows_fill : (m : Model Span) → length (rows m) ≡ room_for m
unfolding room_for
rows_fill m = rows-length m

pub count-snoc : {P : Type 0} (os : List (Object P)) (o : Object P) → component_count (os ++ o ∷ []) ≡ component_count os + length o.components
unfolding component_count
count-snoc [] o = omega arith
count-snoc (x ∷ os) o = let ih = count-snoc os o in omega (arith, ih)
