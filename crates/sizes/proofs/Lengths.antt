-- How long the manifest's pieces are: heads, texts, lists, maps and their fields; and each map by its fields.
use Prim.Native.Nat.{ℕ, zero, suc, ◌+◌, ◌≤◌, ◌<◌}
use native.Mathlib.Omega.{arith}
use mathlib.Core.List.{List, [], ◌∷◌, ◌++◌, map}
use mathlib.Core.Bool.{Bool, true, false, cond, ◌&&◌}
use mathlib.Core.Option.{Option, none, some}
use mathlib.Core.Path.{◌≡◌, refl, ap, ◌∙◌}
use lib.ListN.{length, get_or, length-append}
use lib.Dec.{ltb, eqb}
use borrow.Author.Tests.{ltb-true}
use Rattle.meaning.specs.Text.{ascii, all}
use Rattle.meaning.specs.Read.{Span, joined, bytes_at}
use Rattle.meaning.specs.Notes.{map_option}
use Rattle.meaning.specs.Layouts.{root_names, object_names, component_names}
use Rattle.meaning.specs.Types.{Storage, storages, storage_of}
use Rattle.meaning.specs.Asked.{present_at}
use Rattle.meaning.specs.Sound.{inside}
use Rattle.meaning.specs.Described.{DescribedComponent, DescribedObject, Described}
use Rattle.meaning.specs.Manifest.{head_of, shortest_head, number_bytes, text_bytes, list_bytes, Keyed, given, entry_bytes, map_bytes, component_bytes}
use Rattle.meaning.proofs.Tests.{both_left, both_right}
use Rattle.meaning.proofs.Lengths.{big-length, part_length}
use Rattle.rows.specs.Turns.{begun, entries_from, object_from, objects_from}
use Rattle.rows.proofs.Turns.{manifest-placed}
use Rattle.sizes.specs.Size.{head_size, text_size, when_present, optional_text, optional_copy, dimensions_size}
use Rattle.sizes.specs.Measured.{manifest_length}
use Rattle.sizes.proofs.Heads.{head-one}

-- ---- heads, texts, lists of numbers

pub head-length : (m n : ℕ) → length (shortest_head m n) ≡ head_size n
unfolding shortest_head head_size
head-length m n = by (ltb n 24) (ltb n 256) (ltb n 65_536) (ltb n 4_294_967_296)
  where
    by : (a b c d : Bool) → length (cond a (head_of m n 0 n) (cond b (head_of m 24 1 n) (cond c (head_of m 25 2 n) (cond d (head_of m 26 4 n) (head_of m 27 8 n)))))
        ≡ cond a 1 (cond b 2 (cond c 3 (cond d 5 9)))
    by true b c d = ap suc (big-length 0 n)
    by false true c d = ap suc (big-length 1 n)
    by false false true d = ap suc (big-length 2 n)
    by false false false true = ap suc (big-length 4 n)
    by false false false false = ap suc (big-length 8 n)

pub text-length : (s : List ℕ) → length (text_bytes s) ≡ text_size (length s)
unfolding text_bytes text_size
text-length s = length-append (shortest_head 3 (length s)) s ∙ ap (λ (k : ℕ). k + length s) (head-length 3 (length s))

pub number-length : (n : ℕ) → length (number_bytes n) ≡ head_size n
unfolding number_bytes
number-length n = head-length 0 n

numbers-length : (ns : List ℕ) → length (joined (map number_bytes ns)) ≡ dimensions_size ns
unfolding dimensions_size
numbers-length [] = refl
numbers-length (n ∷ ns) = omega (arith, length-append (number_bytes n) (joined (map number_bytes ns)), number-length n, numbers-length ns)

pub list_length : (ns : List ℕ) → length (list_bytes ns) ≡ head_size (length ns) + dimensions_size ns
unfolding list_bytes
list_length ns = omega (arith, length-append (shortest_head 4 (length ns)) (joined (map number_bytes ns)), head-length 4 (length ns), numbers-length ns)

-- ---- maps

unfoldable pub entries_size : List (Keyed (List ℕ)) → ℕ
entries_size [] = 0
entries_size (e ∷ es) = text_size (length e.key) + length e.value + entries_size es

entries-length : (es : List (Keyed (List ℕ))) → length (joined (map entry_bytes es)) ≡ entries_size es
unfolding entries_size entry_bytes
entries-length [] = refl
entries-length (e ∷ es) =
    omega (
      arith,
      length-append (text_bytes e.key ++ e.value) (joined (map entry_bytes es)),
      length-append (text_bytes e.key) e.value,
      text-length e.key,
      entries-length es,
    )

pub map-length : (es : List (Keyed (List ℕ))) → length (map_bytes es) ≡ head_size (length es) + entries_size es
unfolding map_bytes
map-length es = omega (arith, length-append (shortest_head 5 (length es)) (joined (map entry_bytes es)), head-length 5 (length es), entries-length es)

-- a field under a key that takes so many bytes
abbrev pub field_size : ℕ → Option (List ℕ) → ℕ
field_size key none = 0
field_size key (some v) = key + length v

abbrev fields_size : List (List ℕ) → List (Option (List ℕ)) → ℕ
fields_size [] vs = 0
fields_size (n ∷ ns) [] = 0
fields_size (n ∷ ns) (v ∷ vs) = field_size (text_size (length n)) v + fields_size ns vs

given-size : (ns : List (List ℕ)) (vs : List (Option (List ℕ))) → entries_size (given ns vs) ≡ fields_size ns vs
unfolding entries_size given
given-size [] vs = refl
given-size (n ∷ ns) [] = refl
given-size (n ∷ ns) (none ∷ vs) = omega (arith, given-size ns vs)
given-size (n ∷ ns) (some v ∷ vs) = ap (λ (k : ℕ). text_size (length n) + length v + k) (given-size ns vs)

given-few : (ns : List (List ℕ)) (vs : List (Option (List ℕ))) → length (given ns vs) ≤ length ns
unfolding given
given-few [] vs = omega arith
given-few (n ∷ ns) [] = omega arith
given-few (n ∷ ns) (none ∷ vs) = omega (arith, given-few ns vs)
given-few (n ∷ ns) (some v ∷ vs) = omega (arith, given-few ns vs)

fields-length : (ns : List (List ℕ)) (vs : List (Option (List ℕ))) → length ns < 24 → length (map_bytes (given ns vs)) ≡ 1 + fields_size ns vs
fields-length ns vs h =
    omega (arith, map-length (given ns vs), given-size ns vs, head-one (length (given ns vs)) (omega (arith, h, given-few ns vs)))

module _ (buffer : List ℕ) where
  pub text-field : (key : ℕ) (s : Span) → inside buffer s ≡ true → field_size key (map_option text_bytes (present_at buffer s)) ≡ optional_text key s
  unfolding present_at optional_text when_present
  text-field key s e = by (eqb s.place 0 && eqb s.size 0)
    where
      by : (b : Bool) → field_size key (map_option text_bytes (cond b none (some (bytes_at buffer s)))) ≡ cond b 0 (key + text_size s.size)
      by true = refl
      by false = ap (λ (k : ℕ). key + k) (text-length (bytes_at buffer s) ∙ ap text_size (part_length buffer s e))

  pub copied-field : (key : ℕ) (s : Span) → inside buffer s ≡ true → field_size key (present_at buffer s) ≡ optional_copy key s
  unfolding present_at optional_copy when_present
  copied-field key s e = by (eqb s.place 0 && eqb s.size 0)
    where
      by : (b : Bool) → field_size key (cond b none (some (bytes_at buffer s))) ≡ cond b 0 (key + s.size)
      by true = refl
      by false = ap (λ (k : ℕ). key + k) (part_length buffer s e)

  pub text-there : (s : Span) → inside buffer s ≡ true → text_size (length (bytes_at buffer s)) ≡ text_size s.size
  text-there s e = ap text_size (part_length buffer s e)

-- ---- each map by its fields

all-at : {A : Type 0} (p : A → Bool) (l : List A) (d : A) (n : ℕ) → all p l ≡ true → p d ≡ true → p (get_or l n d) ≡ true
all-at p [] d n e f = f
all-at p (a ∷ l) d zero e f = both_left (p a) (all p l) e
all-at p (a ∷ l) d (suc n) e f = all-at p l d n (both_right (p a) (all p l) e) f

called-short : (c : ℕ) → length (storage_of c).called < 24
unfolding storage_of storages
called-short c = ltb-true _ 24 (all-at (λ (s : Storage). ltb (length s.called) 24) storages (record { called = []; width = 0 }) c refl refl)

text-small : (n : ℕ) → n < 24 → text_size n ≡ 1 + n
unfolding text_size
text-small n h = omega (arith, head-one n h)

pub called-size : (c : ℕ) → length (text_bytes (storage_of c).called) ≡ 1 + length (storage_of c).called
called-size c = text-length (storage_of c).called ∙ text-small (length (storage_of c).called) (called-short c)

pub component_bytes_lem : (offset : ℕ) (d : DescribedComponent) → length (component_bytes offset d)
    ≡ 21 + length (text_bytes (storage_of d.dtype).called) + field_size 5 (map_option text_bytes d.type) + length (number_bytes offset)
    + length (number_bytes (length d.blob)) + field_size 7 (map_option text_bytes d.digest)
unfolding component_bytes text_size head_size
component_bytes_lem offset d =
    fields-length component_names
    (some (text_bytes (storage_of d.dtype).called) ∷ map_option text_bytes d.type ∷ some (number_bytes offset) ∷ some (number_bytes (length d.blob))
    ∷ none ∷ none ∷ map_option text_bytes d.digest ∷ []) (omega arith)
    ∙ omega arith

pub object-bytes : (plan : List ℕ) (n : ℕ) (d : DescribedObject) → length (object_from plan n d)
    ≡ 25 + length (list_bytes d.shape) + length (text_bytes d.format) + field_size 11 d.attributes + length (map_bytes (entries_from plan n d.components))
unfolding object_from text_size head_size
object-bytes plan n d =
    fields-length object_names
    (some (list_bytes d.shape) ∷ some (text_bytes d.format) ∷ d.attributes ∷ some (map_bytes (entries_from plan n d.components)) ∷ []) (omega arith)
    ∙ omega arith

pub manifest-bytes : (plan : List ℕ) (d : Described) → manifest_length plan d ≡ 23 + field_size 11 d.attributes + length (map_bytes (objects_from plan (begun plan) d.objects))
unfolding text_size head_size
manifest-bytes plan d =
    ap length (manifest-placed plan d)
    ∙ fields-length root_names (some (text_bytes (ascii "1.2.0")) ∷ d.attributes ∷ some (map_bytes (objects_from plan (begun plan) d.objects)) ∷ []) (omega arith)
    ∙ omega (arith, text-length (ascii "1.2.0"))
