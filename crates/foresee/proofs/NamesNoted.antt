-- Names noted row by row, and judged together.
use Prim.Native.Nat.{ℕ, zero, suc, ◌+◌, ◌-◌, ◌*◌, ◌≤◌, ◌<◌, min}
use native.Mathlib.Omega.{arith}
use mathlib.Core.List.{List, [], ◌∷◌, ◌++◌, map}
use mathlib.Core.Bool.{Bool, true, false, not}
use mathlib.Core.Logic.{⊎_elim}
use mathlib.Core.Path.{◌≡◌, refl, sym, ap, ◌∙◌}
use lib.ListN.{length, take, drop, get_or, length-append, drop_of_length-le}
use lib.Seq.{get_or-drop, take_all, take-nil}
use lib.Dec.{leb}
use borrow.Author.Tests.{not-true, not-false, le-leb, lt-leb, leb-true}
use Rattle.meaning.specs.Columns.{object_width, component_width, name_column}
use Rattle.endian.proofs.Which.{lt-or}
use Rattle.meaning.specs.Text.{all, utf8, distinct}
use Rattle.meaning.specs.Refusal.{TEXT, COUNT, TWICE}
use Rattle.meaning.specs.Check.{pass, ◌>>◌, ◌unless◌}
use Rattle.meaning.specs.Read.{bytes_at}
use Rattle.meaning.specs.Asked.{AskedComponent, each_row, span_at, asked_object, asked_component}
use Rattle.meaning.specs.Described.{described_component, described_object, described_objects}
use Rattle.meaning.proofs.Lengths.{each-row-length}
use Rattle.meaning.proofs.Tests.{and-false, false-not}
use Rattle.names.specs.Names.{name, listed}
use Rattle.walk.specs.Put.{put}
use Rattle.walk.proofs.Puts.{length-put}
use Rattle.naming.proofs.NameNoted.{all_snoc, one_more}
use Rattle.rows.proofs.EachRow.{next-row-at, some-rows, split_rows}
use Rattle.readback.specs.Judged.{judged_names}
use Rattle.foresee.specs.Names.{names_of, Noted, NotedOr}
use Rattle.std.specs.Prelude.{Ok, Err}
use Rattle.numbers.specs.declared.refusal.Refusal.TheVariants as refusals
use Rattle.numbers.specs.Answered.{answered}

-- what is left at a place gives the place back, as far as bytes go
left_at : (buffer : List ℕ) (place k : ℕ) → take k (drop (length buffer - (length buffer - place)) buffer) ≡ take k (drop place buffer)
left_at buffer place k = ⊎_elim within past (lt-or place (length buffer))
  where
    within : place < length buffer → take k (drop (length buffer - (length buffer - place)) buffer) ≡ take k (drop place buffer)
    within h = let z : length buffer - (length buffer - place) ≡ place = omega (arith, h) in ap (λ (n : ℕ). take k (drop n buffer)) z

    past : length buffer ≤ place → take k (drop (length buffer - (length buffer - place)) buffer) ≡ take k (drop place buffer)
    past h =
        let z : length buffer ≤ length buffer - (length buffer - place) = omega (arith, h) in
        ap (take k) (drop_of_length-le buffer {i = length buffer - (length buffer - place)} z ∙ sym (drop_of_length-le buffer {i = place} h))

all-with-odd : (p : List ℕ → Bool) (l : List (List ℕ)) (a : List ℕ) (r : List (List ℕ)) → p a ≡ false → all p (l ++ a ∷ r) ≡ false
all-with-odd p [] a r e = rw e refl
all-with-odd p (x ∷ l) a r e = rw (all-with-odd p l a r e) (and-false (p x))

abbrev name_in : List ℕ → List ℕ → List ℕ
name_in buffer row = bytes_at buffer (span_at row name_column)

-- the loop that notes the names of n rows of a width: i of them are noted, and the next row stands at `at`; as many names have room as at first
pub record Noting (buffer rows : List ℕ) (width n : ℕ) (left₀ left size : List ℕ) (at i : ℕ) : Type 0 where
  pub at_row : at ≡ width * i
  pub within : i ≤ n
  pub same-room : length left ≡ length left₀
  pub noted : Noted buffer (names_of buffer width i rows) left size

module _ {buffer rows : List ℕ} {width n : ℕ} where
  pub none-noted : {left size : List ℕ} → length size ≡ length left → Noting buffer rows width n left left size (width * 0) 0
  unfolding names_of each_row listed
  none-noted {left} e =
      let z : min 0 (length left) ≡ 0 = omega arith in
      record {
        at_row = refl;
        within = omega arith;
        same-room = refl;
        noted = record { texts = refl; same-room = e; listed-are = rw z (sym (take-nil {A = List ℕ} (length left))) };
      }

  module _ {left₀ left size : List ℕ} {at i : ℕ} (w : Noting buffer rows width n left₀ left size at i) where
    pub all_noted : n ≤ i → NotedOr buffer (names_of buffer width n rows) left size true
    all_noted h = let z : i ≡ n = (let k = w.within in omega (arith, h, k)) in record { well = λ e. rw z at w.noted; odd = λ e. absurd (false-not (sym e)) }

    module _ (more : i < n) where
      abbrev place : ℕ
      place = get_or rows at 0

      abbrev long : ℕ
      long = get_or rows (at + 1) 0

      -- its bytes are s, and `utf8` said u of them
      module _ {s : List ℕ} (part : s ≡ take long (drop place buffer)) {u : Bool} (text : u ≡ utf8 s) where
        this-name : name_in buffer (drop (width * i) rows) ≡ s
        this-name = let z : at + 0 ≡ at = omega arith in rw (← w.at_row, get_or-drop at rows 0 0, get_or-drop at rows 1 0, z) (sym part)

        pub odd-name : not u ≡ true → NotedOr buffer (names_of buffer width n rows) left size false
        unfolding names_of
        odd-name e = record { well = λ e. absurd (false-not e); odd = λ z. all-odd }
          where
            odd : utf8 (name_in buffer (drop (0 + width * i) rows)) ≡ false
            odd = let z : 0 + width * i ≡ width * i = omega arith in rw (z, this-name) (sym text ∙ not-true u e)

            all-odd : all utf8 (each_row (name_in buffer) width n rows) ≡ false
            all-odd =
                ap (all utf8) (split_rows (name_in buffer) width n i 0 rows (omega (arith, more))
                ∙ ap (λ (l : List (List ℕ)). each_row (name_in buffer) width i rows ++ l) (next-row-at (name_in buffer) width (n - i) (0 + width * i) rows (omega (arith, more))))
                ∙ all-with-odd utf8 (each_row (name_in buffer) width i rows) (name_in buffer (drop (0 + width * i) rows)) _ odd

        module _ (fine : not u ≡ false) where
          abbrev before : List (List ℕ)
          before = names_of buffer width i rows

          one-name-more : names_of buffer width (i + 1) rows ≡ before ++ s ∷ []
          unfolding names_of each_row
          one-name-more = some-rows (name_in buffer) width i 1 rows ∙ ap (λ (w : List ℕ). each_row (name_in buffer) width i rows ++ w ∷ []) this-name

          count : length before ≡ i
          unfolding names_of
          count = each-row-length (name_in buffer) width i rows

          noted-next : Noted buffer (names_of buffer width (i + 1) rows) (put left i (length buffer - place)) (put size i long)
          noted-next =
              let h = w.noted in
              record {
                texts = rw (one-name-more, all_snoc utf8 before s, h.texts, ← text, not-false u fine) refl;
                same-room = length-put size i long ∙ h.same-room ∙ sym (length-put left i (length buffer - place));
                listed-are =
                    let k : length (before ++ s ∷ []) ≡ i + 1 = omega (arith, length-append before (s ∷ []), count) in
                    rw (one-name-more, k)
                    (one_more buffer left size h.same-room i (length buffer - place) long before s count (left_at buffer place long ∙ sym part) (rw count at h.listed-are));
              }

          pub one-more-noted : {l : ℕ} → l ≡ length buffer - place → {left' size' : List ℕ} → left' ≡ put left i l → size' ≡ put size i long
              → Noting buffer rows width n left₀ left' size' (at + width) (i + 1)
          one-more-noted {l} e f g = record {
            at_row = (let k = w.at_row in omega (arith, k));
            within = omega (arith, more);
            same-room = ap length f ∙ length-put left i l ∙ w.same-room;
            noted = rw (f, g, e) noted-next;
          }

-- ---- judged

module _ (limit : ℕ) (ns : List (List ℕ)) where
  -- of which `note` said r
  pub odd-names : {buffer left size : List ℕ} {r : Bool} → NotedOr buffer ns left size r → not r ≡ true → judged_names limit ns ≡ answered (Err refusals.Text)
  unfolding judged_names
  odd-names {r = r} noted e = rw (noted.odd (not-true r e)) refl

  pub few-names : judged_names limit ns ≡ pass tt → length ns ≤ limit
  unfolding judged_names
  few-names e = by (all utf8 ns) (leb (length ns) limit) refl e
    where
      by : (a b : Bool) → leb (length ns) limit ≡ b → (TEXT unless a >> (COUNT unless b >> TWICE unless distinct ns)) ≡ pass tt → length ns ≤ limit
      by false b l h = absurd (let z : ◌≡◌ {A = ℕ} 0 1 = cc in omega arith)
      by true false l h = absurd (let z : ◌≡◌ {A = ℕ} 0 1 = cc in omega arith)
      by true true l h = leb-true (length ns) limit l

  module _ (text : all utf8 ns ≡ true) where
    many-names : limit < length ns → judged_names limit ns ≡ answered (Err refusals.Count)
    unfolding judged_names
    many-names h = rw (text, lt-leb (length ns) limit h) refl

    module _ (few : length ns ≤ limit) where
      names-once : distinct ns ≡ true → judged_names limit ns ≡ answered (Ok tt)
      unfolding judged_names
      names-once e = rw (text, le-leb (length ns) limit few, e) refl

      name-twice : distinct ns ≡ false → judged_names limit ns ≡ answered (Err refusals.Twice)
      unfolding judged_names
      name-twice e = rw (text, le-leb (length ns) limit few, e) refl

-- the names of n rows, of which `note` said r, in arrays of this room
module _ {buffer left size : List ℕ} (rows : List ℕ) (width n room : ℕ) {r : Bool} (noted : NotedOr buffer (names_of buffer width n rows) left size r) (fine : not r ≡ false) (roomy : length left ≡ room) where
  abbrev names : List (List ℕ)
  names = names_of buffer width n rows

  these-noted : Noted buffer names left size
  these-noted = noted.well (not-false r fine)

  as_many : length names ≡ n
  unfolding names_of
  as_many = each-row-length (name_in buffer) width n rows

  pub too_many : length left < n → judged_names room names ≡ answered (Err refusals.Count)
  too_many l = many-names room names these-noted.texts (omega (arith, l, as_many, roomy))

  -- and `no_twice` said once
  module _ (few : n ≤ length left) {once : Bool} (by : once ≡ distinct (listed (name buffer left size) 0 n)) where
    these : distinct names ≡ once
    these =
        let z : min n (length left) ≡ n = omega (arith, few) in
        sym (by ∙ ap distinct (rw (as_many, z) at these-noted.listed-are ∙ take_all (length left) names (omega (arith, few, as_many))))

    pub all_once : once ≡ true → judged_names room names ≡ answered (Ok tt)
    all_once e = names-once room names these-noted.texts (omega (arith, few, as_many, roomy)) (these ∙ e)

    pub one-twice : once ≡ false → judged_names room names ≡ answered (Err refusals.Twice)
    one-twice e = name-twice room names these-noted.texts (omega (arith, few, as_many, roomy)) (these ∙ e)

-- ---- whose names they are

pub component-names : (buffer : List ℕ) (n : ℕ) (rows : List ℕ) → map (λ c. c.name) (map (described_component buffer) (each_row asked_component component_width n rows)) ≡ names_of buffer component_width n rows
unfolding names_of each_row described_component asked_component
component-names buffer zero rows = refl
component-names buffer (suc n) rows = ap {B = List (List ℕ)} (λ l. name_in buffer rows ∷ l) (component-names buffer n (drop component_width rows))

pub object-names : (buffer : List ℕ) (n : ℕ) (rows : List ℕ) (cs : List AskedComponent)
    → map (λ o. o.name) (described_objects buffer (each_row asked_object object_width n rows) cs) ≡ names_of buffer object_width n rows
unfolding names_of each_row described_objects described_object asked_object
object-names buffer zero rows cs = refl
object-names buffer (suc n) rows cs = ap {B = List (List ℕ)} (λ l. name_in buffer rows ∷ l) (object-names buffer n (drop object_width rows) (drop (asked_object rows).count cs))
