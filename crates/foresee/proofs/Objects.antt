-- One object judged part by part, and objects one after the other.
use Prim.Native.Nat.{ℕ, suc, ◌+◌, ◌-◌, ◌*◌, ◌^◌, ◌≤◌, ◌<◌}
use native.Mathlib.Omega.{arith}
use mathlib.Core.List.{List, ◌∷◌, map}
use mathlib.Core.Bool.{Bool, true, false, not}
use mathlib.Core.Path.{◌≡◌, refl, ap, ◌∙◌}
use lib.ListN.{length, take, drop, get_or, length-drop}
use lib.Seq.{get_or-drop}
use mir.Syntax.{w64}
use mir.Val.{Fits as FitsIn}
use borrow.Author.Rules.{part_to_end}
use borrow.Author.Tests.{not-true, not-false}
use Rattle.meaning.specs.Columns.{object_width, component_width, rank_column, shape_column, format_column, format_length_column, count_column}
use Rattle.meaning.specs.Check.{Check, pass, refuse, ◌>>◌, in_object, in_component, each}
use Rattle.meaning.specs.Text.{all, utf8}
use Rattle.meaning.specs.Format.{format_rules}
use Rattle.meaning.specs.Read.{Span}
use Rattle.meaning.specs.Asked.{AskedComponent, each_row, asked_object, asked_component, asked, present_at}
use Rattle.meaning.specs.Described.{DescribedComponent, DescribedObject, described_component, described_object, described_objects, described}
use Rattle.meaning.specs.Sound.{object_sound, rows_sound}
use Rattle.meaning.proofs.Lengths.{each-row-length}
use Rattle.readback.specs.Judged.{judged_names, judged_component, part_of, judged_object, judged_objects, deep_option, any_too_deep, too_deep, judged}
use Rattle.rows.specs.Placed.{objects_at, components_at}
use Rattle.rows.specs.Turns.{counted}
use Rattle.rows.proofs.EachRow.{first_so, others-so}
use Rattle.rows.proofs.Describes.{described-none, described-next, counted_next, rows-counted}
use Rattle.rows.proofs.SoundRow.{object-rank-small}
use Rattle.rows.proofs.Whole.{sound-lies, sound-objects}
use Rattle.foresee.specs.Foretold.{each_component, each_object, objects_of, Counted}
use Rattle.foresee.specs.Names.{names_of}
use Rattle.foresee.proofs.NamesNoted.{few-names, component-names, object-names}
use Rattle.foresee.proofs.Components.{goes_on, stops}
use Rattle.std.specs.Prelude.{Ok, Err, Result}
use Rattle.numbers.specs.declared.refusal.Refusal.{Refusal}
use Rattle.numbers.specs.declared.fault.ObjectFault.{ObjectFault}
use Rattle.numbers.specs.declared.fault.FileFault.{FileFault}
use Rattle.numbers.specs.declared.refusal.Refusal.TheVariants as refusals
use Rattle.numbers.specs.Answered as answers
use Rattle.numbers.specs.Answered.{answered}
use Rattle.numbers.specs.Answered.{in_file}
use Rattle.numbers.specs.Numbered.{number_of}

-- ---- one object, with n components

-- its format's text is s, of which `utf8` said u
module _ (buffer row rows : List ℕ) (n : ℕ) {s : List ℕ} (part : s ≡ take (get_or row format_length_column 0) (drop (get_or row format_column 0) buffer)) {u : Bool} (text : u ≡ utf8 s) where
  abbrev verdict : Check (Unit {0})
  verdict = judged_object (described_object buffer (asked_object row) (each_row asked_component component_width n rows))

  abbrev parts : List DescribedComponent
  parts = map (described_component buffer) (each_row asked_component component_width n rows)

  pub odd-format : not u ≡ true → (k : ObjectFault) → k ≡ record { refusal = refusals.Text; component = 0 } → verdict ≡ answers.in_object (Err k)
  unfolding judged_object described_object asked_object
  odd-format e k is-k = rw is-k (rw (← part, ← text, not-true u e) refl)

  -- `names` said r of its components' names, `components` q of each
  module _ (fine : not u ≡ false) (r : Result (Unit {0}) Refusal) (named : judged_names 16 (names_of buffer component_width n rows) ≡ answered r) where
    pub odd-names : (k : Refusal) → r ≡ Err k → (q : Result (Unit {0}) ObjectFault) → q ≡ Err (record { refusal = k; component = 0 }) → verdict ≡ answers.in_object q
    unfolding judged_object described_object asked_object
    odd-names k e q is-q = rw is-q (rw (← part, ← text, not-false u fine, component-names buffer n rows, named, e) refl)

    module _ (well : r ≡ (Ok tt)) (q : Result (Unit {0}) ObjectFault) (judged : each_component 0 parts ≡ answers.in_object q) where
      last-parts : verdict ≡ (each_component 0 parts >> format_rules s (asked_object row).shape (map part_of parts))
      unfolding judged_object described_object asked_object each_component
      last-parts =
          rw (← part, ← text, not-false u fine, component-names buffer n rows, named, well)
          (by (each (λ j c. in_component j (judged_component c)) 0 parts) (format_rules s (take (get_or row rank_column 0) (drop shape_column row)) (map part_of parts)))
        where
          by : (c : Check (List (Unit {0}))) (d : Check (Unit {0})) → (c >> d) ≡ (◌>>◌ {B = Unit {0}} c (pass tt) >> d)
          by (pass us) d = refl
          by (refuse n o k) d = refl

      pub odd-component : (f : ObjectFault) → q ≡ Err f → (z : Result (Unit {0}) ObjectFault) → z ≡ Err f → verdict ≡ answers.in_object z
      odd-component f e z is-z = rw is-z (last-parts ∙ (rw (judged, e) refl))

      pub by-format : q ≡ (Ok tt) → (z : Result (Unit {0}) ObjectFault) → format_rules s (asked_object row).shape (map part_of parts) ≡ answers.in_object z → verdict ≡ answers.in_object z
      by-format e z ruled = last-parts ∙ (rw (judged, e) ruled)

pub few-components : (buffer rows : List ℕ) (n : ℕ) {r : Result (Unit {0}) Refusal} → judged_names 16 (names_of buffer component_width n rows) ≡ answered r → r ≡ (Ok tt) → n ≤ 16
unfolding names_of
few-components buffer rows n named well =
    omega
    (arith, few-names 16 (names_of buffer component_width n rows) (named ∙ ap answered well), each-row-length (λ (row : List ℕ). take (get_or row 1 0) (drop (get_or row 0 0) buffer)) component_width n rows)

-- ---- one object after the other

-- the loop over n objects' rows: from object i on, whose row stands at `at`, with `due` components to go from the place `from` on
abbrev of_all : List ℕ → List ℕ → ℕ → List ℕ → ℕ → Check (Unit {0})
of_all buffer rows n rest components = each_object 0 (objects_of buffer rows n rest components)

pub record Judging (buffer rows : List ℕ) (n : ℕ) (rest : List ℕ) (components at from due i : ℕ) : Type 0 where
  pub lie : at + object_width * (n - i) ≤ length rows
  pub lie-rest : from + component_width * due ≤ length rest
  pub adds-up : counted (objects_at (n - i) at rows) ≡ due
  pub sound : all (object_sound buffer) (objects_at (n - i) at rows) ≡ true
  pub so_far : of_all buffer rows n rest components ≡ each_object i (objects_of buffer (drop at rows) (n - i) (drop from rest) due)

module _ {buffer rows : List ℕ} {n : ℕ} {rest : List ℕ} {components : ℕ} where
  pub objects-begin : Counted buffer rows n rest components → Judging buffer rows n rest components 0 0 components 0
  objects-begin c =
      let z : n - 0 ≡ n = omega arith in
      record {
        lie = (let h = c.enough in omega (arith, h));
        lie-rest = (let h = c.enough-rest in omega (arith, h));
        adds-up = rw z c.adds-up;
        sound = rw z c.sound;
        so_far = rw z refl;
      }

  module _ {at from due i : ℕ} (w : Judging buffer rows n rest components at from due i) where
    pub objects-end : n ≤ i → of_all buffer rows n rest components ≡ in_file (Ok tt)
    unfolding each_object objects_of
    objects-end h = w.so_far ∙ rw (described-none buffer rows rest (n - i) due at from (omega (arith, h))) refl

    module _ (more : i < n) where
      abbrev count : ℕ
      count = get_or rows (at + count_column) 0

      some_left : 0 < n - i
      some_left = omega (arith, more)

      pub count-due : count ≤ due
      count-due = let h = w.adds-up in omega (arith, h, counted_next rows (n - i) at some_left)

      -- its components' rows lie among all
      module _ (room : length rest * 8 < 2 ^ 63) where
        pub rows_fit : FitsIn w64 (component_width * count)
        rows_fit = record { fits = (let h = w.lie-rest in omega (arith, h, room, count-due)) }

        pub end_fits : FitsIn w64 (from + component_width * count)
        end_fits = record { fits = (let h = w.lie-rest in omega (arith, h, room, count-due)) }

      abbrev one : ℕ → DescribedObject → Check (Unit {0})
      one i o = in_object i (judged_object o)

      abbrev this : DescribedObject
      this = described_object buffer (asked_object (drop at rows)) (components_at count from rest)

      abbrev others : List DescribedObject
      others = objects_of buffer (drop (at + object_width) rows) (n - i - 1) (drop (from + component_width * count) rest) (due - count)

      -- its row and its components' as they are lent
      abbrev row : List ℕ
      row = take (length rows - at) (drop at rows)

      abbrev theirs : List ℕ
      theirs = take (length rest - from) (drop from rest)

      abbrev lent : DescribedObject
      lent = described_object buffer (asked_object row) (each_row asked_component component_width (get_or row count_column 0) theirs)

      as_lent : this ≡ lent
      as_lent = rw (part_to_end rows at, part_to_end rest from, get_or-drop at rows count_column 0) refl

      pub row-lent : object_width ≤ length row
      row-lent = let l = w.lie in rw part_to_end (omega (arith, more, l, length-drop at rows))

      pub rank-small : get_or row rank_column 0 ≤ 8
      unfolding asked_object
      rank-small = rw part_to_end (object-rank-small buffer (asked_object (drop at rows)) (first_so (object_sound buffer) asked_object object_width (n - i) at rows some_left w.sound))

      pub rows-lent : component_width * get_or row count_column 0 ≤ length theirs
      rows-lent = let l = w.lie-rest in rw (part_to_end rows at, part_to_end rest from) (omega (arith, count-due, l, get_or-drop at rows count_column 0, length-drop from rest))

      first-and-others : objects_of buffer (drop at rows) (n - i) (drop from rest) due ≡ this ∷ others
      unfolding objects_of
      first-and-others = described-next buffer rows rest (n - i) due at from some_left count-due

      module _ (r : Result (Unit {0}) ObjectFault) (judges : judged_object lent ≡ answers.in_object r) where
        pub object-faulty : (f : ObjectFault) → r ≡ Err f → of_all buffer rows n rest components ≡ in_file (Err (record { refusal = f.refusal; object = i; component = f.component }))
        unfolding each_object
        object-faulty f e = w.so_far ∙ rw first-and-others (stops one i this others (number_of f.refusal) i f.component (ap (in_object i) (ap judged_object as_lent ∙ judges ∙ ap answers.in_object e)))

        pub object-passes : r ≡ (Ok tt) → Judging buffer rows n rest components (at + object_width) (from + component_width * count) (due - count) (i + 1)
        unfolding each_object
        object-passes e =
            let y : suc i ≡ i + 1 = omega arith in
            let z : n - (i + 1) ≡ n - i - 1 = omega (arith, more) in
            record {
              lie = (let l = w.lie in omega (arith, more, l));
              lie-rest = (let l = w.lie-rest in omega (arith, count-due, l));
              adds-up = rw z (let h = w.adds-up in omega (arith, h, counted_next rows (n - i) at some_left));
              sound = rw z (others-so (object_sound buffer) asked_object object_width (n - i) at rows some_left w.sound);
              so_far =
                  rw (z, ← y) (w.so_far ∙ rw first-and-others (goes_on one i this others (ap (in_object i) (ap judged_object as_lent ∙ judges ∙ ap answers.in_object e))));
            }

-- ---- names, then objects

module _ (buffer rows : List ℕ) (n : ℕ) (rest : List ℕ) (components : ℕ) (r : Result (Unit {0}) Refusal) (named : judged_names 1024 (names_of buffer object_width n rows) ≡ answered r) where
  abbrev objects : List DescribedObject
  objects = objects_of buffer rows n rest components

  pub odd-objects : (k : Refusal) → r ≡ Err k → (q : Result (Unit {0}) FileFault) → q ≡ Err (record { refusal = k; object = 0; component = 0 }) → judged_objects objects ≡ in_file q
  unfolding judged_objects objects_of
  odd-objects k e q is-q = rw is-q (rw (object-names buffer n rows (each_row asked_component component_width components rest), named, e) refl)

  pub by-objects : r ≡ (Ok tt) → (f : Result (Unit {0}) FileFault) → each_object 0 objects ≡ in_file f → judged_objects objects ≡ in_file f
  unfolding judged_objects objects_of each_object
  by-objects e f each = rw (object-names buffer n rows (each_row asked_component component_width components rest), named, e) each

-- ---- the whole

module _ (buffer rows : List ℕ) (objects components place size : ℕ) where
  abbrev range : Span
  range = record { place = place; size = size }

  abbrev foreseen : Check (Unit {0})
  foreseen = judged (described buffer (asked rows objects components range))

  -- `deep` said d of the root's attributes, `any_deep` a of the objects', whatever their components
  module _ {d : Bool} (root : d ≡ deep_option 31 (present_at buffer range)) where
    pub root-deep : d ≡ true → (k : FileFault) → k ≡ record { refusal = refusals.Deep; object = 0; component = 0 } → foreseen ≡ in_file (Err k)
    unfolding judged too_deep described asked
    root-deep e k is-k = rw is-k (rw (← root, e) refl)

    module _ (fine : d ≡ false) {a : Bool} (any : (cs : List AskedComponent) → a ≡ any_too_deep (described_objects buffer (each_row asked_object object_width objects rows) cs)) where
      deep-there : a ≡ any_too_deep (described_objects buffer (each_row asked_object object_width objects rows) (components_at components (object_width * objects) rows))
      deep-there = any (components_at components (object_width * objects) rows)

      pub object-deep : a ≡ true → (k : FileFault) → k ≡ record { refusal = refusals.Deep; object = 0; component = 0 } → foreseen ≡ in_file (Err k)
      unfolding judged too_deep described asked
      object-deep e k is-k = rw is-k (rw (← root, fine, ← deep-there, e) refl)

      -- `judge` was lent the components' rows to the end of all rows
      pub none-too-deep : a ≡ false → (f : Result (Unit {0}) FileFault) → judged_objects (objects_of buffer rows objects (take (length rows - object_width * objects) (drop (object_width * objects) rows)) components) ≡ in_file f → foreseen ≡ in_file f
      unfolding judged too_deep described asked objects_of
      none-too-deep e f is = rw (← root, fine, ← deep-there, e) (rw part_to_end at is)

  module _ (sound : rows_sound buffer rows objects components range ≡ true) where
    lies : object_width * objects + component_width * components ≤ length rows
    lies = sound-lies buffer rows objects components range sound

    pub objects-lie : object_width * objects ≤ length rows
    objects-lie = omega (arith, lies)

    module _ (room : length rows * 8 < 2 ^ 63) where
      pub objects-fit : FitsIn w64 (object_width * objects)
      objects-fit = record { fits = omega (arith, lies, room) }

      pub objects-bytes-fit : FitsIn w64 (object_width * objects * 8)
      objects-bytes-fit = record { fits = omega (arith, lies, room) }

    pub rows-count : Counted buffer rows objects (take (length rows - object_width * objects) (drop (object_width * objects) rows)) components
    rows-count =
        rw part_to_end (record {
          enough = omega (arith, lies);
          enough-rest = omega (arith, lies, length-drop (object_width * objects) rows);
          adds-up = rows-counted buffer rows objects components range sound;
          sound = sound-objects buffer rows objects components range sound;
        })
