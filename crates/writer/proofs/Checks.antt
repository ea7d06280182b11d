-- What the writer answers, check by check.
use Prim.Native.Nat.{ℕ, suc, ◌+◌, ◌-◌, ◌*◌, ◌≤◌, ◌<◌, ◌^◌, min}
use native.Mathlib.Omega.{arith}
use mathlib.Core.List.{List, [], ◌∷◌, ◌++◌}
use mathlib.Core.Bool.{Bool, true, false, not}
use mathlib.Core.Path.{◌≡◌, refl, sym, ap, ◌∙◌, subst}
use lib.ListN.{length, take, drop, get_or, length-drop, length-map}
use lib.Dec.{leb}
use mir.Syntax.{w64}
use mir.Val.{Fits as FitsIn}
use borrow.Author.Tests.{not-true, not-false, le-leb, lt-leb}
use borrow.Author.Rules.{part_to_end}
use Rattle.meaning.specs.Refusal.{BIG, ROOM}
use Rattle.meaning.specs.Check.{Check, pass, refuse, ◌>>◌, ◌unless◌}
use Rattle.meaning.specs.Limit.{manifest_limit, end_limit}
use Rattle.meaning.specs.Columns.{object_width, component_width}
use Rattle.meaning.specs.Layouts.{magic}
use Rattle.meaning.specs.Read.{Span}
use Rattle.meaning.specs.Asked.{AskedComponent, each_row, asked_component}
use Rattle.meaning.specs.Described.{Described}
use Rattle.meaning.specs.Sound.{rows_sound}
use Rattle.meaning.specs.Placement.{placement, last_end}
use Rattle.meaning.specs.Plan.{planned}
use Rattle.meaning.specs.Manifest.{manifest_bytes}
use Rattle.meaning.specs.WrittenFile.{file_of}
use Rattle.meaning.specs.Write.{write_answer, output_after, written_at, written_plain, written_planned, written, written_by}
use Rattle.meaning.proofs.Lengths.{each-row-length}
use Rattle.meaning.proofs.Every.{every-by-index}
use Rattle.rows.specs.Turns.{begun, turn_limit, reached, blob_sizes}
use Rattle.rows.proofs.Turns.{last-is-reached, reached-counts, offsets-by-rule, offsets-as-planned}
use Rattle.rows.proofs.Whole.{sound-lies}
use Rattle.rows.proofs.Describes.{blob-lengths}
use Rattle.sizes.specs.Measured.{Measurable, EndIs, ManifestIs}
use Rattle.sizes.proofs.Exact.{measurable}
use Rattle.plan.specs.Earlier.{sizes, Judges}
use Rattle.readback.specs.Judged.{judged}
use Rattle.readback.specs.Lent.{Lent}
use Rattle.readback.proofs.Planned.{Accepted, accepted, as_many, ends-in-time, placement-accepted}
use Rattle.readback.proofs.Placed.{file-length}
use Rattle.readback.proofs.ReadBack.{written-at-is}
use Rattle.readback.proofs.SoundIsFine.{sound-is-fine}
use Rattle.writer.specs.declared.Written.{Written}
use Rattle.writer.specs.declared.Sized.{Sized}
use Rattle.writer.specs.WriterAnswer.{refused, told, Answered, Numbers}
use Rattle.writer.specs.Sized.{of_rows, lengths_of, offsets_of, file_at, Fit, Measures}
use Rattle.std.specs.Prelude.{Ok, Err, Result}
use Rattle.numbers.specs.declared.fault.FileFault.{FileFault}
use Rattle.numbers.specs.declared.refusal.Refusal.TheVariants as refusals
use Rattle.numbers.specs.Numbered.{number_of}

-- ---- numbers below 2^64

-- by what is known of a slice's items
pub all_there : (rows : List ℕ) → ((j : ℕ) → FitsIn w64 (get_or rows j 0)) → Numbers rows
all_there rows k j l = omega (arith, (k j).fits)

-- what the slices are
pub lent : {rows buffer : List ℕ} → Numbers rows → length rows * 8 < 2 ^ 63 → length buffer * 1 < 2 ^ 63 → Lent rows buffer
lent {rows} numbers few small = record { numbers = every-by-index _ 0 rows numbers; few = omega (arith, few); small = omega (arith, small) }

-- ---- an answer

answer-of : {k : Check (List ℕ)} (l : Check (List ℕ)) → k ≡ l → (before after : List ℕ) (r : Written) → Answered l r before after → Answered k r before after
answer-of l e before after r a = (a.0 ∙ ap told (sym e), a.1 ∙ ap (output_after before) (sym e))

pub refused-answer : {k : Check (List ℕ)} (n o c : ℕ) → k ≡ refuse n o c → (out : List ℕ) → Answered k (refused n o c) out out
unfolding told write_answer output_after
refused-answer n o c e out = answer-of (refuse n o c) e out out (refused n o c) (refl, refl)

pub written-answer : {k : Check (List ℕ)} (file : List ℕ) → k ≡ pass file → (n : ℕ) → n ≡ length file → (out after : List ℕ) → after ≡ file ++ drop (length file) out
    → Answered k (record { number = 0; object = 0; component = 0; length = n }) out after
unfolding told write_answer output_after
written-answer file e n l out after h =
    answer-of (pass file) e out after (record { number = 0; object = 0; component = 0; length = n })
    (ap (λ (m : ℕ). record { number = 0; object = 0; component = 0; length = m }) l, h)

-- ---- rows that are sound, with offsets that an accepted plan gives

module _ (plan rows : List ℕ) (objects components place size : ℕ) (buffer : List ℕ) where
  abbrev attributes : Span
  attributes = record { place = place; size = size }

  abbrev pub d : Described
  d = of_rows plan rows objects components attributes buffer

  abbrev pub lengths : List ℕ
  lengths = lengths_of plan rows objects components attributes buffer

  abbrev pub offsets : List ℕ
  offsets = offsets_of plan rows objects components attributes buffer

  abbrev pub answer_at : ℕ → Check (List ℕ)
  answer_at = file_at plan rows objects components attributes buffer

  abbrev is-sound : Bool
  is-sound = rows_sound buffer rows objects components attributes

  abbrev manifest : ℕ
  manifest = length (manifest_bytes d offsets)

  module _ (sound : is-sound ≡ true) (slices : Lent rows buffer) {ceiling : ℕ} (plan-is : Accepted ceiling offsets lengths) (turns : reached plan (begun plan) lengths ≤ turn_limit plan)
      (m : ℕ) (long : m ≡ min manifest (suc manifest_limit)) where
    steps : (room : ℕ) → answer_at room
        ≡ ((BIG unless leb manifest manifest_limit) >> (judged d >> ((ROOM unless leb (length (file_of d offsets)) room) >> pass (file_of d offsets))))
    steps room = written-at-is d offsets (sound-is-fine buffer slices.small rows slices.numbers slices.few objects components attributes sound) plan-is room

    big-at : manifest_limit < m → (room : ℕ) → answer_at room ≡ refuse BIG 0 0
    big-at h room = steps room ∙ rw (lt-leb manifest manifest_limit (omega (arith, long, h))) refl

    fit_at : m ≤ manifest_limit → (e : ℕ) → e ≡ last_end offsets lengths → Fit plan rows objects components attributes buffer e m
    fit_at h e ends = record {
      sound = sound;
      turns = turns;
      end_low = omega (arith, ends, ends-in-time plan-is);
      manifest-low = h;
      long = omega (arith, file-length d offsets, ends, long, h);
      is = λ room. steps room ∙ rw (le-leb manifest manifest_limit (omega (arith, long, h))) refl;
    }

-- ---- rows that `sound` said b of

module _ (rows : List ℕ) (objects components place size : ℕ) (buffer : List ℕ) {b : Bool} (is : b ≡ rows_sound buffer rows objects components (record { place = place; size = size })) (so : not b ≡ false) where
  rows-sound : rows_sound buffer rows objects components (record { place = place; size = size }) ≡ true
  rows-sound = sym is ∙ not-false b so

  pub all_lie : object_width * objects + component_width * components ≤ length rows
  all_lie = sound-lies buffer rows objects components (record { place = place; size = size }) rows-sound

  pub objects-lie : object_width * objects ≤ length rows
  objects-lie = omega (arith, all_lie)

  pub rows-lent : component_width * components ≤ length (take (length rows - object_width * objects) (drop (object_width * objects) rows))
  rows-lent = rw (part_to_end rows (object_width * objects)) (omega (arith, all_lie, length-drop (object_width * objects) rows))

  module _ (room : length rows * 8 < 2 ^ 63) where
    pub objects-fit : FitsIn w64 (object_width * objects)
    objects-fit = record { fits = omega (arith, all_lie, room) }

    pub objects-bytes-fit : FitsIn w64 (object_width * objects * 8)
    objects-bytes-fit = record { fits = omega (arith, all_lie, room) }

-- ---- without a plan

module _ (rows : List ℕ) (objects components place size : ℕ) (buffer : List ℕ) {b : Bool} (is : b ≡ rows_sound buffer rows objects components (record { place = place; size = size })) where
  abbrev plain-answer : ℕ → Check (List ℕ)
  plain-answer = written rows objects components (record { place = place; size = size }) buffer

  abbrev Plain : Result Sized FileFault → Type 0
  Plain = Measures [] rows objects components (record { place = place; size = size }) buffer plain-answer

  abbrev rule-lengths : List ℕ
  rule-lengths = lengths [] rows objects components place size buffer

  abbrev end : ℕ
  end = last_end (placement rule-lengths) rule-lengths

  pub row : not b ≡ true → (k : FileFault) → k ≡ record { refusal = refusals.Row; object = 0; component = 0 } → Plain (Err k)
  unfolding written
  row e k is-k room = rw is-k (rw (← is, not-true b e) refl)

  -- and `last_end` e
  module _ (so : not b ≡ false) {e : ℕ} (ended : EndIs rows objects components e) where
    sound : is-sound [] rows objects components place size buffer ≡ true
    sound = sym is ∙ not-false b so

    ends : e ≡ min end (suc end_limit)
    ends = ended buffer (record { place = place; size = size }) sound

    pub count : end_limit < e → (k : FileFault) → k ≡ record { refusal = refusals.Count; object = 0; component = 0 } → Plain (Err k)
    unfolding written written_plain
    count h k is-k room = rw is-k (rw (sound, lt-leb end end_limit (omega (arith, ends, h))) refl)

    module _ (in-time : e ≤ end_limit) where
      end_low : end ≤ end_limit
      end_low = omega (arith, ends, in-time)

      same : placement rule-lengths ≡ offsets [] rows objects components place size buffer
      same = sym (offsets-by-rule rule-lengths)

      by-rule : Accepted end_limit (offsets [] rows objects components place size buffer) rule-lengths
      by-rule = subst (λ (os : List ℕ). Accepted end_limit os rule-lengths) same (accepted end_limit (placement rule-lengths) rule-lengths (placement-accepted rule-lengths end_low))

      turns-low : reached [] (begun []) rule-lengths ≤ turn_limit []
      unfolding begun turn_limit magic
      turns-low = omega (arith, end_low, last-is-reached rule-lengths)

      pub plain-measurable : Measurable [] rows objects components
      plain-measurable =
          measurable [] buffer rows objects components (record { place = place; size = size }) sound
          (subst (λ (ls : List ℕ). reached [] (begun []) ls ≤ turn_limit []) (blob-lengths buffer rows objects components (record { place = place; size = size }) sound) turns-low)

      pub settled : (room : ℕ) → plain-answer room ≡ answer_at [] rows objects components place size buffer room
      unfolding written written_plain
      settled room =
          rw (sound, le-leb end end_limit end_low) (ap (λ (os : List ℕ). written_at (d [] rows objects components place size buffer) os room) same)

      -- and `manifest` m, of slices as they are lent
      module _ (numbers : Numbers rows) (few : length rows * 8 < 2 ^ 63) (small : length buffer * 1 < 2 ^ 63) {m : ℕ} (long : ManifestIs [] rows objects components (record { place = place; size = size }) m) where
        pub big : manifest_limit < m → (k : FileFault) → k ≡ record { refusal = refusals.Big; object = 0; component = 0 } → Plain (Err k)
        big h k is-k room = rw is-k (settled room ∙ big-at [] rows objects components place size buffer sound (lent numbers few small) by-rule turns-low m (long buffer sound) h room)

        pub fit : m ≤ manifest_limit → Fit [] rows objects components (record { place = place; size = size }) buffer e m
        fit h =
            fit_at [] rows objects components place size buffer sound (lent numbers few small) by-rule turns-low m (long buffer sound) h e
            (let x : e ≡ end = omega (arith, ends, in-time) in x ∙ ap (λ (os : List ℕ). last_end os rule-lengths) same)

-- ---- by a plan

-- one turn for each row
turns-counted : (plan ls : List ℕ) → length plan ≡ length ls → length ls ≤ 2_305_843_009_213_693_952 → reached plan (begun plan) ls ≤ turn_limit plan
unfolding reached begun turn_limit magic
turns-counted [] [] e h = omega arith
turns-counted [] (l ∷ ls) e h = absurd (omega (arith, e))
turns-counted (o ∷ os) ls e h = omega (arith, h, reached-counts o os 0 ls)

-- the components' rows, lent
abbrev lent_rows : ℕ → List ℕ → List ℕ
lent_rows objects rows = take (length rows - object_width * objects) (drop (object_width * objects) rows)

module _ (plan : List ℕ) (ceiling : ℕ) (rows : List ℕ) (objects components place size : ℕ) (buffer : List ℕ) {b : Bool}
    (is : b ≡ rows_sound buffer rows objects components (record { place = place; size = size })) where
  abbrev planned-answer : ℕ → Check (List ℕ)
  planned-answer = written_by rows objects components (record { place = place; size = size }) buffer plan ceiling

  abbrev Planned : Result Sized FileFault → Type 0
  Planned = Measures plan rows objects components (record { place = place; size = size }) buffer planned-answer

  abbrev plan-lengths : List ℕ
  plan-lengths = lengths plan rows objects components place size buffer

  pub row_by : not b ≡ true → (k : FileFault) → k ≡ record { refusal = refusals.Row; object = 0; component = 0 } → Planned (Err k)
  unfolding written_by
  row_by e k is-k room = rw is-k (rw (← is, not-true b e) refl)

  -- and `plan::verdict` x
  module _ (so : not b ≡ false) where
    sound-by : is-sound plan rows objects components place size buffer ≡ true
    sound-by = sym is ∙ not-false b so

    same-lengths : sizes plan (lent_rows objects rows) components ≡ plan-lengths
    same-lengths =
        ap (λ (r : List ℕ). blob_sizes (each_row asked_component component_width components r)) (part_to_end rows (object_width * objects))
        ∙ sym (blob-lengths buffer rows objects components (record { place = place; size = size }) sound-by)

    verdict-is : {k : Check (Unit {0})} → planned ceiling plan (sizes plan (lent_rows objects rows) components) ≡ k → planned ceiling plan plan-lengths ≡ k
    verdict-is e = ap (planned ceiling plan) (sym same-lengths) ∙ e

    pub refused-by : {x : Result ℕ FileFault} (f : FileFault) → x ≡ Err f → Judges plan (lent_rows objects rows) components ceiling x → (r : Result Sized FileFault) → r ≡ Err f → Planned r
    unfolding written_by written_planned
    refused-by f q judges r is-r =
        let e : planned ceiling plan (sizes plan (lent_rows objects rows) components) ≡ refuse (number_of f.refusal) f.object f.component = subst (Judges plan (lent_rows objects rows) components ceiling) q judges in
        rw is-r (λ room. rw (sound-by, verdict-is e) refl)

    module _ {x : Result ℕ FileFault} {e : ℕ} (q : x ≡ Ok e) (judges : Judges plan (lent_rows objects rows) components ceiling x) (few : length rows * 8 < 2 ^ 63) where
      both : (planned ceiling plan (sizes plan (lent_rows objects rows) components) ≡ pass tt) × (e ≡ last_end plan (sizes plan (lent_rows objects rows) components))
      both = subst (Judges plan (lent_rows objects rows) components ceiling) q judges

      passed : planned ceiling plan plan-lengths ≡ pass tt
      passed = verdict-is both.0

      as-it-is : Accepted ceiling plan plan-lengths
      as-it-is = accepted ceiling plan plan-lengths passed

      same-offsets : plan ≡ offsets plan rows objects components place size buffer
      same-offsets = sym (offsets-as-planned plan plan-lengths (as_many as-it-is.follows))

      by-plan : Accepted ceiling (offsets plan rows objects components place size buffer) plan-lengths
      by-plan = subst (λ (os : List ℕ). Accepted ceiling os plan-lengths) same-offsets as-it-is

      turns-in-time : reached plan (begun plan) plan-lengths ≤ turn_limit plan
      turns-in-time =
          turns-counted plan plan-lengths (as_many as-it-is.follows)
          (omega (
            arith,
            few,
            sound-lies buffer rows objects components (record { place = place; size = size }) sound-by,
            ap length (sym same-lengths),
            length-map (each_row asked_component component_width components (lent_rows objects rows)) (λ (c : AskedComponent). c.blob.size),
            each-row-length asked_component component_width components (lent_rows objects rows),
          ))

      pub can-be-measured : Measurable plan rows objects components
      can-be-measured =
          measurable plan buffer rows objects components (record { place = place; size = size }) sound-by
          (subst (λ (ls : List ℕ). reached plan (begun plan) ls ≤ turn_limit plan) (blob-lengths buffer rows objects components (record { place = place; size = size }) sound-by) turns-in-time)

      pub settled-by : (room : ℕ) → planned-answer room ≡ answer_at plan rows objects components place size buffer room
      unfolding written_by written_planned
      settled-by room = rw (sound-by, passed) (ap (λ (os : List ℕ). written_at (d plan rows objects components place size buffer) os room) same-offsets)

      -- and `manifest` m, of slices as they are lent
      module _ (numbers : Numbers rows) (small : length buffer * 1 < 2 ^ 63) {m : ℕ} (long : ManifestIs plan rows objects components (record { place = place; size = size }) m) where
        pub big-by : manifest_limit < m → (k : FileFault) → k ≡ record { refusal = refusals.Big; object = 0; component = 0 } → Planned (Err k)
        big-by h k is-k room = rw is-k (settled-by room ∙ big-at plan rows objects components place size buffer sound-by (lent numbers few small) by-plan turns-in-time m (long buffer sound-by) h room)

        pub fit-by : m ≤ manifest_limit → Fit plan rows objects components (record { place = place; size = size }) buffer e m
        fit-by h =
            fit_at plan rows objects components place size buffer sound-by (lent numbers few small) by-plan turns-in-time m (long buffer sound-by) h e
            (both.1 ∙ ap (last_end plan) same-lengths ∙ ap (λ (os : List ℕ). last_end os plan-lengths) same-offsets)

-- ---- by the code's answers

-- `measured` or `measured_by` said x of the whole answer
module _ (answer : ℕ → Check (List ℕ)) (plan rows : List ℕ) (objects components place size : ℕ) (buffer : List ℕ) (x : Result Sized FileFault)
    (h : Measures plan rows objects components (record { place = place; size = size }) buffer answer x) where
  abbrev Told : Result Sized FileFault → Type 0
  Told = Measures plan rows objects components (record { place = place; size = size }) buffer answer

  measured-no : (f : FileFault) → x ≡ Err f → {r : Written} → r ≡ refused (number_of f.refusal) f.object f.component → (out : List ℕ) → Answered (answer (length out)) r out out
  measured-no f e is out =
      let so : Told (Err f) = subst Told e h in
      subst (λ (a : Written). Answered (answer (length out)) a out out) (sym is) (refused-answer (number_of f.refusal) f.object f.component (so (length out)) out)

  module _ (s : Sized) (q : x ≡ Ok s) where
    so : Told (Ok s)
    so = subst Told q h

    pub measured-yes : Fit plan rows objects components (record { place = place; size = size }) buffer s.end s.manifest
    measured-yes = so.0

    filled : {r : Written} (out : List ℕ) {after : List ℕ} → Answered (answer_at plan rows objects components place size buffer (length out)) r out after → Answered (answer (length out)) r out after
    filled {r} out {after} a = answer-of (answer_at plan rows objects components place size buffer (length out)) (so.1 (length out)) out after r a

module _ (rows : List ℕ) (objects components place size : ℕ) (buffer : List ℕ) (x : Result Sized FileFault)
    (h : Measures [] rows objects components (record { place = place; size = size }) buffer (written rows objects components (record { place = place; size = size }) buffer) x) where
  pub plain-refused : (f : FileFault) → x ≡ Err f → {r : Written} → r ≡ refused (number_of f.refusal) f.object f.component → (out : List ℕ)
      → Answered (written rows objects components (record { place = place; size = size }) buffer (length out)) r out out
  plain-refused = measured-no (written rows objects components (record { place = place; size = size }) buffer) [] rows objects components place size buffer x h

  pub plain-filled : (s : Sized) → x ≡ Ok s → {r : Written} (out : List ℕ) {after : List ℕ} → Answered (answer_at [] rows objects components place size buffer (length out)) r out after
      → Answered (written rows objects components (record { place = place; size = size }) buffer (length out)) r out after
  plain-filled = filled (written rows objects components (record { place = place; size = size }) buffer) [] rows objects components place size buffer x h

module _ (plan : List ℕ) (ceiling : ℕ) (rows : List ℕ) (objects components place size : ℕ) (buffer : List ℕ) (x : Result Sized FileFault)
    (h : Measures plan rows objects components (record { place = place; size = size }) buffer (written_by rows objects components (record { place = place; size = size }) buffer plan ceiling) x) where
  pub planned-refused : (f : FileFault) → x ≡ Err f → {r : Written} → r ≡ refused (number_of f.refusal) f.object f.component → (out : List ℕ)
      → Answered (written_by rows objects components (record { place = place; size = size }) buffer plan ceiling (length out)) r out out
  planned-refused = measured-no (written_by rows objects components (record { place = place; size = size }) buffer plan ceiling) plan rows objects components place size buffer x h

  pub planned-filled : (s : Sized) → x ≡ Ok s → {r : Written} (out : List ℕ) {after : List ℕ} → Answered (answer_at plan rows objects components place size buffer (length out)) r out after
      → Answered (written_by rows objects components (record { place = place; size = size }) buffer plan ceiling (length out)) r out after
  planned-filled = filled (written_by rows objects components (record { place = place; size = size }) buffer plan ceiling) plan rows objects components place size buffer x h
