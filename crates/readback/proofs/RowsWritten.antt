-- What the writer answers for rows: its checks in order, from the rows' description; and that an accepted file reads back as what the rows describe.
use Prim.Native.Nat.{ℕ, suc, ◌+◌, ◌*◌, ◌≤◌}
use native.Mathlib.Omega.{arith}
use mathlib.Core.List.{List, [], ◌∷◌, ◌++◌, map}
use mathlib.Core.Bool.{Bool, true, false}
use mathlib.Core.Path.{◌≡◌, refl, ap, ap₂, sym, ◌∙◌, subst}
use lib.Dec.{leb}
use lib.ListN.{length, take, drop, replicate, length-append, length-drop, length-replicate, length-map, take-append-drop}
use borrow.Author.Tests.{leb-true}
use Rattle.meaning.specs.Columns.{object_width, component_width}
use Rattle.meaning.specs.Refusal.{ROW, BIG, COUNT, ROOM}
use Rattle.meaning.specs.Limit.{manifest_limit, end_limit}
use Rattle.meaning.specs.Check.{Check, pass, ◌>>◌, ◌unless◌}
use Rattle.meaning.specs.Read.{Span, bytes_at}
use Rattle.meaning.specs.Layouts.{current}
use Rattle.meaning.specs.Frame.{Reading, reading}
use Rattle.meaning.specs.Asked.{AskedObject, AskedComponent, asked_component, asked}
use Rattle.meaning.specs.Sound.{owners, component_sound, rows_sound}
use Rattle.meaning.specs.Placement.{placement, last_end}
use Rattle.meaning.specs.Described.{Described, blobs_in, blobs, described_component, described_object, described_objects, described}
use Rattle.meaning.specs.Manifest.{manifest_bytes}
use Rattle.meaning.specs.WrittenFile.{file_of}
use Rattle.meaning.specs.Plan.{planned}
use Rattle.meaning.specs.Write.{written_plain, written_planned, written, written_by}
use Rattle.meaning.proofs.SameText.{same_length}
use Rattle.meaning.proofs.Checks.{pass_same, refused-is-not, passed_on}
use Rattle.meaning.proofs.Lengths.{part_length, each-row-length}
use Rattle.meaning.specs.Every.{Every}
use Rattle.meaning.proofs.Every.{every-all}
use Rattle.readback.specs.Follows.{sum}
use Rattle.readback.specs.Judged.{judged}
use Rattle.readback.specs.Fine.{Fits, Brief}
use Rattle.readback.specs.Back.{offsets_in, ReadsBack, ReadsBackAt}
use Rattle.readback.proofs.Placed.{length-bound}
use Rattle.readback.proofs.ReadBack.{written-plain-is, written-plain-placed, written-planned-is, written-planned-placed}
use Rattle.readback.proofs.SoundIsFine.{component-tests, tests, sound-is-fine}

-- ---- the blobs are those of the component rows, in row order

counts : List AskedObject → ℕ
counts [] = 0
counts (o ∷ os) = o.count + counts os

owners-length : (i : ℕ) (os : List AskedObject) → length (owners i os) ≡ counts os
unfolding owners counts
owners-length i [] = refl
owners-length i (o ∷ os) = omega (arith, length-append (replicate o.count i) (owners (suc i) os), length-replicate {A = ℕ} o.count i, owners-length (suc i) os)

module _ (buffer : List ℕ) where
  abbrev blob_of : AskedComponent → List ℕ
  blob_of c = bytes_at buffer c.blob

  described-blobs : (cs : List AskedComponent) → map (λ c. c.blob) (map (described_component buffer) cs) ≡ map blob_of cs
  unfolding described_component
  described-blobs [] = refl
  described-blobs (c ∷ cs) = ap (λ (r : List (List ℕ)). blob_of c ∷ r) (described-blobs cs)

  map-append : (a b : List AskedComponent) → map blob_of (a ++ b) ≡ map blob_of a ++ map blob_of b
  map-append [] b = refl
  map-append (c ∷ a) b = ap (λ (r : List (List ℕ)). blob_of c ∷ r) (map-append a b)

  none_left : (cs : List AskedComponent) → length cs ≡ 0 → cs ≡ []
  none_left [] h = refl
  none_left (c ∷ cs) h = absurd (omega arith)

  blobs-are : (os : List AskedObject) (cs : List AskedComponent) → counts os ≡ length cs → blobs_in (described_objects buffer os cs) ≡ map blob_of cs
  unfolding counts described_objects described_object blobs_in
  blobs-are [] cs h = ap (map blob_of) (sym (none_left cs (sym h)))
  blobs-are (o ∷ os) cs h =
      ap₂ {A = List (List ℕ)} {B = List (List ℕ)} (λ a b. a ++ b) (described-blobs (take o.count cs)) (blobs-are os (drop o.count cs) (omega (arith, length-drop o.count cs)))
      ∙ sym (map-append (take o.count cs) (drop o.count cs)) ∙ ap (map blob_of) (take-append-drop o.count cs)

  lengths-are : (cs : List AskedComponent) → Every (λ c. component_sound buffer c ≡ true) cs → map length (map blob_of cs) ≡ map (λ c. c.blob.size) cs
  lengths-are [] h = refl
  lengths-are (c ∷ cs) (h, hs) =
      ap₂ {A = ℕ} {B = List ℕ} (λ a b. a ∷ b) (part_length buffer c.blob (component-tests buffer c h).1.1.1) (lengths-are cs hs)

-- ---- the writer

unless-passes : {A : Type 0} (n : ℕ) (b : Bool) (k : Check A) {a : A} → ((n unless b) >> k) ≡ pass a → (b ≡ true) × (k ≡ pass a)
unless-passes n true k h = (refl, h)
unless-passes n false k h = absurd (refused-is-not h)

pub rows-counted : (rows : List ℕ) (objects components : ℕ) (attributes : Span) → length (asked rows objects components attributes).components ≡ components
unfolding asked
rows-counted rows objects components attributes = each-row-length asked_component component_width components (drop (object_width * objects) rows)

-- the offsets of whatever was read
read-offsets : {file : List ℕ} {d : Described} {offsets : List ℕ} → ReadsBackAt file d offsets → (r : Reading) → reading current file ≡ pass r → offsets_in r.model.objects ≡ offsets
read-offsets b r e = ap (λ (r : Reading). offsets_in r.model.objects) (pass_same (sym e ∙ b.reads.is)) ∙ b.placed

-- the file of an accepted writing
pub record Accepted (sound : Bool) (whole file : List ℕ) (room : ℕ) : Type 0 where
  pub rows : sound ≡ true
  pub is : file ≡ whole
  pub fits : length file ≤ room

module _ (rows : List ℕ) (fit : Every Fits rows) (few : Brief rows) (buffer : List ℕ) (small : Brief buffer) (objects components : ℕ) (attributes : Span) where
  abbrev of-rows : Described
  of-rows = described buffer (asked rows objects components attributes)

  abbrev component-rows : List AskedComponent
  component-rows = (asked rows objects components attributes).components

  module _ (sound : rows_sound buffer rows objects components attributes ≡ true) where
    -- one blob for each component row, in row order
    pub blobs-of-rows : blobs of-rows ≡ map (λ c. bytes_at buffer c.blob) component-rows
    unfolding described
    blobs-of-rows = blobs-are buffer (asked rows objects components attributes).objects component-rows same_count
      where
        same_count : counts (asked rows objects components attributes).objects ≡ length component-rows
        same_count =
            sym (owners-length 0 (asked rows objects components attributes).objects)
            ∙ same_length (owners 0 (asked rows objects components attributes).objects) (map (λ c. c.owner) component-rows) (tests buffer small rows fit few objects components attributes sound).0
            ∙ length-map component-rows (λ (c : AskedComponent). c.owner)

    -- as long as the rows say
    pub lengths-of-rows : map length (blobs of-rows) ≡ map (λ c. c.blob.size) component-rows
    lengths-of-rows =
        ap (map length) blobs-of-rows
        ∙ lengths-are buffer component-rows (every-all (component_sound buffer) component-rows (tests buffer small rows fit few objects components attributes sound).1.1.1)

  abbrev offsets : List ℕ
  offsets = placement (map length (blobs of-rows))

  abbrev answer : ℕ → Check (List ℕ)
  answer room =
      (COUNT unless leb (last_end offsets (map length (blobs of-rows))) end_limit) >> ((BIG unless leb (length (manifest_bytes of-rows offsets)) manifest_limit)
      >> (judged of-rows >> ((ROOM unless leb (length (file_of of-rows offsets)) room) >> pass (file_of of-rows offsets))))

  -- ROW, COUNT, BIG, the reader's refusal from the description alone, ROOM
  pub written_is : (room : ℕ) → written rows objects components attributes buffer room ≡ ((ROW unless rows_sound buffer rows objects components attributes) >> answer room)
  unfolding written
  written_is room = go (rows_sound buffer rows objects components attributes) refl
    where
      go : (b : Bool) → rows_sound buffer rows objects components attributes ≡ b → ((ROW unless b) >> written_plain of-rows room) ≡ ((ROW unless b) >> answer room)
      go true e = written-plain-is of-rows room (sound-is-fine buffer small rows fit few objects components attributes e)
      go false e = refl

  -- and the offsets that are read back are 01's placement of the blobs
  pub written-placed : (room : ℕ) (file : List ℕ) → written rows objects components attributes buffer room ≡ pass file → ReadsBackAt file of-rows offsets
  unfolding written
  written-placed room file = go (rows_sound buffer rows objects components attributes) refl
    where
      go : (b : Bool) → rows_sound buffer rows objects components attributes ≡ b → ((ROW unless b) >> written_plain of-rows room) ≡ pass file → ReadsBackAt file of-rows offsets
      go true e h = written-plain-placed of-rows room (sound-is-fine buffer small rows fit few objects components attributes e) file h
      go false e h = absurd (refused-is-not h)

  pub written-reads-back : (room : ℕ) (file : List ℕ) → written rows objects components attributes buffer room ≡ pass file → ReadsBack file of-rows
  written-reads-back room file h = (written-placed room file h).reads

  -- ROW, PLAN, BIG, the reader's refusal, ROOM
  abbrev answer-by : List ℕ → ℕ → ℕ → Check (List ℕ)
  answer-by plan ceiling room =
      planned ceiling plan (map length (blobs of-rows)) >> ((BIG unless leb (length (manifest_bytes of-rows plan)) manifest_limit)
      >> (judged of-rows >> ((ROOM unless leb (length (file_of of-rows plan)) room) >> pass (file_of of-rows plan))))

  pub written-by-is : (plan : List ℕ) (ceiling room : ℕ)
      → written_by rows objects components attributes buffer plan ceiling room ≡ ((ROW unless rows_sound buffer rows objects components attributes) >> answer-by plan ceiling room)
  unfolding written_by
  written-by-is plan ceiling room = go (rows_sound buffer rows objects components attributes) refl
    where
      go : (b : Bool) → rows_sound buffer rows objects components attributes ≡ b → ((ROW unless b) >> written_planned of-rows plan ceiling room) ≡ ((ROW unless b) >> answer-by plan ceiling room)
      go true e = written-planned-is of-rows plan ceiling room (sound-is-fine buffer small rows fit few objects components attributes e)
      go false e = refl

  -- and the offsets that are read back are the plan
  pub written-by-placed : (plan : List ℕ) (ceiling room : ℕ) (file : List ℕ) → written_by rows objects components attributes buffer plan ceiling room ≡ pass file → ReadsBackAt file of-rows plan
  unfolding written_by
  written-by-placed plan ceiling room file = go (rows_sound buffer rows objects components attributes) refl
    where
      go : (b : Bool) → rows_sound buffer rows objects components attributes ≡ b → ((ROW unless b) >> written_planned of-rows plan ceiling room) ≡ pass file → ReadsBackAt file of-rows plan
      go true e h = written-planned-placed of-rows plan ceiling room (sound-is-fine buffer small rows fit few objects components attributes e) file h
      go false e h = absurd (refused-is-not h)

  pub written-by-reads-back : (plan : List ℕ) (ceiling room : ℕ) (file : List ℕ) → written_by rows objects components attributes buffer plan ceiling room ≡ pass file → ReadsBack file of-rows
  written-by-reads-back plan ceiling room file h = (written-by-placed plan ceiling room file h).reads

  pub written-file : (room : ℕ) (file : List ℕ) → written rows objects components attributes buffer room ≡ pass file
      → Accepted (rows_sound buffer rows objects components attributes) (file_of of-rows offsets) file room
  written-file room file h =
      let F : List ℕ = file_of of-rows offsets in
      let roomy : Check (List ℕ) = (ROOM unless leb (length F) room) >> pass F in
      let k₀ = unless-passes ROW (rows_sound buffer rows objects components attributes) (answer room) (sym (written_is room) ∙ h) in
      let k₁ = unless-passes COUNT (leb (last_end offsets (map length (blobs of-rows))) end_limit)
      ((BIG unless leb (length (manifest_bytes of-rows offsets)) manifest_limit) >> (judged of-rows >> roomy)) k₀.1 in
      let k₂ = unless-passes BIG (leb (length (manifest_bytes of-rows offsets)) manifest_limit) (judged of-rows >> roomy) k₁.1 in
      let k₃ = unless-passes ROOM (leb (length F) room) (pass F) (passed_on (judged of-rows) roomy _ k₂.1) in
      let e : F ≡ file = pass_same k₃.1 in
      record { rows = k₀.0; is = sym e; fits = subst (λ (f : List ℕ). length f ≤ room) e (leb-true (length F) room k₃.0) }

  -- whatever the reader's answer to the file of a plan holds, its components' offsets are the plan, one for each row
  pub offsets-by-plan : (plan : List ℕ) (ceiling room : ℕ) (file : List ℕ) → written_by rows objects components attributes buffer plan ceiling room ≡ pass file
      → (r : Reading) → reading current file ≡ pass r → offsets_in r.model.objects ≡ plan
  offsets-by-plan plan ceiling room file h r e = read-offsets (written-by-placed plan ceiling room file h) r e

  -- and those of a file without a plan are 01's placement of what the rows give as lengths
  pub offsets-by-rule : (room : ℕ) (file : List ℕ) → written rows objects components attributes buffer room ≡ pass file
      → (r : Reading) → reading current file ≡ pass r → offsets_in r.model.objects ≡ placement (map (λ c. c.blob.size) component-rows)
  offsets-by-rule room file h r e = read-offsets (written-placed room file h) r e ∙ ap placement (lengths-of-rows (written-file room file h).rows)

  -- the bound of document 01
  pub written-bound : (room : ℕ) (file : List ℕ) → written rows objects components attributes buffer room ≡ pass file
      → length file ≤ 24 + length (manifest_bytes of-rows offsets) + sum (map (λ c. c.blob.size) component-rows) + 63 * components
  written-bound room file h =
      let a = written-file room file h in
      let e : map length (blobs of-rows) ≡ map (λ c. c.blob.size) component-rows = lengths-of-rows a.rows in
      let n : length (blobs of-rows) ≡ components = ap length (blobs-of-rows a.rows) ∙ length-map component-rows (λ (c : AskedComponent). bytes_at buffer c.blob) ∙ row_count in
      let l : length file ≡ length (file_of of-rows offsets) = ap length a.is in
      let t : sum (map length (blobs of-rows)) ≡ sum (map (λ c. c.blob.size) component-rows) = ap sum e in
      omega (arith, length-bound of-rows, n, l, t)
    where
      row_count : length component-rows ≡ components
      row_count = rows-counted rows objects components attributes
