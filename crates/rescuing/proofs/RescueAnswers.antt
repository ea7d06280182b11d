-- What a rescue can be refused with, and what it leaves: the reader's refusal up to the names; then COUNT (2 ^ 40) and BIG of what is kept; then ROOM. What was written reads back as what is kept.
use Prim.Native.Nat.{ℕ, ◌+◌, ◌*◌, ◌≤◌}
use native.Mathlib.Omega.{arith}
use mathlib.Core.List.{List, [], ◌∷◌, map}
use mathlib.Core.Bool.{Bool, true, false, cond, ◌&&◌}
use mathlib.Core.Path.{◌≡◌, refl, sym, ap, ap₂, ◌∙◌, subst}
use lib.ListN.{length, length-map, length-append}
use lib.Dec.{eqb, leb}
use borrow.Author.Tests.{le-leb}
use Rattle.meaning.specs.Refusal.{COUNT, BIG, ROOM}
use Rattle.meaning.specs.Limit.{manifest_limit, end_limit}
use Rattle.meaning.specs.Check.{Check, pass, refuse, ◌>>◌, ◌unless◌}
use Rattle.meaning.specs.Layouts.{Layout, current}
use Rattle.meaning.specs.Frame.{Reading, reading}
use Rattle.meaning.specs.Columns.{object_width, component_width}
use Rattle.meaning.specs.Read.{Span}
use Rattle.meaning.specs.Model.{Object, Model}
use Rattle.meaning.specs.Rows.{room_for, component_count}
use Rattle.meaning.specs.Described.{Described, blobs_in, blobs, read_component, read_object, described_by}
use Rattle.meaning.specs.Placement.{last_end}
use Rattle.meaning.specs.Manifest.{manifest_bytes}
use Rattle.meaning.specs.Write.{written_plain}
use Rattle.readback.specs.Lent.{Held}
use Rattle.readback.specs.Back.{ReadsBack}
use Rattle.readback.proofs.ReadBack.{written-plain-is, written-plain-reads-back}
use Rattle.readback.proofs.RowsOfReading as rows-laws
use Rattle.shown.specs.Accepted.{Framing}
use Rattle.roundtrip.specs.Again.{placed, plain_file, rewritten, written_again}
use Rattle.rescuing.specs.Sift.{Dropped, Sifted, sifted}
use Rattle.rescuing.specs.Rescue.{Rescue, done, refused, short, after, entry_width, rescue_into, rescue, roomed}
use Rattle.rescuing.proofs.RootFirst.{AsReader, sound, refuses, ReadBeside, earlier, opens, read-beside}
use Rattle.rescuing.proofs.KeptStands.{kept-spelled, kept_fine, kept-judged}

module _ (file : List ℕ) (s : Sifted) where
  abbrev pub says : Described
  says = described_by file s.model

  -- told by what is kept alone
  abbrev pub refusals : Check (Unit {0})
  refusals = (COUNT unless leb (last_end (placed says) (map length (blobs says))) end_limit) >> (BIG unless leb (length (manifest_bytes says (placed says))) manifest_limit)

-- ---- of a file that passes the checks up to its names

module _ (L : Layout) (framing : Framing L) (file : List ℕ) (held : Held file) (s : Sifted) (opened : sifted L file ≡ pass s) where
  abbrev kept : Described
  kept = described_by file s.model

  -- the writer's answer to what is kept: COUNT, BIG and ROOM are all that is left
  pub kept-written : (room : ℕ) → written_plain kept room ≡ written_again kept room
  unfolding written_again plain_file
  kept-written room = written-plain-is kept room (kept_fine L framing file held s opened) ∙ rw (kept-judged L framing file held s opened) refl

  -- as the writer answers to the rows of what is kept, whatever follows them
  pub kept-rows : (R : List ℕ) (room : ℕ) → rewritten file s.model R room ≡ written_plain kept room
  kept-rows R room = rows-laws.written-again file s.model R room (kept-spelled L framing file held s opened)

  pub rescue-answers : (lent list room : ℕ) → rescue L file lent list room ≡ after (refusals file s) (λ u. roomed file s lent list room)
  unfolding rescue rescue_into after written_again
  rescue-answers lent list room =
      rw (opened, kept-written (length (plain_file kept)))
      (go (leb (last_end (placed kept) (map length (blobs kept))) end_limit) (leb (length (manifest_bytes kept (placed kept))) manifest_limit))
    where
      go : (p q : Bool)
          → after ((COUNT unless p) >> ((BIG unless q) >> ((ROOM unless leb (length (plain_file (says file s))) (length (plain_file (says file s)))) >> pass (plain_file (says file s)))))
          (λ once. cond (leb (room_for s.model) lent && leb (entry_width * length s.dropped) list && leb (length once) room)
          (done once (length s.model.objects) s.dropped) (short (length s.model.objects) (length s.dropped) (length once)))
          ≡ after ((COUNT unless p) >> (BIG unless q)) (λ u. roomed file s lent list room)
      go true true = rw (le-leb (length (plain_file (says file s))) (length (plain_file (says file s))) (omega arith)) refl
      go true false = refl
      go false q = refl

-- ---- a rescue that is done

-- what it has behind it
pub record Rescuing (L : Layout) (file : List ℕ) (lent list room : ℕ) (once : List ℕ) (count : ℕ) (ds : List Dropped) : Type 0 where
  pub sift : Sifted
  pub opens : sifted L file ≡ pass sift
  pub wrote : written_plain (described_by file sift.model) (length (plain_file (described_by file sift.model))) ≡ pass once
  pub counted : length sift.model.objects ≡ count
  pub listed : sift.dropped ≡ ds
  pub rows_fit : leb (room_for sift.model) lent ≡ true
  pub list-fits : leb (entry_width * length sift.dropped) list ≡ true
  pub file-fits : leb (length once) room ≡ true

refused-not-done : {n o c k : ℕ} {x : List ℕ} {ds : List Dropped} → refused n o c ≡ done x k ds → ⊥
refused-not-done e = let z : ◌≡◌ {A = ℕ} 0 1 = cc in omega (arith, z)

short-not-done : {k j l m : ℕ} {x : List ℕ} {ds : List Dropped} → short k j l ≡ done x m ds → ⊥
short-not-done e = let z : ◌≡◌ {A = ℕ} 0 1 = cc in omega (arith, z)

module _ (L : Layout) (file : List ℕ) (lent list room : ℕ) {once : List ℕ} {count : ℕ} {ds : List Dropped} where
  pub rescue-done : rescue L file lent list room ≡ done once count ds → Rescuing L file lent list room once count ds
  unfolding rescue rescue_into after
  rescue-done = by-sift (sifted L file) refl
    where
      by-room : (s : Sifted) → sifted L file ≡ pass s → (x : List ℕ) → written_plain (says file s) (length (plain_file (says file s))) ≡ pass x → (a b c : Bool)
          → leb (room_for s.model) lent ≡ a → leb (entry_width * length s.dropped) list ≡ b → leb (length x) room ≡ c
          → cond (a && b && c) (done x (length s.model.objects) s.dropped) (short (length s.model.objects) (length s.dropped) (length x)) ≡ done once count ds
          → Rescuing L file lent list room once count ds
      by-room s e x f true true true g h i k =
          let same : x ≡ once = cc in
          record { sift = s; opens = e; wrote = f ∙ ap pass same; counted = cc; listed = cc; rows_fit = g; list-fits = h; file-fits = subst (λ (x : List ℕ). leb (length x) room ≡ true) same i }
      by-room s e x f true true false g h i k = absurd (short-not-done k)
      by-room s e x f true false c g h i k = absurd (short-not-done k)
      by-room s e x f false b c g h i k = absurd (short-not-done k)

      by-write : (s : Sifted) → sifted L file ≡ pass s → (k : Check (List ℕ)) → written_plain (says file s) (length (plain_file (says file s))) ≡ k
          → after k (λ once. cond (leb (room_for s.model) lent && leb (entry_width * length s.dropped) list && leb (length once) room)
          (done once (length s.model.objects) s.dropped) (short (length s.model.objects) (length s.dropped) (length once))) ≡ done once count ds
          → Rescuing L file lent list room once count ds
      by-write s e (pass x) f h = by-room s e x f (leb (room_for s.model) lent) (leb (entry_width * length s.dropped) list) (leb (length x) room) refl refl refl h
      by-write s e (refuse n o c) f h = absurd (refused-not-done h)

      by-sift : (k : Check Sifted) → sifted L file ≡ k → after k (λ s. rescue_into file s lent list room) ≡ done once count ds → Rescuing L file lent list room once count ds
      by-sift (pass s) e h = by-write s e (written_plain (says file s) (length (plain_file (says file s)))) refl h
      by-sift (refuse n o c) e h = absurd (refused-not-done h)

-- ---- a sound file

-- a file that is accepted keeps all, and nothing is dropped
pub sound-sifted : (L : Layout) (file : List ℕ) (r : Reading) → reading L file ≡ pass r → sifted L file ≡ pass (record { model = r.model; dropped = [] })
sound-sifted L file r e = by (sifted L file) (subst (λ (k : Check Reading). ReadBeside k (sifted L file)) e (read-beside L file))
  where
    refused-not : {A : Type 0} {n o c : ℕ} {a : A} → pass a ≡ refuse n o c → ⊥
    refused-not e = let z : ◌≡◌ {A = ℕ} 0 1 = cc in omega (arith, z)

    of-model : Model Span → List Dropped → Sifted
    of-model m ds = record { model = m; dropped = ds }

    by-reader : {start : ℕ} (s : Sifted) (k : Check Reading) → k ≡ pass r → AsReader start s k → pass s ≡ pass (record { model = r.model; dropped = [] })
    by-reader s _ f (sound e) = let m : s.model ≡ r.model = cc in ap pass (ap₂ of-model m e)
    by-reader s _ f (refuses e) = absurd (refused-not (sym f))

    by : (k : Check Sifted) → ReadBeside (pass r) k → k ≡ pass (record { model = r.model; dropped = [] })
    by _ (earlier f) = absurd (refused-not f)
    by (pass s) (opens h) = by-reader s (pass r) refl h

-- the answer is what reading it and writing its rows gives, whatever stands behind them, where the rows lent are enough; no entry is listed
module _ (L : Layout) (framing : Framing L) (file : List ℕ) (held : Held file) (r : Reading) (accepts : reading L file ≡ pass r) (lent list : ℕ) (enough : room_for r.model ≤ lent) (R : List ℕ) where
  abbrev all : Sifted
  all = record { model = r.model; dropped = [] }

  abbrev by_writer : Check (List ℕ) → Rescue
  by_writer (pass once) = done once (length r.model.objects) []
  by_writer (refuse n o c) = cond (eqb n ROOM) (short (length r.model.objects) 0 (length (plain_file (says file all)))) (refused n o c)

  pub sound-rescue : (room : ℕ) → rescue L file lent list room ≡ by_writer (rewritten file r.model R room)
  unfolding after written_again
  sound-rescue room =
      let opens : sifted L file ≡ pass all = sound-sifted L file r accepts in
      rw (rescue-answers L framing file held all opens lent list room, kept-rows L framing file held all opens R room, kept-written L framing file held all opens room, le-leb (room_for r.model) lent enough, le-leb (entry_width * length {A = Dropped} []) list (omega arith))
      (go (leb (last_end (placed (says file all)) (map length (blobs (says file all)))) end_limit) (leb (length (manifest_bytes (says file all) (placed (says file all)))) manifest_limit) (leb (length (plain_file (says file all))) room))
    where
      go : (p q b : Bool)
          → after ((COUNT unless p) >> (BIG unless q)) (λ u. cond b (done (plain_file (says file all)) (length r.model.objects) []) (short (length r.model.objects) 0 (length (plain_file (says file all)))))
          ≡ by_writer ((COUNT unless p) >> ((BIG unless q) >> ((ROOM unless b) >> pass (plain_file (says file all)))))
      go true true true = refl
      go true true false = refl
      go true false b = refl
      go false q b = refl

-- ---- read back, and rescued again

-- numbers of a model's rows, by what it describes
described-room : (file : List ℕ) (m : Model Span) → room_for m ≡ object_width * length (described_by file m).objects + component_width * length (blobs (described_by file m))
unfolding room_for described_by blobs_in component_count read_object
described-room file m = rw (length-map m.objects (read_object file), counts m.objects) refl
  where
    counts : (os : List (Object Span)) → length (blobs_in (map (read_object file) os)) ≡ component_count os
    counts [] = refl
    counts (o ∷ os) =
        length-append (map (λ c. c.blob) (map (read_component file) o.components)) (blobs_in (map (read_object file) os))
        ∙ ap₂ (λ (x y : ℕ). x + y) (length-map (map (read_component file) o.components) (λ c. c.blob) ∙ length-map o.components (read_component file)) (counts os)

objects-described : (file : List ℕ) (m : Model Span) → length (described_by file m).objects ≡ length m.objects
unfolding described_by
objects-described file m = length-map m.objects (read_object file)

module _ {L : Layout} (framing : Framing L) {file : List ℕ} (held : Held file) {lent list room : ℕ} {once : List ℕ} {count : ℕ} {ds : List Dropped} (r : Rescuing L file lent list room once count ds) where
  abbrev kept-model : Model Span
  kept-model = r.sift.model

  -- what was written is accepted, and describes exactly what is kept, root attributes included
  pub rescued-reads-back : ReadsBack once (described_by file kept-model)
  rescued-reads-back = written-plain-reads-back (described_by file kept-model) (length (plain_file (described_by file kept-model))) (kept_fine L framing file held r.sift r.opens) once r.wrote

  -- with the same rows and output, and any list: the same bytes, as many objects, nothing dropped
  pub rescued-again : (again : ℕ) → rescue current once lent again room ≡ done once count []
  unfolding rescue rescue_into after
  rescued-again again =
      let back : ReadsBack once (described_by file kept-model) = rescued-reads-back in
      let m : Model Span = back.read.model in
      let opens = sound-sifted current once back.read back.is in
      let says_same : described_by once m ≡ described_by file kept-model = back.back in
      let same-room : room_for m ≡ room_for kept-model = described-room once m ∙ ap (λ (d : Described). object_width * length d.objects + component_width * length (blobs d)) says_same ∙ sym (described-room file kept-model) in
      let same_count : length m.objects ≡ count = sym (objects-described once m) ∙ ap (λ (d : Described). length d.objects) says_same ∙ objects-described file kept-model ∙ r.counted in
      rw (opens, says_same, r.wrote, same-room, r.rows_fit, r.file-fits, same_count, le-leb (entry_width * length {A = Dropped} []) again (omega arith)) refl
