-- A written file is judged as its description says, and an accepted one reads back as what was described.
use Prim.Native.Nat.{ℕ, ◌+◌, ◌≤◌}
use native.Mathlib.Omega.{arith}
use mathlib.Core.List.{List, [], ◌++◌, map, append_assoc, append-nil}
use mathlib.Core.Bool.{Bool, true, false, cond, not}
use mathlib.Core.Path.{◌≡◌, refl, ap, sym, ◌∙◌, subst}
use lib.Dec.{leb}
use lib.ListN.{length, drop, length-map, take-append-drop}
use borrow.Author.Tests.{leb-true, le-leb}
use Rattle.meaning.specs.Refusal.{DEEP, BIG, COUNT, ROOM}
use Rattle.meaning.specs.Limit.{manifest_limit, end_limit}
use Rattle.meaning.specs.Check.{Check, pass, refuse, ◌>>=◌, ◌>>◌, ◌unless◌, fault}
use Rattle.meaning.specs.Tree.{Node}
use Rattle.meaning.specs.Read.{Span, span_to, manifest}
use Rattle.meaning.specs.Judge.{judge}
use Rattle.meaning.specs.Layouts.{magic, current}
use Rattle.meaning.specs.Frame.{checked, Reading, reading}
use Rattle.meaning.specs.Placement.{placement, last_end}
use Rattle.meaning.specs.Plan.{planned}
use Rattle.meaning.specs.Described.{Described, blobs}
use Rattle.meaning.specs.Manifest.{manifest_bytes}
use Rattle.meaning.specs.WrittenFile.{little_bytes, blobs_over, closing, file_of}
use Rattle.meaning.specs.Write.{written_at, written_plain, written_planned}
use Rattle.meaning.proofs.Checks.{refused-is-not}
use Rattle.readback.specs.Trees.{manifest_piece}
use Rattle.readback.specs.Judged.{too_deep, judged_objects, judged}
use Rattle.readback.specs.Fine.{Fine}
use Rattle.readback.specs.Agrees.{Agrees, refuses}
use Rattle.readback.specs.Back.{AllAt, TellsModel, ReadsBack, ReadsBackAt}
use Rattle.readback.proofs.Planned.{Accepted, accepted, as_many, ends-in-time, front-stays, all-stand, placement-accepted}
use Rattle.readback.proofs.Placed.{body-length}
use Rattle.readback.proofs.Framed.{frame_is, manifest-is, reading-by}
use Rattle.readback.proofs.Agreement.{agrees-map, passed-has, agrees-then}
use Rattle.readback.proofs.PiecesWritten.{manifest-written}
use Rattle.readback.proofs.ManifestRead.{manifest-read, manifest-some}
use Rattle.readback.proofs.BlobsStand.{offsets-fit, stand-all}
use Rattle.readback.proofs.AttributesBack.{Suffix}
use Rattle.readback.proofs.ManifestBack.{manifest-agrees}

-- ---- a file whose blobs stand before its manifest, however they were laid: X is what lies between the header and the manifest

module _ (d : Described) (offsets X : List ℕ) (fine : Fine d) where
  abbrev before : List ℕ
  before = magic ++ X

  abbrev M : List ℕ
  M = manifest_bytes d offsets

  abbrev file : List ℕ
  file = before ++ closing M

  abbrev span : List ℕ → List ℕ → Span
  span = span_to (length before + length M)

  split : file ≡ before ++ (M ++ (little_bytes 8 (length M) ++ magic))
  unfolding closing
  split = ap (λ (r : List ℕ). before ++ r) (append_assoc M (little_bytes 8 (length M)) magic)

  whole : Suffix M ((manifest_piece span d offsets).written ++ [])
  whole = record { before = []; is = sym (append-nil _ ∙ manifest-written span d offsets) }

  module _ (stand : AllAt file (length before) offsets (blobs d)) (low : length before ≤ end_limit) (small : length M ≤ manifest_limit) where
    abbrev tree : Node Span
    tree = (manifest_piece span d offsets).meant []

    -- the manifest is read to its tree, unless it is too deep
    checked-is : checked (manifest span M) ≡ cond (too_deep d) (fault DEEP) (pass tree)
    checked-is = manifest-read span d offsets (offsets-fit file (length before) offsets (blobs d) stand (omega arith)) fine

    abbrev finish : Node Span → Check Reading
    finish t = judge current (length before) t >>= λ m. pass (record { start = length before; model = m })

    finish-agrees : (b : Bool) → too_deep d ≡ b
        → Agrees (λ r. TellsModel file offsets d r.model) (cond b (fault DEEP) (pass tree) >>= finish) ((DEEP unless not b) >> judged_objects d.objects)
    finish-agrees true e = refuses
    finish-agrees false e =
        agrees-map (λ m. record { start = length before; model = m })
        (manifest-agrees file before M (little_bytes 8 (length M) ++ magic) split (length before) d offsets [] fine e (stand-all file (length before) offsets d.objects stand) whole) (λ m r. r)

    pub reading-agrees : Agrees (λ r. TellsModel file offsets d r.model) (reading current file) (judged d)
    unfolding judged
    reading-agrees =
        subst (λ (c : Check Reading). Agrees (λ r. TellsModel file offsets d r.model) c ((DEEP unless not (too_deep d)) >> judged_objects d.objects))
        (sym (reading-by file M (length before) (frame_is X M (manifest-some d offsets) small) (manifest-is X M (manifest-some d offsets) small) ∙ ap (λ (c : Check (Node Span)). c >>= finish) checked-is))
        (finish-agrees (too_deep d) refl)

-- ---- by any accepted plan

nothing-passes : {A B : Type 0} (n : ℕ) (m : Check A) {b : B} → (m >> refuse n 0 0) ≡ pass b → ⊥
nothing-passes n (pass a) e = refused-is-not e
nothing-passes n (refuse n' o c) e = refused-is-not e

module _ (d : Described) (offsets : List ℕ) (fine : Fine d) {ceiling : ℕ} (plan : Accepted ceiling offsets (map length (blobs d))) where
  abbrev laid : List ℕ
  laid = file_of d offsets

  abbrev size : ℕ
  size = length (manifest_bytes d offsets)

  abbrev body : List ℕ
  body = blobs_over magic offsets (blobs d)

  -- the header, and what follows it up to the manifest
  headed : body ≡ magic ++ drop 8 body
  unfolding magic
  headed = sym (take-append-drop 8 body) ∙ ap (λ (h : List ℕ). h ++ drop 8 body) (front-stays magic offsets (blobs d) plan.follows (omega arith))

  pub written-agrees : size ≤ manifest_limit → Agrees (λ r. TellsModel laid offsets d r.model) (reading current laid) (judged d)
  unfolding file_of
  written-agrees small =
      let M : List ℕ = manifest_bytes d offsets in
      let same : magic ++ drop 8 body ++ closing M ≡ body ++ closing M = ap (λ (b : List ℕ). b ++ closing M) (sym headed) in
      let stand = all-stand magic offsets (blobs d) (closing M) plan.follows (magic ++ drop 8 body) (sym headed) in
      let l : length (magic ++ drop 8 body) ≡ last_end offsets (map length (blobs d)) = ap length (sym headed) ∙ body-length d offsets in
      subst (λ (f : List ℕ). Agrees (λ r. TellsModel f offsets d r.model) (reading current f) (judged d)) same
      (reading-agrees d offsets (drop 8 body) fine stand (omega (arith, l, ends-in-time plan)) small)

  -- what the writer answers, without a reading
  pub written-at-is : (room : ℕ) → written_at d offsets room ≡ ((BIG unless leb size manifest_limit) >> (judged d >> ((ROOM unless leb (length laid) room) >> pass laid)))
  unfolding written_at
  written-at-is room = go (leb size manifest_limit) refl
    where
      go : (b : Bool) → leb size manifest_limit ≡ b
          → ((BIG unless b) >> (reading current laid >> ((ROOM unless leb (length laid) room) >> pass laid))) ≡ ((BIG unless b) >> (judged d >> ((ROOM unless leb (length laid) room) >> pass laid)))
      go true e = agrees-then (written-agrees (leb-true size manifest_limit e)) ((ROOM unless leb (length laid) room) >> pass laid)
      go false e = refl

  -- as many offsets as blobs
  planned-each : length offsets ≡ length (blobs d)
  planned-each = as_many plan.follows ∙ length-map (blobs d) (length {A = ℕ})

  -- a file that the reader accepts reads back, with the plan's offsets
  reads-back : size ≤ manifest_limit → (r : Check Reading) → reading current laid ≡ r → (f : List ℕ) → (r >> pass laid) ≡ pass f → ReadsBackAt f d offsets
  reads-back small (pass r) e f h =
      let same : laid ≡ f = cc in
      let t : TellsModel laid offsets d r.model = passed-has (written-agrees small) e in
      subst (λ (g : List ℕ). ReadsBackAt g d offsets) same (record { reads = record { read = r; is = e; back = t.same }; placed = t.placed planned-each })
  reads-back small (refuse n o c) e f h = absurd (refused-is-not h)

  pub written-at-placed : (room : ℕ) (f : List ℕ) → written_at d offsets room ≡ pass f → ReadsBackAt f d offsets
  unfolding written_at
  written-at-placed room f = go (leb size manifest_limit) refl (leb (length laid) room)
    where
      go : (b : Bool) → leb size manifest_limit ≡ b → (b' : Bool) → ((BIG unless b) >> (reading current laid >> ((ROOM unless b') >> pass laid))) ≡ pass f → ReadsBackAt f d offsets
      go true e true h = reads-back (leb-true size manifest_limit e) (reading current laid) refl f h
      go true e false h = absurd (nothing-passes ROOM (reading current laid) h)
      go false e b' h = absurd (refused-is-not h)

  pub written-at-reads-back : (room : ℕ) (f : List ℕ) → written_at d offsets room ≡ pass f → ReadsBack f d
  written-at-reads-back room f h = (written-at-placed room f h).reads

-- ---- by 01's placement

module _ (d : Described) (room : ℕ) (fine : Fine d) where
  abbrev lengths : List ℕ
  lengths = map length (blobs d)

  abbrev placed : List ℕ
  placed = placement lengths

  by-rule : last_end placed lengths ≤ end_limit → Accepted end_limit placed lengths
  by-rule h = accepted end_limit placed lengths (placement-accepted lengths h)

  abbrev rest : Check (List ℕ)
  rest = (BIG unless leb (length (manifest_bytes d placed)) manifest_limit) >> (judged d >> ((ROOM unless leb (length (file_of d placed)) room) >> pass (file_of d placed)))

  pub written-plain-is : written_plain d room ≡ ((COUNT unless leb (last_end placed lengths) end_limit) >> rest)
  unfolding written_plain
  written-plain-is = go (leb (last_end placed lengths) end_limit) refl
    where
      go : (b : Bool) → leb (last_end placed lengths) end_limit ≡ b → ((COUNT unless b) >> written_at d placed room) ≡ ((COUNT unless b) >> rest)
      go true e = written-at-is d placed fine (by-rule (leb-true (last_end placed lengths) end_limit e)) room
      go false e = refl

  pub written-plain-placed : (f : List ℕ) → written_plain d room ≡ pass f → ReadsBackAt f d placed
  unfolding written_plain
  written-plain-placed f = go (leb (last_end placed lengths) end_limit) refl
    where
      go : (b : Bool) → leb (last_end placed lengths) end_limit ≡ b → ((COUNT unless b) >> written_at d placed room) ≡ pass f → ReadsBackAt f d placed
      go true e h = written-at-placed d placed fine (by-rule (leb-true (last_end placed lengths) end_limit e)) room f h
      go false e h = absurd (refused-is-not h)

  pub written-plain-reads-back : (f : List ℕ) → written_plain d room ≡ pass f → ReadsBack f d
  written-plain-reads-back f h = (written-plain-placed f h).reads

  -- the file without a plan is the file of the rule's own plan
  pub plain-is-planned : last_end placed lengths ≤ end_limit → written_plain d room ≡ written_planned d placed end_limit room
  unfolding written_plain written_planned
  plain-is-planned h = rw (le-leb (last_end placed lengths) end_limit h, placement-accepted lengths h) refl

-- ---- by a plan that is lent

module _ (d : Described) (plan : List ℕ) (ceiling room : ℕ) (fine : Fine d) where
  abbrev verdict : Check (Unit {0})
  verdict = planned ceiling plan (map length (blobs d))

  abbrev file-by : Check (List ℕ)
  file-by = (BIG unless leb (length (manifest_bytes d plan)) manifest_limit) >> (judged d >> ((ROOM unless leb (length (file_of d plan)) room) >> pass (file_of d plan)))

  pub written-planned-is : written_planned d plan ceiling room ≡ (verdict >> file-by)
  unfolding written_planned
  written-planned-is = go verdict refl
    where
      go : (v : Check (Unit {0})) → verdict ≡ v → (v >> written_at d plan room) ≡ (v >> file-by)
      go (pass tt) e = written-at-is d plan fine (accepted ceiling plan (map length (blobs d)) e) room
      go (refuse n o c) e = refl

  pub written-planned-placed : (f : List ℕ) → written_planned d plan ceiling room ≡ pass f → ReadsBackAt f d plan
  unfolding written_planned
  written-planned-placed f = go verdict refl
    where
      go : (v : Check (Unit {0})) → verdict ≡ v → (v >> written_at d plan room) ≡ pass f → ReadsBackAt f d plan
      go (pass tt) e h = written-at-placed d plan fine (accepted ceiling plan (map length (blobs d)) e) room f h
      go (refuse n o c) e h = absurd (refused-is-not h)

  pub written-planned-reads-back : (f : List ℕ) → written_planned d plan ceiling room ≡ pass f → ReadsBack f d
  written-planned-reads-back f h = (written-planned-placed f h).reads
