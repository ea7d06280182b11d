-- The reader accepts exactly what a layout and RFC 8949 allow under document 01: one theorem from a file's bytes to the number answered.
use Prim.Native.Nat.{ℕ, zero, suc, ◌+◌, ◌≤◌}
use native.Mathlib.Omega.{arith}
use mathlib.Core.List.{List, [], ◌∷◌}
use mathlib.Core.Logic.{◌⊎◌, inl, inr, ⊎_elim}
use mathlib.Core.Path.{◌≡◌, refl, ap, sym, ◌∙◌}
use lib.ListN.{take, drop}
use lib.Dec.{ltb}
use lib.Pow.{are_bytes}
use Rattle.endian.proofs.Which.{lt-or}
use Rattle.meaning.specs.Check.{Check, pass, refuse, ◌>>=◌}
use Rattle.meaning.specs.Refusal.{CBOR, DEEP, KIND}
use Rattle.meaning.specs.Limit.{depth_limit}
use Rattle.meaning.specs.Tree.{Node, map_p, nothing, meaning}
use Rattle.meaning.specs.Read.{Span, span_to, Outcome, got, refused, after, closed, item, manifest, no_note}
use Rattle.meaning.specs.Encoding.{Bytes, Tree, Encodes}
use Rattle.meaning.specs.Model.{Model}
use Rattle.meaning.specs.Notes.{map_model, map_check}
use Rattle.meaning.specs.Layouts.{Layout}
use Rattle.meaning.specs.Judge.{judge}
use Rattle.meaning.specs.Frame.{Frame, frame, checked, Reading, reading}
use Rattle.meaning.proofs.Exact.{exactly-the-encodings-are-read}
use Rattle.meaning.proofs.ReadNatural.{map_out, item-follows}
use Rattle.meaning.proofs.JudgeNatural.{judge-map}
use Rattle.meaning.proofs.Tests.{both_left, both_right}
use Rattle.meaning.proofs.Checks.{refused-is-not}
use Rattle.reader.specs.Verdict.{verdict}
use Rattle.shown.specs.Accepted.{Framing}
use Rattle.shown.specs.Placed.{Placed}
use Rattle.shown.specs.Exactly.{number, manifest_in, Sound, NoTree, Exactly}
use Rattle.shown.proofs.Judged.{between, passed-so, refused-so}
use Rattle.shown.proofs.ReadingJudged.{Framed, frame-so, tree-so, manifest-refusals}
use Rattle.shown.proofs.Judgement.{judge-so}
use Rattle.shown.proofs.AcceptedFile.{accept-zero}

-- ---- parts of bytes

pub bytes_take : (n : ℕ) (s : List ℕ) → Bytes s → Bytes (take n s)
bytes_take zero s h = refl
bytes_take (suc n) [] h = refl
bytes_take (suc n) (b ∷ s) h = rw (both_left (ltb b 256) (are_bytes s) h) (bytes_take n s (both_right (ltb b 256) (are_bytes s) h))

pub bytes_drop : (n : ℕ) (s : List ℕ) → Bytes s → Bytes (drop n s)
bytes_drop zero s h = h
bytes_drop (suc n) [] h = refl
bytes_drop (suc n) (b ∷ s) h = bytes_drop n s (both_right (ltb b 256) (are_bytes s) h)

-- ---- a tree with spans, and the tree that it means

module _ (end : ℕ) (s : List ℕ) where
  abbrev spanned : Outcome (Node Span)
  spanned = manifest (span_to end) s

  never : {n : ℕ} {t : Node Span} {q r : List ℕ} → refused n q ≡ got t r → ⊥
  never e = let z : ◌≡◌ {A = ℕ} 0 1 = cc in omega arith

  never-bare : {n : ℕ} {t : Tree} {q r : List ℕ} → refused n q ≡ got t r → ⊥
  never-bare e = let z : ◌≡◌ {A = ℕ} 0 1 = cc in omega arith

  -- what is read is encoded
  pub read-encodes : Bytes s → (t : Node Span) (r : List ℕ) → spanned ≡ got t r → Encodes depth_limit (meaning t) s
  unfolding manifest closed no_note
  read-encodes h t r = go (item (span_to end) depth_limit s) refl
    where
      bare : (u : Node Span) (q : List ℕ) → item (span_to end) depth_limit s ≡ got u q → item no_note depth_limit s ≡ got (meaning u) q
      bare u q e = item-follows nothing (span_to end) depth_limit s ∙ ap (map_out (map_p nothing)) e

      close : (u : Node Span) (q : List ℕ) → item no_note depth_limit s ≡ got (meaning u) q → closed u q ≡ got t r → Encodes depth_limit (meaning t) s
      close u [] e f = let z : u ≡ t = cc in (exactly-the-encodings-are-read depth_limit (meaning t) s h).1 (e ∙ ap (λ (v : Node Span). got (meaning v) []) z)
      close u (b ∷ q) e f = absurd (never f)

      go : (o : Outcome (Node Span)) → item (span_to end) depth_limit s ≡ o → after o closed ≡ got t r → Encodes depth_limit (meaning t) s
      go (got u q) i e = close u q (bare u q i) e
      go (refused n q) i e = absurd (never e)

  pub record ReadAs (t : Tree) : Type 0 where
    pub node : Node Span
    pub means : meaning node ≡ t
    pub read : spanned ≡ got node []

  -- what is encoded is read
  pub encoded-reads : Bytes s → (t : Tree) → Encodes depth_limit t s → ReadAs t
  unfolding manifest closed no_note
  encoded-reads h t e = go (item (span_to end) depth_limit s) refl (sym (item-follows nothing (span_to end) depth_limit s) ∙ (exactly-the-encodings-are-read depth_limit t s h).0 e)
    where
      go : (o : Outcome (Node Span)) → item (span_to end) depth_limit s ≡ o → map_out (map_p nothing) o ≡ got t [] → ReadAs t
      go (got u []) i f = record { node = u; means = cc; read = rw i refl }
      go (got u (b ∷ q)) i f = absurd (let z : ◌≡◌ {A = List ℕ} (b ∷ q) [] = cc in let y : ◌≡◌ {A = ℕ} 0 1 = cc in omega arith)
      go (refused n q) i f = absurd (never-bare f)

-- ---- past the frame

module _ (L : Layout) (fits : Framing L) (file : List ℕ) (h : Bytes file) where
  abbrev end_of : Frame → ℕ
  end_of f = f.start + f.size

  part : (f : Frame) → Bytes (manifest_in file f)
  part f = bytes_take f.size (drop f.start file) (bytes_drop f.start file h)

  judged-as : (f : Frame) {t : Tree} (a : ReadAs (end_of f) (manifest_in file f) t) → judge L f.start t ≡ map_check (map_model nothing) (judge L f.start a.node)
  judged-as f a = ap (judge L f.start) (sym a.means) ∙ judge-map nothing L f.start a.node

  -- the reading of a file whose manifest is read as this node
  abbrev rest : Frame → Node Span → Check Reading
  rest f t = judge L f.start t >>= λ m. pass (record { start = f.start; model = m })

  -- of one whose frame is this
  abbrev step : Frame → Check Reading
  step f = checked (manifest (span_to (end_of f)) (manifest_in file f)) >>= rest f

  step_of : (k : Check Frame) → frame L file ≡ k → reading L file ≡ (k >>= step)
  unfolding reading
  step_of k e = ap (λ (k : Check Frame). k >>= step) e

  reading-of : (f : Frame) → frame L file ≡ pass f → (t : Node Span) → manifest (span_to (end_of f)) (manifest_in file f) ≡ got t [] → reading L file ≡ rest f t
  unfolding checked
  reading-of f e t i = step_of (pass f) e ∙ ap (λ (o : Outcome (Node Span)). checked o >>= rest f) i

  sound-accepted : Sound L file → number L file ≡ 0
  sound-accepted s =
      let a = encoded-reads (end_of s.framing) (manifest_in file s.framing) (part s.framing) s.tree s.encodes in
      ap (λ (k : Check Reading). (verdict k).number) (reading-of s.framing s.framed a.node a.read)
      ∙ go (judge L s.framing.start a.node) (sym (judged-as s.framing a) ∙ s.judged)
    where
      go : (k : Check (Model Span)) → map_check (map_model nothing) k ≡ pass s.model → (verdict (k >>= λ m. pass (record { start = s.framing.start; model = m }))).number ≡ 0
      go (pass m) e = refl
      go (refuse n o c) e = absurd (let z : ◌≡◌ {A = ℕ} 0 1 = cc in omega arith)

  accepted-sound : number L file ≡ 0 → Sound L file
  unfolding checked
  accepted-sound z = let q = accept-zero L fits file z in framing (frame L file) refl q.0 q.1
    where
      judging : (f : Frame) → frame L file ≡ pass f → (t : Node Span) → Encodes depth_limit (meaning t) (manifest_in file f) → (k : Check (Model Span)) → judge L f.start t ≡ k → (r : Reading)
          → (k >>= λ m. pass (record { start = f.start; model = m })) ≡ pass r → Sound L file
      judging f e t i (pass m) j r g = record {
        framing = f;
        framed = e;
        tree = meaning t;
        encodes = i;
        model = map_model nothing m;
        judged = judge-map nothing L f.start t ∙ ap (map_check (map_model nothing)) j;
      }
      judging f e t i (refuse n o c) j r g = absurd (refused-is-not g)

      treeing : (f : Frame) → frame L file ≡ pass f → (o : Outcome (Node Span)) → manifest (span_to (end_of f)) (manifest_in file f) ≡ o → (r : Reading)
          → (checked o >>= rest f) ≡ pass r → Sound L file
      treeing f e (got t q) i r g = judging f e t (read-encodes (end_of f) (manifest_in file f) (part f) t q i) (judge L f.start t) refl r g
      treeing f e (refused n q) i r g = absurd (refused-is-not g)

      framing : (k : Check Frame) → frame L file ≡ k → (r : Reading) → reading L file ≡ pass r → Sound L file
      framing (pass f) e r g = treeing f e (manifest (span_to (end_of f)) (manifest_in file f)) refl r (sym (step_of (pass f) e) ∙ g)
      framing (refuse n o c) e r g = absurd (refused-is-not (sym (step_of (refuse n o c) e) ∙ g))

  module _ (f : Frame) (e : frame L file ≡ pass f) where
    so : Framed L file f
    so = passed-so (frame-so L fits file) e

    -- the judgement of a tree refuses with neither
    judged-late : (t : Node Span) → Placed L file f.start depth_limit t → (number_is : ℕ) → (verdict (rest f t)).number ≡ number_is → (number_is ≡ CBOR) ⊎ (number_is ≡ DEEP) → ⊥
    judged-late t p n v = go (judge L f.start t) refl v
      where
        late : (n : ℕ) → KIND ≤ n → (n ≡ CBOR) ⊎ (n ≡ DEEP) → ⊥
        late n h k = ⊎_elim (λ z. omega (arith, h, z)) (λ z. omega (arith, h, z)) k

        go : (k : Check (Model Span)) → judge L f.start t ≡ k → (verdict (k >>= λ m. pass (record { start = f.start; model = m }))).number ≡ n → (n ≡ CBOR) ⊎ (n ≡ DEEP) → ⊥
        go (pass m) j v w = ⊎_elim (λ z. omega (arith, v, z)) (λ z. omega (arith, v, z)) w
        go (refuse m o c) j v w = let b = (between m (refused-so (judge-so L file f.start t p) j)).0 in late n (omega (arith, b, v)) w

    malformed-none : (number L file ≡ CBOR) ⊎ (number L file ≡ DEEP) → NoTree file f
    unfolding checked
    malformed-none w t i =
        let a = encoded-reads (end_of f) (manifest_in file f) (part f) t i in
        let p : Placed L file f.start depth_limit a.node = passed-so (tree-so L file f so) (rw a.read refl) in
        judged-late a.node p (number L file) (ap (λ (k : Check Reading). (verdict k).number) (sym (reading-of f e a.node a.read))) w

    none-malformed : NoTree file f → (number L file ≡ CBOR) ⊎ (number L file ≡ DEEP)
    unfolding checked
    none-malformed none = go (manifest (span_to (end_of f)) (manifest_in file f)) refl
      where
        either : (n : ℕ) → CBOR ≤ n → n ≤ DEEP → (n ≡ CBOR) ⊎ (n ≡ DEEP)
        either n h k = ⊎_elim (λ g. inl (omega (arith, h, g))) (λ g. inr (omega (arith, k, g))) (lt-or n DEEP)

        go : (o : Outcome (Node Span)) → manifest (span_to (end_of f)) (manifest_in file f) ≡ o → (number L file ≡ CBOR) ⊎ (number L file ≡ DEEP)
        go (got t q) i = absurd (none (meaning t) (read-encodes (end_of f) (manifest_in file f) (part f) t q i))
        go (refused n q) i =
            let b = manifest-refusals L file f so i in
            let is : reading L file ≡ refuse n 0 0 = step_of (pass f) e ∙ ap (λ (o : Outcome (Node Span)). checked o >>= rest f) i in
            let v : number L file ≡ n = ap (λ (k : Check Reading). (verdict k).number) is in
            ⊎_elim (λ z. inl (v ∙ z)) (λ z. inr (v ∙ z)) (either n b.0 b.1)

  pub accepts-exactly : Exactly L file
  accepts-exactly = record { accepted = (accepted-sound, sound-accepted); malformed = λ f e. (malformed-none f e, none-malformed f e) }
