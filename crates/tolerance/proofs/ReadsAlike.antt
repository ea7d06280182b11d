-- Files whose manifests are the same, unknown fields, the minor version and the order of fields apart, are read alike, in any layout.
use Prim.Native.Nat.{ℕ, ◌+◌, ◌≤◌}
use native.Mathlib.Omega.{arith}
use mathlib.Core.List.{List, [], ◌∷◌, ◌++◌, map}
use mathlib.Core.Bool.{Bool, true, false}
use mathlib.Core.Path.{◌≡◌, refl, ap, ap₂, sym, subst, ◌∙◌}
use lib.ListN.{length, take, drop, length-map, length-append, length-drop}
use lib.Seq.{drop_at}
use lib.Dec.{leb}
use borrow.Author.Tests.{leb-true}
use Rattle.meaning.specs.Tree.{Node, meaning, nothing}
use Rattle.meaning.specs.Check.{Check, pass, refuse, ◌>>=◌}
use Rattle.meaning.specs.Refusal.{SHORT, ROOM}
use Rattle.meaning.specs.Read.{Span, span_to, manifest}
use Rattle.meaning.specs.Model.{Object, Model}
use Rattle.meaning.specs.Notes.{map_check, map_component, map_object, map_model}
use Rattle.meaning.specs.Judge.{judge}
use Rattle.meaning.specs.Frame.{frame, checked, Reading, reading}
use Rattle.meaning.specs.Rows.{attributes_span, component_count, room_for, roomy, rows, answer, table_after, read_into}
use Rattle.meaning.specs.Layouts.{Layout}
use Rattle.meaning.specs.Moved.{alike, ComponentMoved}
use Rattle.meaning.specs.Parsed.{Parsed, parsed, SameManifest, SameFiles}
use Rattle.meaning.proofs.MoveDrop.{root-drop}
use Rattle.meaning.proofs.SameReading.{judged, reading-parsed, said, readings-same}
use Rattle.meaning.specs.Limit.{depth_limit}
use Rattle.meaning.proofs.Entries.{Along}
use Rattle.meaning.proofs.Lengths.{rows_fill}
use Rattle.shown.specs.Accepted.{Framing}
use Rattle.shown.specs.Placed.{Placed}
use Rattle.shown.proofs.Judged.{JudgedFrom, passes, bind, passed-so}
use Rattle.shown.proofs.ReadingJudged.{frame-so, tree-so}
use Rattle.shown.proofs.AcceptedFile.{accepted, refusals-of-reading}
use Rattle.tolerance.specs.Manifests as tolerance
use Rattle.tolerance.specs.Manifests.{BothPass, SameOnceDropped, MovedManifest, FieldsMoved, SameEntry, AlikeEntry}
use Rattle.tolerance.specs.Alike.{acceptance, afterwards, ReadAlike, refused, accepted as both}
use Rattle.tolerance.proofs.RowsAlike.{Entries, maps-alike, table-alike}
use Rattle.tolerance.proofs.EntriesMoved.{Passes, EntriesRelated, same_entries, moved-entries, alike-entries}
use Rattle.tolerance.proofs.Entries.{entries-alike}

-- ---------------------------------------------------------------- the premises

-- any premise on what was parsed is the one on files that are the same, if it implies it
same-files : (L : Layout) (S : Parsed → Parsed → Type 0) → ((p q : Parsed) → S p q → SameManifest L p q) → (k₁ k₂ : Check Parsed) → BothPass S k₁ k₂ → SameFiles L k₁ k₂
same-files L S f (pass p) (pass q) s = f p q s
same-files L S f (pass p) (refuse n o c) s = absurd s
same-files L S f (refuse n o c) k s = absurd s

module _ (L : Layout) where
  dropped-same : (p q : Parsed) → tolerance.SameManifest L p q → SameManifest L p q
  dropped-same p q s = record { start = s.start; same = rw s.meant alike }

  moved_same : (p q : Parsed) → MovedManifest L p q → SameManifest L p q
  moved_same p q s = record { start = s.start; same = root-drop L (meaning p.tree) (meaning q.tree) s.moved }

  -- demand 3's premise is a case of the one for files that are the same, and so is Req 06's
  pub once-dropped : (k₁ k₂ : Check Parsed) → SameOnceDropped L k₁ k₂ → SameFiles L k₁ k₂
  once-dropped = same-files L (tolerance.SameManifest L) dropped-same

  pub fields-moved : (k₁ k₂ : Check Parsed) → FieldsMoved L k₁ k₂ → SameFiles L k₁ k₂
  fields-moved = same-files L (MovedManifest L) moved_same

  both-pass : (k₁ k₂ : Check Parsed) → SameFiles L k₁ k₂ → BothPass (SameManifest L) k₁ k₂
  both-pass (pass p) (pass q) s = s
  both-pass (pass p) (refuse n o c) s = absurd s
  both-pass (refuse n o c) k s = absurd s

-- ---------------------------------------------------------------- the entries of both

-- what a file that passes checks 1 to 7 holds
record Holds (L : Layout) (file : List ℕ) (p : Parsed) : Type 0 where
  header : 8 ≤ p.start
  placed : Placed L file p.start depth_limit p.tree

parsed-so : (L : Layout) → Framing L → (file : List ℕ) → JudgedFrom SHORT (Holds L file) (parsed L file)
unfolding parsed
parsed-so L framing file =
    bind (frame L file) _ (frame-so L framing file) λ f h.
    bind (checked (manifest (span_to (f.start + f.size)) (take f.size (drop f.start file)))) _ (tree-so L file f h) λ t placed. passes _ (record { header = h.header; placed = placed })

judged-from : (L : Layout) (p : Parsed) (r : Reading) → judged L p ≡ pass r → (judge L p.start p.tree ≡ pass r.model) × (p.start ≡ r.start)
unfolding judged
judged-from L p r = by (judge L p.start p.tree)
  where
    by : (k : Check (Model Span)) → (k >>= λ m. pass (record { start = p.start; model = m })) ≡ pass r → (k ≡ pass r.model) × (p.start ≡ r.start)
    by (pass m) e = let z : record { start = p.start; model = m } ≡ r = cc in (ap (λ (q : Reading). pass q.model) z, ap (λ (q : Reading). q.start) z)
    by (refuse n o c) e = absurd (let z : ◌≡◌ {A = ℕ} 0 1 = cc in omega arith)

module _ (L : Layout) (framing : Framing L) (E : Node (Unit {0}) → Node (Unit {0}) → Type 0) (S : Parsed → Parsed → Type 0)
    (same_start : (p q : Parsed) → S p q → p.start ≡ q.start)
    (related : (p q : Parsed) → S p q → Passes (judge L p.start p.tree) → EntriesRelated L p.tree q.tree E)
    (file₁ file₂ : List ℕ) (h : BothPass S (parsed L file₁) (parsed L file₂)) (r₁ r₂ : Reading) (reads₁ : reading L file₁ ≡ pass r₁) (reads₂ : reading L file₂ ≡ pass r₂) where
  both-entries : Along (Entries L E file₁ file₂) r₁.model.objects r₂.model.objects
  both-entries = by (parsed L file₁) refl (parsed L file₂) refl h
    where
      by : (k₁ : Check Parsed) → parsed L file₁ ≡ k₁ → (k₂ : Check Parsed) → parsed L file₂ ≡ k₂ → BothPass S k₁ k₂ → Along (Entries L E file₁ file₂) r₁.model.objects r₂.model.objects
      by (pass p) e₁ (pass q) e₂ s =
          let a = passed-so (parsed-so L framing file₁) e₁ in
          let b = passed-so (parsed-so L framing file₂) e₂ in
          let x = judged-from L p r₁ (sym (ap (λ (k : Check Parsed). k >>= judged L) e₁) ∙ sym (reading-parsed L file₁) ∙ reads₁) in
          let y = judged-from L q r₂ (sym (ap (λ (k : Check Parsed). k >>= judged L) e₂) ∙ sym (reading-parsed L file₂) ∙ reads₂) in
          let start : q.start ≡ p.start = sym (same_start p q s) in
          let placed₂ : Placed L file₂ p.start depth_limit q.tree = subst (λ (n : ℕ). Placed L file₂ n depth_limit q.tree) start b.placed in
          let judged₂ : judge L p.start q.tree ≡ pass r₂.model = subst (λ (n : ℕ). judge L n q.tree ≡ pass r₂.model) start y.0 in
          entries-alike L E file₁ file₂ p.start a.header p.tree q.tree a.placed placed₂ (related p q s (record { given = r₁.model; is = x.0 })) r₁.model r₂.model x.0 judged₂
      by (pass p) e₁ (refuse n o c) e₂ s = absurd s
      by (refuse n o c) e₁ k₂ e₂ s = absurd s

-- ---------------------------------------------------------------- counts of models that are the same with annotations forgotten

pub components-counted : (os : List (Object Span)) → component_count (map (map_object nothing) os) ≡ component_count os
unfolding component_count
components-counted [] = refl
components-counted (o ∷ os) = let a = length-map o.components (map_component nothing) in let b = components-counted os in omega (arith, a, b)

module _ (m₁ m₂ : Model Span) (same : map_model nothing m₁ ≡ map_model nothing m₂) where
  objects-same : length m₁.objects ≡ length m₂.objects
  objects-same = sym (length-map m₁.objects (map_object nothing)) ∙ ap (λ (m : Model (Unit {0})). length m.objects) same ∙ length-map m₂.objects (map_object nothing)

  components-same : component_count m₁.objects ≡ component_count m₂.objects
  components-same = sym (components-counted m₁.objects) ∙ ap (λ (m : Model (Unit {0})). component_count m.objects) same ∙ components-counted m₂.objects

  pub room-same : room_for m₁ ≡ room_for m₂
  unfolding room_for
  room-same = let a = objects-same in let b = components-same in omega (arith, a, b)

-- ---------------------------------------------------------------- a table that begins with a model's rows

module _ (m : Model Span) where
  behind : (rest : List ℕ) → drop (room_for m) (rows m ++ rest) ≡ rest
  behind rest = drop_at (rows m) rest (room_for m) (rows_fill m)

  whole : (table : List ℕ) → room_for m ≤ length table → length (rows m ++ drop (room_for m) table) ≡ length table
  whole table h =
      let a = length-append (rows m) (drop (room_for m) table) in let b = rows_fill m in let c = length-drop (room_for m) table in
      omega (arith, a, b, c, h)

-- ---------------------------------------------------------------- the two readings

module _ (L : Layout) (framing : Framing L) (E : Node (Unit {0}) → Node (Unit {0}) → Type 0) (file₁ table₁ file₂ table₂ : List ℕ) (tables : length table₁ ≡ length table₂) where
  same-refusal : (n o c : ℕ) → 1 ≤ n → read_into L file₁ (length table₁) ≡ refuse n o c → read_into L file₂ (length table₂) ≡ refuse n o c → ReadAlike L E file₁ table₁ file₂ table₂
  unfolding table_after
  same-refusal n o c h e₁ e₂ = refused (record {
    number = n;
    object = o;
    component = c;
    not-accepted = h;
    first = ap answer e₁;
    second = ap answer e₂;
    untouched₁ = ap (table_after table₁) e₁;
    untouched₂ = ap (table_after table₂) e₂;
  })

  module _ (start : ℕ) (m₁ m₂ : Model Span) (same : map_model nothing m₁ ≡ map_model nothing m₂)
      (reads₁ : reading L file₁ ≡ pass (record { start = start; model = m₁ })) (reads₂ : reading L file₂ ≡ pass (record { start = start; model = m₂ }))
      (entries : Along (Entries L E file₁ file₂) m₁.objects m₂.objects) where
    abbrev reading₁ : Reading
    reading₁ = record { start = start; model = m₁ }

    abbrev reading₂ : Reading
    reading₂ = record { start = start; model = m₂ }

    both-accepted : room_for m₁ ≤ length table₁ → read_into L file₁ (length table₁) ≡ pass reading₁ → read_into L file₂ (length table₂) ≡ pass reading₂
        → ReadAlike L E file₁ table₁ file₂ table₂
    unfolding answer table_after room_for
    both-accepted h e₁ e₂ =
        let a₁ = accepted L framing file₁ reading₁ reads₁ in
        let a₂ = accepted L framing file₂ reading₂ reads₂ in
        both (record {
          objects = length m₁.objects;
          components = component_count m₁.objects;
          start = start;
          attributes₁ = attributes_span m₁.attributes;
          attributes₂ = attributes_span m₂.attributes;
          first = ap answer e₁;
          second = ap answer e₂ ∙ ap₂ (λ (n c : ℕ). acceptance n c start (attributes_span m₂.attributes)) (sym (objects-same m₁ m₂ same)) (sym (components-same m₁ m₂ same));
          root = maps-alike L E file₁ file₂ start a₁.header 31 m₁.attributes m₂.attributes a₁.model.attributes a₂.model.attributes
              (ap (λ (m : Model (Unit {0})). m.attributes) same);
          rows = rw (e₁, e₂) (table-alike L E file₁ file₂ start a₁.header m₁ m₂ a₁.model.objects a₂.model.objects same entries (drop (room_for m₁) table₁) (drop (room_for m₂) table₂));
          room = h;
          whole₁ = ap (λ (k : Check Reading). length (table_after table₁ k)) e₁ ∙ whole m₁ table₁ h;
          whole₂ = ap (λ (k : Check Reading). length (table_after table₂ k)) e₂ ∙ whole m₂ table₂ (let r = room-same m₁ m₂ same in omega (arith, h, r, tables));
          beyond₁ = ap (λ (k : Check Reading). drop (room_for m₁) (table_after table₁ k)) e₁ ∙ behind m₁ (drop (room_for m₁) table₁);
          beyond₂ = subst (λ (n : ℕ). drop n (afterwards L file₂ table₂) ≡ drop n table₂) (sym (room-same m₁ m₂ same))
              (ap (λ (k : Check Reading). drop (room_for m₂) (table_after table₂ k)) e₂ ∙ behind m₂ (drop (room_for m₂) table₂));
        })

    -- ROOM is last, and both have the same room
    both_read : ReadAlike L E file₁ table₁ file₂ table₂
    unfolding read_into roomy
    both_read = by (leb (room_for m₁) (length table₁)) refl
      where
        second : (b : Bool) → leb (room_for m₁) (length table₁) ≡ b → leb (room_for m₂) (length table₂) ≡ b
        second b e = subst (λ (n : ℕ). leb n (length table₂) ≡ b) (room-same m₁ m₂ same) (subst (λ (n : ℕ). leb (room_for m₁) n ≡ b) tables e)

        by : (b : Bool) → leb (room_for m₁) (length table₁) ≡ b → ReadAlike L E file₁ table₁ file₂ table₂
        by true e = both-accepted (leb-true (room_for m₁) (length table₁) e) (rw (reads₁, e) refl) (rw (reads₂, second true e) refl)
        by false e = same-refusal ROOM 0 0 (omega arith) (rw (reads₁, e) refl) (rw (reads₂, second false e) refl)

  -- the readings say the same, and the entries of those that are accepted are related
  reads-alike : map_check said (reading L file₁) ≡ map_check said (reading L file₂)
      → ((r₁ r₂ : Reading) → reading L file₁ ≡ pass r₁ → reading L file₂ ≡ pass r₂ → Along (Entries L E file₁ file₂) r₁.model.objects r₂.model.objects)
      → ReadAlike L E file₁ table₁ file₂ table₂
  unfolding read_into
  reads-alike h entries = by (reading L file₁) refl (reading L file₂) refl h
    where
      by : (k₁ : Check Reading) → reading L file₁ ≡ k₁ → (k₂ : Check Reading) → reading L file₂ ≡ k₂ → map_check said k₁ ≡ map_check said k₂ → ReadAlike L E file₁ table₁ file₂ table₂
      by (pass r₁) e₁ (pass r₂) e₂ s =
          let z : said r₁ ≡ said r₂ = cc in
          both_read r₁.start r₁.model r₂.model (ap (λ x. x.model) z) e₁ (e₂ ∙ ap (λ n. pass (record { start = n; model = r₂.model })) (sym (ap (λ x. x.start) z)))
          (entries r₁ r₂ e₁ e₂)
      by (pass r₁) e₁ (refuse n o c) e₂ s = absurd (let z : ◌≡◌ {A = ℕ} 0 1 = cc in omega arith)
      by (refuse n o c) e₁ (pass r₂) e₂ s = absurd (let z : ◌≡◌ {A = ℕ} 0 1 = cc in omega arith)
      by (refuse n o c) e₁ (refuse n' o' c') e₂ s =
          let z : ◌≡◌ {A = Check Reading} (refuse n' o' c') (refuse n o c) = cc in
          let b = (refusals-of-reading L framing file₁ n o c e₁).0 in
          same-refusal n o c (omega (arith, b)) (ap (λ (k : Check Reading). k >>= roomy (length table₁)) e₁) (ap (λ (k : Check Reading). k >>= roomy (length table₂)) (e₂ ∙ z))

  -- a premise on what was parsed that makes the manifests the same, and their entries related
  module _ (S : Parsed → Parsed → Type 0) (same : (p q : Parsed) → S p q → SameManifest L p q)
      (related : (p q : Parsed) → S p q → Passes (judge L p.start p.tree) → EntriesRelated L p.tree q.tree E) where
    read-related : BothPass S (parsed L file₁) (parsed L file₂) → ReadAlike L E file₁ table₁ file₂ table₂
    read-related h =
        reads-alike (readings-same L file₁ file₂ (same-files L S same (parsed L file₁) (parsed L file₂) h))
        (both-entries L framing E S (λ p q s. (same p q s).start) related file₁ file₂ h)

module _ (L : Layout) (framing : Framing L) (file₁ table₁ file₂ table₂ : List ℕ) (tables : length table₁ ≡ length table₂) where
  -- Files that are the same once unknown fields are dropped and versions are read alike, but for the order of fields: `read` answers alike, whatever stands between the magic and
  -- the manifest.
  pub read_same : SameFiles L (parsed L file₁) (parsed L file₂) → ReadAlike L (AlikeEntry L) file₁ table₁ file₂ table₂
  read_same h =
      read-related L framing (AlikeEntry L) file₁ table₁ file₂ table₂ tables (SameManifest L) (λ p q s. s) (λ p q s j. alike-entries L p.tree q.tree p.start j s.same)
      (both-pass L (parsed L file₁) (parsed L file₂) h)

  -- demand 3: an old reader meets a newer 1.x writer
  pub read_alike : SameOnceDropped L (parsed L file₁) (parsed L file₂) → ReadAlike L (SameEntry L) file₁ table₁ file₂ table₂
  read_alike =
      read-related L framing (SameEntry L) file₁ table₁ file₂ table₂ tables (tolerance.SameManifest L) (dropped-same L) (λ p q s j. same_entries L p.tree q.tree s.meant)

  -- Req 06: exporters shuffle fields
  pub read-shuffled : FieldsMoved L (parsed L file₁) (parsed L file₂) → ReadAlike L ComponentMoved file₁ table₁ file₂ table₂
  read-shuffled =
      read-related L framing ComponentMoved file₁ table₁ file₂ table₂ tables (MovedManifest L) (moved_same L) (λ p q s j. moved-entries L p.tree q.tree p.start j s.moved)
