-- After a file was read into a table, every component's view is its blob, its row says where its map stands, and the listing is the one of what was read.
use Prim.Native.Nat.{ℕ, zero, suc, ◌+◌, ◌≤◌, ◌<◌}
use native.Mathlib.Omega.{arith}
use mathlib.Core.List.{List, [], ◌∷◌}
use mathlib.Core.Bool.{Bool, true, false}
use mathlib.Core.Option.{Option, some}
use mathlib.Core.Path.{◌≡◌, refl, ap, ap₂, sym, subst, ◌∙◌}
use lib.ListN.{length, drop, get_elem?}
use lib.Dec.{leb}
use borrow.Author.Tests.{le-ltb}
use Rattle.meaning.specs.Check.{Check, pass, refuse, ◌>>=◌, ◌>>◌, ◌unless◌}
use Rattle.meaning.specs.Refusal.{INDEX, ROOM}
use Rattle.meaning.specs.Read.{Span, bytes_at, item, no_note}
use Rattle.meaning.specs.Model.{Component}
use Rattle.meaning.specs.Frame.{Reading, reading}
use Rattle.meaning.specs.Rows.{room_for, roomy, component_count, answer, table_after, read_into}
use Rattle.meaning.specs.View.{viewed, part_at, view}
use Rattle.meaning.specs.Listing.{listing}
use Rattle.meaning.specs.Layouts.{Layout}
use Rattle.meaning.specs.Judge.{component}
use Rattle.view.specs.All.{all_components}
use Rattle.view.proofs.OfRows.{all-counted, entry-of-rows, viewed-of-rows, view-of-rows}
use Rattle.panel.proofs.OfRows.{listed-of-rows}
use Rattle.shown.specs.Accepted.{Framing}
use Rattle.shown.specs.Shown.{viewed_then, view_then, listed_then, entry_then, EntryShown, Shown}
use Rattle.shown.proofs.AcceptedFile.{refusals-of-reading, accepted, lies-in-file, accepted-component, accepted-blobs}

-- a reading into a table is an accepted one, if there is room
module _ (L : Layout) (file : List ℕ) (room : ℕ) where
  pub read-accepts : (r : Reading) → read_into L file room ≡ pass r → reading L file ≡ pass r
  unfolding read_into roomy
  read-accepts r = by (reading L file)
    where
      roomy-same : (q : Reading) (b : Bool) → (ROOM unless b >> pass q) ≡ pass r → pass q ≡ pass r
      roomy-same q true e = e
      roomy-same q false e = absurd (let z : ◌≡◌ {A = ℕ} 0 1 = cc in omega arith)

      by : (k : Check Reading) → (k >>= λ q. ROOM unless leb (room_for q.model) room >> pass q) ≡ pass r → k ≡ pass r
      by (pass q) e = roomy-same q (leb (room_for q.model) room) e
      by (refuse n o c) e = absurd (let z : ◌≡◌ {A = ℕ} 0 1 = cc in omega arith)

  -- an answer of 0 is no refusal
  pub read-zero : Framing L → (answer (read_into L file room)).number ≡ 0 → (r : Reading) × (read_into L file room ≡ pass r)
  unfolding read_into roomy answer
  read-zero framing = by (reading L file) refl
    where
      fits : (q : Reading) (b : Bool) → (answer (ROOM unless b >> pass q)).number ≡ 0 → (r : Reading) × ((ROOM unless b >> pass q) ≡ pass r)
      fits q true z = (q, refl)
      fits q false z = absurd (omega (arith, z))

      by : (k : Check Reading) → reading L file ≡ k → (answer (k >>= roomy room)).number ≡ 0 → (r : Reading) × ((k >>= roomy room) ≡ pass r)
      by (pass q) e z = fits q (leb (room_for q.model) room) z
      by (refuse n o c) e z = let h = (refusals-of-reading L framing file n o c e).0 in absurd (omega (arith, h, z))

module _ (L : Layout) (framing : Framing L) (file table : List ℕ) (r : Reading) (reads : read_into L file (length table) ≡ pass r) where
  read-so : reading L file ≡ pass r
  read-so = read-accepts L file (length table) r reads

  pub read_view : (j : ℕ) (c : Component Span) → get_elem? (all_components r.model.objects) j ≡ some c → Shown L file table r j c
  unfolding answer table_after
  read_view j c there =
      let lies = accepted-blobs L framing file r read-so j c there in
      let a = lies.0.before-manifest in let b = lies.1 in
      let inside : c.offset + c.length ≤ length file = omega (arith, a, b) in
      let rest : List ℕ = drop (room_for r.model) table in
      record {
        blob = lies.0;
        manifest-inside = lies.1;
        range = rw reads (viewed-of-rows file rest r.model j c there inside);
        bytes = rw reads (view-of-rows file rest r.model j c there inside);
      }

  pub read-entry : (j : ℕ) (c : Component Span) → get_elem? (all_components r.model.objects) j ≡ some c → EntryShown L file table r j c
  unfolding answer table_after
  read-entry j c there =
      let own = (accepted-component L framing file r read-so j c there).part.entry in
      let n = entry-of-rows (drop (room_for r.model) table) r.model j c there in
      let said : entry_then L file table j ≡ c.entry = rw reads (ap₂ (λ (p s : ℕ). record { place = p; size = s }) n.0 n.1) in
      record {
        entry = own;
        judged = λ none-given. ap (λ (above : Option ℕ). component L r.start above (record { name = c.name; value = own.node })) (sym (own.ungiven none-given)) ∙ own.judged;
        said = said;
        alone = ap (λ (s : Span). item no_note 28 (bytes_at file s)) (said ∙ own.noted) ∙ own.stands.stands.read;
      }

  pub read-listing : listed_then L file table ≡ pass (listing r.model)
  unfolding answer table_after
  read-listing = let all = accepted L framing file r read-so in rw reads (listed-of-rows file (drop (room_for r.model) table) r.model (lies-in-file L file r all) all.model.objects)

  -- every index below the count is a component's
  pub read-index : (j : ℕ) → j < (answer (read_into L file (length table))).components → (c : Component Span) × (get_elem? (all_components r.model.objects) j ≡ some c)
  unfolding answer
  read-index j h =
      let a : j < component_count r.model.objects = subst (λ (k : Check Reading). j < (answer k).components) reads h in
      let b = all-counted r.model.objects in
      has (all_components r.model.objects) j (omega (arith, a, b))
    where
      has : (l : List (Component Span)) (j : ℕ) → j < length l → (c : Component Span) × (get_elem? l j ≡ some c)
      has [] j h = absurd (omega (arith, h))
      has (c ∷ l) zero h = (c, refl)
      has (c ∷ l) (suc j) h = has l j (omega (arith, h))

-- from the count on, whatever the answer was
module _ (L : Layout) (file table : List ℕ) (j : ℕ) (past : (answer (read_into L file (length table))).components ≤ j) where
  pub read-view-past : viewed_then L file table j ≡ refuse INDEX 0 0
  unfolding viewed
  read-view-past = rw (le-ltb j (answer (read_into L file (length table))).components past) refl

  pub read-view-none : view_then L file table j ≡ []
  unfolding view part_at
  read-view-none = ap (part_at file) read-view-past
