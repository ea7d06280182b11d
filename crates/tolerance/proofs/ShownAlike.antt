-- What the firmware and the panel say of files whose manifests are the same, unknown fields, the minor version and the order of fields apart, is the same, byte by byte.
use Prim.Native.Nat.{ℕ}
use native.Mathlib.Omega.{arith}
use mathlib.Core.List.{List, [], ◌∷◌, ◌++◌, map}
use mathlib.Core.Bool.{Bool, true, false}
use mathlib.Core.Path.{◌≡◌, refl, ap, ap₂, sym, ◌∙◌}
use lib.ListN.{length, length-map}
use lib.Dec.{leb}
use Rattle.meaning.specs.Tree.{nothing}
use Rattle.meaning.specs.Check.{Check, pass, refuse, ◌>>=◌, ◌>>◌, ◌unless◌}
use Rattle.meaning.specs.Refusal.{ROOM}
use Rattle.meaning.specs.Read.{Span}
use Rattle.meaning.specs.Model.{Component, Object, Model}
use Rattle.meaning.specs.Notes.{map_check, map_component, map_object, map_model}
use Rattle.meaning.specs.Frame.{Reading, reading}
use Rattle.meaning.specs.Rows.{room_for, roomy, answer, read_into}
use Rattle.meaning.specs.Listing.{blob_line, blob_lines, object_line, object_lines, listing, listing_of}
use Rattle.meaning.specs.Layouts.{Layout}
use Rattle.meaning.specs.Parsed.{parsed, SameFiles}
use Rattle.meaning.proofs.SameReading.{said, readings-same}
use Rattle.reader.specs.Verdict.{verdict}
use Rattle.shown.specs.Accepted.{Framing}
use Rattle.shown.specs.Shown.{listed_then}
use Rattle.shown.proofs.AfterReading.{read-zero, read-listing}
use Rattle.tolerance.specs.Manifests.{SameOnceDropped, FieldsMoved, AlikeEntry}
use Rattle.tolerance.specs.Alike.{answer_of, ReadAlike, refused, accepted}
use Rattle.tolerance.proofs.ReadsAlike.{once-dropped, fields-moved, components-counted, room-same, read_same}

-- ---------------------------------------------------------------- a listing does not look at annotations

blobs-listed : (cs : List (Component Span)) → blob_lines (map (map_component nothing) cs) ≡ blob_lines cs
unfolding blob_lines blob_line
blobs-listed [] = refl
blobs-listed (c ∷ cs) = ap (λ (l : List ℕ). blob_line c ++ l) (blobs-listed cs)

objects-listed : (os : List (Object Span)) → object_lines (map (map_object nothing) os) ≡ object_lines os
unfolding object_lines object_line
objects-listed [] = refl
objects-listed (o ∷ os) = ap₂ (λ (b l : List ℕ). object_line o ++ b ++ l) (blobs-listed o.components) (objects-listed os)

listed : (m : Model Span) → listing (map_model nothing m) ≡ listing m
unfolding listing
listed m = rw (length-map m.objects (map_object nothing), components-counted m.objects, objects-listed m.objects) refl

-- ---------------------------------------------------------------- two readings that say the same

module _ (room : ℕ) where
  -- ROOM is last, and both need the same room
  listed-alike : (r₁ r₂ : Reading) → map_model nothing r₁.model ≡ map_model nothing r₂.model → listing_of (roomy room r₁) ≡ listing_of (roomy room r₂)
  unfolding roomy listing_of
  listed-alike r₁ r₂ e =
      let same : listing r₁.model ≡ listing r₂.model = sym (listed r₁.model) ∙ ap listing e ∙ listed r₂.model in
      rw (room-same r₁.model r₂.model e) (by same (leb (room_for r₂.model) room))
    where
      by : listing r₁.model ≡ listing r₂.model → (b : Bool) → listing_of (ROOM unless b >> pass r₁) ≡ listing_of (ROOM unless b >> pass r₂)
      by same true = same
      by same false = refl

  listings-alike : (k₁ k₂ : Check Reading) → map_check said k₁ ≡ map_check said k₂ → listing_of (k₁ >>= roomy room) ≡ listing_of (k₂ >>= roomy room)
  listings-alike (pass r₁) (pass r₂) e = let z : said r₁ ≡ said r₂ = cc in listed-alike r₁ r₂ (ap (λ x. x.model) z)
  listings-alike (pass r₁) (refuse n o c) e = absurd (let z : ◌≡◌ {A = ℕ} 0 1 = cc in omega arith)
  listings-alike (refuse n o c) (pass r₂) e = absurd (let z : ◌≡◌ {A = ℕ} 0 1 = cc in omega arith)
  listings-alike (refuse n o c) (refuse n' o' c') e = let z : ◌≡◌ {A = Check Reading} (refuse n o c) (refuse n' o' c') = cc in ap listing_of z

verdicts-alike : (k₁ k₂ : Check Reading) → map_check said k₁ ≡ map_check said k₂ → verdict k₁ ≡ verdict k₂
verdicts-alike (pass r₁) (pass r₂) e = refl
verdicts-alike (pass r₁) (refuse n o c) e = absurd (let z : ◌≡◌ {A = ℕ} 0 1 = cc in omega arith)
verdicts-alike (refuse n o c) (pass r₂) e = absurd (let z : ◌≡◌ {A = ℕ} 0 1 = cc in omega arith)
verdicts-alike (refuse n o c) (refuse n' o' c') e = let z : ◌≡◌ {A = Check Reading} (refuse n o c) (refuse n' o' c') = cc in ap verdict z

-- files that are the same once unknown fields are dropped and versions are read alike, but for the order of fields
module _ (L : Layout) (file₁ file₂ : List ℕ) (same : SameFiles L (parsed L file₁) (parsed L file₂)) where
  said_same : map_check said (reading L file₁) ≡ map_check said (reading L file₂)
  said_same = readings-same L file₁ file₂ same

  -- the answer of the acceptance check
  pub accept-same : verdict (reading L file₁) ≡ verdict (reading L file₂)
  accept-same = verdicts-alike (reading L file₁) (reading L file₂) said_same

  -- the listing, or the refusal's line, of a reading into a table of any length
  pub listing-same : (room : ℕ) → listing_of (read_into L file₁ room) ≡ listing_of (read_into L file₂ room)
  unfolding read_into
  listing-same room = listings-alike room (reading L file₁) (reading L file₂) said_same

  module _ (framing : Framing L) (table₁ table₂ : List ℕ) (tables : length table₁ ≡ length table₂) where
    second-accepted : ReadAlike L (AlikeEntry L) file₁ table₁ file₂ table₂ → (answer_of L file₁ table₁).number ≡ 0 → (answer_of L file₂ table₂).number ≡ 0
    unfolding answer
    second-accepted (refused b) z =
        let a : (answer_of L file₁ table₁).number ≡ b.number = ap (λ x. x.number) b.first in let h = b.not-accepted in absurd (omega (arith, a, h, z))
    second-accepted (accepted b) z = ap (λ x. x.number) b.second

    -- after the one file was accepted, and so the other: the panel's lines by the table and counts that the reading left
    pub panel-same : (answer_of L file₁ table₁).number ≡ 0 → listed_then L file₁ table₁ ≡ listed_then L file₂ table₂
    unfolding listing_of
    panel-same z =
        let r₁ = read-zero L file₁ (length table₁) framing z in
        let r₂ = read-zero L file₂ (length table₂) framing (second-accepted (read_same L framing file₁ table₁ file₂ table₂ tables same) z) in
        let lines : listing_of (read_into L file₁ (length table₁)) ≡ listing_of (read_into L file₂ (length table₂)) =
        listing-same (length table₁) ∙ ap (λ (n : ℕ). listing_of (read_into L file₂ n)) tables in
        read-listing L framing file₁ table₁ r₁.0 r₁.1 ∙ ap pass (sym (ap listing_of r₁.1) ∙ lines ∙ ap listing_of r₂.1) ∙ sym (read-listing L framing file₂ table₂ r₂.0 r₂.1)

-- demand 3: the same once unknown fields are dropped
module _ (L : Layout) (file₁ file₂ : List ℕ) (same : SameOnceDropped L (parsed L file₁) (parsed L file₂)) where
  by-dropping : SameFiles L (parsed L file₁) (parsed L file₂)
  by-dropping = once-dropped L (parsed L file₁) (parsed L file₂) same

  pub accept-alike : verdict (reading L file₁) ≡ verdict (reading L file₂)
  accept-alike = accept-same L file₁ file₂ by-dropping

  pub listing-alike : (room : ℕ) → listing_of (read_into L file₁ room) ≡ listing_of (read_into L file₂ room)
  listing-alike = listing-same L file₁ file₂ by-dropping

  pub panel-alike : Framing L → (table₁ table₂ : List ℕ) → length table₁ ≡ length table₂ → (answer_of L file₁ table₁).number ≡ 0 → listed_then L file₁ table₁ ≡ listed_then L file₂ table₂
  panel-alike = panel-same L file₁ file₂ by-dropping

-- Req 06: the same but for the order of fields
module _ (L : Layout) (file₁ file₂ : List ℕ) (same : FieldsMoved L (parsed L file₁) (parsed L file₂)) where
  by-moving : SameFiles L (parsed L file₁) (parsed L file₂)
  by-moving = fields-moved L (parsed L file₁) (parsed L file₂) same

  pub accept-shuffled : verdict (reading L file₁) ≡ verdict (reading L file₂)
  accept-shuffled = accept-same L file₁ file₂ by-moving

  pub listing-shuffled : (room : ℕ) → listing_of (read_into L file₁ room) ≡ listing_of (read_into L file₂ room)
  listing-shuffled = listing-same L file₁ file₂ by-moving

  pub panel-shuffled : Framing L → (table₁ table₂ : List ℕ) → length table₁ ≡ length table₂ → (answer_of L file₁ table₁).number ≡ 0 → listed_then L file₁ table₁ ≡ listed_then L file₂ table₂
  panel-shuffled = panel-same L file₁ file₂ by-moving
