-- A merge's answer from two accepted files' sums: each refusal in its place, or the file, whose length is known.
use Prim.Native.Nat.{ℕ, ◌+◌, ◌≤◌, ◌<◌}
use native.Mathlib.Omega.{arith}
use mathlib.Core.List.{List, [], ◌++◌, map}
use mathlib.Core.Bool.{true, false}
use mathlib.Core.Path.{◌≡◌, refl, ap, ap₂, ◌∙◌}
use lib.ListN.{length, length-append, length-map}
use lib.Dec.{leb}
use borrow.Author.Tests.{le-leb, lt-leb}
use Rattle.meaning.specs.Limit.{manifest_limit, end_limit, object_limit}
use Rattle.meaning.specs.Refusal.{COUNT, BIG, TWICE}
use Rattle.meaning.specs.Check.{pass}
use Rattle.meaning.specs.Text.{distinct}
use Rattle.meaning.specs.Read.{Span}
use Rattle.meaning.specs.Model.{Object}
use Rattle.meaning.specs.Layouts.{Layout}
use Rattle.meaning.specs.Frame.{Reading, reading}
use Rattle.meaning.specs.Described.{Described, blobs, described_by}
use Rattle.meaning.specs.Placement.{placement, last_end}
use Rattle.meaning.specs.Manifest.{manifest_bytes}
use Rattle.readback.specs.Lent.{Held}
use Rattle.readback.proofs.Placed.{file-length}
use Rattle.rows.specs.Turns.{reached}
use Rattle.rows.proofs.Turns.{reached-above}
use Rattle.sizes.specs.Size.{capped, head_size}
use Rattle.sizes.proofs.Lengths.{field_size}
use Rattle.shown.specs.Accepted.{Framing}
use Rattle.roundtrip.specs.Again.{plain_file}
use Rattle.merging.specs.Merge.{or_else, merged, refused, about, merge, roomed}
use Rattle.merging.proofs.MergeAnswers.{refusals, merge-of-both}
use Rattle.window.specs.Sums.{all_blobs}
use Rattle.window.specs.Summed.{Sum}
use Rattle.window.proofs.Snoc.{sums_on}
use Rattle.merger.proofs.SumsOfFile as of-file
use Rattle.merger.proofs.SumsOfBoth.{last-end, manifest-long}

module _ (L : Layout) (fl : Framing L) (first : List ℕ) (M : Layout) (fm : Framing M) (second : List ℕ) (held : Held first) (held' : Held second) (r s : Reading)
    (ri : reading L first ≡ pass r) (si : reading M second ≡ pass s) where
  abbrev a : Described
  a = described_by first r.model

  abbrev b : Described
  b = described_by second s.model

  abbrev d : Described
  d = merged a b

  abbrev os : List (Object Span)
  os = r.model.objects

  abbrev ps : List (Object Span)
  ps = s.model.objects

  abbrev offsets : List ℕ
  offsets = placement (map length (blobs d))

  abbrev called : List (List ℕ)
  called = map (λ o. o.name) d.objects

  answers : (lent room : ℕ) → merge L first M second lent room ≡ about 0 (refusals d) (λ u. roomed d lent room)
  answers lent room =
      merge-of-both held held' (record { framing = fl; read = r; is = ri; back = refl }) (record { framing = fm; read = s; is = si; back = refl }) lent room

  la : map length (blobs a) ≡ all_blobs os
  la = of-file.lengths-are L fl first held r ri

  lb : map length (blobs b) ≡ all_blobs ps
  lb = of-file.lengths-are M fm second held' s si

  ends_at : last_end offsets (map length (blobs d)) ≡ reached [] 8 (all_blobs (os ++ ps))
  ends_at = last-end a b os ps la lb (of-file.entries-are L fl first held r ri) (of-file.entries-are M fm second held' s si)

  counted : length called ≡ length os + length ps
  unfolding merged described_by
  counted =
      length-map d.objects (λ o. o.name) ∙ length-append a.objects b.objects
      ∙ ap₂ (λ (x y : ℕ). x + y) (of-file.objects-counted L fl first held r ri) (of-file.objects-counted M fm second held' s si)

  module _ {turn before end total : ℕ} (one : Sum 8 0 os turn before) (two : Sum turn before ps end total) where
    all : Sum 8 0 (os ++ ps) end total
    all = sums_on os ps one two

    pub too_far : end_limit < end → (lent room : ℕ) → merge L first M second lent room ≡ refused 0 COUNT 0 0
    unfolding about
    too_far h lent room =
        let e = all.ends in
        let far : leb (last_end offsets (map length (blobs d))) end_limit ≡ false = lt-leb (last_end offsets (map length (blobs d))) end_limit (omega (arith, h, e, ends_at)) in
        answers lent room ∙ rw far refl

    module _ (near : end ≤ end_limit) where
      pub end_is : last_end offsets (map length (blobs d)) ≡ end
      end_is = let e = all.ends in omega (arith, near, e, ends_at)

      in-time : leb (last_end offsets (map length (blobs d))) end_limit ≡ true
      in-time = le-leb (last_end offsets (map length (blobs d))) end_limit (omega (arith, near, end_is))

      -- where the first's blobs end
      pub turn_is : turn ≡ reached [] 8 (map length (blobs a))
      turn_is =
          let e = one.ends in
          let f = two.ends in
          let l = la in
          omega (arith, e, f, near, reached-above [] turn (all_blobs ps), ap (reached [] 8) la)

      pub manifest-is : (t : ℕ) → t ≡ capped (field_size 11 (or_else a.attributes b.attributes))
          → capped (23 + t + head_size (length os + length ps) + total) ≡ capped (length (manifest_bytes d offsets))
      manifest-is t e =
          let sum = all.adds near in
          let long = manifest-long a b os ps la lb (of-file.entries-are L fl first held r ri) (of-file.entries-are M fm second held' s si) (length os) (length ps)
          (of-file.objects-counted L fl first held r ri) (of-file.objects-counted M fm second held' s si) in
          omega (arith, e, sum, long)

      module _ (m : ℕ) (mi : m ≡ capped (length (manifest_bytes d offsets))) where
        pub too-big : manifest_limit < m → (lent room : ℕ) → merge L first M second lent room ≡ refused 0 BIG 0 0
        unfolding about
        too-big h lent room =
            let big : leb (length (manifest_bytes d offsets)) manifest_limit ≡ false = lt-leb (length (manifest_bytes d offsets)) manifest_limit (omega (arith, h, mi)) in
            answers lent room ∙ rw (in-time, big) refl

        module _ (fits : m ≤ manifest_limit) where
          small : leb (length (manifest_bytes d offsets)) manifest_limit ≡ true
          small = le-leb (length (manifest_bytes d offsets)) manifest_limit (omega (arith, fits, mi))

          pub too_many : object_limit < length os + length ps → (lent room : ℕ) → merge L first M second lent room ≡ refused 0 COUNT 0 0
          unfolding about
          too_many h lent room =
              let many : leb (length called) object_limit ≡ false = lt-leb (length called) object_limit (omega (arith, h, counted)) in
              answers lent room ∙ rw (in-time, small, many) refl

          pub file-long : length (plain_file d) ≡ end + m + 16
          unfolding plain_file
          file-long = omega (arith, file-length d offsets, end_is, mi, fits)

          module _ (few : length os + length ps ≤ object_limit) where
            enough : leb (length called) object_limit ≡ true
            enough = le-leb (length called) object_limit (omega (arith, few, counted))

            pub shares : distinct called ≡ false → (lent room : ℕ) → merge L first M second lent room ≡ refused 0 TWICE 0 0
            unfolding about
            shares h lent room = answers lent room ∙ rw (in-time, small, enough, h) refl

            pub goes-well : distinct called ≡ true → (lent room : ℕ) → merge L first M second lent room ≡ roomed d lent room
            unfolding about
            goes-well h lent room = answers lent room ∙ rw (in-time, small, enough, h) refl
