-- From what was found and measured of a file to the rescue's answer before ROOM.
use Prim.Native.Nat.{ℕ, ◌+◌, ◌≤◌, ◌<◌}
use native.Mathlib.Omega.{arith}
use mathlib.Core.List.{List, [], ◌∷◌, map}
use mathlib.Core.Bool.{true, false}
use mathlib.Core.Path.{◌≡◌, refl, sym, ap, ◌∙◌, subst}
use lib.ListN.{length, length-map}
use borrow.Author.Tests.{le-leb}
use mir.Val.{Fits}
use mir.Syntax.{w64}
use borrow.Author.Rules.{part_to_end}
use Rattle.meaning.specs.Limit.{manifest_limit, end_limit, object_limit}
use Rattle.meaning.specs.Check.{Check, pass, refuse}
use Rattle.meaning.specs.Read.{Span}
use Rattle.meaning.specs.Model.{Named, Object, Model}
use Rattle.meaning.specs.Notes.{map_object}
use Rattle.meaning.specs.Judge.{object}
use Rattle.meaning.specs.Layouts.{Layout, layout_of}
use Rattle.meaning.specs.Rows.{component_count, attributes_span}
use Rattle.meaning.specs.Described.{Described, blobs, described_by}
use Rattle.meaning.specs.Every.{Every}
use Rattle.readback.specs.Lent.{Held}
use Rattle.readback.specs.Spelled.{SpelledObject, Spelled}
use Rattle.walk.specs.Reading.{Ends}
use Rattle.walk.proofs.Passed.{Here}
use Rattle.naming.proofs.NamesJudged.{few-names}
use Rattle.frame.proofs.Frames.{size_back_lem}
use Rattle.objects.specs.Found.{judging}
use Rattle.objects.proofs.Few.{few-in-judging}
use Rattle.rows.specs.Turns.{objects_from}
use Rattle.sizes.specs.Size.{capped, head_size, optional_copy}
use Rattle.sizes.proofs.Heads.{head_small}
use Rattle.sizes.proofs.Lengths.{entries_size, field_size, copied-field}
use Rattle.table.specs.Spans.{span_of}
use Rattle.table.proofs.ObjectLoop.{count-mapped}
use Rattle.window.specs.Sums.{all_blobs, entry_sizes}
use Rattle.window.specs.Summed.{InWindow, Sum, spans}
use Rattle.totals.proofs.OfModel as of-model
use Rattle.totals.proofs.OfSum as of-sum
use Rattle.roundtrip.specs.Again.{plain_file, written_again}
use Rattle.rescuing.specs.Sift.{kept, verdicts, sifted}
use Rattle.rescuing.specs.Rescue.{after, rescue, roomed}
use Rattle.rescuing.proofs.KeptStands.{kept-spelled}
use Rattle.rescuing.proofs.RescueAnswers.{refusals, kept-written, rescue-answers}
use Rattle.sieve.specs.declared.Sieve.{Sieve}
use Rattle.sieve.specs.Sieved.{Bounded, Sifted}
use Rattle.rescuer.specs.declared.opening.Found.{Found}
use Rattle.rescuer.specs.Opened as opened
use Rattle.rescuer.specs.Opened.{OpensAt, between, FoundIs}
use Rattle.rescuer.specs.declared.checks.Verdict.{Verdict}
use Rattle.rescuer.specs.Checked.{MeasuredOf, Measured, CheckedIs}
use Rattle.std.specs.Prelude.{Ok, Err}
use Rattle.numbers.specs.declared.refusal.Refusal.TheVariants as refusals
use Rattle.numbers.specs.declared.fault.FileFault.{FileFault}
use Rattle.std.specs.Prelude.{Result}

-- ---- the objects in a window

pub measured-so : (layout : ℕ) (s : List ℕ) (start end : ℕ) {before list after list' : List ℕ} {z : Sieve} → Sifted layout (Here s 0) start end false 0 before list z after list' → Measured layout s start end z
measured-so layout s start end {before} {list} {after} {list'} {z} h t r e ns is few =
    let k = subst (λ u. Sifted layout u start end false 0 before list z after list') (part_to_end s 0) h t r e ns is few in
    record { keeps = k.keeps; drops = k.drops; holds = k.holds; weighs = k.weighs refl }

windows : (L : Layout) (start end : ℕ) (file : List ℕ) (ns : List (Named Ends)) → Every (SpelledObject file) (spans end (kept (verdicts L start ns))) → Every InWindow (kept (verdicts L start ns))
unfolding kept verdicts judging
windows L start end file [] h = tt
windows L start end file (n ∷ ns) h = by (object L start n) refl (windows L start end file ns) h
  where
    by : (k : Check (Object Ends)) → object L start n ≡ k → (Every (SpelledObject file) (spans end (kept (verdicts L start ns))) → Every InWindow (kept (verdicts L start ns)))
        → Every (SpelledObject file) (spans end (kept (k ∷ verdicts L start ns))) → Every InWindow (kept (k ∷ verdicts L start ns))
    by (pass o) e r (q, qs) = (record { rank = q.rank; count = few-in-judging true L start n o e }, r qs)
    by (refuse m o c) e r q = r q

-- ---- the sums of lengths

module _ (place size n : ℕ) {t h : ℕ} (t-is : t ≡ capped (optional_copy 11 (record { place = place; size = size }))) (h-is : h ≡ head_size n) where
  pub head-fits : Fits w64 (23 + t + h)
  head-fits = record { fits = omega (arith, t-is, h-is, head_small n) }

  pub total-fits : {z : Sieve} → Bounded z → Fits w64 (23 + t + h + z.total)
  total-fits b = let k = b.total in record { fits = omega (arith, t-is, h-is, head_small n, k) }

-- ---- from what was found of a file

module _ (layout : ℕ) (file : List ℕ) {w : Result Found FileFault} (says : FoundIs (sifted (layout_of layout) file) layout 0 (length file) (between file) w) where
  abbrev L : Layout
  L = layout_of layout

  there : {v : Result Found FileFault} → w ≡ v → opened.Cases (sifted L file) layout 0 (length file) (between file) v
  there e = subst (λ v. opened.Cases (sifted L file) layout 0 (length file) (between file) v) e says.case

  -- refused as the reader refuses it
  pub refuses : (f : FileFault) → w ≡ Err f → (q : Result Verdict FileFault) → q ≡ Err f → CheckedIs layout file q
  unfolding rescue after
  refuses f e q is = record { case = rw is (λ lent list room. rw (there e) refl) }

  -- it passes up to its objects' names
  module _ {found : Found} (passes : w ≡ Ok found) where
    abbrev start : ℕ
    start = found.start

    abbrev end : ℕ
    end = found.end

    abbrev first : ℕ
    first = found.first

    abbrev place : ℕ
    place = found.place

    abbrev size : ℕ
    size = found.size

    o : OpensAt (sifted L file) layout 0 (length file) start end first (between file first end) place size
    o = there passes

    module _ (held : Held file) {z : Sieve} (measured : Measured layout (between file first end) start end z) where
      abbrev m : Model Span
      m = o.sift.model

      abbrev d : Described
      d = described_by file m

      abbrev ks : List (Check (Object Ends))
      ks = verdicts L start o.named

      of : MeasuredOf end z ks
      of = measured o.objects o.rest o.reads o.named o.names-are (few-names object_limit o.objects o.named o.names-are)

      spelled : Spelled file m
      spelled = kept-spelled L (size_back_lem layout) file held o.sift o.is

      sum : Sum 8 0 m.objects z.place z.total
      sum =
          let w = windows L start end file o.named (subst (Every (SpelledObject file)) o.kept-are spelled.objects) in
          subst (λ os. Sum 8 0 os z.place z.total) (sym o.kept-are) (of.weighs w)

      lengths : map length (blobs d) ≡ all_blobs m.objects
      lengths = of-model.lengths-are file m spelled

      entries : entries_size (objects_from [] 8 d.objects) ≡ entry_sizes 8 m.objects
      entries = of-model.entries-are file m spelled 8

      keeps-are : z.kept ≡ length m.objects
      keeps-are = of.keeps ∙ sym (length-map (kept ks) (map_object (span_of end))) ∙ ap length (sym o.kept-are)

      counted : length d.objects ≡ z.kept
      counted = of-model.objects-counted file m spelled ∙ sym keeps-are

      answers : (lent list room : ℕ) → rescue L file lent list room ≡ after (refusals file o.sift) (λ u. roomed file o.sift lent list room)
      answers = rescue-answers L (size_back_lem layout) file held o.sift o.is

      pub too_far : end_limit < z.place → (f : FileFault) → f ≡ record { refusal = refusals.Count; object = 0; component = 0 } → CheckedIs layout file (Err f)
      unfolding after
      too_far h f is = record { case = rw is λ lent list room. answers lent list room ∙ rw (of-sum.too_far d m.objects lengths entries sum h) refl }

      module _ (near : z.place ≤ end_limit) {t h k : ℕ} (t-is : t ≡ capped (optional_copy 11 (record { place = place; size = size }))) (h-is : h ≡ head_size z.kept) (k-is : k ≡ capped (23 + t + h + z.total)) where
        attributes-size : t ≡ capped (field_size 11 d.attributes)
        attributes-size =
            let a = of-model.attributes-there file m spelled in
            t-is ∙ ap (λ (s : Span). capped (optional_copy 11 s)) o.attributes-are ∙ ap capped (sym (ap (field_size 11) a.0 ∙ copied-field file 11 (attributes_span m.attributes) a.1))

        long-so : k ≡ capped (23 + t + head_size z.kept + z.total)
        long-so = k-is ∙ ap (λ (x : ℕ). capped (23 + t + x + z.total)) h-is

        pub too-big : manifest_limit < k → (f : FileFault) → f ≡ record { refusal = refusals.Big; object = 0; component = 0 } → CheckedIs layout file (Err f)
        unfolding after
        too-big b f is =
            let far = of-sum.in-time d m.objects lengths entries sum near in
            let big = of-sum.too-big d m.objects lengths entries sum near counted attributes-size long-so b in
            record { case = rw is λ lent list room. answers lent list room ∙ rw (far, big) refl }

        pub ready : Bounded z → k ≤ manifest_limit → CheckedIs layout file (Ok (record { start = start; end = end; first = first; place = place; size = size; kept = z.kept; dropped = z.dropped; components = z.components; long = z.place + k + 16 }))
        unfolding after written_again
        ready few fits =
            let in-time = of-sum.in-time d m.objects lengths entries sum near in
            let small = of-sum.small d m.objects lengths entries sum near counted attributes-size long-so fits in
            let long : length (plain_file d) ≡ z.place + k + 16 = of-sum.file-long d m.objects lengths entries sum near counted attributes-size long-so fits in
            record {
              case = record {
                held = held;
                opens = o;
                kept-are = keeps-are;
                dropped-are = of.drops ∙ ap length (sym o.dropped-are);
                components-are = of.holds ∙ sym (count-mapped end (kept ks)) ∙ ap component_count (sym o.kept-are);
                few = (few.kept, few.dropped, few.components);
                long-is = sym long;
                writes = λ room l.
                    kept-written L (size_back_lem layout) file held o.sift o.is room
                    ∙ rw (in-time, small, le-leb (length (plain_file d)) room (omega (arith, l, long))) refl;
                left = λ lent list room. answers lent list room ∙ rw (in-time, small) refl;
              };
            }
