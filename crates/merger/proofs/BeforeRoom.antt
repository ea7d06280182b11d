-- From what was weighed of both files to the merge's answer before ROOM.
use Prim.Native.Nat.{ℕ, suc, ◌+◌, ◌*◌, ◌≤◌, ◌<◌}
use native.Mathlib.Omega.{arith}
use mathlib.Core.List.{List, ◌++◌, map}
use mathlib.Core.Bool.{Bool, true, false, cond, not, ◌&&◌}
use mathlib.Core.Option.{Option}
use mathlib.Core.Path.{◌≡◌, refl, sym, ap, ap₂, ◌∙◌, subst}
use lib.ListN.{length, drop}
use lib.Dec.{eqb}
use lib.Seq.{sets, length-sets}
use borrow.Author.Tests.{not-true, not-false}
use mir.Val.{Fits}
use mir.Syntax.{w64}
use Rattle.meaning.specs.Limit.{manifest_limit, end_limit, object_limit}
use Rattle.meaning.specs.Check.{Check, refuse}
use Rattle.meaning.specs.Text.{distinct}
use Rattle.meaning.specs.Read.{Span}
use Rattle.meaning.specs.Layouts.{Layout, layout_of}
use Rattle.meaning.specs.Frame.{Reading, reading}
use Rattle.meaning.specs.Rows.{attributes_span}
use Rattle.meaning.specs.Asked.{present_at}
use Rattle.meaning.specs.Sound.{inside}
use Rattle.meaning.specs.Described.{Described, blobs, described_by}
use Rattle.meaning.specs.Manifest.{manifest_bytes}
use Rattle.meaning.specs.Placement.{placement}
use Rattle.names.specs.Names.{listed}
use Rattle.matching.specs.Named.{named}
use Rattle.readback.specs.Lent.{Held}
use Rattle.frame.proofs.Frames.{size_back_lem}
use Rattle.sizes.specs.Size.{capped, head_size, optional_copy}
use Rattle.sizes.proofs.Heads.{head_small}
use Rattle.sizes.proofs.Lengths.{field_size, copied-field}
use Rattle.merging.specs.Merge.{or_else, merged, refused, about, merge}
use Rattle.unshared.specs.Unshared.{none_of}
use Rattle.window.specs.Sums.{name_pairs}
use Rattle.window.proofs.Snoc.{names-length}
use Rattle.merger.specs.Weighed.{Sums, Weighs, WeighedIs, Cases}
use Rattle.merger.specs.declared.weigh.Weighed.{Weighed}
use Rattle.merger.proofs.SumsOfFile as of-file
use Rattle.merger.proofs.AnswerFromSums as answer
use Rattle.merger.proofs.NamesOfBoth as names
use Rattle.merger.specs.Checked.{span, attributes_size, of_file, of_merged, Ready, CheckedIs}
use Rattle.merger.specs.declared.checks.Verdict.{Verdict}
use Rattle.merger.specs.declared.checks.MergeFault.{MergeFault}
use Rattle.numbers.specs.Numbered.{number_of}
use Rattle.numbers.specs.declared.refusal.Refusal.{Refusal}
use Rattle.std.specs.Prelude.{Ok, Err}
use Rattle.numbers.specs.declared.refusal.Refusal.TheVariants as refusals
use Rattle.numbers.specs.declared.fault.FileFault.{FileFault}
use Rattle.std.specs.Prelude.{Result}

-- ---- the kept attributes

kept : (A B : List ℕ) (S Q : Span) → inside A S ≡ true → inside B Q ≡ true → field_size 11 (or_else (present_at A S) (present_at B Q)) ≡ attributes_size S.place S.size Q.place Q.size
unfolding or_else attributes_size present_at
kept A B S Q i j = go (eqb S.place 0 && eqb S.size 0) refl
  where
    go : (t : Bool) → eqb S.place 0 && eqb S.size 0 ≡ t
        → field_size 11 (or_else (present_at A S) (present_at B Q)) ≡ cond (eqb S.place 0 && eqb S.size 0) (optional_copy 11 Q) (optional_copy 11 S)
    go true e = rw e (copied-field B 11 Q j)
    go false e = rw e (rw e at (copied-field A 11 S i))

-- ---- which case it was

refused-so : {c : Check Reading} {p n from : ℕ} {before after : List ℕ} {w : Result Weighed FileFault} → WeighedIs c p n from before w after → (f : FileFault) → w ≡ Err f → c ≡ refuse (number_of f.refusal) f.object f.component
refused-so {c} {p} {n} {from} {before} {after} h f e = subst (λ v. Cases c p n from before v after) e h.case

weighs-so : {c : Check Reading} {p n from : ℕ} {before after : List ℕ} {w : Result Weighed FileFault} → WeighedIs c p n from before w after → (v : Weighed) → w ≡ Ok v → Weighs c p n from before v.objects v.components v.place v.size v.end v.total after
weighs-so {c} {p} {n} {from} {before} {after} h v e = subst (λ v. Cases c p n from before v after) e h.case

pub total-small : {c : Check Reading} {p n from : ℕ} {before after : List ℕ} {w : Result Weighed FileFault} {v : Weighed} → WeighedIs c p n from before w after → w ≡ Ok v → v.total ≤ suc manifest_limit
total-small {v = v} h e = (weighs-so h v e).small.1

module _ (l : ℕ) (first : List ℕ) (l' : ℕ) (second : List ℕ) where
  abbrev L : Layout
  L = layout_of l

  abbrev M : Layout
  M = layout_of l'

  pub first-refused : {names₀ names₁ : List ℕ} {r₁ : Result Weighed FileFault} {f : FileFault} → WeighedIs (reading L first) 8 0 0 names₀ r₁ names₁ → r₁ ≡ Err f → (k : MergeFault) → k ≡ of_file 1 f → CheckedIs l first l' second (Err k)
  unfolding merge about
  first-refused {f = f} weighed e k is = record { case = λ lent room. rw is (rw (refused-so weighed f e) refl) }

  -- a refusal of the merged file
  of-merged : (r : Refusal) (k : MergeFault) → k ≡ of_merged r → ((lent room : ℕ) → merge L first M second lent room ≡ refused 0 (number_of r) 0 0) → CheckedIs l first l' second (Err k)
  of-merged r k is h = record { case = λ lent room. rw is (h lent room) }

  -- the first file is read
  module _ {names₀ names₁ : List ℕ} {r₁ : Result Weighed FileFault} {one : Weighed} (weighed : WeighedIs (reading L first) 8 0 0 names₀ r₁ names₁) (is_read : r₁ ≡ Ok one) (held : Held first) (held' : Held second) where
    abbrev n : ℕ
    n = one.objects

    abbrev c : ℕ
    c = one.components

    abbrev place : ℕ
    place = one.place

    abbrev size : ℕ
    size = one.size

    abbrev turn : ℕ
    turn = one.end

    abbrev before : ℕ
    before = one.total

    w : Weighs (reading L first) 8 0 0 names₀ n c place size turn before names₁
    w = weighs-so weighed one is_read

    few-first : n ≤ 1024
    few-first = let e = w.objects-are in omega (arith, e, of-file.few L (size_back_lem l) first held w.read w.is)

    pub twice-fits : Fits w64 (2 * n)
    twice-fits = let f = few-first in record { fits = omega arith }

    pub second-refused : {names₂ : List ℕ} {r₂ : Result Weighed FileFault} {f : FileFault} → WeighedIs (reading M second) turn before (2 * n) names₁ r₂ names₂ → r₂ ≡ Err f → (k : MergeFault) → k ≡ of_file 2 f → CheckedIs l first l' second (Err k)
    unfolding merge about
    second-refused {f = f} weighed' e k is = record { case = λ lent room. rw is (rw (w.is, refused-so weighed' f e) refl) }

    -- and the second
    module _ {names₂ : List ℕ} {r₂ : Result Weighed FileFault} {two : Weighed} (weighed' : WeighedIs (reading M second) turn before (2 * n) names₁ r₂ names₂) (is-read' : r₂ ≡ Ok two) where
      abbrev k : ℕ
      k = two.objects

      abbrev d : ℕ
      d = two.components

      abbrev other : ℕ
      other = two.place

      abbrev rest : ℕ
      rest = two.size

      abbrev end : ℕ
      end = two.end

      abbrev total : ℕ
      total = two.total

      v : Weighs (reading M second) turn before (2 * n) names₁ k d other rest end total names₂
      v = weighs-so weighed' two is-read'

      few-second : k ≤ 1024
      few-second = let e = v.objects-are in omega (arith, e, of-file.few M (size_back_lem l') second held' v.read v.is)

      pub both-fit : Fits w64 (n + k)
      both-fit = let f = few-first in let g = few-second in record { fits = omega arith }

      abbrev sums : Sums w.read.model 8 0 0 names₀ turn before names₁
      sums = w.sums (of-file.in_window L (size_back_lem l) first held w.read w.is)

      abbrev sums' : Sums v.read.model turn before (2 * n) names₁ end total names₂
      sums' = v.sums (of-file.in_window M (size_back_lem l') second held' v.read v.is)

      pub too_far : end_limit < end → (f : MergeFault) → f ≡ of_merged refusals.Count → CheckedIs l first l' second (Err f)
      too_far h f is = of-merged refusals.Count f is (answer.too_far L (size_back_lem l) first M (size_back_lem l') second held held' w.read v.read w.is v.is sums.sum sums'.sum h)

      module _ (near : end ≤ end_limit) {t h m : ℕ} (t-is : t ≡ capped (attributes_size place size other rest)) (h-is : h ≡ head_size (n + k)) (m-is : m ≡ capped (23 + t + h + total)) where
        abbrev a : Described
        a = described_by first w.read.model

        abbrev b : Described
        b = described_by second v.read.model

        kept-size : field_size 11 (or_else a.attributes b.attributes) ≡ attributes_size place size other rest
        kept-size =
            let x = of-file.attributes-there L (size_back_lem l) first held w.read w.is in
            let y = of-file.attributes-there M (size_back_lem l') second held' v.read v.is in
            let S : Span = attributes_span w.read.model.attributes in
            let Q : Span = attributes_span v.read.model.attributes in
            ap₂ (λ (u z : Option (List ℕ)). field_size 11 (or_else u z)) x.0 y.0 ∙ kept first second S Q x.1 y.1
            ∙ ap₂ (λ (u z : Span). attributes_size u.place u.size z.place z.size) (sym w.attributes-are) (sym v.attributes-are)

        heads-same : h ≡ head_size (length w.read.model.objects + length v.read.model.objects)
        heads-same = h-is ∙ ap head_size (ap₂ (λ (x y : ℕ). x + y) w.objects-are v.objects-are)

        m-means : m ≡ capped (length (manifest_bytes (merged a b) (placement (map length (blobs (merged a b))))))
        m-means =
            m-is ∙ ap (λ (x : ℕ). capped (23 + t + x + total)) heads-same
            ∙ answer.manifest-is L (size_back_lem l) first M (size_back_lem l') second held held' w.read v.read w.is v.is sums.sum sums'.sum near t (t-is ∙ ap capped (sym kept-size))

        pub too-big : manifest_limit < m → (f : MergeFault) → f ≡ of_merged refusals.Big → CheckedIs l first l' second (Err f)
        too-big h f is = of-merged refusals.Big f is (answer.too-big L (size_back_lem l) first M (size_back_lem l') second held held' w.read v.read w.is v.is sums.sum sums'.sum near m m-means h)

        module _ (fits : m ≤ manifest_limit) where
          pub too_many : 1024 < n + k → (f : MergeFault) → f ≡ of_merged refusals.Count → CheckedIs l first l' second (Err f)
          too_many h f is =
              let x = w.objects-are in
              let y = v.objects-are in
              of-merged refusals.Count f is (answer.too_many L (size_back_lem l) first M (size_back_lem l') second held held' w.read v.read w.is v.is sums.sum sums'.sum near m m-means fits (omega (arith, h, x, y)))

          module _ (few : n + k ≤ 1024) (long : length names₀ ≡ 2048) {r : Bool} (found : r ≡ none_of (listed (named first names₂ 0 2) 0 n) (listed (named second names₂ 0 2) n k)) where
            A : List ℕ
            A = name_pairs w.read.model.objects

            B : List ℕ
            B = name_pairs v.read.model.objects

            a-long : length A ≡ 2 * n
            unfolding A
            a-long = names-length w.read.model.objects ∙ ap (λ (x : ℕ). 2 * x) (sym w.objects-are)

            b-long : length B ≡ 2 * k
            unfolding B
            b-long = names-length v.read.model.objects ∙ ap (λ (x : ℕ). 2 * x) (sym v.objects-are)

            firsts : names₁ ≡ sets names₀ 0 A
            unfolding A
            firsts = let e = w.objects-are in sums.names (omega (arith, e, few, long))

            table_is : names₂ ≡ A ++ (B ++ drop (length A + length B) names₀)
            unfolding A B
            table_is =
                let e = v.objects-are in
                let x : length names₁ ≡ 2048 = ap length firsts ∙ length-sets names₀ 0 A ∙ long in
                sums'.names (omega (arith, e, few, x))
                ∙ ap₂ (λ (z : List ℕ) (i : ℕ). sets z i B) firsts (sym a-long)
                ∙ names.both-put A B names₀ (omega (arith, a-long, b-long, few, long))

            r-is : r ≡ distinct (map (λ o. o.name) (merged a b).objects)
            unfolding A B
            r-is =
                found ∙ ap₂ (λ (x y : ℕ). none_of (listed (named first names₂ 0 2) 0 x) (listed (named second names₂ 0 2) x y)) w.objects-are v.objects-are
                ∙ sym (ap distinct (names.called_is L (size_back_lem l) first M (size_back_lem l') second w.read v.read w.is v.is)
                ∙ names.names_apart L (size_back_lem l) first M (size_back_lem l') second w.read v.read w.is v.is names₂ (drop (length A + length B) names₀) table_is)

            few-both : length w.read.model.objects + length v.read.model.objects ≤ object_limit
            few-both = let e = w.objects-are in let f = v.objects-are in omega (arith, e, f, few)

            pub shares : not r ≡ true → (f : MergeFault) → f ≡ of_merged refusals.Twice → CheckedIs l first l' second (Err f)
            shares q f is = of-merged refusals.Twice f is (answer.shares L (size_back_lem l) first M (size_back_lem l') second held held' w.read v.read w.is v.is sums.sum sums'.sum near m m-means fits few-both (sym r-is ∙ not-true r q))

            abbrev verdict : Verdict
            verdict = record { objects = n; components = c; place = place; size = size; turn = turn; others = k; parts = d; other = other; rest = rest; long = end + m + 16 }

            all-ready : r ≡ true → Ready l first l' second verdict
            all-ready e = record {
              held = held;
              held' = held';
              read = w.read;
              read' = v.read;
              is = w.is;
              is' = v.is;
              objects = w.objects-are;
              components = w.components-are;
              attributes = w.attributes-are;
              objects' = v.objects-are;
              components' = v.components-are;
              attributes' = v.attributes-are;
              few = few;
              turn_is = answer.turn_is L (size_back_lem l) first M (size_back_lem l') second held held' w.read v.read w.is v.is sums.sum sums'.sum near;
              in-time = omega (arith, near, answer.end_is L (size_back_lem l) first M (size_back_lem l') second held held' w.read v.read w.is v.is sums.sum sums'.sum near);
              long-is = sym (answer.file-long L (size_back_lem l) first M (size_back_lem l') second held held' w.read v.read w.is v.is sums.sum sums'.sum near m m-means fits);
              left = answer.goes-well L (size_back_lem l) first M (size_back_lem l') second held held' w.read v.read w.is v.is sums.sum sums'.sum near m m-means fits few-both (sym r-is ∙ e);
            }

            pub ready : not r ≡ false → CheckedIs l first l' second (Ok verdict)
            ready q = record { case = all-ready (not-false r q) }

-- ---- the kept attributes' bytes

pub attributes-second : (p s o l : ℕ) {b : Bool} {r : ℕ} → b ≡ eqb p 0 && eqb s 0 → b ≡ true → r ≡ capped (optional_copy 11 (span o l)) → r ≡ capped (attributes_size p s o l)
unfolding attributes_size
attributes-second p s o l absent h f = rw (sym absent ∙ h) f

pub attributes-first : (p s o l : ℕ) {b : Bool} {r : ℕ} → b ≡ eqb p 0 && eqb s 0 → b ≡ false → r ≡ capped (optional_copy 11 (span p s)) → r ≡ capped (attributes_size p s o l)
unfolding attributes_size
attributes-first p s o l absent h f = rw (sym absent ∙ h) f

-- ---- no sum wraps

pub head-fits : (a x : ℕ) {t h : ℕ} → t ≡ capped a → h ≡ head_size x → Fits w64 (23 + t + h)
head-fits a x e f = record { fits = omega (arith, e, f, head_small x) }

pub total-fits : (a x : ℕ) {t h : ℕ} {c : Check Reading} {p n from : ℕ} {before after : List ℕ} {w : Result Weighed FileFault} {v : Weighed} → t ≡ capped a → h ≡ head_size x → WeighedIs c p n from before w after → w ≡ Ok v → Fits w64 (23 + t + h + v.total)
total-fits a x e f weighed is = let s = total-small weighed is in record { fits = omega (arith, e, f, head_small x, s) }
