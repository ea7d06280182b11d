-- From what the walk over a root answered to what is answered of the manifest; then from the frame on.
use Prim.Native.Nat.{ℕ, ◌+◌, ◌-◌, ◌*◌, ◌^◌, ◌≤◌, ◌<◌}
use native.Mathlib.Omega.{arith}
use mathlib.Core.List.{List}
use mathlib.Core.Bool.{false}
use mathlib.Core.Path.{◌≡◌, refl, sym, ap, ap₂, ◌∙◌, subst}
use lib.ListN.{length, take, drop, length-drop}
use lib.Seq.{length-take-le, take_all, take-take, take-add, drop-drop, drop_at}
use Rattle.meaning.specs.Check.{Check, pass, refuse}
use Rattle.meaning.specs.Notes.{map_check}
use Rattle.meaning.specs.Layouts.{Layout, layout_of, slot}
use Rattle.meaning.specs.Frame.{frame}
use Rattle.cbor.specs.Ending.{FAULT, code, item_end, refusal_of}
use Rattle.cbor.proofs.Refusals.{fault-number}
use Rattle.walk.specs.Reading.{Ends, left_at, Reads}
use Rattle.fields.specs.Slots.{Holds}
use Rattle.frame.specs.FrameAnswer.{told}
use Rattle.frame.specs.declared.Framed.{Framed}
use Rattle.root.specs.declared.Judged.{Judged}
use Rattle.root.specs.Verdict.{judged, WholeIs, ObjectsAt}
use Rattle.table.specs.declared.span.Span.{Span}
use Rattle.reader.specs.Answer.{AttributesIs}
use Rattle.reader.proofs.Frames.{framed, inside}
use Rattle.reader.proofs.ItemFills as filling
use Rattle.reader.proofs.ItemFills.{Filling}
use Rattle.reader.proofs.RootParts.{attributes_at, field-holds}
use Rattle.rescuing.specs.Sift.{Opened, opened, Sifted, sift, sifted}
use Rattle.rescuer.specs.declared.opening.Told.{Told}
use Rattle.rescuer.specs.declared.opening.Found.{Found}
use Rattle.rescuer.specs.Opened.{manifest_sifted, spanned, Opens, NamesAre, OpensAt, behind, between, FoundIs}
use Rattle.rescuer.proofs.RootNames as naming
use Rattle.rescuer.proofs.RootNames.{Parts, passed_model}
use Rattle.std.specs.Prelude.{Ok, Err, Result}
use Rattle.numbers.specs.declared.refusal.Refusal.{Refusal}
use Rattle.numbers.specs.declared.fault.FileFault.{FileFault}
use Rattle.numbers.specs.declared.refusal.Refusal.TheVariants as refusals
use Rattle.numbers.specs.Numbered.{number_of}
use Rattle.numbers.specs.Answered.{in_file}
use mathlib.Core.Logic.{⊎_elim}
use Rattle.meaning.specs.Rows.{component_count}

-- ---- the walk over the manifest s, lent whole, ended at e

module _ (L : Layout) (end start : ℕ) (s : List ℕ) (e : ℕ) (ended : e ≡ code (item_end 32 s)) where
  refused-number : length s < e → e - FAULT ≡ number_of (refusal_of e)
  unfolding refusal_of
  refused-number l = ⊎_elim (λ h. rw h refl) (λ h. rw h refl) (fault-number 32 s e ended l)

  pub malformed : length s < e → (n : Refusal) → n ≡ refusal_of e → (k : FileFault) → k ≡ record { refusal = n; object = 0; component = 0 } → NamesAre L end start s (Err k)
  malformed l n is k same =
      rw same ((rw (filling.faulty end s e ended l).is refl) ∙ ap (λ (i : ℕ). refuse i 0 0) (refused-number l) ∙ ap (λ (r : Refusal). refuse (number_of r) 0 0) (sym is))

  pub left_over : length s * 1 < 2 ^ 63 → e < length s → (k : FileFault) → k ≡ record { refusal = refusals.Cbor; object = 0; component = 0 } → NamesAre L end start s (Err k)
  left_over lent l k same = rw same (rw (filling.left_over end s e ended (omega arith) l) refl)

  module _ (lent : length s * 1 < 2 ^ 63) (low : e ≤ length s) (high : length s ≤ e) (u : Result Judged FileFault) (says : WholeIs false L s 0 u) where
    abbrev f : Filling end s
    f = filling.filling end s e ended (omega arith) (omega arith)

    verdict : (v : Result Judged FileFault) → u ≡ v → in_file v ≡ judged (map_check (passed_model L 0) (opened L f.tree))
    verdict v same =
        subst (WholeIs false L s 0) same says f.tree f.rest f.reads
        ∙ ap judged (naming.by_names L 0 f.tree)

    pub names-refuse : (g : FileFault) → u ≡ Err g → (q : Result Told FileFault) → q ≡ Err g → NamesAre L end start s q
    names-refuse g same q is = rw is (go (opened L f.tree) refl)
      where
        go : (k : Check (Opened Ends)) → opened L f.tree ≡ k → manifest_sifted L end start s ≡ in_file (Err g)
        go (pass p) h = let z : in_file (Err g) ≡ judged (pass (passed_model L 0 p)) = verdict (Err g) same ∙ ap (λ k. judged (map_check (passed_model L 0) k)) h in absurd (let y : ◌≡◌ {A = ℕ} 0 1 = cc in omega arith)
        go (refuse n o c) h =
            let z : in_file (Err g) ≡ judged (refuse n o c) = verdict (Err g) same ∙ ap (λ k. judged (map_check (passed_model L 0) k)) h in
            let number : number_of g.refusal ≡ n = cc in let object : g.object ≡ o = cc in let component : g.component ≡ c = cc in
            rw (f.is, naming.opened-spanned L end f.tree, h, number, object, component) refl

    pub names-pass : (v : Judged) → u ≡ Ok v → (at : ℕ) → ObjectsAt L s at → Opens L end start s v.attributes at
    names-pass v same at stand = go (opened L f.tree) refl
      where
        go : (k : Check (Opened Ends)) → opened L f.tree ≡ k → Opens L end start s v.attributes at
        go (refuse n o c) h = let z : in_file (Ok v) ≡ judged (refuse n o c) = verdict (Ok v) same ∙ ap (λ k. judged (map_check (passed_model L 0) k)) h in absurd (let y : ◌≡◌ {A = ℕ} 0 1 = cc in omega arith)
        go (pass p) h =
            let z : in_file (Ok v) ≡ judged (pass (passed_model L 0 p)) = verdict (Ok v) same ∙ ap (λ k. judged (map_check (passed_model L 0) k)) h in
            let y : v ≡ record { objects = length (passed_model L 0 p).objects; components = component_count (passed_model L 0 p).objects; attributes = left_at p.attributes } = cc in
            let left_is : v.attributes ≡ left_at p.attributes = ap (λ (v : Judged). v.attributes) y in
            let parts : Parts L f.tree p = naming.parts-of L f.tree p h in
            record {
              opening = p;
              objects = parts.objects;
              names-are = parts.names-are;
              is = rw (f.is, naming.opened-spanned L end f.tree, h) refl;
              attributes-hold =
                  subst (λ l. Holds 31 s l p.attributes) (sym left_is)
                  (field-holds s (omega arith) f.tree f.rest f.reads parts.pairs parts.kind-is (slot attributes_at L.root) p.attributes (sym parts.attributes-are));
              objects-hold =
                  subst (Holds 31 s at) parts.objects-there
                  (stand f.tree f.rest f.reads parts.pairs parts.kind-is);
            }

-- ---- the manifest m, which begins at `start`

module _ (layout start : ℕ) (m : List ℕ) (x : Result Told FileFault) (h : (end start : ℕ) → NamesAre (layout_of layout) end start m x) where
  abbrev end : ℕ
  end = start + length m

  there : (y : Result Told FileFault) → x ≡ y → NamesAre (layout_of layout) end start m y
  there y e = subst (NamesAre (layout_of layout) end start m) e (h end start)

  module _ (v : Told) (e : x ≡ Ok v) (p : ℕ) (here : p ≡ length m - v.objects) (s : Span) (attributes : AttributesIs m v.attributes end s) where
    abbrev o : Opens (layout_of layout) end start m v.attributes v.objects
    o = there (Ok v) e

    abbrev named : Sifted
    named = sift (layout_of layout) start (spanned end o.opening)

    piece_is : behind start m (start + p) end ≡ drop (length m - v.objects) m
    piece_is =
        let a : start + p - start ≡ length m - v.objects = omega (arith, here) in
        let b : end - start ≡ length m = omega arith in
        ap₂ (λ (i j : ℕ). drop i (take j m)) a b ∙ ap (drop (length m - v.objects)) (take_all (length m) m (omega arith))

    pub opens_at : FoundIs (manifest_sifted (layout_of layout) end start m) layout start end (behind start m) (Ok (record { start = start; end = end; first = start + p; place = s.place; size = s.size }))
    unfolding sift
    opens_at = record {
      case = record {
        sift = named;
        is = o.is;
        named = o.opening.named;
        objects = o.objects;
        rest = o.objects-hold.1.rest;
        reads = subst (λ u. Reads 31 u o.objects o.objects-hold.1.rest) (sym piece_is) o.objects-hold.1.reads;
        names-are = o.names-are;
        kept-are = naming.kept-spanned (layout_of layout) start end o.opening.named;
        dropped-are = naming.dropped-spanned (layout_of layout) start end 0 o.opening.named;
        attributes-are = attributes o.opening.attributes o.attributes-hold;
        ordered = (omega arith, omega (arith, here), omega arith);
      };
    }

-- ---- from the frame on

-- a part of a part
part-of-part : (l : List ℕ) (start size first end : ℕ) → start ≤ first → first ≤ end → end ≤ start + size → start + size ≤ length l
    → behind start (take size (drop start l)) first end ≡ between l first end
part-of-part l start size first end a b c d =
    let s : List ℕ = drop start l in
    let i : ℕ = first - start in
    let n : ℕ = end - first in
    let e : end - start ≡ i + n = omega (arith, a, b) in
    let f : start + i ≡ first = omega (arith, a) in
    let g : i ≤ length s = omega (arith, a, b, c, d, length-drop start l) in
    ap (drop i) (take-take (end - start) size s (omega (arith, c))) ∙ ap (λ (k : ℕ). drop i (take k s)) e
    ∙ ap (drop i) (take-add i n s) ∙ drop_at (take i s) (take n (drop i s)) i (length-take-le i s g)
    ∙ ap (take n) (drop-drop i start l ∙ ap (λ (k : ℕ). drop k l) f)

module _ (layout : ℕ) (file : List ℕ) (r : Result Framed Refusal) (asked : frame (layout_of layout) file ≡ told r) where
  pub no-frame : (n : Refusal) → r ≡ Err n → (q : Result Found FileFault) → q ≡ Err (record { refusal = n; object = 0; component = 0 }) → FoundIs (sifted (layout_of layout) file) layout 0 (length file) (between file) q
  unfolding sifted
  no-frame n e q is = record { case = rw is (rw (framed layout file r asked (Err n) e) refl) }

  module _ (fr : Framed) (e : r ≡ Ok fr) where
    abbrev start : ℕ
    start = fr.start

    abbrev size : ℕ
    size = fr.size

    abbrev m : List ℕ
    m = take (start + size - start) (drop start file)

    low : start + size ≤ length file
    low = inside layout file r asked fr e

    as-sized : start + size - start ≡ size
    as-sized = omega arith

    sized : length m ≡ size
    sized = length-take-le (start + size - start) (drop start file) (omega (arith, length-drop start file, low)) ∙ as-sized

    pub short : length file * 1 < 2 ^ 63 → start + length m < FAULT
    short l = omega (arith, low, sized, l)

    sifted-is : sifted (layout_of layout) file ≡ manifest_sifted (layout_of layout) (start + length m) start m
    unfolding sifted
    sifted-is =
        (rw (framed layout file r asked (Ok fr) e) refl)
        ∙ ap₂ (λ (i j : ℕ). manifest_sifted (layout_of layout) (start + i) start (take j (drop start file))) (sym sized) (sym as-sized)

    pub whole : (w : Result Found FileFault) → FoundIs (manifest_sifted (layout_of layout) (start + length m) start m) layout start (start + length m) (behind start m) w
        → FoundIs (sifted (layout_of layout) file) layout 0 (length file) (between file) w
    whole (Err f) h = record { case = sifted-is ∙ h.case }
    whole (Ok v) h =
        let o : OpensAt (manifest_sifted (layout_of layout) (start + length m) start m) layout start (start + length m) v.start v.end v.first (behind start m v.first v.end) v.place v.size = h.case in
        let top : v.end ≤ start + size = omega (arith, o.ordered.2, sized) in
        let piece : behind start m v.first v.end ≡ between file v.first v.end =
        ap (λ (j : ℕ). behind start (take j (drop start file)) v.first v.end) as-sized ∙ part-of-part file start size v.first v.end o.ordered.0 o.ordered.1 top low in
        record {
          case = record {
            sift = o.sift;
            is = sifted-is ∙ o.is;
            named = o.named;
            objects = o.objects;
            rest = o.rest;
            reads = subst (λ u. Reads 31 u o.objects o.rest) piece o.reads;
            names-are = o.names-are;
            kept-are = o.kept-are;
            dropped-are = o.dropped-are;
            attributes-are = o.attributes-are;
            ordered = (omega arith, o.ordered.1, omega (arith, top, low));
          };
        }
