-- What a reading's answer tells the account, and the account's own answer.
use Prim.Native.Nat.{ℕ, suc, ◌+◌, ◌-◌, ◌*◌, ◌≤◌, ◌<◌, ◌^◌}
use native.Mathlib.Omega.{arith}
use mathlib.Core.List.{List, [], ◌∷◌, ◌++◌}
use mathlib.Core.Option.{some}
use mathlib.Core.Path.{◌≡◌, refl, sym, ap, ◌∙◌, subst, subst₂}
use lib.ListN.{length, take, drop, get_elem?, length-append, take-append-drop}
use lib.Seq.{length-take-le}
use mir.Syntax.{w64}
use mir.Val.{Fits}
use Rattle.meaning.specs.Columns.{object_width}
use Rattle.meaning.specs.Check.{Check, pass, refuse}
use Rattle.meaning.specs.Layouts.{Layout, layout_of}
use Rattle.meaning.specs.Frame.{Reading, reading}
use Rattle.meaning.specs.Rows.{rows, room_for, answer, table_after, read_into}
use Rattle.meaning.specs.Every.{Every}
use Rattle.view.specs.All.{all_components}
use Rattle.reader.specs.declared.into.Answer.{Answer}
use Rattle.reader.specs.Answer.{answered}
use Rattle.frame.proofs.Frames.{size_back_lem}
use Rattle.shown.specs.Accepted.{Framing, BlobLies}
use Rattle.shown.proofs.AcceptedFile.{accepted, accepted-blobs}
use Rattle.shown.proofs.AfterReading.{read-accepts, read-zero}
use Rattle.covering.specs.Ranges.{inside}
use Rattle.covering.specs.Order.{Begin, End}
use Rattle.account.specs.Ranges.{ranges, Rows, Gathered}
use Rattle.account.specs.Account as is
use Rattle.account.specs.Placed.{Placed}
use Rattle.account.specs.declared.Bytes.{Bytes}
use Rattle.account.proofs.OfModel.{ranges-are, rows-of, inside_is, both, adds-up}

each_of : {A : Type 0} (Q : A → Type 0) (l : List A) → ((j : ℕ) (a : A) → get_elem? l j ≡ some a → Q a) → Every Q l
each_of Q [] f = tt
each_of Q (a ∷ l) f = (f 0 a refl, each_of Q l (λ j b g. f (suc j) b g))

-- an accepted file
pub placed : (L : Layout) → Framing L → (file : List ℕ) (r : Reading) → reading L file ≡ pass r → Placed L file r
placed L framing file r e = record {
  header = (accepted L framing file r e).header;
  size = let f = (accepted L framing file r e).footer in omega (arith, f);
  blobs = each_of (BlobLies r.start) (all_components r.model.objects) (λ j c g. (accepted-blobs L framing file r e j c g).0);
}

-- ---- the ranges that were gathered are lent

module _ {table : List ℕ} {first n most : ℕ} {b : List ℕ} (r : Rows table first n most) (g : Gathered table first n b) where
  pub front_fits : 2 * n ≤ length b
  front_fits = let a = r.lie in let l = g.long in omega (arith, a, l)

  pub front_long : 2 * n ≡ length (take (2 * n) b)
  front_long = sym (length-take-le (2 * n) b front_fits)

  pub front-begin : Begin 0 (most + 1) (take (2 * n) b)
  front-begin = subst (Begin 0 (most + 1)) (sym g.front) r.begin

  pub front-end : End most (take (2 * n) b)
  front-end = subst (End most) (sym g.front) r.end

  pub counted : {i : ℕ} → i ≡ inside (take (2 * n) b) most → i ≡ inside (ranges table first n) most
  counted e = e ∙ ap (λ (l : List ℕ). inside l most) g.front

  pub still-long : (c : List ℕ) → length c ≡ length (take (2 * n) b) → length (c ++ drop (2 * n) b) ≡ length table
  still-long c e =
      length-append c (drop (2 * n) b) ∙ ap (λ (k : ℕ). k + length (drop (2 * n) b)) e ∙ sym (length-append (take (2 * n) b) (drop (2 * n) b))
      ∙ ap length (take-append-drop (2 * n) b) ∙ g.long

-- ---- the whole

record Read (L : Layout) (file work table : List ℕ) (a : Answer) : Type 0 where
  reading-is : Reading
  reads : read_into L file (length work) ≡ pass reading-is
  lies : Placed L file reading-is
  answers : a ≡ answered (pass reading-is)
  begins : a.start ≡ reading-is.start
  holds : table ≡ rows reading-is.model ++ drop (room_for reading-is.model) work

-- what a reading that refuses nothing left
read : (L : Layout) → Framing L → (file work table : List ℕ) (a : Answer) → a ≡ answered (read_into L file (length work)) → table ≡ table_after work (read_into L file (length work)) → a.number ≡ 0
    → Read L file work table a
unfolding answer table_after
read L framing file work table a e t z =
    let y = read-zero L file (length work) framing (ap (λ (x : Answer). x.number) (sym e) ∙ z) in
    let f : a ≡ answered (pass y.0) = e ∙ ap answered y.1 in
    record {
      reading-is = y.0;
      reads = y.1;
      lies = placed L framing file y.0 (read-accepts L file (length work) y.0 y.1);
      answers = f;
      begins = ap (λ (x : Answer). x.start) f;
      holds = t ∙ ap (table_after work) y.1;
    }

module _ {L : Layout} {file work table : List ℕ} {a : Answer} (k : Read L file work table a) where
  abbrev r : Reading
  r = k.reading-is

  rows_lie : length file * 1 < 2 ^ 63 → Rows table (object_width * a.objects) a.components a.start
  unfolding answer
  rows_lie short =
      subst₂ (λ (x : List ℕ) (y : Answer). Rows x (object_width * y.objects) y.components y.start) (sym k.holds) (sym k.answers)
      (rows-of r.start r.model (drop (room_for r.model) work) k.lies.blobs (omega (arith, k.lies.size, short)))

  within : inside (ranges table (object_width * a.objects) a.components) a.start ≡ is.inside_bytes L file r
  unfolding answer
  within =
      subst₂ (λ (x : List ℕ) (y : Answer). inside (ranges x (object_width * y.objects) y.components) y.start ≡ is.inside_bytes L file r) (sym k.holds) (sym k.answers)
      (ap (λ (x : List ℕ). inside x r.start) (ranges-are r.model (drop (room_for r.model) work)) ∙ inside_is L file r k.lies)

  module _ {i : ℕ} (c : i ≡ inside (ranges table (object_width * a.objects) a.components) a.start) where
    between_is : i + is.between_bytes L file r ≡ a.start - 8
    between_is = omega (arith, c, within, both L file r k.lies, k.begins)

    all-accounted : (back : ℕ) → back ≡ L.size_back
        → ◌≡◌ {A = Bytes} (record { number = 0; object = 0; component = 0; frame = 8 + back; manifest = length file - back - a.start; inside = i; between = a.start - 8 - i })
        (is.accounted L file (read_into L file (length work)))
    unfolding is.accounted is.frame_bytes is.manifest_bytes
    all-accounted back so =
        let w : i ≡ is.inside_bytes L file k.reading-is = c ∙ within in
        let v : k.reading-is.start - 8 - is.inside_bytes L file k.reading-is ≡ is.between_bytes L file k.reading-is = omega (arith, both L file k.reading-is k.lies) in
        rw (so, k.reads, w, k.begins, v) refl

module _ (layout : ℕ) (file work : List ℕ) (a : Answer) (e : a ≡ answered (read_into (layout_of layout) file (length work))) where
  -- accepted: the reading left `table`
  module _ (z : a.number ≡ 0) (table : List ℕ) (t : table ≡ table_after work (read_into (layout_of layout) file (length work))) where
    known : Read (layout_of layout) file work table a
    known = read (layout_of layout) (size_back_lem layout) file work table a e t z

    module _ (short : length file * 1 < 2 ^ 63) where
      pub rows-asked : Rows table (object_width * a.objects) a.components a.start
      rows-asked = rows_lie known short

      pub first_fits : length table ≡ length work → length work * 8 < 2 ^ 63 → Fits w64 (object_width * a.objects)
      first_fits same room = record { fits = omega (arith, rows-asked.lie, same, room) }

    pub past-header : 8 ≤ a.start
    past-header = omega (arith, known.lies.header, known.begins)

    module _ (back : ℕ) (so : back ≡ (layout_of layout).size_back) where
      pub size-inside : back ≤ length file
      size-inside = omega (arith, known.lies.size, so)

      pub manifest-inside : a.start ≤ length file - back
      manifest-inside = omega (arith, known.lies.size, known.begins, so)

    module _ {i : ℕ} (c : i ≡ inside (ranges table (object_width * a.objects) a.components) a.start) where
      pub inside-before : i ≤ a.start - 8
      inside-before = omega (arith, between_is known c)

      pub accounted-is : (back : ℕ) → back ≡ (layout_of layout).size_back
          → ◌≡◌ {A = Bytes} (record { number = 0; object = 0; component = 0; frame = 8 + back; manifest = length file - back - a.start; inside = i; between = a.start - 8 - i })
          (is.accounted (layout_of layout) file (read_into (layout_of layout) file (length work)))
      accounted-is = all-accounted known c

  -- refused
  pub refused : (a.number ≡ 0 → ⊥)
      → ◌≡◌ {A = Bytes} (record { number = a.number; object = a.object; component = a.component; frame = 0; manifest = 0; inside = 0; between = 0 })
      (is.accounted (layout_of layout) file (read_into (layout_of layout) file (length work)))
  refused h = by (read_into (layout_of layout) file (length work)) e
    where
      by : (x : Check Reading) → a ≡ answered x
          → ◌≡◌ {A = Bytes} (record { number = a.number; object = a.object; component = a.component; frame = 0; manifest = 0; inside = 0; between = 0 }) (is.accounted (layout_of layout) file x)
      by (pass r) f = absurd (h (unfold answer in ap (λ (y : Answer). y.number) f))
      by (refuse n o c) f = unfold answer is.accounted in rw f refl

-- of every accepted file the four are the whole
pub whole-file : (L : Layout) → Framing L → (file : List ℕ) (r : Reading) → reading L file ≡ pass r
    → is.frame_bytes L file r + is.manifest_bytes L file r + is.inside_bytes L file r + is.between_bytes L file r ≡ length file
whole-file L framing file r e = adds-up L file r (placed L framing file r e)
