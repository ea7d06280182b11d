-- Two accepted files' names in a table of two numbers a name: whether they are distinct together is whether none is shared.
use Prim.Native.Nat.{ℕ, suc, ◌+◌, ◌*◌, ◌≤◌}
use native.Mathlib.Omega.{arith}
use mathlib.Core.List.{List, [], ◌∷◌, ◌++◌, map, append_assoc}
use mathlib.Core.Bool.{Bool, true, false}
use mathlib.Core.Path.{◌≡◌, refl, sym, ap, ap₂, ◌∙◌}
use lib.ListN.{length, take, drop, get_or, length-append}
use lib.Seq.{sets, sets-eq, get_or-append-add}
use Rattle.meaning.specs.Columns.{name_column, name_length_column}
use Rattle.meaning.specs.Limit.{object_limit}
use lib.Dec.{leb}
use Rattle.meaning.specs.Refusal.{TEXT, COUNT, TWICE}
use Rattle.meaning.specs.Check.{pass, ◌>>◌, ◌unless◌}
use Rattle.meaning.specs.Text.{all, utf8, distinct}
use Rattle.meaning.specs.Read.{Span}
use Rattle.meaning.specs.Model.{Object}
use Rattle.meaning.specs.Layouts.{Layout}
use Rattle.meaning.specs.Frame.{Reading, reading}
use Rattle.meaning.specs.Rows.{word_span}
use Rattle.meaning.specs.Described.{DescribedObject, read_object, described_by}
use Rattle.meaning.proofs.Checks.{refused-is-not}
use Rattle.meaning.proofs.Lengths.{map_both}
use Rattle.meaning.specs.Every.{Every}
use Rattle.names.specs.Names.{listed}
use Rattle.table.proofs.Runs as laying
use Rattle.matching.specs.Named.{name_at, named}
use Rattle.readback.specs.Judged.{judged_names}
use Rattle.readback.specs.Spelled.{SpelledObject}
use Rattle.shown.specs.Accepted.{Framing}
use Rattle.roundtrip.proofs.If.{passed-so}
use Rattle.roundtrip.proofs.AcceptedSpelled.{accepted-spelled}
use Rattle.roundtrip.proofs.AcceptedJudged.{GoodModel, reading-good}
use Rattle.merging.specs.Merge.{merged}
use Rattle.unshared.specs.Unshared.{none_of}
use Rattle.unshared.proofs.Together.{distinct-together}
use Rattle.window.specs.Sums.{name_pairs}
use Rattle.window.proofs.Snoc.{names-length}

abbrev letters : List (Object Span) → List (List ℕ)
letters os = map (λ o. o.name.letters) os

-- the names from number i on, where the table holds their places
names-listed : (file : List ℕ) (os : List (Object Span)) → Every (SpelledObject file) os → (pre post : List ℕ) (i : ℕ) → length pre ≡ 2 * i
    → listed (named file (pre ++ (name_pairs os ++ post)) 0 2) i (length os) ≡ letters os
unfolding listed name_pairs named name_at
names-listed file [] h pre post i e = refl
names-listed file (o ∷ os) (h, hs) pre post i e =
    let w : Span = word_span o.name in
    let pair : List ℕ = w.place ∷ w.size ∷ [] in
    let rest : List ℕ = name_pairs os ++ post in
    let T : List ℕ = pre ++ (w.place ∷ w.size ∷ rest) in
    let same : T ≡ (pre ++ pair) ++ rest = sym (append_assoc pre pair rest) in
    let long : length (pre ++ pair) ≡ 2 * suc i = length-append pre pair ∙ omega (arith, e) in
    ap₂ (λ (x : List ℕ) (xs : List (List ℕ)). x ∷ xs) (here T (get_or-append-add pre (w.place ∷ w.size ∷ rest) 0 0) (get_or-append-add pre (w.place ∷ w.size ∷ rest) 1 0) ∙ h.name.spelled)
    (ap (λ (t : List ℕ). listed (named file t 0 2) (suc i) (length os)) same ∙ names-listed file os hs (pre ++ pair) post (suc i) long)
  where
    here : (T : List ℕ) → get_or T (length pre + 0) 0 ≡ (word_span o.name).place → get_or T (length pre + 1) 0 ≡ (word_span o.name).size
        → named file T 0 2 i ≡ take (word_span o.name).size (drop (word_span o.name).place file)
    here T p q =
        let u : 0 + 2 * i + name_column ≡ length pre + 0 = omega (arith, e) in
        let v : 0 + 2 * i + name_length_column ≡ length pre + 1 = omega (arith, e) in
        ap₂ (λ (x y : ℕ). take x (drop y file)) (ap (λ (k : ℕ). get_or T k 0) v ∙ q) (ap (λ (k : ℕ). get_or T k 0) u ∙ p)

-- both files' places, one after the other
pub both-put : (A B l : List ℕ) → length A + length B ≤ length l → sets (sets l 0 A) (length A) B ≡ A ++ (B ++ drop (length A + length B) l)
both-put A B l room =
    let z : length A ≡ 0 + length A = omega arith in
    let y : 0 + length (A ++ B) ≡ length A + length B = ap (λ (k : ℕ). 0 + k) (length-append A B) ∙ omega arith in
    ap (λ (k : ℕ). sets (sets l 0 A) k B) z ∙ sym (laying.sets-append A B l 0) ∙ sets-eq (A ++ B) l 0 (omega (arith, y, room))
    ∙ ap (λ (k : ℕ). (A ++ B) ++ drop k l) y ∙ append_assoc A B (drop (length A + length B) l)

distinct-passed : (ns : List (List ℕ)) → judged_names object_limit ns ≡ pass tt → distinct ns ≡ true
unfolding judged_names
distinct-passed ns = go (all utf8 ns) (leb (length ns) object_limit) (distinct ns)
  where
    go : (a b c : Bool) → ((TEXT unless a) >> ((COUNT unless b) >> (TWICE unless c))) ≡ pass tt → c ≡ true
    go true true true h = refl
    go true true false h = absurd (refused-is-not h)
    go true false c h = absurd (refused-is-not h)
    go false b c h = absurd (refused-is-not h)

names_of : (file : List ℕ) (os : List (Object Span)) → map (λ o. o.name) (map (read_object file) os) ≡ letters os
unfolding read_object
names_of file [] = refl
names_of file (o ∷ os) = ap (λ (r : List (List ℕ)). o.name.letters ∷ r) (names_of file os)

module _ (L : Layout) (fl : Framing L) (first : List ℕ) (M : Layout) (fm : Framing M) (second : List ℕ) (r s : Reading) (ri : reading L first ≡ pass r) (si : reading M second ≡ pass s) where
  abbrev os : List (Object Span)
  os = r.model.objects

  abbrev ps : List (Object Span)
  ps = s.model.objects

  pub called_is : map (λ o. o.name) (merged (described_by first r.model) (described_by second s.model)).objects ≡ letters os ++ letters ps
  unfolding merged described_by
  called_is = map_both (λ (o : DescribedObject). o.name) (map (read_object first) os) (map (read_object second) ps) ∙ ap₂ (λ (x y : List (List ℕ)). x ++ y) (names_of first os) (names_of second ps)

  pub names_apart : (table rest : List ℕ) → table ≡ name_pairs os ++ (name_pairs ps ++ rest)
      → distinct (letters os ++ letters ps) ≡ none_of (listed (named first table 0 2) 0 (length os)) (listed (named second table 0 2) (length os) (length ps))
  names_apart table rest e =
      let g : GoodModel r.model = passed-so (reading-good L first) ri in
      let k : GoodModel s.model = passed-so (reading-good M second) si in
      let x : listed (named first table 0 2) 0 (length os) ≡ letters os =
      ap (λ (t : List ℕ). listed (named first t 0 2) 0 (length os)) e ∙ names-listed first os (accepted-spelled L fl first r ri).objects [] (name_pairs ps ++ rest) 0 refl in
      let y : listed (named second table 0 2) (length os) (length ps) ≡ letters ps =
      ap (λ (t : List ℕ). listed (named second t 0 2) (length os) (length ps)) e ∙ names-listed second ps (accepted-spelled M fm second s si).objects (name_pairs os) rest (length os) (names-length os) in
      distinct-together (letters os) (letters ps) (distinct-passed (letters os) g.names) (distinct-passed (letters ps) k.names) ∙ ap₂ none_of (sym x) (sym y)
