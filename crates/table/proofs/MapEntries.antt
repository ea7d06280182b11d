-- The entries of a map of names that pass, entry by entry: none, one more at the end, and all of a map.
use Prim.Native.Nat.{ℕ, ◌+◌}
use native.Mathlib.Omega.{arith}
use mathlib.Core.List.{List, [], ◌∷◌, ◌++◌, map}
use mathlib.Core.Path.{◌≡◌, ap, sym, ◌∙◌}
use lib.ListN.{length}
use lib.Dec.{leb}
use Rattle.meaning.specs.Tree.{Node, Pair}
use Rattle.meaning.specs.Check.{Check, pass, ◌>>=◌, ◌>>◌, ◌unless◌, each}
use Rattle.meaning.specs.Text.{all, utf8, distinct}
use Rattle.meaning.specs.Refusal.{TEXT, COUNT, TWICE}
use Rattle.meaning.specs.Model.{Named}
use Rattle.meaning.specs.Kind.{kind, mapping, a_mapping, as_mapping}
use Rattle.meaning.specs.Field.{name_of, names}
use Rattle.meaning.proofs.Checks.{pass_same, passed_on, passed, each-length}
use Rattle.walk.specs.Reading.{Ends}
use Rattle.naming.proofs.Entries.{each_snoc}
use Rattle.table.specs.Entered.{Entered}

-- a check of each that passes, with one more at the end
pub record Last {A B : Type 0} (f : ℕ → A → Check B) (l : List A) (a : A) (bs : List B) : Type 0 where
  pub front : List B
  pub last : B
  pub front-is : each f 0 l ≡ pass front
  pub last-is : f (length l) a ≡ pass last
  pub are : bs ≡ front ++ last ∷ []

last_of : {A B : Type 0} (f : ℕ → A → Check B) (l : List A) (a : A) (bs : List B) → each f 0 (l ++ a ∷ []) ≡ pass bs → Last f l a bs
last_of {A} {B} f l a bs e =
    let x = passed (each f 0 l) (λ bs. f (0 + length l) a >>= λ b. pass (bs ++ b ∷ [])) bs (sym (each_snoc f 0 l a) ∙ e) in
    let y = passed (f (0 + length l) a) (λ b. pass (x.value ++ b ∷ [])) bs x.then in
    let z : 0 + length l ≡ length l = omega arith in
    record { front = x.value; last = y.value; front-is = x.is; last-is = ap (λ i. f i a) (sym z) ∙ y.is; are = sym (pass_same y.then) }

module _ {B : Type 0} (f : ℕ → Named Ends → Check B) where
  pub none-entered : (bs : List B) → Entered f [] bs → bs ≡ []
  none-entered bs h =
      let z : [] ≡ h.named = pass_same h.names-are in
      sym (pass_same (ap (each f 0) z ∙ h.are))

  pub record LastEntered (done : List (Pair Ends)) (p : Pair Ends) (bs : List B) : Type 0 where
    pub front : List B
    pub last : B
    pub name : Named Ends
    pub before : Entered f done front
    pub name-is : name_of p ≡ pass name
    pub last-is : f (length done) name ≡ pass last
    pub are : bs ≡ front ++ last ∷ []

  pub last-entered : (done : List (Pair Ends)) (p : Pair Ends) (bs : List B) → Entered f (done ++ p ∷ []) bs → LastEntered done p bs
  last-entered done p bs h =
      let x = last_of (λ i. name_of) done p h.named h.names-are in
      let y = last_of f x.front x.last bs (ap (each f 0) (sym x.are) ∙ h.are) in
      let l : length x.front ≡ length done = each-length (λ i. name_of) 0 done x.front x.front-is in
      record {
        front = y.front;
        last = y.last;
        name = x.last;
        before = record { named = x.front; names-are = x.front-is; are = y.front-is };
        name-is = x.last-is;
        last-is = ap (λ i. f i x.last) (sym l) ∙ y.last-is;
        are = y.are;
      }

  pub as_many : (done : List (Pair Ends)) (bs : List B) → Entered f done bs → length bs ≡ length done
  as_many done bs h = each-length f 0 h.named bs h.are ∙ each-length (λ i. name_of) 0 done h.named h.names-are

  -- all entries of a map whose names pass
  pub all-entered : (limit : ℕ) (x : Node Ends) (ps : List (Pair Ends)) → kind x ≡ mapping ps → (bs : List B) → (names limit x >>= each f 0) ≡ pass bs → Entered f ps bs
  unfolding names a_mapping as_mapping
  all-entered limit x ps is bs e =
      let a = passed (names limit x) (each f 0) bs e in
      let b = passed (a_mapping x) (λ ps. each (λ i. name_of) 0 ps >>= λ ns. (TEXT unless all (λ n. utf8 n.name.letters) ns) >> ((COUNT unless leb (length ns) limit) >> ((TWICE unless distinct (map (λ n. n.name.letters) ns)) >> pass ns))) a.value a.is in
      let same : b.value ≡ ps = pass_same (sym b.is ∙ ap as_mapping is) in
      let c = passed (each (λ i. name_of) 0 b.value) (λ ns. (TEXT unless all (λ n. utf8 n.name.letters) ns) >> ((COUNT unless leb (length ns) limit) >> ((TWICE unless distinct (map (λ n. n.name.letters) ns)) >> pass ns))) a.value b.then in
      let d = passed_on (TEXT unless all (λ n. utf8 n.name.letters) c.value) ((COUNT unless leb (length c.value) limit) >> ((TWICE unless distinct (map (λ n. n.name.letters) c.value)) >> pass c.value)) a.value c.then in
      let g = passed_on (COUNT unless leb (length c.value) limit) ((TWICE unless distinct (map (λ n. n.name.letters) c.value)) >> pass c.value) a.value d in
      let h = pass_same (passed_on (TWICE unless distinct (map (λ n. n.name.letters) c.value)) (pass c.value) a.value g) in
      record { named = c.value; names-are = ap (each (λ i. name_of) 0) (sym same) ∙ c.is; are = ap (each f 0) h ∙ a.then }
