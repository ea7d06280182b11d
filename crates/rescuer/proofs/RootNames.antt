-- What a root says up to its objects' names: the walk's verdict is the definition's, the attributes and objects stand where it says, and spans may take the place of the bytes left.
use Prim.Native.Nat.{ℕ, suc}
use mathlib.Core.List.{List, [], ◌∷◌, map}
use mathlib.Core.Bool.{false}
use mathlib.Core.Option.{some}
use mathlib.Core.Path.{◌≡◌, refl, sym, ap, ◌∙◌}
use Rattle.meaning.specs.Limit.{object_limit}
use Rattle.meaning.specs.Tree.{Node, Pair, map_p}
use Rattle.meaning.specs.Check.{Check, pass, refuse, ◌>>=◌, in_object, each}
use Rattle.meaning.specs.Read.{Span}
use Rattle.meaning.specs.Model.{Named, Object, Model}
use Rattle.meaning.specs.Notes.{map_check, map_named, map_object}
use Rattle.meaning.specs.Kind.{kind, mapping}
use Rattle.meaning.specs.Layouts.{Layout, slot, objects_at}
use Rattle.meaning.specs.Field.{field, names}
use Rattle.meaning.specs.Judge.{object}
use Rattle.meaning.proofs.JudgeNatural.{Bind, root_fields-map, names-map, optional-attributes, object-map, a_version-map}
use Rattle.meaning.proofs.Checks.{pass_same, passed}
use Rattle.walk.specs.Reading.{Ends}
use Rattle.objects.specs.Found.{passed_over, judging, objects_by}
use Rattle.root.specs.Verdict.{judge_by}
use Rattle.table.specs.Spans.{span_of}
use Rattle.reader.proofs.RootParts.{attributes_at, rooted}
use Rattle.rescuing.specs.Sift.{Dropped, Opened, opened, kept, dropped, verdicts}
use Rattle.rescuer.specs.Opened.{spanned}

-- ---- objects that are passed over

module _ {P : Type 0} (L : Layout) (start : ℕ) where
  abbrev pub passed_model : Opened P → Model P
  passed_model o = record { attributes = o.attributes; objects = map passed_over o.named }

  all-passed : (i : ℕ) (ns : List (Named P)) → each (λ i n. in_object i (judging false L start n)) i ns ≡ pass (map passed_over ns)
  unfolding judging
  all-passed i [] = refl
  all-passed i (n ∷ ns) = rw (all-passed (suc i) ns) refl

  over-names : (t : Node P) → objects_by false L start t ≡ map_check (map passed_over) (names object_limit t)
  unfolding objects_by
  over-names t = by (names object_limit t)
    where
      by : (k : Check (List (Named P))) → (k >>= λ ns. each (λ i n. in_object i (judging false L start n)) 0 ns) ≡ map_check (map passed_over) k
      by (pass ns) = all-passed 0 ns
      by (refuse n o c) = refl

  pub by_names : (t : Node P) → judge_by false L start t ≡ map_check passed_model (opened L t)
  unfolding judge_by opened
  by_names t = simp (over-names, Bind)

-- ---- what a root that passes is made of

pub record Parts (L : Layout) (t : Node Ends) (o : Opened Ends) : Type 0 where
  pub pairs : List (Pair Ends)
  pub kind-is : kind t ≡ mapping pairs
  pub objects : Node Ends
  pub objects-there : field (slot objects_at L.root) pairs ≡ some objects
  pub names-are : names object_limit objects ≡ pass o.named
  pub attributes-are : o.attributes ≡ field (slot attributes_at L.root) pairs

pub parts-of : (L : Layout) (t : Node Ends) (o : Opened Ends) → opened L t ≡ pass o → Parts L t o
unfolding opened
parts-of L t o e =
    let root = rooted L t (λ a objects. names object_limit objects >>= λ ns. pass (record { attributes = a; named = ns })) o e in
    let found = passed (names object_limit root.objects) _ o root.then in
    let whole = pass_same found.then in
    record {
      pairs = root.pairs;
      kind-is = root.kind-is;
      objects = root.objects;
      objects-there = root.objects-there;
      names-are = found.is ∙ ap pass (ap (λ (o : Opened Ends). o.named) whole);
      attributes-are = sym (ap (λ (o : Opened Ends). o.attributes) whole);
    }

-- ---- spans for the bytes left

pub opened-spanned : (L : Layout) (end : ℕ) (t : Node Ends) → opened L (map_p (span_of end) t) ≡ map_check (spanned end) (opened L t)
unfolding opened
opened-spanned L end t = simp (root_fields-map, a_version-map, optional-attributes, names-map, Bind)

module _ (L : Layout) (start end : ℕ) where
  pub kept-spanned : (ns : List (Named Ends)) → kept (verdicts L start (map (map_named (span_of end)) ns)) ≡ map (map_object (span_of end)) (kept (verdicts L start ns))
  unfolding kept verdicts
  kept-spanned [] = refl
  kept-spanned (n ∷ ns) = rw (object-map (span_of end) L start n) (by (object L start n) (kept-spanned ns))
    where
      by : (k : Check (Object Ends)) → kept (verdicts L start (map (map_named (span_of end)) ns)) ≡ map (map_object (span_of end)) (kept (verdicts L start ns))
          → kept (map_check (map_object (span_of end)) k ∷ verdicts L start (map (map_named (span_of end)) ns)) ≡ map (map_object (span_of end)) (kept (k ∷ verdicts L start ns))
      by (pass o) h = ap (λ (r : List (Object Span)). map_object (span_of end) o ∷ r) h
      by (refuse n o c) h = h

  pub dropped-spanned : (i : ℕ) (ns : List (Named Ends)) → dropped i (verdicts L start (map (map_named (span_of end)) ns)) ≡ dropped i (verdicts L start ns)
  unfolding dropped verdicts
  dropped-spanned i [] = refl
  dropped-spanned i (n ∷ ns) = rw (object-map (span_of end) L start n) (by (object L start n) (dropped-spanned (suc i) ns))
    where
      by : (k : Check (Object Ends)) → dropped (suc i) (verdicts L start (map (map_named (span_of end)) ns)) ≡ dropped (suc i) (verdicts L start ns)
          → dropped i (map_check (map_object (span_of end)) k ∷ verdicts L start (map (map_named (span_of end)) ns)) ≡ dropped i (k ∷ verdicts L start ns)
      by (pass o) h = h
      by (refuse n o c) h = ap (λ (r : List Dropped). record { index = i; number = n; component = c } ∷ r) h
