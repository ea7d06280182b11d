-- The first fault is kept: one more entry, sound or not; and what the whole map comes to.
use Prim.Native.Nat.{ℕ, suc, ◌*◌, ◌≤◌, ◌<◌}
use native.Mathlib.Omega.{arith}
use mathlib.Core.List.{List, [], ◌∷◌, ◌++◌, map, append-nil}
use mathlib.Core.Path.{◌≡◌, refl, ap, sym, ◌∙◌}
use mathlib.Core.Option.{Option}
use lib.ListN.{length, take, length-append}
use Rattle.meaning.specs.Tree.{Node, Pair}
use Rattle.meaning.specs.Check.{pass, refuse, ◌>>=◌, in_component}
use Rattle.meaning.specs.Limit.{component_limit}
use Rattle.meaning.specs.Model.{Component}
use Rattle.meaning.specs.Field.{names}
use Rattle.meaning.specs.Judge.{component, components_of, part}
use Rattle.walk.specs.Reading.{Ends}
use Rattle.meaning.specs.Format as formats
use Rattle.meaning.specs.Layouts.{Layout}
use Rattle.meaning.proofs.Checks.{each-length}
use Rattle.formats.specs.Parts.{part_row, part_rows}
use Rattle.formats.proofs.Rows.{rows_more}
use Rattle.naming.specs.NotedNames.{named_anyway, told}
use Rattle.naming.proofs.NameNoted.{map_snoc}
use Rattle.naming.proofs.Entries as named-entries
use Rattle.table.specs.Given.{entry}
use Rattle.components.specs.Firsts.{entries, FirstIs, FoundIs}
use Rattle.std.specs.Prelude.{Ok, Err}
use Rattle.numbers.specs.Numbered.{number_of}
use Rattle.numbers.specs.declared.refusal.Refusal.{Refusal}
use Rattle.numbers.specs.declared.fault.ObjectFault.{ObjectFault}

rows-of-one : (d : formats.Part) → part_rows (d ∷ []) ≡ part_row d
unfolding part_rows
rows-of-one d = append-nil (part_row d)

module _ (L : Layout) (above : List ℕ → Option ℕ) (start : ℕ) (done : List (Pair Ends)) (p : Pair Ends) where
  one_more : entries L above start (done ++ p ∷ []) ≡ (entries L above start done >>= λ cs. entry L above start (length done) (named_anyway p) >>= λ c. pass (cs ++ c ∷ []))
  unfolding entries
  one_more = named-entries.one_more (entry L above start) done p

  pub fault-stays : (f : ObjectFault) (rows rows' : List ℕ) → FirstIs L above start done (Err f) rows → FirstIs L above start (done ++ p ∷ []) (Err f) rows'
  fault-stays f rows rows' (o, h) = (o, one_more ∙ (rw h refl))

  pub first-fault : (n : Refusal) (o c : ℕ) (rows rows' : List ℕ) → FirstIs L above start done (Ok tt) rows → component L start (above (named_anyway p).name.letters) (named_anyway p) ≡ refuse (number_of n) o c → FirstIs L above start (done ++ p ∷ []) (Err (record { refusal = n; component = length done })) rows'
  unfolding entry
  first-fault n o c rows rows' (cs, h, r) e = (o, one_more ∙ (rw (h, e) refl))

  pub still-fine : (c : Component Ends) (rows rows' : List ℕ) → FirstIs L above start done (Ok tt) rows → component L start (above (named_anyway p).name.letters) (named_anyway p) ≡ pass c
      → (length done < component_limit → take (4 * suc (length done)) rows' ≡ take (4 * length done) rows ++ part_row (part c)) → FirstIs L above start (done ++ p ∷ []) (Ok tt) rows'
  unfolding entry entries
  still-fine c rows rows' (cs, h, r) e put =
      let l : length cs ≡ length done = each-length (λ j p. entry L above start j (named_anyway p)) 0 done cs h in
      let s : length (cs ++ c ∷ []) ≡ suc (length done) = length-append cs (c ∷ []) ∙ (omega arith) in (
        cs ++ c ∷ [],
        one_more ∙ (rw (h, e) refl),
        record {
          are = λ m. rw (s, map_snoc part cs c, rows_more (map part cs) (part c ∷ []))
              (put (omega arith) ∙ ap (λ x. x ++ part_row (part c)) (ap (λ i. take (4 * i) rows) (sym l) ∙ r.are (omega arith)) ∙ ap (λ x. part_rows (map part cs) ++ x) (sym (rows-of-one (part c))));
        },
      )

-- the whole map: its names, and then its entries
module _ (L : Layout) (above : List ℕ → Option ℕ) (start : ℕ) (done : List (Pair Ends)) (x : Node Ends) where
  pub names-fault : (n : Refusal) (rows : List ℕ) → names component_limit x ≡ told done (Err n) → FoundIs (components_of L start above x) (Err (record { refusal = n; component = 0 })) rows
  unfolding components_of
  names-fault n rows h = (0, rw h refl)

  named : names component_limit x ≡ told done (Ok tt) → components_of L start above x ≡ entries L above start done
  unfolding components_of entries entry
  named h = named-entries.names-pass (λ j c. in_component j (component L start (above c.name.letters) c)) done component_limit x h

  pub entry-fault : (f : ObjectFault) (rows : List ℕ) → names component_limit x ≡ told done (Ok tt) → FirstIs L above start done (Err f) rows → FoundIs (components_of L start above x) (Err f) rows
  entry-fault f rows h (o, e) = (o, named h ∙ e)

  pub all-fine : (m : ℕ) (rows : List ℕ) → names component_limit x ≡ told done (Ok tt) → FirstIs L above start done (Ok tt) rows → m ≡ length done → m ≤ component_limit → FoundIs (components_of L start above x) (Ok m) rows
  unfolding entries
  all-fine m rows h (cs, e, r) is few =
      let l : length cs ≡ length done = each-length (λ j p. entry L above start j (named_anyway p)) 0 done cs e in
      let z : m ≡ length cs = is ∙ sym l in
      (cs, named h ∙ e, z, few, ap (λ i. take (4 * i) rows) z ∙ r.are (omega arith))
