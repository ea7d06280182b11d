-- One more entry, a branch of `keep` each.
use Prim.Native.Nat.{ℕ, suc, ◌*◌, ◌^◌, ◌<◌}
use native.Mathlib.Omega.{arith}
use mathlib.Core.List.{List, [], ◌∷◌, ◌++◌}
use mathlib.Core.Bool.{◌&&◌}
use mathlib.Core.Path.{◌≡◌, refl, ap, sym, ◌∙◌, subst}
use lib.ListN.{length, take}
use lib.Dec.{eqb}
use Rattle.meaning.specs.Check.{Check, pass, refuse}
use Rattle.meaning.specs.Limit.{component_limit}
use Rattle.meaning.specs.Model.{Word, Component}
use Rattle.meaning.specs.Tree.{Pair}
use Rattle.meaning.specs.Format.{plain}
use Rattle.meaning.specs.Judge.{inherited, component, part, letters_of}
use Rattle.meaning.specs.Layouts.{Layout, layout_of}
use Rattle.meaning.specs.Notes.{map_check}
use borrow.Author.Tests.{ne_eqb}
use borrow.Author.Rules.{part_to_end}
use Rattle.fields.proofs.Texts.{Here}
use Rattle.cbor.specs.Ending.{FAULT}
use Rattle.types.specs.Known.{position, format_names, role_names}
use Rattle.formats.specs.Parts.{flag, part_row}
use Rattle.formats.proofs.Rows.{plain-bare, plain-typed}
use Rattle.walk.specs.Reading.{Ends, Reads}
use Rattle.naming.specs.NotedNames.{named_anyway}
use Rattle.component.specs.Value.{left_word, given}
use Rattle.component.specs.Verdict.{judged}
use Rattle.component.specs.declared.Judged.{Judged}
use Rattle.table.specs.Given.{Given, offered}
use Rattle.components.specs.Firsts.{FirstIs, Keeps}
use Rattle.table.specs.WordAt.{WordAt, bare, lettered}
use Rattle.components.specs.Typed.{UnitIs}
use Rattle.table.specs.Stored.{RoleIs, stored_as}
use Rattle.components.specs.Row.{put_row}
use Rattle.components.proofs.FirstFault.{fault-stays, first-fault, still-fine}
use Rattle.table.proofs.Lettered.{type_at, named-so}
use Rattle.table.proofs.Storage.{with_code, stored-so}
use Rattle.components.proofs.Rows.{row-after}
use Rattle.std.specs.Prelude.{Ok, Err, Result}
use Rattle.numbers.specs.declared.refusal.Refusal.{Refusal}
use Rattle.numbers.specs.declared.fault.ObjectFault.{ObjectFault}
use Rattle.numbers.specs.Answered.{answered}
use Rattle.numbers.specs.Numbered.{number_of}

plain-is : (c : List ℕ) (k : Component Ends) → WordAt c k.type → flag (eqb (left_word k.type) 0 && eqb k.dtype 8) ≡ flag (plain (part k))
unfolding part letters_of
plain-is c k (bare b) = ap (λ o. flag (eqb (left_word o) 0 && eqb k.dtype 8)) b ∙ ap flag (sym (plain-bare (part k) (ap letters_of b)))
plain-is c k (lettered w b d t x a) =
    ap (λ o. flag (eqb (left_word o) 0 && eqb k.dtype 8)) b ∙ go (length w.note.start) x.0 ∙ sym (ap flag (plain-typed (part k) w.letters (ap letters_of b)))
  where
    go : (n : ℕ) → 0 < n → flag (eqb n 0 && eqb k.dtype 8) ≡ 0
    go n h = rw (ne_eqb n 0 (λ e. omega arith)) refl

module _ (g : Given) (s c : List ℕ) (v : Result Judged Refusal) (j : ℕ) (first : Result (Unit {0}) ObjectFault) (rows : List ℕ) where
  abbrev L : Layout
  L = layout_of g.layout

  -- a component's judgement with the code that its object gives to its role
  abbrev judgement : List ℕ → ℕ → Pair Ends → Check (Component Ends)
  judgement f start p = component L start (inherited f (given g.code) (named_anyway p).name.letters) (named_anyway p)

  abbrev recoded : Pair Ends → Component Ends → Component Ends
  recoded p k = with_code (stored_as g.layout g.format (position role_names (named_anyway p).name.letters) k.dtype) k

  so : (f : List ℕ) → g.format ≡ position format_names f → (g.layout ≡ 1 → g.code < 13) → (start : ℕ) (p : Pair Ends) (k : Check (Component Ends))
      → component L start (given g.code) (named_anyway p) ≡ k → judgement f start p ≡ map_check (recoded p) k
  so f is has start p k e = stored-so start (named_anyway p) g.layout g.format g.code f is has ∙ ap (map_check (recoded p)) e

  pub stays : (n : ObjectFault) → first ≡ Err n → (first' : Result (Unit {0}) ObjectFault) → first' ≡ Err n → Keeps g s c v j first rows first' rows
  stays n e first' e' start done p d q r x y h is all f fm has = rw e' (fault-stays L (inherited f (given g.code)) start done p n rows rows (subst (λ u. FirstIs L (inherited f (given g.code)) start done u rows) e (all f fm has)))

  pub begins : first ≡ (Ok tt) → (n : Refusal) → v ≡ Err n → (at : ℕ) → at ≡ j → Keeps g s c v j first rows (Err (record { refusal = n; component = at })) rows
  begins e n a at here start done p d q r x y h is all f fm has =
      go (component L start (given g.code) (named_anyway p)) refl (sym (ap answered a) ∙ h p.value r y (named_anyway p).name)
    where
      go : (k : Check (Component Ends)) → component L start (given g.code) (named_anyway p) ≡ k → answered (Err n) ≡ judged k → FirstIs L (inherited f (given g.code)) start (done ++ p ∷ []) (Err (record { refusal = n; component = at })) rows
      go (pass k) z b = absurd (let w : ◌≡◌ {A = ℕ} 0 1 = cc in omega arith)
      go (refuse m o i) z b =
          let w : m ≡ number_of n = cc in
          subst (λ j. FirstIs L (inherited f (given g.code)) start (done ++ p ∷ []) (Err (record { refusal = n; component = j })) rows) (sym (here ∙ is))
          (first-fault L (inherited f (given g.code)) start done p n o i rows rows (subst (λ u. FirstIs L (inherited f (given g.code)) start done u rows) e (all f fm has)) (so f fm has start p (refuse (number_of n) o i) (z ∙ ap (λ (k : ℕ). refuse k o i) w)))

  module _ (room : length c < FAULT) (slots : length rows ≡ 64) (e : first ≡ (Ok tt)) (jd : Judged) (a : v ≡ Ok jd)
      (called : ℕ) (is-called : RoleIs s called) (kept : ℕ) (is-kept : kept ≡ stored_as g.layout g.format called jd.code)
      (u : ℕ) (is-u : UnitIs c kept jd.kind u) (b : ℕ) (is_b : b ≡ flag (eqb jd.kind 0 && eqb kept 8)) where
    module _ (f : List ℕ) (start : ℕ) (done : List (Pair Ends)) (p : Pair Ends) (d : ℕ) (q r : List ℕ) (x : Reads (suc d) s p.key q) (y : Reads 28 c p.value r) (is : j ≡ length done)
        (k : Component Ends) (w : answered (Ok (record { code = jd.code; kind = jd.kind; offset = jd.offset; length = jd.length; digest = jd.digest })) ≡ judged (pass k)) (z : judgement f start p ≡ pass (recoded p k)) where
      typed : WordAt c k.type
      typed = type_at c room p.value r y L (inherited f (given g.code) (named_anyway p).name.letters) start (named_anyway p).name (recoded p k) z

      row : called ∷ u ∷ b ∷ jd.length ∷ [] ≡ part_row (part (recoded p k))
      unfolding part_row part
      row =
          let t : called ≡ position role_names (named_anyway p).name.letters = is-called d p.key q x in
          let i : k.dtype ≡ jd.code = cc in
          let l : left_word k.type ≡ jd.kind = cc in
          let m : jd.length ≡ k.length = cc in
          let i' : (recoded p k).dtype ≡ kept =
          ap (stored_as g.layout g.format (position role_names (named_anyway p).name.letters)) i
          ∙ ap (λ (r : ℕ). stored_as g.layout g.format r jd.code) (sym t) ∙ sym is-kept in
          let n = is-u (recoded p k) typed i' l in
          let named = t ∙ ap (λ (w : Word Ends). position role_names w.letters) (named-so c room p.value r y L (inherited f (given g.code) (named_anyway p).name.letters) start (named_anyway p).name (recoded p k) z) in
          let v : b ≡ flag (plain (part (recoded p k))) =
          is_b ∙ ap (λ l. flag (eqb l 0 && eqb kept 8)) (sym l) ∙ ap (λ i. flag (eqb (left_word k.type) 0 && eqb i 8)) (sym i') ∙ plain-is c (recoded p k) typed in
          rw (named, n, v, m) refl

      put-so : length done < component_limit → take (4 * suc (length done)) (put_row rows j called u b jd.length) ≡ take (4 * length done) rows ++ part_row (part (recoded p k))
      put-so few =
          subst (λ i. take (4 * suc i) (put_row rows j called u b jd.length) ≡ take (4 * i) rows ++ part_row (part (recoded p k))) is
          (row-after rows slots j called u b jd.length (omega arith) ∙ ap (λ l. take (4 * j) rows ++ l) row)

    row_put : Keeps g s c v j first rows (Ok tt) (put_row rows j called u b jd.length)
    row_put start done p d q r x y h is all f fm has =
        go (component L start (given g.code) (named_anyway p)) refl (sym (ap answered a) ∙ h p.value r y (named_anyway p).name)
      where
        go : (k : Check (Component Ends)) → component L start (given g.code) (named_anyway p) ≡ k → answered (Ok (record { code = jd.code; kind = jd.kind; offset = jd.offset; length = jd.length; digest = jd.digest })) ≡ judged k
            → FirstIs L (inherited f (given g.code)) start (done ++ p ∷ []) (Ok tt) (put_row rows j called u b jd.length)
        go (pass k) z w =
            let passes = so f fm has start p (pass k) z in
            still-fine L (inherited f (given g.code)) start done p (recoded p k) rows (put_row rows j called u b jd.length) (subst (λ u. FirstIs L (inherited f (given g.code)) start done u rows) e (all f fm has)) passes
            (put-so f start done p d q r x y is k w passes)
        go (refuse m n i) z w = absurd (let w : ◌≡◌ {A = ℕ} 0 1 = cc in omega arith)

-- whatever code the object gives
module _ (layout format : ℕ) (s c : List ℕ) (v : Result Judged Refusal) (j : ℕ) (first : Result (Unit {0}) ObjectFault) (rows : List ℕ) (lent : length c * 1 < 2 ^ 63) (slots : length rows ≡ 64) (e : first ≡ (Ok tt))
    (jd : Judged) (a : v ≡ Ok jd) (called : ℕ) (is-called : RoleIs (Here s 0) called) (kept : ℕ) (is-kept : kept ≡ stored_as layout format called jd.code)
    (u : ℕ) (is-u : UnitIs (Here c 0) kept jd.kind u) (b : ℕ) (is_b : b ≡ flag (eqb jd.kind 0 && eqb kept 8)) where
  pub row_kept : (rows' : List ℕ) → rows' ≡ put_row rows j called u b jd.length → (d : ℕ) → Keeps (offered layout format d) s c v j first rows (Ok tt) rows'
  row_kept rows' z d =
      let whole-role : RoleIs s called = subst (λ s. RoleIs s called) (part_to_end s 0) is-called in
      let whole-unit : UnitIs c kept jd.kind u = subst (λ s. UnitIs s kept jd.kind u) (part_to_end c 0) is-u in
      subst (Keeps (offered layout format d) s c v j first rows (Ok tt)) (sym z)
      (row_put (offered layout format d) s c v j first rows (omega arith) slots e jd a called whole-role kept is-kept u whole-unit b is_b)
