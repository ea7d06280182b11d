-- From the walk over the root to the reading of the manifest s: the walk speaks of trees that carry the bytes left at each item, the reading of trees that carry
-- spans; neither the reading nor the judgement looks at them.
use Prim.Native.Nat.{ℕ, ◌-◌, ◌*◌, ◌^◌, ◌≤◌, ◌<◌}
use native.Mathlib.Omega.{arith}
use mathlib.Core.List.{List}
use mathlib.Core.Path.{◌≡◌, refl, sym, ap, ◌∙◌, subst}
use lib.ListN.{length}
use Rattle.meaning.specs.Tree.{Node}
use Rattle.meaning.specs.Check.{Check, pass, refuse, ◌>>=◌}
use Rattle.meaning.specs.Model.{Model}
use Rattle.meaning.specs.Notes.{map_check, map_model}
use Rattle.meaning.specs.Read.{Span}
use Rattle.meaning.specs.Judge.{judge}
use Rattle.meaning.specs.Frame.{Reading}
use Rattle.meaning.specs.Layouts.{Layout}
use Rattle.meaning.specs.Rows.{component_count}
use Rattle.meaning.proofs.JudgeNatural.{judge-map}
use Rattle.cbor.specs.Ending.{FAULT, code, item_end, refusal_of}
use Rattle.walk.specs.Reading.{Ends, left_at}
use Rattle.root.specs.declared.Judged.{Judged}
use Rattle.root.specs.Verdict.{judged, RootIs, ObjectsAt}
use Rattle.reader.specs.Verdict.{manifest_reading, Accepted, ManifestIs}
use Rattle.table.specs.Spans.{span_of}
use Rattle.reader.proofs.ItemFills as items
use Rattle.reader.proofs.ItemFills.{Filling}
use Rattle.std.specs.Prelude.{Ok, Err, Result}
use Rattle.numbers.specs.declared.fault.FileFault.{FileFault}
use Rattle.numbers.specs.Numbered.{number_of}
use Rattle.numbers.specs.Answered.{in_file}
use Rattle.numbers.specs.declared.refusal.Refusal.{Refusal}
use Rattle.numbers.specs.declared.refusal.Refusal.TheVariants as refusals
use Rattle.cbor.proofs.Refusals.{fault-number}
use mathlib.Core.Logic.{⊎_elim}
use Rattle.reader.specs.declared.Told.{Told}

-- a walk over s that ended beyond it found a fault
pub a-fault : (s : List ℕ) (e : ℕ) → e ≡ code (item_end 32 s) → length s < e → FAULT ≤ e
a-fault s e asked l = (items.faulty 0 s e asked l).high

-- what is refused so, by its number
refused-number : (d : ℕ) (s : List ℕ) (e : ℕ) → e ≡ code (item_end d s) → length s < e → e - FAULT ≡ number_of (refusal_of e)
unfolding refusal_of
refused-number d s e asked l = ⊎_elim (λ h. rw h refl) (λ h. rw h refl) (fault-number d s e asked l)

module _ (L : Layout) (end start : ℕ) where
  abbrev spans : Ends → Span
  spans = span_of end

  -- the rest of a reading, once the manifest's item is read
  abbrev judging : Check (Node Span) → Check Reading
  judging c = c >>= λ t. judge L start t >>= λ m. pass (record { start = start; model = m })

  module _ (s : List ℕ) where
    -- the walk over s, lent whole, ended at e
    module _ (e : ℕ) (asked : e ≡ code (item_end 32 s)) where
      -- malformed, ended early or too deep
      pub faulty : length s < e → (n : Refusal) → n ≡ refusal_of e → (k : FileFault) → k ≡ record { refusal = n; object = 0; component = 0 } → manifest_reading L end start s ≡ in_file (Err k)
      faulty l n is k is-k =
          rw is-k (ap judging (items.faulty end s e asked l).is ∙ ap (λ (i : ℕ). refuse i 0 0) (refused-number 32 s e asked l) ∙ ap (λ (n : Refusal). refuse (number_of n) 0 0) (sym is))

      module _ (lent : length s * 1 < 2 ^ 63) where
        pub left_over : e < length s → (k : FileFault) → k ≡ record { refusal = refusals.Cbor; object = 0; component = 0 } → manifest_reading L end start s ≡ in_file (Err k)
        left_over l k is-k = rw is-k (ap judging (items.left_over end s e asked (omega arith) l))

        module _ (low : e ≤ length s) (high : length s ≤ e) where
          -- the root fills the manifest exactly
          abbrev filling : Filling end s
          filling = items.filling end s e asked (omega arith) (omega arith)

          read-so : manifest_reading L end start s ≡ (map_check (map_model spans) (judge L start filling.tree) >>= λ m. pass (record { start = start; model = m }))
          read-so = ap judging filling.is ∙ ap (λ k. k >>= λ m. pass (record { start = start; model = m })) (judge-map spans L start filling.tree)

          module _ (u : Result Judged FileFault) (told : RootIs L s start u) where
            root : (v : Result Judged FileFault) → u ≡ v → in_file v ≡ judged (judge L start filling.tree)
            root v same = subst (RootIs L s start) same told filling.tree filling.rest filling.reads

            pub root-refuses : (f : FileFault) → u ≡ Err f → (q : Result Told FileFault) → q ≡ Err f → ManifestIs L end start s q
            root-refuses f same q is-q = rw is-q (go (judge L start filling.tree) refl)
              where
                go : (k : Check (Model Ends)) → judge L start filling.tree ≡ k → manifest_reading L end start s ≡ in_file (Err f)
                go (pass m) h = let z : in_file (Err f) ≡ judged (pass m) = root (Err f) same ∙ ap judged h in absurd (let y : ◌≡◌ {A = ℕ} 0 1 = cc in omega arith)
                go (refuse n' o' c') h =
                    let z : in_file (Err f) ≡ judged (refuse n' o' c') = root (Err f) same ∙ ap judged h in
                    let number : number_of f.refusal ≡ n' = cc in
                    let object : f.object ≡ o' = cc in
                    let component : f.component ≡ c' = cc in
                    read-so ∙ (rw h (rw (number, object, component) refl))

            pub root-accepts : (v : Judged) → u ≡ Ok v → (at : ℕ) → ObjectsAt L s at → Accepted L end start s v.objects v.components v.attributes at
            root-accepts v same at stand = go (judge L start filling.tree) refl
              where
                go : (k : Check (Model Ends)) → judge L start filling.tree ≡ k → Accepted L end start s v.objects v.components v.attributes at
                go (refuse n o c) h = let z : in_file (Ok v) ≡ judged (refuse n o c) = root (Ok v) same ∙ ap judged h in absurd (let y : ◌≡◌ {A = ℕ} 0 1 = cc in omega arith)
                go (pass m) h =
                    let z : in_file (Ok v) ≡ judged (pass m) = root (Ok v) same ∙ ap judged h in
                    let y : v ≡ record { objects = length m.objects; components = component_count m.objects; attributes = left_at m.attributes } = cc in
                    record {
                      tree = filling.tree;
                      rest = filling.rest;
                      reads = filling.reads;
                      model = m;
                      judged = h;
                      is = read-so ∙ (rw h refl);
                      objects-are = ap (λ (v : Judged). v.objects) y;
                      components-are = ap (λ (v : Judged). v.components) y;
                      attributes-left = ap (λ (v : Judged). v.attributes) y;
                      objects-at = stand;
                    }
