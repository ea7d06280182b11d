-- The components of two manifests that pass, beside the entries that they were read from: one whole map in each file, related as the manifests' entries are.
use Prim.Native.Nat.{ℕ, ◌≤◌}
use mathlib.Core.List.{List, [], ◌∷◌}
use mathlib.Core.Option.{some}
use mathlib.Core.Path.{◌≡◌, sym, subst}
use Rattle.meaning.specs.Limit.{depth_limit}
use Rattle.meaning.specs.Tree.{Node, meaning}
use Rattle.meaning.specs.Check.{pass}
use Rattle.meaning.specs.Read.{Span}
use Rattle.meaning.specs.Model.{Component, Object, Model}
use Rattle.meaning.specs.Layouts.{Layout}
use Rattle.meaning.specs.Judge.{judge}
use Rattle.meaning.specs.Rows.{attributes_span}
use Rattle.meaning.proofs.Entries.{entries_of, Along, EntryIs, EntriesAre, judged-entries}
use Rattle.meaning.specs.Every.{Every}
use Rattle.shown.specs.Placed.{Placed}
use Rattle.shown.proofs.Judgement.{entries-so}
use Rattle.tolerance.specs.Alike.{OneMap}
use Rattle.tolerance.proofs.RowsAlike.{map_at, Entry, Entries}
use Rattle.tolerance.proofs.EntriesMoved.{EntriesRelated}

-- ---------------------------------------------------------------- lists, one beside the other

along-each : {A B : Type 0} (R : A → B → Type 0) (Q : B → Type 0) (as' : List A) (bs : List B) → Along R as' bs → Every Q bs → Along (λ a b. R a b × Q b) as' bs
along-each R Q [] [] h q = tt
along-each R Q [] (b ∷ bs) h q = h
along-each R Q (a ∷ as') [] h q = h
along-each R Q (a ∷ as') (b ∷ bs) h q = ((h.0, q.0), along-each R Q as' bs h.1 q.1)

-- what stands beside lists that are related
module _ {A B C D : Type 0} (R₁ : A → B → Type 0) (R₂ : C → D → Type 0) (S : B → D → Type 0) (Q : A → C → Type 0)
    (pair : (a : A) (b : B) (c : C) (d : D) → R₁ a b → R₂ c d → S b d → Q a c) where
  beside : (as' : List A) (bs : List B) (cs : List C) (ds : List D) → Along R₁ as' bs → Along R₂ cs ds → Along S bs ds → Along Q as' cs
  beside [] [] [] [] h k s = tt
  beside [] [] [] (d ∷ ds) h k s = absurd k
  beside [] [] (c ∷ cs) [] h k s = absurd k
  beside [] [] (c ∷ cs) (d ∷ ds) h k s = absurd s
  beside [] (b ∷ bs) cs ds h k s = absurd h
  beside (a ∷ as') [] cs ds h k s = absurd h
  beside (a ∷ as') (b ∷ bs) [] [] h k s = absurd s
  beside (a ∷ as') (b ∷ bs) [] (d ∷ ds) h k s = absurd k
  beside (a ∷ as') (b ∷ bs) (c ∷ cs) [] h k s = absurd k
  beside (a ∷ as') (b ∷ bs) (c ∷ cs) (d ∷ ds) h k s = (pair a b c d h.0 k.0 s.0, beside as' bs cs ds h.1 k.1 s.1)

-- ---------------------------------------------------------------- entries

module _ (L : Layout) (file : List ℕ) (start : ℕ) (header : 8 ≤ start) where
  -- a component and the node that it was read from
  abbrev From : Component Span → Node Span → Type 0
  From c x = EntryIs c x × Placed L file start 28 x

  abbrev AllFrom : Object Span → List (Node Span) → Type 0
  AllFrom o xs = EntriesAre o xs × Every (Placed L file start 28) xs

  entry_at : (c : Component Span) (x : Node Span) → From c x → OneMap file 28 c.entry (meaning x)
  unfolding attributes_span
  entry_at c x h =
      subst (λ (s : Span). OneMap file 28 s (meaning x)) (sym h.0.noted)
      (map_at L file start header 28 (some x) (record { stands = h.1.0; pairs = h.0.map.pairs; map = h.0.map.is }))

  all_from : (t : Node Span) (m : Model Span) → Placed L file start depth_limit t → judge L start t ≡ pass m → Along AllFrom m.objects (entries_of L t)
  all_from t m placed passes =
      along-each EntriesAre (Every (Placed L file start 28)) m.objects (entries_of L t) (judged-entries L start t m passes) (entries-so L file start t placed)

  every-from : (o : Object Span) (xs : List (Node Span)) → AllFrom o xs → Along From o.components xs
  every-from o xs h = along-each EntryIs (Placed L file start 28) o.components xs h.0 h.1

module _ (L : Layout) (E : Node (Unit {0}) → Node (Unit {0}) → Type 0) (file₁ file₂ : List ℕ) (start : ℕ) (header : 8 ≤ start) where
  abbrev From₁ : Component Span → Node Span → Type 0
  From₁ = From L file₁ start header

  abbrev From₂ : Component Span → Node Span → Type 0
  From₂ = From L file₂ start header

  abbrev Told : Node Span → Node Span → Type 0
  Told x y = E (meaning x) (meaning y)

  of-component : (c₁ : Component Span) (x₁ : Node Span) (c₂ : Component Span) (x₂ : Node Span) → From₁ c₁ x₁ → From₂ c₂ x₂ → Told x₁ x₂ → Entry L E file₁ file₂ c₁ c₂
  of-component c₁ x₁ c₂ x₂ h₁ h₂ e = record {
    tree₁ = meaning x₁;
    tree₂ = meaning x₂;
    first = entry_at L file₁ start header c₁ x₁ h₁;
    second = entry_at L file₂ start header c₂ x₂ h₂;
    related = e;
  }

  of-object : (o₁ : Object Span) (xs₁ : List (Node Span)) (o₂ : Object Span) (xs₂ : List (Node Span))
      → AllFrom L file₁ start header o₁ xs₁ → AllFrom L file₂ start header o₂ xs₂ → Along Told xs₁ xs₂ → Entries L E file₁ file₂ o₁ o₂
  of-object o₁ xs₁ o₂ xs₂ h₁ h₂ e =
      beside From₁ From₂ Told (Entry L E file₁ file₂) of-component o₁.components xs₁ o₂.components xs₂
      (every-from L file₁ start header o₁ xs₁ h₁) (every-from L file₂ start header o₂ xs₂ h₂) e

  pub entries-alike : (t₁ t₂ : Node Span) → Placed L file₁ start depth_limit t₁ → Placed L file₂ start depth_limit t₂ → EntriesRelated L t₁ t₂ E
      → (m₁ m₂ : Model Span) → judge L start t₁ ≡ pass m₁ → judge L start t₂ ≡ pass m₂ → Along (Entries L E file₁ file₂) m₁.objects m₂.objects
  entries-alike t₁ t₂ placed₁ placed₂ related m₁ m₂ e₁ e₂ =
      beside (AllFrom L file₁ start header) (AllFrom L file₂ start header) (Along Told) (Entries L E file₁ file₂) of-object m₁.objects (entries_of L t₁) m₂.objects (entries_of L t₂)
      (all_from L file₁ start header t₁ m₁ placed₁ e₁) (all_from L file₂ start header t₂ m₂ placed₂ e₂) related
