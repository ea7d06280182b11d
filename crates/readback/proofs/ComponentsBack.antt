-- The components of an object are judged as their descriptions say, and tell them back.
use Prim.Native.Nat.{ℕ, suc}
use native.Mathlib.Omega.{arith}
use mathlib.Core.List.{List, [], ◌∷◌, map}
use mathlib.Core.Option.{Option, none}
use mathlib.Core.Path.{◌≡◌, refl, ap, ap₂}
use lib.ListN.{length, drop, get_or}
use Rattle.meaning.specs.Limit.{component_limit}
use Rattle.meaning.specs.Check.{◌>>◌, in_component, each}
use Rattle.meaning.specs.Read.{Span}
use Rattle.meaning.specs.Model.{Component}
use Rattle.meaning.specs.Format.{Part}
use Rattle.meaning.specs.Judge.{component, components_of, part}
use Rattle.meaning.specs.Described.{DescribedComponent, read_component}
use Rattle.meaning.specs.Layouts.{current}
use Rattle.meaning.specs.Every.{Every}
use Rattle.readback.specs.Trees.{map_piece, component_pieces}
use Rattle.readback.specs.Judged.{judged_names, judged_component, part_of}
use Rattle.readback.specs.Fine.{FineComponent}
use Rattle.readback.specs.Agrees.{Agrees, passes}
use Rattle.readback.specs.Back.{Tells, Stand, AllTell, offsets_of}
use Rattle.readback.proofs.Agreement.{agrees-bind, agrees-in-component, each-agrees}
use Rattle.readback.proofs.NamesBack.{named_of, names-agree}
use Rattle.readback.proofs.ComponentBack.{component-agrees}

module _ (file : List ℕ) (start : ℕ) (note : List ℕ → List ℕ → Span) where
  components-agree : (j : ℕ) (offsets : List ℕ) (cs : List DescribedComponent) (x : List ℕ) → Every FineComponent cs → Stand file start offsets cs
      → Agrees (AllTell file offsets cs) (each (λ j n. in_component j (component current start none n)) j (named_of note (component_pieces note offsets cs) x)) (each (λ j c. in_component j (judged_component c)) j cs)
  unfolding component_pieces
  components-agree j offsets [] x f s = passes tt
  components-agree j offsets (c ∷ cs) x (f, fs) (s, ss) =
      each-agrees (λ j n. in_component j (component current start none n)) (λ j c. in_component j (judged_component c)) j _ (named_of note (component_pieces note (drop 1 offsets) cs) x) c cs
      (agrees-in-component j (component-agrees file start note (get_or offsets 0 0) c _ _ refl f.dtype s))
      (components-agree (suc j) (drop 1 offsets) cs x fs ss) (λ m ms t ts. (t, ts))

  component-keys : (offsets : List ℕ) (cs : List DescribedComponent) → map (λ e. e.key) (component_pieces note offsets cs) ≡ map (λ c. c.name) cs
  unfolding component_pieces
  component-keys offsets [] = refl
  component-keys offsets (c ∷ cs) = ap (λ (r : List (List ℕ)). c.name ∷ r) (component-keys (drop 1 offsets) cs)

  pub components-of-agree : (offsets : List ℕ) (cs : List DescribedComponent) (x : List ℕ) → Every FineComponent cs → Stand file start offsets cs
      → Agrees (AllTell file offsets cs) (components_of current start (λ r. none) ((map_piece note (component_pieces note offsets cs)).meant x))
      (judged_names component_limit (map (λ c. c.name) cs) >> each (λ j c. in_component j (judged_component c)) 0 cs)
  unfolding components_of
  components-of-agree offsets cs x f s =
      agrees-bind (names-agree note component_limit (component_pieces note offsets cs) x (map (λ c. c.name) cs) (component-keys offsets cs))
      (λ ns e. rw e (components-agree 0 offsets cs x f s))

-- ---- what they tell

parts_same : {n n' : List ℕ} {d d' : ℕ} {t t' : Option (List ℕ)} {s s' : ℕ} → n ≡ n' → d ≡ d' → t ≡ t' → s ≡ s'
    → ◌≡◌ {A = Part} (record { called = n; code = d; typed = t; size = s }) (record { called = n'; code = d'; typed = t'; size = s' })
parts_same en ed et es = rw (en, ed, et, es)

module _ (file : List ℕ) where
  part-is : {offset : ℕ} (c : DescribedComponent) (m : Component Span) → Tells file offset c m → part m ≡ part_of c
  unfolding part part_of read_component
  part-is c m t =
      let e : read_component file m ≡ c = t.same in
      parts_same (ap (λ (c : DescribedComponent). c.name) e) (ap (λ (c : DescribedComponent). c.dtype) e) (ap (λ (c : DescribedComponent). c.type) e) t.size

  pub parts_are : (offsets : List ℕ) (cs : List DescribedComponent) (ms : List (Component Span)) → AllTell file offsets cs ms → map part ms ≡ map part_of cs
  parts_are offsets [] [] t = refl
  parts_are offsets (c ∷ cs) (m ∷ ms) (t, ts) = ap₂ {A = Part} {B = List Part} (λ a b. a ∷ b) (part-is c m t) (parts_are (drop 1 offsets) cs ms ts)
  parts_are offsets [] (m ∷ ms) t = elim t [ ]
  parts_are offsets (c ∷ cs) [] t = elim t [ ]

  pub components-are : (offsets : List ℕ) (cs : List DescribedComponent) (ms : List (Component Span)) → AllTell file offsets cs ms → map (read_component file) ms ≡ cs
  components-are offsets [] [] t = refl
  components-are offsets (c ∷ cs) (m ∷ ms) (t, ts) = ap₂ {A = DescribedComponent} {B = List DescribedComponent} (λ a b. a ∷ b) t.same (components-are (drop 1 offsets) cs ms ts)
  components-are offsets [] (m ∷ ms) t = elim t [ ]
  components-are offsets (c ∷ cs) [] t = elim t [ ]

  pub offsets_are : (offsets : List ℕ) (cs : List DescribedComponent) (ms : List (Component Span)) → AllTell file offsets cs ms → length offsets ≡ length cs → offsets_of ms ≡ offsets
  offsets_are [] [] [] t h = refl
  offsets_are (o ∷ os) [] ms t h = absurd (omega arith)
  offsets_are [] (c ∷ cs) ms t h = absurd (omega arith)
  offsets_are (o ∷ os) (c ∷ cs) (m ∷ ms) (t, ts) h = ap₂ {A = ℕ} {B = List ℕ} (λ a b. a ∷ b) t.place (offsets_are os cs ms ts (omega arith))
  offsets_are [] [] (m ∷ ms) t h = elim t [ ]
  offsets_are (o ∷ os) (c ∷ cs) [] t h = elim t [ ]
