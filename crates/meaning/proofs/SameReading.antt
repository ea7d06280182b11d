-- In any layout, files whose manifests are the same, unknown fields, the minor version and the order of fields apart, are read as saying the same.
use Prim.Native.Nat.{ℕ, ◌+◌}
use mathlib.Core.List.{List}
use mathlib.Core.Path.{◌≡◌, refl, ap, sym, ◌∙◌}
use lib.ListN.{take, drop}
use Rattle.meaning.specs.Tree.{Node, nothing}
use Rattle.meaning.specs.Check.{Check, pass, refuse, ◌>>=◌}
use Rattle.meaning.specs.Read.{Span, Outcome, span_to, manifest}
use Rattle.meaning.specs.Model.{Model}
use Rattle.meaning.specs.Layouts.{Layout}
use Rattle.meaning.specs.Notes.{map_check, map_model, bare}
use Rattle.meaning.specs.Judge.{judge}
use Rattle.meaning.specs.Frame.{Frame, frame, checked, Reading, reading}
use Rattle.meaning.specs.Parsed.{Parsed, parsed, SameFiles}
use Rattle.meaning.proofs.CurrentIsBase.{bind_assoc}
use Rattle.meaning.proofs.SameVerdict.{same-verdict}

-- the reading after checks 1 to 7
unfoldable pub judged : Layout → Parsed → Check Reading
judged L p = do
  m ← judge L p.start p.tree
  pass (record { start = p.start; model = m })

pub reading-parsed : (L : Layout) (file : List ℕ) → reading L file ≡ (parsed L file >>= judged L)
unfolding reading parsed judged
reading-parsed L file = simp bind_assoc

-- what was read, with annotations forgotten
pub record Said : Type 0 where
  pub start : ℕ
  pub model : Model (Unit {0})

abbrev pub said : Reading → Said
said r = record { start = r.start; model = map_model nothing r.model }

module _ (L : Layout) where
  said-judged : (p : Parsed) → map_check said (judged L p) ≡ map_check (λ m. record { start = p.start; model = m }) (bare (judge L p.start p.tree))
  unfolding judged
  said-judged p = by (judge L p.start p.tree)
    where
      by : (k : Check (Model Span))
          → map_check said (k >>= λ m. pass (record { start = p.start; model = m })) ≡ map_check (λ m. record { start = p.start; model = m }) (bare k)
      by (pass m) = refl
      by (refuse n o c) = refl

  pub readings-same : (file₁ file₂ : List ℕ) → SameFiles L (parsed L file₁) (parsed L file₂) → map_check said (reading L file₁) ≡ map_check said (reading L file₂)
  readings-same file₁ file₂ h = ap (map_check said) (reading-parsed L file₁) ∙ by (parsed L file₁) (parsed L file₂) h ∙ sym (ap (map_check said) (reading-parsed L file₂))
    where
      by : (k₁ k₂ : Check Parsed) → SameFiles L k₁ k₂ → map_check said (k₁ >>= judged L) ≡ map_check said (k₂ >>= judged L)
      by (pass p) (pass q) s =
          let at : ℕ → Check Said = λ n. map_check (λ m. record { start = n; model = m }) (bare (judge L n q.tree)) in
          said-judged p ∙ ap (map_check (λ m. record { start = p.start; model = m })) (same-verdict L p.start p.tree q.tree s.same) ∙ ap at s.start ∙ sym (said-judged q)
      by (pass p) (refuse n o c) s = absurd s
      by (refuse n o c) k₂ s = absurd s
