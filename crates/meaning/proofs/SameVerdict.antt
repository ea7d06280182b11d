-- Demand 3 and Req 06 for the judgement of trees, in any layout: manifests that are the same once unknown fields are dropped and versions are read alike, but for the order of
-- fields, get the same verdict: the same refusal with its indices, or the same model, annotations apart.
use Prim.Native.Nat.{ℕ}
use mathlib.Core.Path.{◌≡◌, refl, ap, sym, ◌∙◌}
use Rattle.meaning.specs.Tree.{Node, meaning, nothing}
use Rattle.meaning.specs.Layouts.{Layout}
use Rattle.meaning.specs.Judge.{judge}
use Rattle.meaning.specs.Notes.{bare}
use Rattle.meaning.specs.Drop.{drop_root}
use Rattle.meaning.specs.Moved.{alike, RootMoved, Same}
use Rattle.meaning.proofs.JudgeNatural.{judge-map}
use Rattle.meaning.proofs.AlikeVerdict.{judge-alike}
use Rattle.meaning.proofs.DropAlike.{drop_root-alike}
use Rattle.meaning.proofs.MoveAlike.{root-moved}
use Rattle.meaning.proofs.MoveDrop.{root-drop}

module _ {P Q : Type 0} (L : Layout) (start : ℕ) (t : Node P) (u : Node Q) where
  pub same-verdict : Same L t u → bare (judge L start t) ≡ bare (judge L start u)
  same-verdict r =
      sym (judge-map nothing L start t) ∙ judge-alike L start (drop_root-alike L (meaning t)) ∙ judge-alike L start (root-moved L (drop_root L (meaning t)) (drop_root L (meaning u)) r)
      ∙ sym (judge-alike L start (drop_root-alike L (meaning u))) ∙ judge-map nothing L start u

  -- demand 3
  pub tolerant : drop_root L (meaning t) ≡ drop_root L (meaning u) → bare (judge L start t) ≡ bare (judge L start u)
  tolerant e = same-verdict (rw e alike)

  -- Req 06
  pub shuffled : RootMoved L (meaning t) (meaning u) → bare (judge L start t) ≡ bare (judge L start u)
  shuffled r = same-verdict (root-drop L (meaning t) (meaning u) r)
