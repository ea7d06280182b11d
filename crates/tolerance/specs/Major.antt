-- Document 01, demand 3, for any layout: a root map with a version of another major.
use Rattle.std.specs.Prelude.{ℕ, List, true, false, ◌≡◌, leb}
use Rattle.std.proofs.Math.Option.{some}
use Rattle.meaning.specs.Tree.{Node, Pairs, dict, text, pair_list}
use Rattle.meaning.specs.Check.{Check, pass, refuse}
use Rattle.meaning.specs.Text.{all}
use Rattle.meaning.specs.Version.{version_shape, major_one}
use Rattle.meaning.specs.Layouts.{slot, somes, Layout, version_at}
use Rattle.meaning.specs.Field.{is_some, key_of, count, field}
use Rattle.meaning.specs.Parsed.{Parsed}

-- its keys are all whole text, no known one stands twice, and its version is well-shaped and of another major than 1; the rest may be anything
pub record OtherMajor (L : Layout) {P : Type 0} (t : Node P) : Type 0 where
  pub note : P
  pub pairs : Pairs P
  pub is-map : t ≡ dict note pairs
  pub whole-text : all (λ p. is_some (key_of p)) (pair_list pairs) ≡ true
  pub known-once : all (λ n. leb (count n (pair_list pairs)) 1) (somes L.root) ≡ true
  pub version-note : P
  pub version : List ℕ
  pub has-version : field (slot version_at L.root) (pair_list pairs) ≡ some (text version-note version)
  pub well-shaped : version_shape version ≡ true
  pub another : major_one version ≡ false

-- in a file that passes checks 1 to 7
abbrev pub OtherMajorIn : Layout → Check Parsed → Type 0
OtherMajorIn L (pass p) = OtherMajor L p.tree
OtherMajorIn L (refuse n o c) = ⊥
