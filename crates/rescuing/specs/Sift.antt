-- Document 02, Request 14: which objects of a file are kept and which are dropped. A file is judged up to its objects' names, repeats included, as the reader judges it; then each object for itself.
use Rattle.std.specs.Prelude.{ℕ, suc, ◌+◌, List, [], ◌∷◌, map, take, drop}
use Rattle.std.proofs.Math.Option.{Option}
use Rattle.meaning.specs.Limit.{object_limit}
use Rattle.meaning.specs.Tree.{Node}
use Rattle.meaning.specs.Check.{Check, pass, refuse, ◌>>=◌, ◌>>◌, required, optional}
use Rattle.meaning.specs.Read.{Span, span_to, manifest}
use Rattle.meaning.specs.Model.{Named, Object, Model}
use Rattle.meaning.specs.Layouts.{Layout}
use Rattle.meaning.specs.Field.{root_fields, names}
use Rattle.meaning.specs.Judge.{attributes_of, a_version, object}
use Rattle.meaning.specs.Frame.{frame, checked}

-- an object that is dropped: its index, and the number and component that the reader would have given had it come first
pub record Dropped : Type 0 where
  pub index : ℕ
  pub number : ℕ
  pub component : ℕ

-- a manifest that passes every check up to its objects' names: the root's attributes, and the objects, not judged yet
pub record Opened (P : Type 0) : Type 0 where
  pub attributes : Option (Node P)
  pub named : List (Named P)

module _ {P : Type 0} where
  unfoldable pub opened : Layout → Node P → Check (Opened P)
  opened L t = do
    r ← root_fields L.root t
    version ← required r.version
    a_version version
    a ← optional attributes_of r.attributes
    objects ← required r.objects
    ns ← names object_limit objects
    pass (record { attributes = a; named = ns })

  -- of the objects' own verdicts: those that pass, in order
  unfoldable pub kept : List (Check (Object P)) → List (Object P)
  kept [] = []
  kept (pass o ∷ ks) = o ∷ kept ks
  kept (refuse n o c ∷ ks) = kept ks

  -- and the others, in order, with their indices from i on
  unfoldable pub dropped : ℕ → List (Check (Object P)) → List Dropped
  dropped i [] = []
  dropped i (pass o ∷ ks) = dropped (suc i) ks
  dropped i (refuse n o c ∷ ks) = record { index = i; number = n; component = c } ∷ dropped (suc i) ks

  -- each object judged by itself, in a file whose manifest begins at `start`
  unfoldable pub verdicts : Layout → ℕ → List (Named P) → List (Check (Object P))
  verdicts L start = map (object L start)

-- what is kept of a file, as a model, and what is dropped
pub record Sifted : Type 0 where
  pub model : Model Span
  pub dropped : List Dropped

unfoldable pub sift : Layout → ℕ → Opened Span → Sifted
sift L start o =
    let ks = verdicts L start o.named in
    record { model = record { attributes = o.attributes; objects = kept ks }; dropped = dropped 0 ks }

unfoldable pub sifted : Layout → List ℕ → Check Sifted
sifted L file = do
  f ← frame L file
  t ← checked (manifest (span_to (f.start + f.size)) (take f.size (drop f.start file)))
  o ← opened L t
  pass (sift L f.start o)
