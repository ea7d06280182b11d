-- Request 01 of document 02: where the bytes of an accepted file are. Frame and manifest; positions that lie in at least one component; and those between the first 8 bytes and the
-- manifest that lie in none.
use Rattle.std.specs.Prelude.{ℕ, ◌+◌, ◌-◌, List, [], ◌∷◌, Bool, false, ◌&&◌, ◌||◌, not, length, leb, ltb}
use Rattle.meaning.specs.Check.{Check, pass, refuse}
use Rattle.meaning.specs.Model.{Component}
use Rattle.meaning.specs.Layouts.{Layout}
use Rattle.meaning.specs.Frame.{Reading}
use Rattle.view.specs.All.{all_components}
use Rattle.covering.specs.Ranges.{count}
use Rattle.account.specs.declared.Bytes.{Bytes}

module _ {P : Type 0} where
  abbrev pub lies : ℕ → Component P → Bool
  lies p c = leb c.offset p && ltb p (c.offset + c.length)

  unfoldable pub in_any : List (Component P) → ℕ → Bool
  in_any [] p = false
  in_any (c ∷ cs) p = lies p c || in_any cs p

module _ (L : Layout) (file : List ℕ) (r : Reading) where
  -- the first 8 bytes, and what follows the manifest: its size, and the footer if there is one
  unfoldable pub frame_bytes : ℕ
  frame_bytes = 8 + L.size_back

  unfoldable pub manifest_bytes : ℕ
  manifest_bytes = length file - L.size_back - r.start

  -- an overlap counts once
  unfoldable pub inside_bytes : ℕ
  inside_bytes = count (in_any (all_components r.model.objects)) (length file) 0

  unfoldable pub between_bytes : ℕ
  between_bytes = count (λ p. not (in_any (all_components r.model.objects) p)) (r.start - 8) 8

unfoldable pub accounted : Layout → List ℕ → Check Reading → Bytes
accounted L file (refuse n o c) = record { number = n; object = o; component = c; frame = 0; manifest = 0; inside = 0; between = 0 }
accounted L file (pass r) = record {
  number = 0;
  object = 0;
  component = 0;
  frame = frame_bytes L file r;
  manifest = manifest_bytes L file r;
  inside = inside_bytes L file r;
  between = between_bytes L file r;
}
