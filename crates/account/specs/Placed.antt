-- What the account needs of an accepted file: its blobs begin from 64 on and end by the manifest's start, and the manifest ends where its size begins.
use Rattle.std.specs.Prelude.{ℕ, ◌+◌, ◌≤◌, List, length}
use Rattle.meaning.specs.Layouts.{Layout}
use Rattle.meaning.specs.Frame.{Reading}
use Rattle.meaning.specs.Every.{Every}
use Rattle.view.specs.All.{all_components}
use Rattle.shown.specs.Accepted.{BlobLies}

pub record Placed (L : Layout) (file : List ℕ) (r : Reading) : Type 0 where
  pub header : 8 ≤ r.start
  pub size : r.start + L.size_back ≤ length file
  pub blobs : Every (BlobLies r.start) (all_components r.model.objects)
