-- An engine by itself: its answers and its rows as a function of its own calls and the numbers that the other holds where it loads. Not believed: a means of proof, and what non-interference says at its strongest.
use Rattle.std.specs.Prelude.{ℕ, ◌-◌, List, [], ◌∷◌}
use Rattle.meaning.specs.Check.{Check, pass, refuse}
use Rattle.meaning.specs.Frame.{Reading}
use Rattle.engines.specs.Shared.{Who, Engine, held_of, nothing}
use Rattle.engines.specs.Calls.{Call, load, drops, holds, view, list, Said, engine_of, loading, told}
use Rattle.engines.specs.Runs.{Heard}

unfoldable pub takes : ℕ → Engine → Check Reading → Engine
takes layout a (pass r) = engine_of layout r
takes layout a (refuse n o c) = a

module _ (size : ℕ) (w : Who) where
  abbrev pub free_beside : Engine → ℕ → ℕ
  free_beside a held = size - held_of a.state - held

  unfoldable pub alone_after : Engine → ℕ → Call → Engine
  alone_after a held (load layout file) = takes layout a (loading a (free_beside a held) layout file)
  alone_after a held drops = nothing
  alone_after a held holds = a
  alone_after a held (view file index) = a
  alone_after a held (list file room) = a

  unfoldable pub alone : Engine → List Heard → List (Check Said)
  alone a [] = []
  alone a (h ∷ hs) = told size w a (free_beside a h.held) h.call ∷ alone (alone_after a h.held h.call) hs

  unfoldable pub alone_final : Engine → List Heard → Engine
  alone_final a [] = a
  alone_final a (h ∷ hs) = alone_final (alone_after a h.held h.call) hs
