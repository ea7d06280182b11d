-- The answer of a listing, and what the lent text then holds: untouched where nothing is listed, and beyond the listing.
use Rattle.std.specs.Prelude.{ℕ, List, ◌++◌, cond, length, drop, leb}
use Rattle.meaning.specs.Check.{Check, pass, refuse}
use Rattle.meaning.specs.Refusal.{ROOM}
use Rattle.panel.specs.declared.Listed.{Listed}

unfoldable pub told : Check (List ℕ) → ℕ → Listed
told (refuse n o c) room = record { number = n; length = 0 }
told (pass t) room = cond (leb (length t) room) (record { number = 0; length = length t }) (record { number = ROOM; length = 0 })

unfoldable pub text_after : Check (List ℕ) → List ℕ → List ℕ
text_after (refuse n o c) text = text
text_after (pass t) text = cond (leb (length t) (length text)) (t ++ drop (length t) text) text
