-- Request 01 of document 02: the panel's text of a file. It is the listing by the file's own rows, each component with what is found in it, and the account of the file's bytes.
use Rattle.std.specs.Prelude.{ℕ, List, cond, length, replicate, leb}
use Rattle.meaning.specs.Check.{Check, pass, refuse, ◌>>=◌}
use Rattle.meaning.specs.Refusal.{ROOM}
use Rattle.meaning.specs.Layouts.{Layout}
use Rattle.meaning.specs.Frame.{Reading}
use Rattle.meaning.specs.Rows.{component_count, table_after, read_into}
use Rattle.account.specs.Account.{frame_bytes, manifest_bytes, inside_bytes, between_bytes}
use Rattle.panel.specs.Summary.{summary_text, bytes_line}
use Rattle.summary.specs.declared.Panel.{Panel}

-- by the rows of what was read, in a table of so many numbers
unfoldable pub panel_text : Layout → List ℕ → ℕ → Reading → List ℕ
panel_text L file room r =
    summary_text file (table_after (replicate room 0) (pass r)) (length r.model.objects) (component_count r.model.objects)
    (bytes_line (frame_bytes L file r) (manifest_bytes L file r) (inside_bytes L file r) (between_bytes L file r))

unfoldable pub shown : Layout → List ℕ → ℕ → Check (List ℕ)
shown L file room = read_into L file room >>= λ r. pass (panel_text L file room r)

unfoldable pub told : Check (List ℕ) → ℕ → Panel
told (refuse n o c) room = record { number = n; object = o; component = c; length = 0 }
told (pass t) room =
    cond (leb (length t) room) (record { number = 0; object = 0; component = 0; length = length t }) (record { number = ROOM; object = 0; component = 0; length = 0 })
