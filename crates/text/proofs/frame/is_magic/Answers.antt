-- `text::frame::is_magic` meets its contract: the byte string is `magic`. Assumes nothing.
use mathlib.Core.Path.{ap, sym, ◌∙◌}
use lib.ListN.{length}
use Rattle.meaning.specs.Text.{same}
use Rattle.meaning.specs.Layouts.{magic}
use Rattle.text.proofs.SameIsEqual as texts
use Rattle.text.proofs.frame.is_magic.Goals as goal

pub returns-in-Some : goal.returns-in-Some
unfolding magic
returns-in-Some c = c.eq.ensures ∙ texts.pointwise-same magic c.in-Some.bytes.now ∙ ap (same magic) c.in-Some.ensures.cases.same

pub returns-in-None : goal.returns-in-None
unfolding magic
returns-in-None c = sym (texts.ne_same magic c.args.part.now (λ e. c.in-None.ensures.cases (ap length (sym e))))
