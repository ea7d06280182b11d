-- `frame::frame` meets its contract: a law for each check.
use Rattle.frame.proofs.Frames as frames
use Rattle.frame.proofs.frame.Goals as goal

pub returns-then-n-back : goal.returns-then-n-back
returns-then-n-back c = search frames.too_short

pub returns-then-not-is_magic : goal.returns-then-not-is_magic
returns-then-not-is_magic c = search frames.no_header

pub returns-then-not-footed : goal.returns-then-not-footed
returns-then-not-footed c = search frames.no-footer

pub returns-then-size-gt-MANIFEST_MOST : goal.returns-then-size-gt-MANIFEST_MOST
returns-then-size-gt-MANIFEST_MOST c = search frames.too-big

pub returns-then-size-eq0 : goal.returns-then-size-eq0
returns-then-size-eq0 c = search frames.no_size

pub returns-then-at-size : goal.returns-then-at-size
returns-then-at-size c = search frames.no-fit

pub returns : goal.returns
returns c = search frames.framed
