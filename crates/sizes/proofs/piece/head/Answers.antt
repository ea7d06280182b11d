-- `sizes::piece::head` meets its contract.
use borrow.Author.Rules.{rules}
use Rattle.sizes.specs.Size.{head_size}
use Rattle.sizes.proofs.piece.head.Goals as goal

pub returns-in-0-to-23 : goal.returns-in-0-to-23
unfolding head_size
returns-in-0-to-23 c = search rules

pub returns-in-24-to-255 : goal.returns-in-24-to-255
unfolding head_size
returns-in-24-to-255 c = search rules

pub returns-in-256-to-65535 : goal.returns-in-256-to-65535
unfolding head_size
returns-in-256-to-65535 c = search rules

pub returns-in-65536-to-4294967295 : goal.returns-in-65536-to-4294967295
unfolding head_size
returns-in-65536-to-4294967295 c = search rules

pub returns-in_default : goal.returns-in_default
unfolding head_size
returns-in_default c = search rules
