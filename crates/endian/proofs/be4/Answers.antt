use Rattle.endian.proofs.Laws as laws
use native.Mathlib.Omega.{arith}
use Rattle.std.proofs.lemmas.Grind.{common_steps}
use Rattle.endian.proofs.be4.Goals as goal

pub returns : goal.returns
returns c = let a = c.args in let l = laws.word-four (a.s.now) (a.i) in (grind (arith, common_steps, l), grind (arith, common_steps))
