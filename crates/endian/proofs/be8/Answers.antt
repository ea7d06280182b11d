use Prim.Native.Nat.{◌+◌}
use Rattle.endian.proofs.Laws as laws
use native.Mathlib.Omega.{arith}
use Rattle.std.proofs.lemmas.Grind.{common_steps}
use Rattle.endian.proofs.be8.Goals as goal

pub returns : goal.returns
returns c = let a = c.args in let l = laws.word-eight (a.s.now) (a.i) in let m = laws.word-four a.s.now a.i in let n = laws.word-four a.s.now (a.i + 4) in grind (arith, common_steps, l, m, n)
