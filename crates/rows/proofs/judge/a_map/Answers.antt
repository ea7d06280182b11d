-- `rows::judge::a_map` meets its contract: a law for each branch.
use mathlib.Core.Path.{◌∙◌}
use borrow.Author.Rules.{rules}
use borrow.Author.Tests.{eq-eqb, tests}
use Rattle.rows.proofs.Judged as law
use Rattle.rows.proofs.judge.a_map.Goals as goal
use Rattle.rows.proofs.judge.a_map.Goals.{then-is_empty-via-then-is_empty, then-is_empty-via-else-is_empty+then-major_of-ne5}

pub returns-then-is_empty : goal.returns-then-is_empty
returns-then-is_empty c =
    elim c.then-is_empty.branch [
      | then-is_empty-via-then-is_empty w ↦ search (rules, tests, law.empty-no-map)
      | then-is_empty-via-else-is_empty+then-major_of-ne5 w ↦ search (rules, tests, law.other-no-map)
    ]

pub returns-then-end-s : goal.returns-then-end-s
returns-then-end-s c = eq-eqb _ _ c.if-end-s.true ∙ search (rules, tests, law.map-fills)

pub returns-else-end-s : goal.returns-else-end-s
returns-else-end-s c = search (rules, tests, law.by-deep)
