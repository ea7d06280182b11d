-- `root::judge::version` meets its contract: a law for each branch.
use Rattle.root.proofs.Versions as versions
use Rattle.fields.proofs.Texts.{letters-in}
use Rattle.meaning.proofs.Lengths.{place-fits}
use borrow.Author.Rules.{rules}
use Rattle.root.proofs.judge.version.Goals as goal

pub overflow_add-e : goal.overflow_add-e
overflow_add-e c = search (place-fits, letters-in)

pub slice_bounds-version_shape-end : goal.slice_bounds-version_shape-end
slice_bounds-version_shape-end c = search (rules, letters-in)

pub slice_bounds-major_one-end : goal.slice_bounds-major_one-end
slice_bounds-major_one-end c = search (rules, letters-in)

pub returns : goal.returns
returns c = search versions.major-one

pub returns-then-not-major_one : goal.returns-then-not-major_one
returns-then-not-major_one c = search versions.other-major

pub returns-in_default : goal.returns-in_default
returns-in_default c = search versions.no_text

pub returns-then-not-version_shape : goal.returns-then-not-version_shape
returns-then-not-version_shape c = search versions.no-version
