-- `text::version::version_shape` meets its contract. The loop's invariant: what is left to say from there on, given dots and room. Assumes nothing.
use Rattle.versions.proofs.VersionSteps as steps
use Rattle.versions.proofs.version_shape.Goals as goal

pub loop-x-init : goal.loop-x-init
loop-x-init c = search steps.says_all

pub returns-then-room-eq9 : goal.returns-then-room-eq9
returns-then-room-eq9 c = search steps.empty-run

pub loop-x-preserved-then-b-eq-DOT : goal.loop-x-preserved-then-b-eq-DOT
loop-x-preserved-then-b-eq-DOT c = search steps.next-run

pub returns-then-b-lt-ZERO : goal.returns-then-b-lt-ZERO
returns-then-b-lt-ZERO c = search steps.below-digits

pub returns-then-b-gt-NINE : goal.returns-then-b-gt-NINE
returns-then-b-gt-NINE c = search steps.above-digits

pub returns-then-room-eq0 : goal.returns-then-room-eq0
returns-then-room-eq0 c = search steps.digit-too-many

pub loop-x-preserved : goal.loop-x-preserved
loop-x-preserved c = search steps.next-digit

pub returns-then-room-eq9-2 : goal.returns-then-room-eq9-2
returns-then-room-eq9-2 c = search steps.ends-empty

pub returns-then-dots-eq0 : goal.returns-then-dots-eq0
returns-then-dots-eq0 c = search steps.one-run

pub returns : goal.returns
returns c = search steps.some_runs
