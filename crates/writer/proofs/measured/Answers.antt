-- `writer::measured` meets its contract: a law for each branch.
use Rattle.writer.proofs.Checks as checks
use Rattle.writer.proofs.measured.Goals as goal

pub returns-then-not-sound : goal.returns-then-not-sound
returns-then-not-sound c = let below = checks.all_there _ c.type_inv.rows in record { sizes = search checks.row; lent = search checks.lent }

pub last_end-end-requires : goal.last_end-end-requires
last_end-end-requires c = search checks.all_lie

pub returns-then-end-gt-END_MOST : goal.returns-then-end-gt-END_MOST
returns-then-end-gt-END_MOST c = let below = checks.all_there _ c.type_inv.rows in record { sizes = search checks.count; lent = search checks.lent }

pub manifest-manifest-requires : goal.manifest-manifest-requires
manifest-manifest-requires c = search checks.plain-measurable

pub returns-then-manifest-gt-MANIFEST_MOST : goal.returns-then-manifest-gt-MANIFEST_MOST
returns-then-manifest-gt-MANIFEST_MOST c = let below = checks.all_there _ c.type_inv.rows in record { sizes = search checks.big; lent = search checks.lent }

pub returns : goal.returns
returns c = let below = checks.all_there _ c.type_inv.rows in record { sizes = (search checks.fit, search checks.settled); lent = search checks.lent }
