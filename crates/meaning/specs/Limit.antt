-- Document 01's limits: "File frame", "CBOR carried", "Types and lengths", "The writer", and the box's own in "The box's job".
use Rattle.std.specs.Prelude.{ℕ}

-- bytes of the largest manifest
abbrev pub manifest_limit : ℕ
manifest_limit = 16_777_216

-- the root is at depth 1, and nothing may stand deeper than this
abbrev pub depth_limit : ℕ
depth_limit = 32

abbrev pub object_limit : ℕ
object_limit = 1_024

-- in one object
abbrev pub component_limit : ℕ
component_limit = 16

abbrev pub rank_limit : ℕ
rank_limit = 8

-- every component begins at a multiple of this, and not before it
abbrev pub alignment : ℕ
alignment = 64

-- the writer's last blob may end here, not above: 2 ^ 40
abbrev pub end_limit : ℕ
end_limit = 1_099_511_627_776

-- the small program's file, in bytes, and its table, in numbers
abbrev pub program_file : ℕ
program_file = 65_536

abbrev pub program_table : ℕ
program_table = 8_192
