-- By computation: one exporter's file and the other's, with the fields of all three kinds of map in reverse, unknown ones among them, meet Req 06's premise and are accepted with
-- two rows each; with a fault in a component they get its refusal; and a file with its objects exchanged is told apart.
use Prim.Native.Nat.{ℕ, ◌+◌}
use Prim.Native.String.{String}
use native.Mathlib.Omega.{arith}
use mathlib.Core.List.{List, [], ◌∷◌, ◌++◌, reverse}
use mathlib.Core.Path.{◌≡◌, refl, ap, sym, subst}
use lib.ListN.{replicate}
use Rattle.meaning.specs.Columns.{shape_column}
use Rattle.meaning.specs.Tree.{Node, Pair, uint, text, array, dict, simple, ε, nodes, pairs}
use Rattle.meaning.specs.Text.{ascii}
use Rattle.meaning.specs.Check.{refuse}
use Rattle.meaning.specs.Refusal.{ALIGN}
use Rattle.meaning.specs.Computed.{computed}
use Rattle.meaning.specs.Layouts.{current, old}
use Rattle.meaning.specs.Drop.{is_unknown, plain_version, known, holds, in_map, in_text, on_value, on_field, drop_component, drop_object, drop_root}
use Rattle.meaning.specs.Rows.{answer}
use Rattle.meaning.specs.Moved.{Permuted, ComponentMoved, ObjectMoved, RootMoved, first, later, done, put, end, next, maps, whole, value}
use Rattle.meaning.specs.Parsed.{parsed, SameFiles}
use Rattle.shown.proofs.ReadingJudged.{current-framing, old-framing}
use Rattle.tolerance.specs.Manifests.{FieldsMoved, AlikeEntry}
use Rattle.tolerance.specs.Alike.{answer_of, afterwards, acceptance, ReadAlike, refused, accepted, table_fields, FieldsAlike}
use Rattle.tolerance.specs.Files.{exported, exchanged, tensor_file, forwards, backwards}
use Rattle.tolerance.proofs.ReadsAlike.{read_same, read-shuffled}
use Rattle.tolerance.proofs.Columns.{same-columns}

-- two numbers more than the rows take
abbrev table : List ℕ
table = replicate 58 7

abbrev pub one : ℕ → List ℕ
one = exported forwards

abbrev pub the_other : ℕ → List ℕ
the_other = exported backwards

-- ---- what the manifests mean, with the pairs of their maps in an order

abbrev word : String → Node (Unit {0})
word s = text tt (ascii s)

abbrev map_with : List (Pair (Unit {0})) → Node (Unit {0})
map_with ps = dict tt (pairs ps)

abbrev field : String → Node (Unit {0}) → Pair (Unit {0})
field s v = record { key = word s; value = v }

module _ (order : List (Pair (Unit {0})) → List (Pair (Unit {0}))) where
  abbrev component : ℕ → ℕ → Node (Unit {0})
  component offset size =
      map_with (order (field "dtype" (word "u8") ∷ field "stride" (uint tt 1) ∷ field "offset" (uint tt offset) ∷ field "length" (uint tt size) ∷ field "digest" (word "crc32:0") ∷ []))

  abbrev object : ℕ → ℕ → Node (Unit {0})
  object offset size = map_with (order (field "shape" (array tt (nodes (uint tt size ∷ []))) ∷ field "format" (word "dense") ∷ field "chart" (simple tt 22)
      ∷ field "components" (map_with (field "data" (component offset size) ∷ [])) ∷ []))

  abbrev root : ℕ → Node (Unit {0})
  root offset = map_with (order (field "version" (word "1.2.0") ∷ field "x" (array tt ε) ∷ field "attributes" (map_with (field "by" (word "us") ∷ []))
      ∷ field "objects" (map_with (field "a" (object 64 8) ∷ field "b" (object offset 4) ∷ [])) ∷ []))

  -- layout 1.0's, once the unknown field is dropped
  abbrev tensor : Node (Unit {0})
  tensor = map_with (order (field "dtype" (word "uint8") ∷ field "shape" (array tt (nodes (uint tt 8 ∷ []))) ∷ field "format" (word "dense")
      ∷ field "components" (map_with (field "data" (map_with (order (field "offset" (uint tt 64) ∷ field "length" (uint tt 8) ∷ []))) ∷ [])) ∷ []))

  abbrev old_root : Node (Unit {0})
  old_root = map_with (order (field "version" (word "1.0") ∷ field "tensors" (map_with (field "w" tensor ∷ [])) ∷ []))

-- four pairs, and five, in reverse
module _ {P : Type 0} (R : Pair P → Pair P → Type 0) where
  four : {a b c d a' b' c' d' : Pair P} → R a a' → R b b' → R c c' → R d d' → Permuted R (a ∷ b ∷ c ∷ d ∷ []) (d' ∷ c' ∷ b' ∷ a' ∷ [])
  four ra rb rc rd = put ra (put rb (put rc (put rd done first) (later first)) (later (later first))) (later (later (later first)))

  five : {a b c d e a' b' c' d' e' : Pair P} → R a a' → R b b' → R c c' → R d d' → R e e' → Permuted R (a ∷ b ∷ c ∷ d ∷ e ∷ []) (e' ∷ d' ∷ c' ∷ b' ∷ a' ∷ [])
  five ra rb rc rd re = put ra (four rb rc rd re) (later (later (later (later first))))

object-is-moved : (offset size : ℕ) → ObjectMoved current (object (λ ps. ps) offset size) (object reverse offset size)
unfolding computed holds
object-is-moved offset size = maps (four _ whole whole whole (value refl refl (maps (next refl (maps (five _ refl refl refl refl refl)) end))))

root-is-moved : (offset : ℕ) → RootMoved current (root (λ ps. ps) offset) (root reverse offset)
unfolding computed holds
root-is-moved offset = maps (four _ whole whole whole (value refl refl (maps (next refl (object-is-moved 64 8) (next refl (object-is-moved offset 4) end)))))

old-root-is-moved : RootMoved old (old_root (λ ps. ps)) (old_root reverse)
unfolding computed holds
old-root-is-moved = maps (put whole (put (value refl refl (maps (next refl
    (maps (four _ whole whole whole (value refl refl (maps (next refl (maps (put refl (put refl done first) (later first))) end))))) end))) done first) (later first))

-- ---- fields in reverse

pub fields-are-moved : (offset : ℕ) → FieldsMoved current (parsed current (one offset)) (parsed current (the_other offset))
unfolding computed parsed
fields-are-moved offset = record { start = refl; moved = root-is-moved (0 + offset) }

-- both are accepted: two objects, two components
pub one_answer : answer_of current (one 64) table ≡ acceptance 2 2 72 (record { place = 101; size = 7 })
unfolding computed
one_answer = refl

pub other-answer : answer_of current (the_other 64) table ≡ acceptance 2 2 72 (record { place = 289; size = 7 })
unfolding computed
other-answer = refl

pub one-rows : afterwards current (one 64) table
    ≡ 118 ∷ 1 ∷ 1 ∷ 8 ∷ replicate 7 0 ++ 136 ∷ 5 ∷ 0 ∷ 0 ∷ 1 ∷ 216 ∷ 1 ∷ 1 ∷ 4 ∷ replicate 7 0 ++ 234 ∷ 5 ∷ 0 ∷ 0 ∷ 1
    ∷ 161 ∷ 4 ∷ 11 ∷ 0 ∷ 0 ∷ 64 ∷ 8 ∷ 208 ∷ 7 ∷ 0 ∷ 165 ∷ 50
    ∷ 259 ∷ 4 ∷ 11 ∷ 0 ∷ 0 ∷ 64 ∷ 4 ∷ 306 ∷ 7 ∷ 1 ∷ 263 ∷ 50 ∷ 7 ∷ 7 ∷ []
unfolding computed
one-rows = refl

pub other-rows : afterwards current (the_other 64) table
    ≡ 83 ∷ 1 ∷ 1 ∷ 8 ∷ replicate 7 0 ++ 167 ∷ 5 ∷ 0 ∷ 0 ∷ 1 ∷ 181 ∷ 1 ∷ 1 ∷ 4 ∷ replicate 7 0 ++ 265 ∷ 5 ∷ 0 ∷ 0 ∷ 1
    ∷ 98 ∷ 4 ∷ 11 ∷ 0 ∷ 0 ∷ 64 ∷ 8 ∷ 111 ∷ 7 ∷ 0 ∷ 102 ∷ 50
    ∷ 196 ∷ 4 ∷ 11 ∷ 0 ∷ 0 ∷ 64 ∷ 4 ∷ 209 ∷ 7 ∷ 1 ∷ 200 ∷ 50 ∷ 7 ∷ 7 ∷ []
unfolding computed
other-rows = refl

-- and by the theorem they are alike
pub shuffled-is-alike : ReadAlike current ComponentMoved (one 64) table (the_other 64) table
shuffled-is-alike = read-shuffled current current-framing (one 64) table (the_other 64) table refl (fields-are-moved 64)

-- ---- with b's blob at 65, both get the refusal of the component 0 of the object 1

pub one-refused : answer_of current (one 65) table ≡ answer (refuse ALIGN 1 0)
unfolding computed
one-refused = refl

pub other-refused : answer_of current (the_other 65) table ≡ answer (refuse ALIGN 1 0)
unfolding computed
other-refused = refl

pub refused-alike : ReadAlike current ComponentMoved (one 65) table (the_other 65) table
refused-alike = read-shuffled current current-framing (one 65) table (the_other 65) table refl (fields-are-moved 65)

-- ---- b before a: names keep their order

pub exchanged-is-told-apart : (E : Node (Unit {0}) → Node (Unit {0}) → Type 0) → ReadAlike current E (one 64) table (exchanged forwards) table → ⊥
unfolding computed
exchanged-is-told-apart E (refused r) = let a : 0 ≡ r.number = ap (λ x. x.number) r.first in let b = r.not-accepted in omega (arith, a, b)
exchanged-is-told-apart E (accepted b) =
    let a : 2 ≡ b.objects = ap (λ x. x.objects) b.first in
    let shapes : ◌≡◌ {A = ℕ} 8 4 = same-columns E (one 64) (exchanged forwards) (table_fields 2 b.components) (afterwards current (one 64) table) (afterwards current (exchanged forwards) table) shape_column
    (subst (λ (n : ℕ). FieldsAlike (one 64) (exchanged forwards) E (table_fields n b.components) (afterwards current (one 64) table) (afterwards current (exchanged forwards) table)) (sym a) b.rows) refl in
    omega (arith, shapes)

-- so the premise fails for it
pub exchanged-is-not-the-same : SameFiles current (parsed current (one 64)) (parsed current (exchanged forwards)) → ⊥
exchanged-is-not-the-same h = exchanged-is-told-apart (AlikeEntry current) (read_same current current-framing (one 64) table (exchanged forwards) table refl h)

-- ---- layout 1.0: two versions, and the fields of all maps in reverse

abbrev old_table : List ℕ
old_table = replicate 28 7

pub old-files-are-the-same : SameFiles old (parsed old (tensor_file forwards "1.0")) (parsed old (tensor_file backwards "1.7"))
unfolding computed parsed is_unknown plain_version known holds in_map in_text on_value on_field drop_component drop_object drop_root
old-files-are-the-same = record { start = refl; same = old-root-is-moved }

pub old-rows : afterwards old (tensor_file forwards "1.0") old_table
    ≡ 98 ∷ 1 ∷ 1 ∷ 8 ∷ replicate 7 0 ++ 128 ∷ 5 ∷ 0 ∷ 0 ∷ 1 ∷ 146 ∷ 4 ∷ 11 ∷ 0 ∷ 0 ∷ 64 ∷ 8 ∷ 0 ∷ 0 ∷ 0 ∷ 150 ∷ 18 ∷ []
unfolding computed
old-rows = refl

pub old-is-alike : ReadAlike old (AlikeEntry old) (tensor_file forwards "1.0") old_table (tensor_file backwards "1.7") old_table
old-is-alike = read_same old old-framing (tensor_file forwards "1.0") old_table (tensor_file backwards "1.7") old_table refl old-files-are-the-same
