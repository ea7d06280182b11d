-- Document 01, "Manifest fields": what an item is in a known place. Chunked text, negative numbers, tagged items and the like are of no kind that is asked for.
use Rattle.std.specs.Prelude.{ℕ, List, cond, eqb}
use Rattle.std.proofs.Math.Option.{Option, none, some}
use Rattle.meaning.specs.Tree.{Node, uint, nint, bytes, text, chunked_bytes, chunked_text, array, dict, tag, simple, float, Pair, node_list, pair_list}
use Rattle.meaning.specs.Check.{Check, pass, ◌>>=◌, ◌>>◌, ◌unless◌, fault}
use Rattle.meaning.specs.Text.{utf8}
use Rattle.meaning.specs.Refusal.{KIND, TEXT}
use Rattle.meaning.specs.Model.{Word}

pub data Kind (P : Type 0) : Type 0 where
  number : ℕ → Kind P
  words : Word P → Kind P
  list : List (Node P) → Kind P
  mapping : List (Pair P) → Kind P
  null : Kind P
  another : Kind P

module _ {P : Type 0} where
  unfoldable pub kind : Node P → Kind P
  kind (uint p n) = number n
  kind (nint p n) = another
  kind (bytes p bs) = another
  kind (text p bs) = words (record { note = p; letters = bs })
  kind (chunked_bytes p bs) = another
  kind (chunked_text p bs) = another
  kind (array p ns) = list (node_list ns)
  kind (dict p ps) = mapping (pair_list ps)
  kind (tag p n t) = another
  kind (simple p n) = cond (eqb n 22) null another
  kind (float p w b) = another

  unfoldable pub as_number : Kind P → Check ℕ
  as_number (number n) = pass n
  as_number (words w) = fault KIND
  as_number (list l) = fault KIND
  as_number (mapping l) = fault KIND
  as_number null = fault KIND
  as_number another = fault KIND

  unfoldable pub as_word : Kind P → Check (Word P)
  as_word (number n) = fault KIND
  as_word (words w) = pass w
  as_word (list l) = fault KIND
  as_word (mapping l) = fault KIND
  as_word null = fault KIND
  as_word another = fault KIND

  unfoldable pub as_list : Kind P → Check (List (Node P))
  as_list (number n) = fault KIND
  as_list (words w) = fault KIND
  as_list (list l) = pass l
  as_list (mapping l) = fault KIND
  as_list null = fault KIND
  as_list another = fault KIND

  unfoldable pub as_mapping : Kind P → Check (List (Pair P))
  as_mapping (number n) = fault KIND
  as_mapping (words w) = fault KIND
  as_mapping (list l) = fault KIND
  as_mapping (mapping l) = pass l
  as_mapping null = fault KIND
  as_mapping another = fault KIND

  unfoldable pub a_number : Node P → Check ℕ
  a_number t = as_number (kind t)

  unfoldable pub a_word : Node P → Check (Word P)
  a_word t = as_word (kind t)

  unfoldable pub a_list : Node P → Check (List (Node P))
  a_list t = as_list (kind t)

  unfoldable pub a_mapping : Node P → Check (List (Pair P))
  a_mapping t = as_mapping (kind t)

  -- a text that must be UTF-8
  unfoldable pub a_text : Node P → Check (Word P)
  a_text t = do
    w ← a_word t
    TEXT unless utf8 w.letters
    pass w

  -- explicit null counts as absent, where this is asked
  unfoldable pub present_kind : Node P → Kind P → Option (Node P)
  present_kind t (number n) = some t
  present_kind t (words w) = some t
  present_kind t (list l) = some t
  present_kind t (mapping l) = some t
  present_kind t null = none
  present_kind t another = some t

  unfoldable pub present : Option (Node P) → Option (Node P)
  present none = none
  present (some t) = present_kind t (kind t)
