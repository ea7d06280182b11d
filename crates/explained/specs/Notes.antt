-- Changing the annotations of a check.
use Rattle.meaning.specs.Notes.{map_option, map_word}
use Rattle.explained.specs.Step.{Step}

abbrev pub map_step : {P Q : Type 0} → (P → Q) → Step P → Step Q
map_step f s = record {
  number = s.number;
  object = s.object;
  component = s.component;
  object_name = map_option (map_word f) s.object_name;
  component_name = map_option (map_word f) s.component_name;
  place = f s.place;
  right = s.right;
}
