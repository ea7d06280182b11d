-- Two 1.0 files that no reader may tell apart: the premise of the theorem holds of them, so they are read as saying the same.
use mathlib.Core.Path.{◌≡◌, refl}
use Rattle.meaning.specs.Computed.{computed}
use Rattle.meaning.specs.Layouts.{old}
use Rattle.meaning.specs.Frame.{reading}
use Rattle.meaning.specs.Notes.{map_check}
use Rattle.meaning.specs.Drop.{is_unknown, plain_version, known, holds, in_map, in_text, on_value, on_field, drop_component, drop_object, drop_root}
use Rattle.meaning.specs.Moved.{first, later, done, put, end, next, maps, whole, value}
use Rattle.meaning.specs.Parsed.{parsed, SameFiles}
use Rattle.meaning.proofs.SameReading.{said, readings-same}
use Rattle.cases.specs.Old.{plain_example, shuffled_example}

pub same-files : SameFiles old (parsed old plain_example) (parsed old shuffled_example)
unfolding computed parsed is_unknown plain_version known holds in_map in_text on_value on_field drop_component drop_object drop_root
same-files = record {
  start = refl;
  same = maps (put whole (put (value refl refl (maps (next refl
      (maps (put whole (put whole (put whole (put (value refl refl (maps (next refl (maps (put refl (put refl done first) (later first))) end)))
      done first) (later first)) (later (later first))) (later (later first)))) end))) done first) (later first));
}

pub says-the-same : map_check said (reading old plain_example) ≡ map_check said (reading old shuffled_example)
says-the-same = readings-same old plain_example shuffled_example same-files
