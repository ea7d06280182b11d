-- A key: `unfolding explains` opens every definition here, for facts that antt computes.
use Rattle.explained.specs.Lengths
use Rattle.explained.specs.Order
use Rattle.explained.specs.Explain
use Rattle.explained.specs.Sentence

unfoldable pub explains : Unit {0}
unfolding Lengths.elements_fit Lengths.whole_fits Lengths.counted Lengths.indices_fit Order.fresh Order.more Order.all_of Order.number_steps Order.word_steps Order.mapping_steps Order.text_steps Order.dtype_steps Order.type_steps
    Order.raw_steps Order.version_steps Order.shape_steps Order.key_steps Order.repeat_steps Order.field_steps Order.missing Order.missing_in Order.same_name_steps Order.name_steps Order.component_steps Order.components_steps
    Order.note_or Order.length_in Order.length_note Order.of_role Order.role_steps Order.plain_steps Order.length_steps Order.dense_steps Order.csr_steps Order.coo_steps Order.group_steps Order.format_steps Order.object_steps
    Order.objects_steps Order.manifest_steps Explain.frame_steps Explain.head_span Explain.read_steps Explain.root Explain.file_steps Explain.room_steps Explain.explanation Explain.needed_by Explain.explain Sentence.reasons
    Sentence.reason Sentence.belongs Sentence.where' Sentence.refused_line Sentence.said Sentence.sentence
explains = tt
