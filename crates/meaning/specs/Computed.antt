-- A key: `unfolding computed` opens every definition of the reading, its table, its listing and the writing, for facts that antt computes.
use Rattle.meaning.specs.Read
use Rattle.meaning.specs.Text
use Rattle.meaning.specs.Version
use Rattle.meaning.specs.Kind
use Rattle.meaning.specs.Field
use Rattle.meaning.specs.Types
use Rattle.meaning.specs.Layouts
use Rattle.meaning.specs.Format
use Rattle.meaning.specs.Judge
use Rattle.meaning.specs.Frame
use Rattle.meaning.specs.Rows
use Rattle.meaning.specs.View
use Rattle.meaning.specs.Listing
use Rattle.meaning.specs.Encoding
use Rattle.meaning.specs.Asked
use Rattle.meaning.specs.Described
use Rattle.meaning.specs.Sound
use Rattle.meaning.specs.Placement
use Rattle.meaning.specs.Plan
use Rattle.meaning.specs.Manifest
use Rattle.meaning.specs.WrittenFile
use Rattle.meaning.specs.Write

unfoldable pub computed : Unit {0}
unfolding Read.here Read.byte Read.run Read.number Read.stop Read.times Read.until_break Read.to_break Read.wide Read.long_arguments Read.argument Read.major_of Read.info_of Read.definite Read.chunk Read.reserved Read.closed
    Read.beyond Read.close Read.pair Read.content Read.item Read.manifest Read.no_note Read.span_to Text.within Text.tail Text.follow Text.following Text.utf8 Version.push Version.runs Version.digit Version.plain_run
    Version.version_shape Version.first_is_one Version.major_one Kind.kind Kind.as_number Kind.as_word Kind.as_list Kind.as_mapping Kind.a_number Kind.a_word Kind.a_list Kind.a_mapping Kind.a_text Kind.present_kind Kind.present Field.is_some
    Field.is_key Field.key_kind Field.key_of Field.named Field.count Field.get Field.field Field.fields Field.root_fields Field.object_fields Field.component_fields Field.name_kind Field.name_of Field.names Types.storages
    Types.code_from Types.storage_of Types.width_of Types.f64 Types.f32 Types.u64 Types.u8 Types.logicals Types.listed Types.fits_over Types.ratio_of Types.type_ratio Types.product Format.element_bytes Format.unit Format.role
    Format.untyped Format.plain Format.index_role Format.long Format.multiple Format.elements Format.whole_of Format.whole Format.indexed Format.dense Format.sparse_csr Format.sparse_coo Format.quantized_group Format.format_rules
    Judge.code_or Judge.or_else Judge.is_index Judge.inherited Judge.a_dtype Judge.a_type Judge.raw Judge.attributes_of Judge.component Judge.letters_of Judge.part Judge.shape_of Judge.components_of Judge.object Judge.a_version
    Judge.objects_of Judge.judge Layouts.magic Layouts.current Layouts.old Layouts.layout_of Frame.little Frame.frame Frame.checked Frame.reading Rows.word_span Rows.optional_span Rows.attributes_span Rows.dimensions
    Rows.object_row Rows.component_row Rows.object_rows Rows.rows_of Rows.component_rows Rows.rows Rows.component_count Rows.room_for Rows.roomy Rows.answer Rows.table_after Rows.read_into View.viewed View.part_at View.view
    Listing.digits Listing.decimal Listing.hex Listing.shown Listing.shown_text Listing.blanked Listing.line Listing.blob_line Listing.blob_lines Listing.object_line Listing.object_lines Listing.listing Listing.listing_of
    Listing.printed Encoding.big Asked.asked_object Asked.asked_component Asked.each_row Asked.asked Asked.present_at Described.blobs_in Described.described_component Described.described_object Described.described_objects
    Described.described Described.read_component Described.read_object Described.described_by Sound.begins_as_map Sound.fills_or_deep Sound.a_map Sound.absent_or Sound.owners Sound.inside Sound.attributes_sound Sound.object_sound
    Sound.component_sound Sound.asked_sound Sound.rows_sound Placement.aligned Placement.placed_from Placement.placement Placement.end_from Placement.last_end Plan.apart Plan.allowed Plan.planned_from Plan.planned
    Manifest.shortest_head Manifest.number_bytes Manifest.text_bytes Manifest.list_bytes Manifest.given Manifest.entry_bytes Manifest.map_bytes Manifest.component_bytes Manifest.component_entries Manifest.object_bytes
    Manifest.object_entries Manifest.manifest_bytes WrittenFile.little_bytes WrittenFile.over WrittenFile.blobs_over WrittenFile.closing WrittenFile.file_of Write.written_at Write.written_plain Write.written_planned Write.written_by
    Write.written Write.write_answer Write.output_after
computed = tt
