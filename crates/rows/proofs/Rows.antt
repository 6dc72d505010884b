-- Every row of the table gives what document 01 says, and every reading what its comment says, by computing the
-- definitions. The groups are computed apart, each with the definitions that it needs.
use mathlib.Core.Path.{refl}
use Rattle.lowbits.specs.Bits.{floor_bits, low_bits, as_signed}
use Rattle.commands.specs.Commands.{lookup, known, count, port, counted, command_at, command_bytes, hole}
use Rattle.matrix.specs.Matrix.{entry, row_by, mul, unit, scale_matrix, translate_matrix}
use Rattle.stream.specs.Pending.{commands_of, sound_pending}
use Rattle.stream.specs.Command.{takes_none}
use Rattle.stream.specs.Step.{command_word, parameter_word, word_step, held_with, port_parameter, port_step}
use Rattle.stream.specs.Read.{log_commands, list_commands}
use Rattle.stream.specs.Pack.{group_words, packed_words, pack_commands, pack}
use Rattle.stream.specs.Unpack.{command_writes, commands_log, unpack_from}
use Rattle.stream.specs.Call.{call_by}
use Rattle.stream.specs.Feed.{place_of, list_by}
use Rattle.state.specs.List.{list_of}
use Rattle.state.specs.With.{with_rooms}
use Rattle.state.specs.Fresh.{fresh_transform, fresh_geometry, fresh, start}
use Rattle.state.specs.Sound.{sound_transform, sound_waiting, sound_geometry, sound_core}
use Rattle.stacks.specs.Stack.{stored, loaded, target, pair_moved, pair_fails, flipped, single_moved}
use Rattle.stacks.specs.Stack.{single_fails, run_stack}
use Rattle.transforms.specs.Act.{act}
use Rattle.transforms.specs.Command.{numbers_of, run_matrix}
use Rattle.positions.specs.Position.{position_after}
use Rattle.polygons.specs.Buffers.{long_enough, with_vertex, with_polygon}
use Rattle.polygons.specs.Records.{vertex_record}
use Rattle.polygons.specs.Store.{store_polygon}
use Rattle.geometry.specs.List.{begin_list}
use Rattle.geometry.specs.Vertex.{joined, assembled, remaining, taken, vertex_at}
use Rattle.geometry.specs.Command.{run_geometry}
use Rattle.execute.specs.Operation.{register_command_of, operation_of}
use Rattle.execute.specs.Execute.{run_registers, run_operation, execute}
use Rattle.rows.specs.Rows.{GroupHolds, AllHold, command_table_rows, word_rows, matrix_rows, stack_rows, geometry_rows}
use Rattle.rows.specs.Rows.{pack_rows, worked_rows, pop_readings, reader_readings, list_readings, single_readings}
use Rattle.rows.specs.Rows.{readings}

command_table : GroupHolds command_table_rows
unfolding lookup
command_table = (refl, tt)

words : GroupHolds word_rows
unfolding list_of lookup known count counted command_bytes hole commands_of sound_pending takes_none command_word word_step
    call_by fresh_transform fresh_geometry fresh with_rooms start sound_transform sound_waiting sound_geometry sound_core
    long_enough
words = (refl, (refl, (refl, tt)))

matrices : GroupHolds matrix_rows
unfolding floor_bits low_bits as_signed entry row_by mul scale_matrix fresh_transform fresh with_rooms start numbers_of act
    run_matrix register_command_of operation_of run_registers run_operation execute
matrices = (refl, tt)

stacks : GroupHolds stack_rows
unfolding low_bits as_signed unit fresh_transform fresh run_matrix stored loaded target pair_moved pair_fails run_stack
stacks = (refl, (refl, (refl, (refl, (refl, (refl, (refl, (refl, (refl, (refl, tt))))))))))

geometries : GroupHolds geometry_rows
unfolding list_of floor_bits low_bits as_signed entry row_by mul unit fresh_transform fresh_geometry fresh with_rooms start
    position_after with_vertex with_polygon vertex_record store_polygon joined assembled remaining taken vertex_at begin_list
    run_geometry register_command_of operation_of run_registers run_operation execute
geometries = (refl, (refl, (refl, (refl, (refl, (refl, tt))))))

packs : GroupHolds pack_rows
unfolding lookup known count port counted command_at takes_none held_with port_parameter port_step log_commands group_words
    packed_words pack_commands pack
packs = (refl, tt)

pub worked : AllHold worked_rows
worked = (command_table, (words, (matrices, (stacks, (geometries, (packs, tt))))))

pops : GroupHolds pop_readings
unfolding low_bits as_signed fresh_transform fresh run_matrix stored target pair_moved pair_fails run_stack
pops = (refl, (refl, tt))

readers : GroupHolds reader_readings
unfolding lookup known count port counted command_bytes hole commands_of takes_none command_word parameter_word word_step
    list_commands command_writes commands_log unpack_from
readers = (refl, (refl, (refl, (refl, tt))))

lists : GroupHolds list_readings
unfolding list_of lookup known count counted command_bytes hole commands_of sound_pending takes_none command_word word_step
    call_by list_by place_of fresh_transform fresh_geometry fresh with_rooms start sound_transform sound_waiting sound_geometry
    sound_core long_enough
lists = (refl, (refl, (refl, (refl, (refl, (refl, (refl, (refl, (refl, tt)))))))))

singles : GroupHolds single_readings
unfolding list_of lookup known count counted command_bytes hole commands_of sound_pending takes_none command_word
    parameter_word held_with word_step call_by list_by low_bits as_signed floor_bits entry row_by mul unit translate_matrix
    fresh_transform fresh_geometry fresh with_rooms start sound_transform sound_waiting sound_geometry sound_core long_enough
    numbers_of act run_matrix register_command_of operation_of run_registers run_operation execute flipped single_moved
    single_fails run_stack
singles = (refl, (refl, (refl, (refl, (refl, tt)))))

pub all-readings : AllHold readings
all-readings = (pops, (readers, (lists, (singles, tt))))
