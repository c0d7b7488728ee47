-- The readings, by computation.
use mathlib.Core.Path.{refl}
use Rattle.spi_flash.specs.Entry.{entry_of}
use Rattle.spi_flash.specs.Beginning.{opened, begun, at_rest, begins}
use Rattle.spi_flash.specs.Settling.{settled}
use Rattle.spi_nor.specs.Config.{capacity_bytes_of, from_jedec}
use Rattle.spi_nor.specs.Transfer.{multiple_of, step_kind, after_unit}
use Rattle.nor_runs.specs.Bound.{delay_bound}
use Rattle.spi_nand.specs.Config.{capacity_of, in_bounds, wanted_for}
use Rattle.spi_nand.specs.Opcode.{timings_of}
use Rattle.spi_nand.specs.Status.{verdict_of, with_bits, block_protect_bits, is_unlocked}
use Rattle.spi_flash.specs.Range.{range_in_bounds}
use Rattle.spi_nand.specs.Transfer.{in_range, place_of, chunk_of}
use Rattle.nand_steps.specs.Read.{read_from, read_then}
use Rattle.nand_steps.specs.Opening.{opening_of}
use Rattle.readings.specs.Readings.{ReadingsHold}

pub readings-hold : ReadingsHold
unfolding capacity_bytes_of from_jedec multiple_of step_kind after_unit delay_bound timings_of verdict_of with_bits block_protect_bits is_unlocked capacity_of in_bounds in_range range_in_bounds place_of chunk_of read_from read_then wanted_for opening_of opened begun at_rest begins settled entry_of
readings-hold = record { all = refl }
