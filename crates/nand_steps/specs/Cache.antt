-- The chip's cache (nand/driver.rs: read_cache, load_program_data), cut where it uses the bus.
use Rattle.std.specs.Prelude.{ℕ, Bool, eqb, Err}
use Rattle.qspi.specs.Choice.{pick}
use Rattle.qspi.specs.declared.transfer.Payload.{Payload}
use Rattle.qspi.specs.declared.transfer.Sink.{Sink}
use Rattle.spi_flash.specs.Range.{span}
use Rattle.spi_flash.specs.declared.error.FlashError.{FlashError}
use Rattle.spi_nand.specs.Transfer.{cache_read_transfer, cache_load_transfer, in_cache, place_of, column_at, chunk_of}
use Rattle.spi_nand.specs.declared.phase.MarkerFor.{MarkerFor}
use Rattle.spi_nand.specs.declared.phase.Phase.{Phase}
use Rattle.spi_nand.specs.declared.setup.Setup.{Setup}
use Rattle.nand_steps.specs.Go.{go_to, done}
use Rattle.nand_steps.specs.Then.{Then}

-- check_page, check_range, check_cache_range, `block >= block_count`: what lies past the end is OutOfBounds
abbrev pub within : Bool → Then → Then
within test then = pick test then (Err FlashError.OutOfBounds)

-- read_cache: check_cache_range, then the transfer
unfoldable pub read_cache_then : Setup → ℕ → ℕ → Sink → Phase → Then
read_cache_then setup column n sink phase =
    within (in_cache setup.geometry column n) (go_to setup (cache_read_transfer setup.config column n sink) phase)

-- read_page, and write_page's read-back: `self.read_cache(0, buffer)` of a whole page
abbrev pub whole_then : Setup → Sink → Phase → Then
whole_then setup sink phase = read_cache_then setup 0 setup.geometry.page_size sink phase

-- is_bad_block: `self.read_cache(self.geometry.page_size, &mut marker)`
abbrev pub read_marker_then : Setup → MarkerFor → Then
read_marker_then setup why = read_cache_then setup setup.geometry.page_size 1 Sink.Number (Phase.ReadingMarker why)

-- read: `self.read_cache(column, &mut buffer[done..done + chunk])`
unfoldable pub piece_then : Setup → ℕ → ℕ → ℕ → Then
piece_then setup offset n before =
    read_cache_then setup (column_at setup.geometry (place_of offset before)) (chunk_of setup.geometry offset n before) (Sink.Buffer before)
    (Phase.Reading (span offset n before))

-- write_page: `if verify != data`
unfoldable pub compared_then : Setup → ℕ → Then
compared_then setup same = pick (eqb same 0) (Err FlashError.VerifyFailed) (done setup)

-- `data.len()`
abbrev pub payload_length : Payload → ℕ
payload_length (Payload.Data from n) = n
payload_length (Payload.Filler n) = n
payload_length Payload.Marker = 1

-- load_program_data: check_cache_range, then the transfer
unfoldable pub load_program_then : Setup → ℕ → Payload → Phase → Then
load_program_then setup column payload phase =
    within (in_cache setup.geometry column (payload_length payload)) (go_to setup (cache_load_transfer setup.config column payload) phase)
