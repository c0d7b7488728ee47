-- read (nand/driver.rs), cut where it uses the bus: page by page, each piece behind the load of its page.
use Rattle.std.specs.Prelude.{ℕ, ◌+◌, ltb}
use Rattle.qspi.specs.Choice.{pick}
use Rattle.spi_flash.specs.Range.{span}
use Rattle.spi_nand.specs.Transfer.{in_range, place_of, page_at, chunk_of}
use Rattle.spi_nand.specs.declared.phase.LoadFor.{LoadFor}
use Rattle.spi_nand.specs.declared.setup.Setup.{Setup}
use Rattle.nand_steps.specs.Cache.{within}
use Rattle.nand_steps.specs.Go.{done}
use Rattle.nand_steps.specs.Page.{page_read_then}
use Rattle.nand_steps.specs.Then.{Then}

-- `while done < buffer.len()`: the page of the byte behind those that are read
unfoldable pub read_from : Setup → ℕ → ℕ → ℕ → Then
read_from setup offset n before =
    pick (ltb before n) (page_read_then setup (page_at setup.geometry (place_of offset before)) (LoadFor.Read (span offset n before))) (done setup)

-- check_range, then the loop
unfoldable pub read_then : Setup → ℕ → ℕ → Then
read_then setup offset n = within (in_range setup.geometry offset n) (read_from setup offset n 0)

-- `done += chunk`
abbrev pub piece_read_then : Setup → ℕ → ℕ → ℕ → Then
piece_read_then setup offset n before = read_from setup offset n (before + chunk_of setup.geometry offset n before)
