-- Which loads are judged, and by which verdict they are refused (nand/driver.rs).
use Rattle.std.specs.Prelude.{Bool, true, false}
use Rattle.spi_nand.specs.declared.phase.LoadFor.{LoadFor}
use Rattle.spi_nand.specs.declared.status.EccVerdict.{EccVerdict}

-- page_read asks for the verdict; is_bad_block calls load_page, which asks for none
abbrev pub asks_verdict : LoadFor → Bool
asks_verdict LoadFor.PageRead = true
asks_verdict LoadFor.ReadPage = true
asks_verdict LoadFor.Verify = true
asks_verdict (LoadFor.Marker why) = false
asks_verdict (LoadFor.Read s) = true

-- page_read: `== EccVerdict::Uncorrectable`
abbrev pub uncorrectable : EccVerdict → Bool
uncorrectable EccVerdict.NoBitFlips = false
uncorrectable EccVerdict.Corrected = false
uncorrectable EccVerdict.Uncorrectable = true
uncorrectable EccVerdict.Reserved = false
