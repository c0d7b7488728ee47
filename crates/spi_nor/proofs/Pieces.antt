-- What a piece of a read or a page of a write leaves.
use Rattle.std.proofs.Common.{◌≡◌, ℕ, ◌+◌, ◌-◌, ◌<◌, ◌≤◌, arith}
use Rattle.spi_nor.specs.Opcode.{MAX-BULK-LEN}
use Rattle.spi_nor.specs.Transfer.{chunk_of, page_of}
use Rattle.spi_nor.specs.declared.config.NorDeviceInfo.{NorDeviceInfo}

pub chunk-within : (len done below : ℕ) → len < below → done < below → done + chunk_of len done < below
unfolding chunk_of
chunk-within len done below l d = omega arith

-- a whole piece, or all that is left
pub chunk-left : (len done : ℕ) → len - (done + chunk_of len done) ≤ len - done - MAX-BULK-LEN
unfolding chunk_of
chunk-left len done = omega arith

-- a whole page, where one is left
pub page-whole : (device : NorDeviceInfo) (len done : ℕ) → 1 ≤ device.page_size → device.page_size ≤ len - done → page_of device len done ≡ device.page_size
unfolding page_of
page-whole device len done some h = omega arith
