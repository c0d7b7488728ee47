-- What is done behind a piece stays below what there is to do.
use Rattle.std.proofs.Common.{ℕ, ◌+◌, ◌<◌, arith}
use Rattle.spi_nand.specs.declared.config.NandGeometry.{NandGeometry}
use Rattle.spi_nand.specs.Transfer.{chunk_of}

pub chunk-within : (g : NandGeometry) (offset len done limit : ℕ) → len < limit → done < limit → done + chunk_of g offset len done < limit
unfolding chunk_of
chunk-within g offset len done limit h k = omega arith
