use Rattle.qspi.proofs.Addresses.{address-bytes}
use Rattle.qspi.proofs.address_bytes.Goals as goal

pub returns : goal.returns
returns c = address-bytes
