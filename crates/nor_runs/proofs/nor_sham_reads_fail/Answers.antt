use Rattle.nor_runs.proofs.ShamReads.{sham-reads-fail}
use Rattle.nor_runs.proofs.nor_sham_reads_fail.Goals as goal

pub returns : goal.returns
returns c = sham-reads-fail
