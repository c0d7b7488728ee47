use native.Mathlib.Omega.{arith}
use native.Mathlib.Numerals.{add-one}
use lib.ListN.{length-set}
use lib.Seq.{paste-suc}
use Rattle.qspi.proofs.bytes.copy.Goals as goal

pub loop-i-preserved : goal.loop-i-preserved
loop-i-preserved c =
    let a = c.args in
    let i = c.loop-i.i in (
      rw (c.loop-i.invariant.0, add-one) (paste-suc a.buffer.now a.at a.s.now i 0 (omega arith) (omega arith)),
      simp length-set (omega arith),
    )
