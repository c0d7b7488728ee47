use Rattle.std.proofs.Common.{◌≡◌, ap, ◌∙◌, length, arith, add-one}
use Rattle.std.proofs.Math.Seq.{paste}
use Rattle.case_text.specs.Number.{bytes_of}
use Rattle.case_text.proofs.Numbers.{length-bytes, pair-written, pasted-pairs}
use Rattle.case_text.proofs.word.write_pairs.Goals as goal

pub loop-i-preserved : goal.loop-i-preserved
loop-i-preserved c =
    let l = c.loop-i in
    rw (l.invariant, c.byte.ensures, add-one l.i) (pair-written c.args.s.now c.args.room.now l.i c.loop-i-test.true (omega arith))

pub returns : goal.returns
returns c =
    let a = c.args in
    let bytes = bytes_of a.s.now in
    let past : c.loop-i.i ≡ length bytes = omega (arith, length-bytes a.s.now) in
    c.loop-i.invariant ∙ ap (paste a.room.now 0 bytes) past ∙ pasted-pairs a.s.now a.room.now
