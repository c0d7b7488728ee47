use Rattle.std.proofs.Common.{◌≡◌, ◌-◌}
use Rattle.lines.specs.Writing.{text_in, SameRoom}
use Rattle.trace_case.specs.Case.{traced_to, turns_of, case_behind}
use Rattle.trace_case.proofs.case.turns.Given as goal

abbrev pub invariant-loop : goal.invariant-loop
invariant-loop l = (turns_of (l.most - l.counter) l.text (traced_to l.trace l.scratch l.room l.reply (text_in l.out)) ≡ case_behind l.fn.kind l.text l.initial.room l.initial.reply (text_in l.initial.out))
    × SameRoom l.initial.out l.out
