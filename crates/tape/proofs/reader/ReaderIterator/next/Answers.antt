use Rattle.std.proofs.Common.{◌≡◌, ℕ, ◌-◌, Option, Some, None, arith, rules, ap, sym}
use Rattle.std.specs.Bool.{⊤}
use Rattle.std.specs.Iterator.{MakesProgress, at_most}
use Rattle.tape.specs.Record.{trailer_at, taken, taken_at}
use Rattle.tape.specs.declared.reader.Reader.{Reader}
use Rattle.tape.specs.declared.record.Record.{Record}
use Rattle.tape.specs.declared.record.Taken.{Taken}
use Rattle.tape.proofs.Walk.{goes-on}
use Rattle.tape.proofs.reader.ReaderIterator.next.Goals as goal

progress : (s : Reader) (o : Option Record) (n : ℕ) → taken o n ≡ taken_at s.tape.now s.at →
    MakesProgress {S = Reader} {A = Record} (λ s. ⊤) (λ s. at_most (trailer_at s.tape.now - s.at)) s o (record { tape = s.tape; at = n })
progress s None n e = record { on = λ f. search rules; keeps = search rules; rests = λ f. search rules }
progress s (Some r) n e =
    let on = goes-on s.tape.now s.at r (sym (ap (λ (t : Taken). t.given) e)) in
    let at = ap (λ (t : Taken). t.next) e in
    record { on = λ f. (search rules, search rules, omega arith); keeps = search rules; rests = λ f. search rules }

pub returns-clause-goes : goal.returns-clause-goes
returns-clause-goes c = progress c.args.self.now _ _ c.taken-t.ensures
