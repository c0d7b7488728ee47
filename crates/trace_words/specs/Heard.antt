-- What a line says where a reply is awaited.
use Rattle.std.specs.Prelude.{Bool, true, false}
use Rattle.qspi.specs.declared.bus.Reply.{Reply}
use Rattle.case_text.specs.declared.line.Line.{Line}
use Rattle.trace_words.specs.declared.heard.Heard.{Heard}

abbrev pub is_call : Line → Bool
is_call Line.End = false
is_call Line.Passed = false
is_call Line.Done = false
is_call Line.Data = false
is_call (Line.BusError code) = false
is_call (Line.Quad q) = false
is_call (Line.Own n) = false
is_call Line.Call = true

-- "then its replies, one a line, for each bus action in turn"; a setting or a call tells that none is left
abbrev pub heard_in : Line → Heard
heard_in Line.End = Heard.Spent
heard_in Line.Passed = Heard.Passed
heard_in Line.Done = Heard.Reply Reply.Done
heard_in Line.Data = Heard.Bytes
heard_in (Line.BusError code) = Heard.Reply (Reply.Error code)
heard_in (Line.Quad q) = Heard.Spent
heard_in (Line.Own n) = Heard.Spent
heard_in Line.Call = Heard.Spent
