-- What a line makes of a driver's settings, and what the line of a call asks for, by the words of the driver.
use Rattle.std.specs.Prelude.{ℕ, cond, List, [], ◌∷◌, Option, Some, None}
use Rattle.std.specs.Borrow.{Bor}
use Rattle.std.specs.Str.{bytes_eq}
use Rattle.case_text.specs.Word.{word_of}
use Rattle.case_text.specs.declared.line.Four.{Four}
use Rattle.case_text.specs.declared.line.Line.{Line}
use Rattle.case_text.specs.declared.line.Quad.{Quad}
use Rattle.trace_words.specs.Request.{said_of}
use Rattle.trace_words.specs.declared.request.Form.{Form}
use Rattle.trace_words.specs.declared.request.Request.{Request}
use Rattle.flash_calls.specs.declared.call.Call.{Call}
use Rattle.flash_words.specs.declared.asked.Asked.{Asked}

-- "Calls have the Rust's names": the name that a word is in a table of the names as they are written
abbrev pub named_in : {N : Type 0} → List (Bor (List ℕ) × N) → List ℕ → Option N
named_in [] word = None
named_in (entry ∷ rest) word = cond (bytes_eq entry.0.now word) (Some entry.1) (named_in rest word)

-- "Settings may stand between calls and count for the next new"
abbrev pub config_by : {C : Type 0} → (C → Option Quad → C) → (C → Option Four → C) → C → Line → C
config_by with_quad with_own config Line.End = config
config_by with_quad with_own config Line.Passed = config
config_by with_quad with_own config Line.Done = config
config_by with_quad with_own config Line.Data = config
config_by with_quad with_own config (Line.BusError code) = config
config_by with_quad with_own config (Line.Quad quad) = with_quad config quad
config_by with_quad with_own config (Line.Own own) = with_own config own
config_by with_quad with_own config Line.Call = config

abbrev pub asked_at : (ℕ → ℕ → Call) → Option Request → Option Asked
asked_at call (Some request) = Some (record { call = call request.first request.second; takes = request.takes })
asked_at call None = None

-- the call of a name, if the word is one
abbrev pub asked_for : {N C : Type 0} → (N → Form) → (N → ℕ) → (N → C → ℕ → ℕ → Call) → Option N → List ℕ → C → ℕ → Option Asked
asked_for form most call (Some name) line config room = asked_at (call name config) (said_of line (form name) (most name) room)
asked_for form most call None line config room = None

-- "call new: a call, with its numbers"
abbrev pub asked_by : {N C : Type 0} → (List ℕ → Option N) → (N → Form) → (N → ℕ) → (N → C → ℕ → ℕ → Call) → List ℕ → C → ℕ → Option Asked
asked_by named form most call line config room = asked_for form most call (named (word_of 1 line)) line config room
