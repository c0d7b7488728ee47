-- A whole case: turns until the trace is over.
use Rattle.std.specs.Prelude.{ℕ, zero, suc, List, length, replicate}
use Rattle.qspi.specs.Choice.{pick}
use Rattle.lines.specs.Text.{Text, text_of}
use Rattle.flash.specs.Drive.{AfterStep, fresh_of}
use Rattle.flash.specs.declared.state.Stepped.{Stepped}
use Rattle.flash_calls.specs.declared.call.Kind.{Kind}
use Rattle.trace_case.specs.Lent.{asked_over}
use Rattle.flash_turns.specs.State.{begun_in}
use Rattle.flash_turns.specs.Turn.{TurnTaken, turn_of}
use Rattle.flash_turns.specs.declared.state.Turn.{Turn}
use Rattle.flash_turns.specs.Settings.{none_of}
use Rattle.flash_turns.specs.declared.settings.Settings.{Settings}
use Rattle.trace_words.specs.Budget.{budget_of}
use Rattle.trace_words.specs.Place as place
use Rattle.trace_words.specs.declared.place.Place.{Place}
use Rattle.trace_case.specs.declared.advance.Trace.{Trace}

abbrev pub trace_of : Stepped → Settings → Place → Trace
trace_of stepped settings place = record { stepped = stepped; settings = settings; place = place }

-- no driver is built, and the settings are "none at first"
abbrev pub start_of : Kind → Trace
start_of kind = trace_of (fresh_of kind) (none_of kind) place.start_of

-- after a turn whose question has been answered by the driver
abbrev pub traced_by : Turn → Stepped → Trace
traced_by turn stepped = trace_of stepped turn.settings (begun_in turn.place turn.ask stepped.given)

-- the driver with what it gave last, where the trace stands, the lent bytes and what was printed
pub record Traced : Type 0 where
  pub stepped : Stepped
  pub settings : Settings
  pub place : Place
  pub scratch : List ℕ
  pub room : List ℕ
  pub reply : List ℕ
  pub text : Text

abbrev pub standing : Stepped → Settings → Place → List ℕ → List ℕ → List ℕ → Text → Traced
standing stepped settings place scratch room reply text =
    record { stepped = stepped; settings = settings; place = place; scratch = scratch; room = room; reply = reply; text = text }

abbrev pub traced_to : Trace → List ℕ → List ℕ → List ℕ → Text → Traced
traced_to trace = standing trace.stepped trace.settings trace.place

-- the driver has answered what the turn asks
abbrev pub answered_to : TurnTaken → AfterStep Stepped → Traced
answered_to t m =
    standing m.stepped t.settings (begun_in t.place t.ask m.stepped.given) m.scratch m.buffer t.reply t.text

-- the driver is asked
abbrev pub asked_by : Stepped → List ℕ → TurnTaken → Traced
asked_by stepped scratch t = answered_to t (asked_over stepped t.ask scratch t.room t.reply)

-- one turn, from what the driver gave last and its count of bytes delivered
unfoldable pub turn_after : List ℕ → Traced → Traced
turn_after text t =
    asked_by t.stepped t.scratch (turn_of t.settings t.place t.stepped.given t.stepped.delivered text t.scratch t.room t.reply t.text)

-- so many turns, or fewer where the trace is over before
unfoldable pub turns_of : ℕ → List ℕ → Traced → Traced
turns_of zero text t = t
turns_of (suc more) text t = pick (place.over_of t.place) t (turns_of more text (turn_after text t))

-- the turns of a case, behind what is written
unfoldable pub case_behind : Kind → List ℕ → List ℕ → List ℕ → Text → Traced
case_behind kind text room reply written =
    turns_of (budget_of (length text) (length room)) text (traced_to (start_of kind) (replicate 264 0) room reply written)

-- the trace of a case, with the memory that it uses
abbrev pub case_of : Kind → List ℕ → List ℕ → List ℕ → List ℕ → Traced
case_of kind text room reply out = case_behind kind text room reply (text_of out 0)
