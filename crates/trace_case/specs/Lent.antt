-- A call and a reply handed to the driver, with what the call lends at the beginning of the room.
use Rattle.std.specs.Prelude.{ℕ, List, [], ◌++◌, length, take, drop, leb}
use Rattle.qspi.specs.Choice.{pick}
use Rattle.qspi.specs.declared.bus.Reply.{Reply}
use Rattle.spi_flash.specs.declared.error.FlashError.{FlashError}
use Rattle.spi_flash.specs.declared.loan.Takes.{Takes}
use Rattle.trace_words.specs.Loan.{buffer_of, data_of}
use Rattle.flash.specs.Drive.{AfterStep, begin_of, stepped_to, refused_of, step_of}
use Rattle.flash_calls.specs.declared.call.Call.{Call}
use Rattle.flash.specs.declared.state.Flash.{Flash}
use Rattle.flash.specs.declared.state.Stepped.{Stepped}
use Rattle.flash_words.specs.declared.asked.Ask.{Ask}

-- a call handed to the driver, with what it lends in the room
unfoldable pub begun_over : Flash → Call → Takes → List ℕ → List ℕ → AfterStep Stepped
begun_over flash call takes scratch room =
    stepped_to (begin_of flash call (length scratch) (length (buffer_of takes room)) (length (data_of takes room))) scratch room

-- ---- a reply to the action that is out

-- the room as it was
abbrev pub kept_over : List ℕ → AfterStep Stepped → AfterStep Stepped
kept_over room m = stepped_to m.stepped m.scratch room

-- the buffer back at the beginning of the room
abbrev pub back_over : ℕ → List ℕ → AfterStep Stepped → AfterStep Stepped
back_over n room m = stepped_to m.stepped m.scratch (m.buffer ++ drop n room)

unfoldable pub none_over : Flash → Reply → List ℕ → List ℕ → List ℕ → AfterStep Stepped
none_over flash reply bytes scratch room = kept_over room (step_of flash reply bytes scratch [] [])

unfoldable pub buffer_over : Flash → Reply → List ℕ → ℕ → List ℕ → List ℕ → AfterStep Stepped
buffer_over flash reply bytes n scratch room =
    pick (leb n (length room)) (back_over n room (step_of flash reply bytes scratch (take n room) []))
    (stepped_to (refused_of flash FlashError.Misfit) scratch room)

unfoldable pub data_over : Flash → Reply → List ℕ → ℕ → List ℕ → List ℕ → AfterStep Stepped
data_over flash reply bytes n scratch room = kept_over room (step_of flash reply bytes scratch [] (take n room))

unfoldable pub answered_over : Flash → Reply → List ℕ → Takes → List ℕ → List ℕ → AfterStep Stepped
answered_over flash reply bytes Takes.Nothing scratch room = none_over flash reply bytes scratch room
answered_over flash reply bytes (Takes.Buffer n) scratch room = buffer_over flash reply bytes n scratch room
answered_over flash reply bytes (Takes.Data n) scratch room = data_over flash reply bytes n scratch room

-- ---- whatever a turn asks

-- a reply's bytes are the first of the reply's memory; a call that is stopped stays unfinished
unfoldable pub asked_over : Stepped → Ask → List ℕ → List ℕ → List ℕ → AfterStep Stepped
asked_over stepped Ask.Nothing scratch room reply = stepped_to stepped scratch room
asked_over stepped (Ask.Begin asked) scratch room reply = begun_over stepped.flash asked.call asked.takes scratch room
asked_over stepped (Ask.Answer by n takes) scratch room reply = answered_over stepped.flash by (take n reply) takes scratch room
asked_over stepped (Ask.Stop error) scratch room reply = stepped_to (refused_of stepped.flash error) scratch room
