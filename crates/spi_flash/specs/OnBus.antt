-- A program on the bus: the bus calls that the Rust makes for each transfer, in its order, and what comes of a program on a list of
-- replies.
use Rattle.std.specs.Prelude.{ℕ, List, [], ◌∷◌}
use Rattle.qspi.specs.Bytes.{delivered_of}
use Rattle.qspi.specs.Command.{command_bytes}
use Rattle.qspi.specs.Frame.{value_of}
use Rattle.qspi.specs.Shown.{Shown, low, high, write, read, quad_read, quad_write, delay}
use Rattle.qspi.specs.ShownBytes.{payload_bytes}
use Rattle.qspi.specs.declared.bus.Reply.{Reply}
use Rattle.qspi.specs.declared.transfer.Sink.{Sink}
use Rattle.qspi.specs.declared.transfer.Body.{Body}
use Rattle.qspi.specs.declared.transfer.Transfer.{Transfer}
use Rattle.spi_flash.specs.declared.error.FlashError.{FlashError}
use Rattle.spi_flash.specs.Prog.{Prog, ret, fail, ask}
use Rattle.spi_flash.specs.Run.{act, ended, failed, Answer}
use Rattle.spi_flash.specs.Seen.{Did, did}

infixl 20 ◌>>=◌
infixl 20 ◌>>◌
-- ---- programs over single calls of the bus

pub data BusProg (A : Type 0) : Type 0 where
  answers : A → BusProg A
  stops : FlashError → BusProg A
  -- a call of the bus, of select or of the delay, and its reply
  does : Shown → (Answer → BusProg A) → BusProg A
  -- bytes that were read, to a place of the caller's buffer
  fills : ℕ → List ℕ → BusProg A → BusProg A

unfoldable pub ◌>>=◌ : {A B : Type 0} → BusProg A → (A → BusProg B) → BusProg B
◌>>=◌ (answers a) f = f a
◌>>=◌ (stops e) f = stops e
◌>>=◌ (does shown k) f = does shown (λ r. k r >>= f)
◌>>=◌ (fills at bytes p) f = fills at bytes (p >>= f)

unfoldable pub ◌>>◌ : {A B : Type 0} → BusProg A → BusProg B → BusProg B
◌>>◌ p q = p >>= (λ _. q)

-- ---- qspi/bus.rs: select, the bus and the delay

-- `Result<_, B::Error>`
pub data Result : Type 0 where
  ok : List ℕ → Result
  err : ℕ → Result

-- an error delivers no byte (docs/SPECIFICATION.md, "Actions and replies")
abbrev pub result_at : Reply → List ℕ → Result
result_at Reply.Done bytes = ok []
result_at Reply.Data bytes = ok bytes
result_at (Reply.Error code) bytes = err code

-- select and the delay cannot fail
abbrev pub plain : Shown → BusProg (Unit {0})
plain shown = does shown (λ r. answers tt)

abbrev pub sending : Shown → BusProg Result
sending shown = does shown (λ r. answers (result_at r.kind r.bytes))

-- what is read goes into the slice that the Rust lends: the caller's buffer, or bytes of its own
abbrev pub stored : Result → Sink → BusProg Result
stored (err code) sink = answers (err code)
stored (ok bytes) Sink.Number = answers (ok bytes)
stored (ok bytes) (Sink.Buffer at) = fills at bytes (answers (ok bytes))
stored (ok bytes) (Sink.Compare from) = answers (ok bytes)

unfoldable pub reading : Shown → Sink → BusProg Result
reading shown sink = do
  result ← sending shown
  stored result sink

-- ---- the drivers' frames

-- `result?`
abbrev pub question : Result → BusProg (List ℕ)
question (ok bytes) = answers bytes
question (err code) = stops (FlashError.Spi code)

-- `if result.is_ok() { result = .. }`
abbrev pub if_ok : Result → BusProg Result → BusProg Result
if_ok (ok bytes) p = p
if_ok (err code) p = answers (err code)

-- fn command; and a quad call, which is framed likewise
unfoldable pub framed : BusProg Result → BusProg (List ℕ)
framed call = do
  plain low
  result ← call
  plain high
  question result

-- fn command_then_read; fn command_then_write
unfoldable pub framed_then : List ℕ → BusProg Result → BusProg (List ℕ)
framed_then command call = do
  plain low
  result ← sending (write command)
  result ← if_ok result call
  plain high
  question result

-- a transfer and its value, on the caller's data
unfoldable pub on_bus : List ℕ → Transfer → BusProg ℕ
on_bus given Transfer.Raise = plain high >> answers 0
on_bus given (Transfer.Pause us) = plain (delay us) >> answers 0
on_bus given (Transfer.Framed c Body.None) = framed (sending (write (command_bytes c))) >> answers 0
on_bus given (Transfer.Framed c (Body.Read n sink)) = do
  bytes ← framed_then (command_bytes c) (reading (read n) sink)
  answers (value_of sink bytes given)
on_bus given (Transfer.Framed c (Body.Write payload)) = framed_then (command_bytes c) (sending (write (payload_bytes payload given))) >> answers 0
on_bus given (Transfer.Framed c (Body.QuadRead tclqv margin n sink)) = do
  bytes ← framed (reading (quad_read (command_bytes c) tclqv margin n) sink)
  answers (value_of sink bytes given)
on_bus given (Transfer.Framed c (Body.QuadWrite payload)) = framed (sending (quad_write (command_bytes c) (payload_bytes payload given))) >> answers 0

-- a whole program
unfoldable pub program_on_bus : {A : Type 0} → List ℕ → Prog A → BusProg A
program_on_bus given (ret a) = answers a
program_on_bus given (fail e) = stops e
program_on_bus given (ask t k) = on_bus given t >>= (λ v. program_on_bus given (k v))

-- ---- what comes of it

-- on these replies, with this buffer
unfoldable pub performed : {A : Type 0} → BusProg A → List Answer → List ℕ → List (Did A)
performed (answers a) rs buffer = did (ended a) buffer ∷ []
performed (stops e) rs buffer = did (failed e) buffer ∷ []
performed (does shown k) [] buffer = did (act shown) buffer ∷ []
performed (does shown k) (r ∷ rs) buffer = did (act shown) buffer ∷ performed (k r) rs buffer
performed (fills at bytes p) rs buffer = performed p rs (delivered_of buffer at bytes)
