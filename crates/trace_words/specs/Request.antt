-- What the line of a call says behind its name ("call new: a call, with its numbers"). What follows no rule says nothing.
use Rattle.std.specs.Prelude.{ℕ, ◌/◌, Bool, false, List, length, drop, get_or, eqb, leb, min, Option, Some, None}
use Rattle.qspi.specs.Choice.{pick}
use Rattle.case_text.specs.Word.{word_of, words_of, last_of}
use Rattle.case_text.specs.Number.{number_of, is_hex_of}
use Rattle.spi_flash.specs.declared.loan.Takes.{Takes}
use Rattle.trace_words.specs.declared.request.Form.{Form}
use Rattle.trace_words.specs.declared.request.Request.{Request}

abbrev pub bounded_by : ℕ → Option ℕ → Option ℕ
bounded_by most (Some n) = pick (leb n most) (Some n) None
bounded_by most None = None

-- a number as wide as the Rust's
unfoldable pub number_up_to : ℕ → List ℕ → Option ℕ
number_up_to most s = bounded_by most (number_of s)

-- ---- what a call lends

abbrev pub buffer_at : Option ℕ → Option Takes
buffer_at (Some n) = Some (Takes.Buffer n)
buffer_at None = None

-- "a call with a buffer: its length comes last"; there must be room for it
unfoldable pub buffer_loan : List ℕ → ℕ → Option Takes
buffer_loan line room = buffer_at (number_up_to (min 16777216 room) (last_of line))

-- "a call with data: the bytes come last, after @"; there must be room for them
unfoldable pub digits_after : List ℕ → List ℕ
digits_after line = drop 1 (last_of line)

unfoldable pub data_fits : List ℕ → ℕ → Bool
data_fits line room =
    pick (eqb (length (last_of line)) 0) false
    (pick (eqb (get_or (last_of line) 0 0) 64)
    (pick (is_hex_of (digits_after line)) (leb (length (digits_after line) / 2) room) false)
    false)

unfoldable pub data_loan : List ℕ → ℕ → Option Takes
data_loan line room = pick (data_fits line room) (Some (Takes.Data (length (digits_after line) / 2))) None

-- ---- the forms

abbrev pub request : ℕ → ℕ → Takes → Request
request first second takes = record { first = first; second = second; takes = takes }

unfoldable pub plain_of : List ℕ → Option Request
plain_of line = pick (eqb (words_of line) 2) (Some (request 0 0 Takes.Nothing)) None

abbrev pub one_at : Option ℕ → Option Request
one_at (Some first) = Some (request first 0 Takes.Nothing)
one_at None = None

unfoldable pub one_number : List ℕ → ℕ → Option Request
one_number line most = pick (eqb (words_of line) 3) (one_at (number_up_to most (word_of 2 line))) None

abbrev pub two_at : Option ℕ → Option ℕ → Option Request
two_at None second = None
two_at (Some first) None = None
two_at (Some first) (Some second) = Some (request first second Takes.Nothing)

unfoldable pub two_numbers : List ℕ → ℕ → Option Request
two_numbers line most =
    pick (eqb (words_of line) 4) (two_at (number_up_to most (word_of 2 line)) (number_up_to most (word_of 3 line))) None

abbrev pub lending_at : Option ℕ → Option Takes → Option Request
lending_at None lent = None
lending_at (Some first) None = None
lending_at (Some first) (Some takes) = Some (request first 0 takes)

unfoldable pub lending_of : List ℕ → ℕ → Option Takes → Option Request
lending_of line most lent = pick (eqb (words_of line) 4) (lending_at (number_up_to most (word_of 2 line)) lent) None

unfoldable pub said_of : List ℕ → Form → ℕ → ℕ → Option Request
said_of line Form.Plain most room = plain_of line
said_of line Form.One most room = one_number line most
said_of line Form.Two most room = two_numbers line most
said_of line Form.Buffer most room = lending_of line most (buffer_loan line room)
said_of line Form.Data most room = lending_of line most (data_loan line room)
