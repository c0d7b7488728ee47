-- What a line of the text is ("In"). What follows no rule is none.
use Rattle.std.specs.Prelude.{ℕ, suc, ◌+◌, List, length, take, drop, get_or, eqb, leb, ltb, codes, Option, Some, None}
use Rattle.std.specs.Char.{is_ascii}
use Rattle.std.specs.List.{list_all}
use Rattle.std.specs.Str.{bytes_eq}
use Rattle.qspi.specs.Choice.{pick}
use Rattle.case_text.specs.Word.{before_of, count_of, word_of, words_of}
use Rattle.case_text.specs.Number.{number_of, is_hex_of}
use Rattle.case_text.specs.declared.line.Four.{Four}
use Rattle.case_text.specs.declared.line.Line.{Line}
use Rattle.case_text.specs.declared.line.Quad.{Quad}

-- "a line feed ends a line"
unfoldable pub line_at : List ℕ → ℕ → List ℕ
line_at text at = take (before_of 10 (drop at text)) (drop at text)

-- where the next line begins; the last line needs no line feed
unfoldable pub next_of : List ℕ → ℕ → ℕ
next_of text at = pick (ltb (at + before_of 10 (drop at text)) (length text)) (at + before_of 10 (drop at text) + 1) (length text)

-- "N the number of the line, counted from 1"
unfoldable pub line_number : List ℕ → ℕ → ℕ
line_number text at = suc (count_of 10 (take at text))

-- "Empty lines and lines that begin with # are passed over"
unfoldable pub comment_of : List ℕ → Option Line
comment_of line = pick (list_all is_ascii line) (Some Line.Passed) None

-- ".: done"
unfoldable pub done_of : List ℕ → Option Line
done_of line = pick (eqb (length line) 1) (Some Line.Done) None

-- "=EF4017: data"
unfoldable pub data_of : List ℕ → Option Line
data_of line = pick (is_hex_of (drop 1 line)) (Some Line.Data) None

abbrev pub error_at : Option ℕ → Option Line
error_at (Some code) = pick (leb code 255) (Some (Line.BusError code)) None
error_at None = None

-- "!7: a bus error"
unfoldable pub error_of : List ℕ → Option Line
error_of line = error_at (number_of (drop 1 line))

abbrev pub four_at : Option ℕ → Option ℕ → Option ℕ → Option ℕ → Option Four
four_at None b c d = None
four_at (Some a) None c d = None
four_at (Some a) (Some b) None d = None
four_at (Some a) (Some b) (Some c) None = None
four_at (Some a) (Some b) (Some c) (Some d) = Some (record { first = a; second = b; third = c; fourth = d })

unfoldable pub four_of : List ℕ → Option Four
four_of line = four_at (number_of (word_of 1 line)) (number_of (word_of 2 line)) (number_of (word_of 3 line)) (number_of (word_of 4 line))

-- four numbers that must be there
abbrev pub given_by : Option Four → Option (Option Four)
given_by (Some numbers) = Some (Some numbers)
given_by None = None

-- "or: quad none", "or: device none": none, or four numbers
unfoldable pub setting_of : List ℕ → Option (Option Four)
setting_of line =
    pick (eqb (words_of line) 2) (pick (bytes_eq (word_of 1 line) (codes "none")) (Some None) None)
    (pick (eqb (words_of line) 5) (given_by (four_of line)) None)

-- "the quad setting: tclqv_ns, read opcode, program (load) opcode, margin"
unfoldable pub quad_at : Four → Option Quad
quad_at n =
    pick (leb n.first 4294967295)
    (pick (leb n.second 255)
    (pick (leb n.third 255)
    (pick (leb n.fourth 255)
    (Some (record { tclqv_ns = n.first; read_opcode = n.second; program_opcode = n.third; margin = n.fourth }))
    None)
    None)
    None)
    None

abbrev pub quad_line : Option Quad → Option Line
quad_line (Some q) = Some (Line.Quad (Some q))
quad_line None = None

abbrev pub quad_then : Option (Option Four) → Option Line
quad_then (Some None) = Some (Line.Quad None)
quad_then (Some (Some n)) = quad_line (quad_at n)
quad_then None = None

unfoldable pub quad_of : List ℕ → Option Line
quad_of line = quad_then (setting_of line)

abbrev pub own_then : Option (Option Four) → Option Line
own_then (Some own) = Some (Line.Own own)
own_then None = None

-- "a device of the caller's own: capacity, sector, block, page", "page, spare, pages per block, blocks"
unfoldable pub own_of : List ℕ → Option Line
own_of line = own_then (setting_of line)

-- call, quad, or the driver's own setting
unfoldable pub named_of : List ℕ → List ℕ → Option Line
named_of line own =
    pick (bytes_eq (word_of 0 line) (codes "call")) (Some Line.Call)
    (pick (bytes_eq (word_of 0 line) (codes "quad")) (quad_of line) (pick (bytes_eq (word_of 0 line) own) (own_of line) None))

unfoldable pub read_of : List ℕ → List ℕ → Option Line
read_of line own =
    pick (eqb (length line) 0) (Some Line.Passed)
    (pick (eqb (get_or line 0 0) 35) (comment_of line)
    (pick (eqb (get_or line 0 0) 46) (done_of line)
    (pick (eqb (get_or line 0 0) 61) (data_of line) (pick (eqb (get_or line 0 0) 33) (error_of line) (named_of line own)))))

-- "A text of up to 4 MiB is taken"
unfoldable pub read_at : List ℕ → ℕ → List ℕ → Option Line
read_at text at own =
    pick (leb (length text) at) (Some Line.End) (pick (ltb 4194304 (next_of text at)) None (read_of (line_at text at) own))
