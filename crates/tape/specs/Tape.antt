-- A tape of replies, as its maker writes it: records, and a trailer that says where the first of them stands.
use Rattle.std.specs.Prelude.{ℕ, ◌≤◌, ◌≡◌, List, [], ◌∷◌, ◌++◌, length}
use Rattle.qspi.specs.Address.{big_endian}

-- the byte that a record begins with: 0 for done, 1 for data, 2 for a bus error
abbrev pub done_kind : ℕ
done_kind = 0

abbrev pub data_kind : ℕ
data_kind = 1

abbrev pub error_kind : ℕ
error_kind = 2

-- done brings no bytes, a bus error one
abbrev pub done_length : ℕ
done_length = 0

abbrev pub error_length : ℕ
error_length = 1

-- a header is one byte of kind and three of length; the trailer is a position in three bytes
abbrev pub kind_width : ℕ
kind_width = 1

abbrev pub length_width : ℕ
length_width = 3

abbrev pub header_length : ℕ
header_length = 4

abbrev pub trailer_length : ℕ
trailer_length = 3

-- a longer tape is refused: it is the largest number of three bytes
abbrev pub longest_tape : ℕ
longest_tape = 16777215

-- what a record is: a reply of done, of data with its bytes, or of a bus error with its code
pub data TapeRecord : Type 0 where
  done : TapeRecord
  bytes : List ℕ → TapeRecord
  bus_error : ℕ → TapeRecord

-- the kind of a record
abbrev pub kind_of : TapeRecord → ℕ
kind_of TapeRecord.done = done_kind
kind_of (TapeRecord.bytes body) = data_kind
kind_of (TapeRecord.bus_error code) = error_kind

-- the bytes behind its header
abbrev pub body_of : TapeRecord → List ℕ
body_of TapeRecord.done = []
body_of (TapeRecord.bytes body) = body
body_of (TapeRecord.bus_error code) = code ∷ []

-- a record on the tape: its kind, how many bytes follow, highest byte first, and then these
abbrev pub encoded : TapeRecord → List ℕ
encoded r = kind_of r ∷ big_endian length_width (length (body_of r)) ++ body_of r

-- records stand one behind the other with nothing between
abbrev pub all_encoded : List TapeRecord → List ℕ
all_encoded [] = []
all_encoded (r ∷ rs) = encoded r ++ all_encoded rs

-- a well-formed tape: bytes that nobody reads, then records and nothing else up to the trailer, which is the first record's position, highest byte first.
-- The trailer makes it three bytes long or longer, and it may have no record at all.
pub record WellFormed (tape : List ℕ) : Type 0 where
  pub ignored : List ℕ
  pub records : List TapeRecord
  pub written : tape ≡ ignored ++ all_encoded records ++ big_endian trailer_length (length ignored)
  pub most : length tape ≤ longest_tape
