-- The Rust's names of the NOR's calls, and what each takes.
use Rattle.std.specs.Prelude.{ℕ, List, [], ◌∷◌, codes, Option}
use Rattle.std.specs.List.{find}
use Rattle.std.specs.Str.{bytes_eq}
use Rattle.trace_words.specs.declared.request.Form.{Form}
use Rattle.spi_nor.specs.declared.call.Call.{Call}
use Rattle.flash_calls.specs.declared.call.Call as either
use Rattle.flash_words.specs.Words.{asked_by}
use Rattle.flash_words.specs.declared.asked.Asked.{Asked}
use Rattle.spi_nor.specs.declared.config.SpiNorConfig.{SpiNorConfig}
use Rattle.flash_words.specs.declared.nor.Name.{Name}

-- "Calls have the Rust's names"
unfoldable pub text_of : Name → List ℕ
text_of Name.New = codes "new"
text_of Name.NewSingle = codes "new_single"
text_of Name.Config = codes "config"
text_of Name.Device = codes "device"
text_of Name.Id = codes "id"
text_of Name.Free = codes "free"
text_of Name.ReadStatus1 = codes "read_status1"
text_of Name.ReadStatus2 = codes "read_status2"
text_of Name.IsBusy = codes "is_busy"
text_of Name.JedecId = codes "jedec_id"
text_of Name.UniqueId = codes "unique_id"
text_of Name.QuadEnabled = codes "quad_enabled"
text_of Name.EnableQuad = codes "enable_quad"
text_of Name.DisableQuad = codes "disable_quad"
text_of Name.Unprotect = codes "unprotect"
text_of Name.Read = codes "read"
text_of Name.Write = codes "write"
text_of Name.Erase = codes "erase"
text_of Name.EraseSector = codes "erase_sector"
text_of Name.EraseBlock = codes "erase_block"

abbrev pub all_names : List Name
all_names =
    Name.New ∷ Name.NewSingle ∷ Name.Config ∷ Name.Device ∷ Name.Id ∷ Name.Free ∷ Name.ReadStatus1 ∷ Name.ReadStatus2 ∷ Name.IsBusy ∷
    Name.JedecId ∷ Name.UniqueId ∷ Name.QuadEnabled ∷ Name.EnableQuad ∷ Name.DisableQuad ∷ Name.Unprotect ∷ Name.Read ∷ Name.Write ∷
    Name.Erase ∷ Name.EraseSector ∷ Name.EraseBlock ∷ []

unfoldable pub named_by : List ℕ → Option Name
named_by word = find (λ name. bytes_eq (text_of name) word) all_names

-- how each is written: read with a buffer, write with data, erase with two numbers, and most by their names alone
abbrev pub form_of : Name → Form
form_of Name.New = Form.Plain
form_of Name.NewSingle = Form.Plain
form_of Name.Config = Form.Plain
form_of Name.Device = Form.Plain
form_of Name.Id = Form.Plain
form_of Name.Free = Form.Plain
form_of Name.ReadStatus1 = Form.Plain
form_of Name.ReadStatus2 = Form.Plain
form_of Name.IsBusy = Form.Plain
form_of Name.JedecId = Form.Plain
form_of Name.UniqueId = Form.Plain
form_of Name.QuadEnabled = Form.Plain
form_of Name.EnableQuad = Form.Plain
form_of Name.DisableQuad = Form.Plain
form_of Name.Unprotect = Form.Plain
form_of Name.Read = Form.Buffer
form_of Name.Write = Form.Data
form_of Name.Erase = Form.Two
form_of Name.EraseSector = Form.One
form_of Name.EraseBlock = Form.One

-- an offset of the Rust has 32 bits
abbrev pub most_of : Name → ℕ
most_of name = 4294967295

-- "new is with_config at the settings above (none at first), new_single is new"
abbrev pub driver_call : Name → SpiNorConfig → ℕ → ℕ → Call
driver_call Name.New config first second = Call.WithConfig config
driver_call Name.NewSingle config first second = Call.New
driver_call Name.Config config first second = Call.Config
driver_call Name.Device config first second = Call.Device
driver_call Name.Id config first second = Call.Id
driver_call Name.Free config first second = Call.Free
driver_call Name.ReadStatus1 config first second = Call.ReadStatus1
driver_call Name.ReadStatus2 config first second = Call.ReadStatus2
driver_call Name.IsBusy config first second = Call.IsBusy
driver_call Name.JedecId config first second = Call.JedecId
driver_call Name.UniqueId config first second = Call.UniqueId
driver_call Name.QuadEnabled config first second = Call.QuadEnabled
driver_call Name.EnableQuad config first second = Call.EnableQuad
driver_call Name.DisableQuad config first second = Call.DisableQuad
driver_call Name.Unprotect config first second = Call.Unprotect
driver_call Name.Read config first second = Call.Read first
driver_call Name.Write config first second = Call.Write first
driver_call Name.Erase config first second = Call.Erase first second
driver_call Name.EraseSector config first second = Call.EraseSector first
driver_call Name.EraseBlock config first second = Call.EraseBlock first

abbrev pub call_of : Name → SpiNorConfig → ℕ → ℕ → either.Call
call_of name config first second = either.Call.Nor (driver_call name config first second)

-- "call new: a call, with its numbers"
abbrev pub asked_of : List ℕ → SpiNorConfig → ℕ → Option Asked
asked_of = asked_by named_by form_of most_of call_of
