-- The Rust's names of the NAND's calls, and what each takes.
use Rattle.std.specs.Prelude.{ℕ, List, [], ◌∷◌, codes, Option}
use Rattle.std.specs.List.{find}
use Rattle.std.specs.Str.{bytes_eq}
use Rattle.trace_words.specs.declared.request.Form.{Form}
use Rattle.spi_nand.specs.declared.call.Call.{Call}
use Rattle.flash_calls.specs.declared.call.Call as either
use Rattle.flash_words.specs.Words.{asked_by}
use Rattle.flash_words.specs.declared.asked.Asked.{Asked}
use Rattle.spi_nand.specs.declared.config.SpiNandConfig.{SpiNandConfig}
use Rattle.flash_words.specs.declared.nand.Name.{Name}

-- "Calls have the Rust's names"
unfoldable pub text_of : Name → List ℕ
text_of Name.New = codes "new"
text_of Name.NewSingle = codes "new_single"
text_of Name.Info = codes "info"
text_of Name.Config = codes "config"
text_of Name.Geometry = codes "geometry"
text_of Name.Free = codes "free"
text_of Name.DisableQuad = codes "disable_quad"
text_of Name.WriteEnable = codes "write_enable"
text_of Name.ReadStatus = codes "read_status"
text_of Name.ReadConfiguration = codes "read_configuration"
text_of Name.ReadProtection = codes "read_protection"
text_of Name.Reset = codes "reset"
text_of Name.JedecId = codes "jedec_id"
text_of Name.ResetAndIdentify = codes "reset_and_identify"
text_of Name.EnsureConfiguration = codes "ensure_configuration"
text_of Name.Unprotect = codes "unprotect"
text_of Name.WriteRegister = codes "write_register"
text_of Name.ReadCache = codes "read_cache"
text_of Name.ReadPage = codes "read_page"
text_of Name.Read = codes "read"
text_of Name.LoadProgramData = codes "load_program_data"
text_of Name.WritePage = codes "write_page"
text_of Name.PageRead = codes "page_read"
text_of Name.ProgramExecute = codes "program_execute"
text_of Name.EraseBlock = codes "erase_block"
text_of Name.IsBadBlock = codes "is_bad_block"
text_of Name.MarkBadBlock = codes "mark_bad_block"

abbrev pub all_names : List Name
all_names =
    Name.New ∷ Name.NewSingle ∷ Name.Info ∷ Name.Config ∷ Name.Geometry ∷ Name.Free ∷ Name.DisableQuad ∷ Name.WriteEnable ∷
    Name.ReadStatus ∷ Name.ReadConfiguration ∷ Name.ReadProtection ∷ Name.Reset ∷ Name.JedecId ∷ Name.ResetAndIdentify ∷
    Name.EnsureConfiguration ∷ Name.Unprotect ∷ Name.WriteRegister ∷ Name.ReadCache ∷ Name.ReadPage ∷ Name.Read ∷ Name.LoadProgramData ∷
    Name.WritePage ∷ Name.PageRead ∷ Name.ProgramExecute ∷ Name.EraseBlock ∷ Name.IsBadBlock ∷ Name.MarkBadBlock ∷ []

unfoldable pub named_by : List ℕ → Option Name
named_by word = find (λ name. bytes_eq (text_of name) word) all_names

-- how each is written: write_register with two numbers, some with a buffer, with data or with one number, and most by their names alone
abbrev pub form_of : Name → Form
form_of Name.New = Form.Plain
form_of Name.NewSingle = Form.Plain
form_of Name.Info = Form.Plain
form_of Name.Config = Form.Plain
form_of Name.Geometry = Form.Plain
form_of Name.Free = Form.Plain
form_of Name.DisableQuad = Form.Plain
form_of Name.WriteEnable = Form.Plain
form_of Name.ReadStatus = Form.Plain
form_of Name.ReadConfiguration = Form.Plain
form_of Name.ReadProtection = Form.Plain
form_of Name.Reset = Form.Plain
form_of Name.JedecId = Form.Plain
form_of Name.ResetAndIdentify = Form.Plain
form_of Name.EnsureConfiguration = Form.Plain
form_of Name.Unprotect = Form.Plain
form_of Name.WriteRegister = Form.Two
form_of Name.ReadCache = Form.Buffer
form_of Name.ReadPage = Form.Buffer
form_of Name.Read = Form.Buffer
form_of Name.LoadProgramData = Form.Data
form_of Name.WritePage = Form.Data
form_of Name.PageRead = Form.One
form_of Name.ProgramExecute = Form.One
form_of Name.EraseBlock = Form.One
form_of Name.IsBadBlock = Form.One
form_of Name.MarkBadBlock = Form.One

-- a register and its value are bytes; pages, columns, blocks and offsets are the Rust's usize
abbrev pub most_of : Name → ℕ
most_of Name.WriteRegister = 255
most_of name = 18446744073709551615

-- "new is with_config at the settings above (none at first), new_single is new"
abbrev pub driver_call : Name → SpiNandConfig → ℕ → ℕ → Call
driver_call Name.New config first second = Call.WithConfig config
driver_call Name.NewSingle config first second = Call.New
driver_call Name.Info config first second = Call.Info
driver_call Name.Config config first second = Call.Config
driver_call Name.Geometry config first second = Call.Geometry
driver_call Name.Free config first second = Call.Free
driver_call Name.DisableQuad config first second = Call.DisableQuad
driver_call Name.WriteEnable config first second = Call.WriteEnable
driver_call Name.ReadStatus config first second = Call.ReadStatus
driver_call Name.ReadConfiguration config first second = Call.ReadConfiguration
driver_call Name.ReadProtection config first second = Call.ReadProtection
driver_call Name.Reset config first second = Call.Reset
driver_call Name.JedecId config first second = Call.JedecId
driver_call Name.ResetAndIdentify config first second = Call.ResetAndIdentify
driver_call Name.EnsureConfiguration config first second = Call.EnsureConfiguration
driver_call Name.Unprotect config first second = Call.Unprotect
driver_call Name.WriteRegister config first second = Call.WriteRegister first second
driver_call Name.ReadCache config first second = Call.ReadCache first
driver_call Name.ReadPage config first second = Call.ReadPage first
driver_call Name.Read config first second = Call.Read first
driver_call Name.LoadProgramData config first second = Call.LoadProgramData first
driver_call Name.WritePage config first second = Call.WritePage first
driver_call Name.PageRead config first second = Call.PageRead first
driver_call Name.ProgramExecute config first second = Call.ProgramExecute first
driver_call Name.EraseBlock config first second = Call.EraseBlock first
driver_call Name.IsBadBlock config first second = Call.IsBadBlock first
driver_call Name.MarkBadBlock config first second = Call.MarkBadBlock first

abbrev pub call_of : Name → SpiNandConfig → ℕ → ℕ → either.Call
call_of name config first second = either.Call.Nand (driver_call name config first second)

-- "call new: a call, with its numbers"
abbrev pub asked_of : List ℕ → SpiNandConfig → ℕ → Option Asked
asked_of = asked_by named_by form_of most_of call_of
