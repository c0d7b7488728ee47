-- The values of an answer, in the order in which a trace prints them.
use Rattle.spi_nor.specs.declared.config.NorQuadConfig.{NorQuadConfig}
use Rattle.std.specs.Prelude.{ℕ, List, [], ◌∷◌, ◌++◌, Option, Some, None}
use Rattle.spi_flash.specs.Value.{flag_value}
use Rattle.spi_nor.specs.declared.config.NorDeviceInfo.{NorDeviceInfo}
use Rattle.spi_nor.specs.declared.config.NorJedecId.{NorJedecId}
use Rattle.spi_nor.specs.declared.answer.Answer.{Answer}

abbrev pub id_values : NorJedecId → List ℕ
id_values id = id.manufacturer ∷ id.memory_type ∷ id.capacity ∷ []

abbrev pub device_values : NorDeviceInfo → List ℕ
device_values d = d.capacity ∷ d.sector_size ∷ d.block_size ∷ d.page_size ∷ []

abbrev pub quad_numbers : NorQuadConfig → List ℕ
quad_numbers q = q.tclqv_ns ∷ q.read_opcode ∷ q.page_program_opcode ∷ q.dummy_margin ∷ []

abbrev pub quad_values : Option NorQuadConfig → List ℕ
quad_values None = 0 ∷ []
quad_values (Some q) = 1 ∷ quad_numbers q

abbrev pub own_values : Option NorDeviceInfo → List ℕ
own_values None = 0 ∷ []
own_values (Some d) = 1 ∷ device_values d

abbrev pub answer_values : Answer → List ℕ
answer_values Answer.Done = []
answer_values (Answer.Byte b) = b ∷ []
answer_values (Answer.Flag f) = flag_value f ∷ []
answer_values (Answer.Id id) = id_values id
answer_values (Answer.UniqueId v) = v ∷ []
answer_values (Answer.Unprotected before after) = before ∷ after ∷ []
answer_values (Answer.Device d) = device_values d
answer_values (Answer.Config c) = quad_values c.quad ++ own_values c.device
