-- The values of an answer, in the order in which a trace prints them (docs/SPECIFICATION.md, "Refusals and numbers").
use Rattle.spi_nand.specs.declared.config.NandQuadConfig.{NandQuadConfig}
use Rattle.std.specs.Prelude.{ℕ, List, [], ◌∷◌, ◌++◌, Option, Some, None}
use Rattle.spi_flash.specs.Value.{flag_value}
use Rattle.spi_nand.specs.Status.{status_byte, configuration_byte, protection_byte}
use Rattle.spi_nand.specs.declared.config.NandGeometry.{NandGeometry}
use Rattle.spi_nand.specs.declared.config.NandInit.{NandInit}
use Rattle.spi_nand.specs.declared.config.NandJedecId.{NandJedecId}
use Rattle.spi_nand.specs.declared.answer.Answer.{Answer}

-- what READ ID answered
abbrev pub id_values : NandJedecId → List ℕ
id_values id = id.manufacturer ∷ id.device ∷ []

-- what a construction found and left
abbrev pub info_values : NandInit → List ℕ
info_values info =
    info.id.manufacturer
    ∷ info.id.device
    ∷ configuration_byte info.configuration_before
    ∷ configuration_byte info.configuration_after
    ∷ protection_byte info.protection_before
    ∷ []

-- the fields in the order of the Rust's struct; so below
abbrev pub geometry_values : NandGeometry → List ℕ
geometry_values g = g.page_size ∷ g.oob_size ∷ g.pages_per_block ∷ g.block_count ∷ []

abbrev pub quad_numbers : NandQuadConfig → List ℕ
quad_numbers q = q.tclqv_ns ∷ q.read_cache_opcode ∷ q.load_program_opcode ∷ q.dummy_margin ∷ []

-- None is 0, Some is 1 and what it holds
abbrev pub quad_values : Option NandQuadConfig → List ℕ
quad_values None = 0 ∷ []
quad_values (Some q) = 1 ∷ quad_numbers q

abbrev pub own_values : Option NandGeometry → List ℕ
own_values None = 0 ∷ []
own_values (Some g) = 1 ∷ geometry_values g

abbrev pub answer_values : Answer → List ℕ
answer_values Answer.Done = []
answer_values (Answer.Flag f) = flag_value f ∷ []
answer_values (Answer.Status s) = status_byte s ∷ []
answer_values (Answer.Configuration c) = configuration_byte c ∷ []
answer_values (Answer.Protection p) = protection_byte p ∷ []
answer_values (Answer.Id id) = id_values id
answer_values (Answer.Info info) = info_values info
answer_values (Answer.Geometry g) = geometry_values g
answer_values (Answer.Config c) = quad_values c.quad ++ own_values c.geometry
