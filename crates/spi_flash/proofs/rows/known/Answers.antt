use Rattle.std.proofs.Common.{◌≡◌, sym, rules, tests}
use Rattle.std.proofs.lemmas.Iterator.{YieldsList-from_slice}
use Rattle.std.proofs.lemmas.Iterator.Search.{find_from_yields_List}
use Rattle.std.specs.List.{find}
use Rattle.std.specs.Option.{option_map}
use Rattle.spi_flash.proofs.rows.known.Goals as goal

-- the row that is found is the first with this key
pub returns : goal.returns
returns g c =
    let first : option_map (λ row. row.now) c.find.result ≡ find (λ row. g.K.PartialEq.eq row.0 c.args.key) c.args.rows.now =
    find_from_yields_List (λ row. g.K.PartialEq.eq row.0 c.args.key) _ _ c.find.result c.find.ensures.ran (YieldsList-from_slice c.args.rows.now cc) (λ x b q k. search (rules, tests)) in
    rw (sym first) (search rules)
