-- What is written is the table's spelling, and nothing where there is no table.
use Rattle.std.proofs.Common.{[], Option, sym, ap, ◌∙◌}
use Rattle.std.specs.Option.{option_map_or}
use Rattle.vp_text.specs.Written.{written}
use Rattle.vp_pay.specs.Spelling.{table_text}
use Rattle.vp_pay.specs.declared.table.PayTable.{PayTable}
use Rattle.vp_io.proofs.Puts_laws.{Puts_as}
use Rattle.vp_run.proofs.tables.put_built_in.Goals as goal

pub returns-in-Some : goal.returns-in-Some
returns-in-Some g c =
    let text = λ (o : Option PayTable). option_map_or (λ t. written (table_text t)) o [] in
    Puts_as (ap text (sym c.in-Some.is ∙ c.built_in.ensures.table)) c.write.ensures

pub returns-in-None : goal.returns-in-None
returns-in-None g c =
    let text = λ (o : Option PayTable). option_map_or (λ t. written (table_text t)) o [] in
    Puts_as (ap text (sym c.in-None.is ∙ c.built_in.ensures.table)) c.put.ensures
