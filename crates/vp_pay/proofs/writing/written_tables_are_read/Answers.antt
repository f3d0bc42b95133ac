use Rattle.vp_pay.specs.Spelling.{table_text}
use Rattle.vp_pay.specs.Sections.{table_at}
use Rattle.vp_pay.specs.Table.{IsTable}
use Rattle.vp_pay.proofs.Again.{read_again}
use Rattle.vp_pay.proofs.Tables.{Exact-table}
use Rattle.vp_pay.proofs.Plain.{plain_table}
use Rattle.vp_pay.proofs.writing.written_tables_are_read.Goals as goal

pub returns : goal.returns
returns c = λ t more is. read_again table_text IsTable table_at Exact-table t more is (plain_table t is)
