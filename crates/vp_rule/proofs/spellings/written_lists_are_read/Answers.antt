use Rattle.vp_pay.proofs.Again.{read_again}
use Rattle.vp_rule.specs.Reading.{list_at}
use Rattle.vp_rule.specs.Spelling.{list_text}
use Rattle.vp_rule.specs.Valid.{IsList}
use Rattle.vp_rule.proofs.ListsGrammar.{Exact-list}
use Rattle.vp_rule.proofs.PlainLists.{plain_list}
use Rattle.vp_rule.proofs.spellings.written_lists_are_read.Goals as goal

pub returns : goal.returns
returns c = λ table list more is_table is. read_again (list_text table) (IsList table) (list_at table) (Exact-list table is_table) list more is (plain_list table list is_table is)
