use Rattle.vp_pay.proofs.Again.{read_again}
use Rattle.vp_rule.specs.Reading.{pool_at}
use Rattle.vp_rule.specs.Spelling.{pool_text}
use Rattle.vp_rule.specs.Valid.{IsPool}
use Rattle.vp_rule.proofs.ListsGrammar.{Exact-pool}
use Rattle.vp_rule.proofs.PlainLists.{plain_pool}
use Rattle.vp_rule.proofs.spellings.written_pools_are_read.Goals as goal

pub returns : goal.returns
returns c = λ table pool more is_table is. read_again (pool_text table) (IsPool table) (pool_at table) (Exact-pool table is_table) pool more is (plain_pool table pool is_table is)
