use Rattle.vp_text.proofs.Sections.{spelling_unique}
use Rattle.vp_rule.proofs.ListsGrammar.{Exact-pool}
use Rattle.vp_rule.proofs.spellings.pool_spellings_differ.Goals as goal

pub returns : goal.returns
returns c = λ table is_table a b x y is_a is_b same. let s = spelling_unique (Exact-pool table is_table) a b x y is_a is_b same in (s.value, s.rest)
