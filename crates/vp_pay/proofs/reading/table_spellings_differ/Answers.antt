use Rattle.vp_text.proofs.Sections.{spelling_unique}
use Rattle.vp_pay.proofs.Tables.{Exact-table}
use Rattle.vp_pay.proofs.reading.table_spellings_differ.Goals as goal

pub returns : goal.returns
returns c = λ a b x y is_a is_b same. let s = spelling_unique Exact-table a b x y is_a is_b same in (s.value, s.rest)
