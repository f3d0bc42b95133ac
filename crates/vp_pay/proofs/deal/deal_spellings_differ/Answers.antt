use Rattle.vp_text.proofs.Sections.{spelling_unique}
use Rattle.vp_pay.proofs.Deals.{Exact-deal}
use Rattle.vp_pay.proofs.deal.deal_spellings_differ.Goals as goal

pub returns : goal.returns
returns c = λ n deck a b x y is_a is_b same. let s = spelling_unique (Exact-deal n deck) a b x y is_a is_b same in (s.value, s.rest)
