use Rattle.vp_pay.specs.Deal.{AreDealtCards}
use Rattle.vp_pay.specs.Sections.{deal_at}
use Rattle.vp_pay.specs.Spelling.{deal_text}
use Rattle.vp_pay.proofs.Again.{read_again}
use Rattle.vp_pay.proofs.Deals.{Exact-deal}
use Rattle.vp_pay.proofs.Plain.{plain_deal}
use Rattle.vp_pay.proofs.deal.written_deals_are_read.Goals as goal

pub returns : goal.returns
returns c = λ n cards more deck is. read_again deal_text (AreDealtCards n) (deal_at n) (Exact-deal n deck) cards more is (plain_deal cards)
