-- The certificates that `check` finds no fault with are true, so they tell every deal.
use Rattle.std.proofs.Common.{◌≡◌, ℕ, List, refl, sym, ap, ◌∙◌, arith, Option, Some, None}
use Rattle.std.specs.Prelude.{Ok}
use Rattle.vp_text.specs.Lines.{Feed, feed_of}
use Rattle.vp_check.specs.Certificates.{Certificate}
use Rattle.vp_check.specs.CheckJob.{check_job, check_read}
use Rattle.vp_check.specs.CheckTells.{ChecksTellEveryDeal, ChecksTellWalkedDeals}
use Rattle.vp_check.specs.Checking.{verdict}
use Rattle.vp_check.specs.Rules.{Break, first_break}
use Rattle.vp_check.specs.Spelling.{SpellsCertificate}
use Rattle.vp_check.specs.Truth.{IsTrueOver}
use Rattle.vp_check.specs.declared.finding.Checked.{Checked}
use Rattle.vp_check.proofs.CheckInputs.{judged}
use Rattle.vp_check.proofs.EveryDeals.{true_tells, walked_tell}
use Rattle.vp_check.proofs.TrueOnes.{all_walked_true}

-- a check that is a yes found no broken rule
yes_true : (from count : ℕ) (c : Certificate) (feed : Feed) (broken : Option Break) (said : Checked) → first_break from count c ≡ broken → check_read (verdict from count c feed broken) ≡ Ok said → IsTrueOver from count c
yes_true from count c feed None said is done = is
yes_true from count c feed (Some b) said is done = absurd cc

pub check_true : (from count : ℕ) (bytes : List ℕ) (c : Certificate) (said : Checked) → SpellsCertificate bytes c → check_job from count bytes ≡ Ok said → IsTrueOver from count c
check_true from count bytes c said spells done =
    yes_true from count c (feed_of bytes) (first_break from count c) said refl (ap check_read (sym (judged from count bytes c spells)) ∙ done)

pub checks_tell : ChecksTellEveryDeal
checks_tell count bytes c said spells many done =
    true_tells c spells.grammar (all_walked_true 1 count c spells.grammar (omega arith) (omega (arith, many)) (check_true 1 count bytes c said spells done))

pub checks_tell_walked : ChecksTellWalkedDeals
checks_tell_walked from count bytes c said spells done = walked_tell from count c spells.grammar (check_true from count bytes c said spells done)
