-- What a yes of `check` tells.
use Rattle.std.specs.Prelude.{◌≡◌, ◌≤◌, ℕ, List, Ok, length}
use Rattle.vp_check.specs.Certificates.{Certificate}
use Rattle.vp_check.specs.CheckJob.{check_job}
use Rattle.vp_check.specs.EveryDeal.{TellsEveryDeal, TellsWalkedDeals}
use Rattle.vp_check.specs.Spelling.{SpellsCertificate}
use Rattle.vp_check.specs.declared.finding.Checked.{Checked}

-- a check of all class lines that finds no broken rule
abbrev pub ChecksTellEveryDeal : Type 0
ChecksTellEveryDeal = (count : ℕ) (bytes : List ℕ) (c : Certificate) (said : Checked)
    → SpellsCertificate bytes c → length c.classes ≤ count → check_job 1 count bytes ≡ Ok said → TellsEveryDeal c

-- a check of some class lines that finds no broken rule
abbrev pub ChecksTellWalkedDeals : Type 0
ChecksTellWalkedDeals = (from count : ℕ) (bytes : List ℕ) (c : Certificate) (said : Checked)
    → SpellsCertificate bytes c → check_job from count bytes ≡ Ok said → TellsWalkedDeals from count c
