-- A certificate that is checked part by part, by many calls of `check`.
use Rattle.std.specs.Prelude.{◌≡◌, ℕ, ◌≤◌, List, Ok, length}
use Rattle.std.specs.List.{All}
use Rattle.vp_check.specs.Certificates.{Certificate}
use Rattle.vp_check.specs.CheckJob.{check_job}
use Rattle.vp_check.specs.EveryDeal.{TellsEveryDeal, TellsWalkedDeals}
use Rattle.vp_check.specs.Parts.{AreWalked, Walk}
use Rattle.vp_check.specs.Spelling.{SpellsCertificate}
use Rattle.vp_check.specs.declared.finding.Checked.{Checked}

-- `check`, walking these class lines, finds no broken rule in this text
pub record IsYes (bytes : List ℕ) (walk : Walk) : Type 0 where
  pub said : Checked
  pub yes : check_job walk.from walk.count bytes ≡ Ok said

-- some calls of `check`, of one text, of which each is a yes
pub record AreYes (bytes : List ℕ) (walks : List Walk) : Type 0 where
  pub some : 1 ≤ length walks
  pub each : All (IsYes bytes) walks

-- together they tell the deals of all class lines of a range that some of them walks
abbrev pub PartsTellWalkedDeals : Type 0
PartsTellWalkedDeals = (bytes : List ℕ) (c : Certificate) (walks : List Walk) (from count : ℕ)
    → SpellsCertificate bytes c → AreYes bytes walks → AreWalked walks from count c → TellsWalkedDeals from count c

-- where they walk all class lines they tell every deal
abbrev pub PartsTellEveryDeal : Type 0
PartsTellEveryDeal = (bytes : List ℕ) (c : Certificate) (walks : List Walk)
    → SpellsCertificate bytes c → AreYes bytes walks → AreWalked walks 1 (length c.classes) c → TellsEveryDeal c
