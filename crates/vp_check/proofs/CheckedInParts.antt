-- Many calls of `check` on one certificate tell what one call tells that walks all of their class lines.
use Rattle.std.proofs.Common.{ℕ, List}
use Rattle.vp_check.specs.Certificates.{Certificate}
use Rattle.vp_check.specs.Parts.{AreTrueWalks, Walk}
use Rattle.vp_check.specs.Spelling.{SpellsCertificate}
use Rattle.vp_check.proofs.EveryDeals.{walked_tell}
use Rattle.vp_check.proofs.JoinedWalks.{walks_join, walks_tell}
use Rattle.vp_check.specs.CheckedInParts.{AreYes, PartsTellEveryDeal, PartsTellWalkedDeals}
use Rattle.vp_check.proofs.CheckTells.{check_true}

-- calls that are a yes find no broken rule
true_walks : (bytes : List ℕ) (c : Certificate) (walks : List Walk) → SpellsCertificate bytes c → AreYes bytes walks → AreTrueWalks walks c
true_walks bytes c walks spells all = record {
  some = all.some;
  each = λ i d l. let one = all.each i d l in check_true _ _ bytes c one.said spells one.yes;
}

pub parts_tell_walked : PartsTellWalkedDeals
parts_tell_walked bytes c walks from count spells all walked =
    walked_tell from count c spells.grammar (walks_join from count c spells.grammar walks (true_walks bytes c walks spells all) walked)

pub parts_tell : PartsTellEveryDeal
parts_tell bytes c walks spells all walked = walks_tell c walks spells.grammar (true_walks bytes c walks spells all) walked
