-- A certificate that is checked part by part: each check walks some of its class lines (docs/FORMATS.md, `vpoker check`).
use Rattle.std.specs.Prelude.{◌≡◌, ℕ, ◌≤◌, Bool, true, List, length}
use Rattle.std.specs.List.{All, list_any}
use Rattle.vp_check.specs.Certificates.{Certificate, IsCertificate}
use Rattle.vp_check.specs.EveryDeal.{TellsEveryDeal}
use Rattle.vp_check.specs.Rules.{in_range}
use Rattle.vp_check.specs.Truth.{IsTrueOver, OfEachWalk}

-- the class lines that one check walks: so many from a place on, the first class line having the place 1
pub record Walk : Type 0 where
  pub from : ℕ
  pub count : ℕ

-- some of the checks walks the class line at a place
abbrev pub is_walked : List Walk → ℕ → Bool
is_walked walks place = list_any (λ walk. in_range walk.from walk.count place) walks

-- each class line of a range is walked by some of the checks
abbrev pub AreWalked : List Walk → ℕ → ℕ → Certificate → Type 0
AreWalked walks from count c = (place : ℕ) → 1 ≤ place → place ≤ length c.classes → in_range from count place ≡ true → is_walked walks place ≡ true

-- there are some checks, and none of them finds a broken rule
pub record AreTrueWalks (walks : List Walk) (c : Certificate) : Type 0 where
  pub some : 1 ≤ length walks
  pub each : All (λ walk. IsTrueOver walk.from walk.count c) walks

-- checks that walk all class lines of a range do the work of one that walks them
abbrev pub WalksJoin : Type 0
WalksJoin = OfEachWalk (λ from count c. (walks : List Walk) → AreTrueWalks walks c → AreWalked walks from count c → IsTrueOver from count c)

-- checks that walk all class lines tell every deal
abbrev pub WalksTellEveryDeal : Type 0
WalksTellEveryDeal = (c : Certificate) (walks : List Walk) → IsCertificate c → AreTrueWalks walks c → AreWalked walks 1 (length c.classes) c → TellsEveryDeal c
