-- Checks that walk a certificate part by part.
use Rattle.std.proofs.Common.{◌≡◌, ℕ, ◌≤◌, true, None, List, [], ◌∷◌, length, get_or, arith, inl, inr}
use Rattle.std.specs.List.{All}
use Rattle.std.proofs.lemmas.Bool.{cases_Bool}
use Rattle.std.proofs.lemmas.List.Elements.{All-head, All-tail}
use Rattle.vp_draws.specs.Draws.{best, value}
use Rattle.vp_check.specs.Certificates.{Certificate, IsCertificate}
use Rattle.vp_check.specs.EveryDeal.{TellsEveryDeal}
use Rattle.vp_check.specs.Rules.{in_range, rows}
use Rattle.vp_check.specs.Truth.{AllWalked, IsTrueOver, KeepsRules}
use Rattle.vp_check.specs.Parts.{AreTrueWalks, AreWalked, Walk, is_walked}
use Rattle.vp_check.specs.declared.class_line.ClassLine.{ClassLine}
use Rattle.vp_check.proofs.EveryDeals.{true_tells}
use Rattle.vp_check.proofs.KeptRules.{places_within}
use Rattle.vp_check.proofs.TrueOnes.{keeps_rules, rules_kept}

-- a check that walks the class line at a place and finds no broken rule
record WalkedAt (c : Certificate) (place : ℕ) : Type 0 where
  walk : Walk
  has : in_range walk.from walk.count place ≡ true
  keeps : KeepsRules walk.from walk.count c

-- there is one where some of the checks walks the place
some_walk : (c : Certificate) (place : ℕ) (walks : List Walk) → IsCertificate c → All (λ walk. IsTrueOver walk.from walk.count c) walks → is_walked walks place ≡ true → WalkedAt c place
some_walk c place [] is each walked = absurd cc
some_walk c place (walk ∷ walks) is each walked = elim (cases_Bool (in_range walk.from walk.count place)) [
  | inl hit ↦ record {
    walk = walk;
    has = hit;
    keeps = keeps_rules walk.from walk.count c is (All-head (λ w. IsTrueOver w.from w.count c) walk walks each);
  }
  | inr miss ↦ some_walk c place walks is (All-tail (λ w. IsTrueOver w.from w.count c) walk walks each) (let a = miss in let b = walked in cc)
]

-- what each check tells of the lines that it walks is told of all lines that some check walks
joined : (P : ClassLine → Type 0) (from count : ℕ) (c : Certificate)
    → ((place : ℕ) → 1 ≤ place → place ≤ length c.classes → in_range from count place ≡ true → WalkedAt c place)
    → ((walk : Walk) → KeepsRules walk.from walk.count c → AllWalked walk.from walk.count P c.classes)
    → AllWalked from count P c.classes
joined P from count c found tells i d l walked =
    let within = places_within 1 None c.classes i d l in
    let at = found (get_or (rows c.classes) i d).place within.0 (omega (arith, within.1)) walked in
    tells at.walk at.keeps i d l at.has

pub walks_join : (from count : ℕ) (c : Certificate) → IsCertificate c → (walks : List Walk) → AreTrueWalks walks c → AreWalked walks from count c → IsTrueOver from count c
walks_join from count c is [] true_ones walked = absurd (omega (arith, true_ones.some))
walks_join from count c is (first ∷ more) true_ones walked =
    let found = λ (place : ℕ) (some : 1 ≤ place) (most : place ≤ length c.classes) (asked : in_range from count place ≡ true). some_walk c place (first ∷ more) is true_ones.each (walked place some most asked) in
    let k : KeepsRules first.from first.count c = keeps_rules first.from first.count c is (All-head (λ w. IsTrueOver w.from w.count c) first more true_ones.each) in
    rules_kept from count c (record {
      least = k.least;
      rising = k.rising;
      weights = k.weights;
      values = joined (λ line. line.value ≡ best c.table c.coin line.hand) from count c found (λ walk kept. kept.values);
      masks = joined (λ line. value c.table c.coin line.hand line.mask ≡ best c.table c.coin line.hand) from count c found (λ walk kept. kept.masks);
      cover = k.cover;
      sum = k.sum;
      denominator = k.denominator;
    })

pub walks_tell : (c : Certificate) (walks : List Walk) → IsCertificate c → AreTrueWalks walks c → AreWalked walks 1 (length c.classes) c → TellsEveryDeal c
walks_tell c walks is true_ones walked = true_tells c is (walks_join 1 (length c.classes) c is walks true_ones walked)
