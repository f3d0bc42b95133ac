-- True certificates: what each of their numbers tells is the expected payment and the return (vp_draws, Draws), over the classes of deals
-- (vp_suit, Classes).
use Rattle.std.specs.Prelude.{◌≡◌, ℕ, ◌*◌, true, List, length, map, sum_by, None}
use Rattle.std.specs.List.{All}
use Rattle.std.specs.List.Sorted.{IsStrictlyIncreasing}
use Rattle.vp_pay.specs.declared.table.PayTable.{PayTable}
use Rattle.vp_draws.specs.Draws.{best, least_best, return_denominator, sum_of_best, value}
use Rattle.vp_sets.specs.Index.{set_index}
use Rattle.vp_sets.specs.Sets.{choose}
use Rattle.vp_suit.specs.Classes.{is_representative, representatives, weight}
use Rattle.vp_check.specs.Certificates.{Certificate, IsCertificate}
use Rattle.vp_check.specs.Rules.{first_break, in_range, rows}
use Rattle.vp_check.specs.declared.class_line.ClassLine.{ClassLine}

-- no line breaks a rule, where `count` class lines from the place `from` on are walked
abbrev pub IsTrueOver : ℕ → ℕ → Certificate → Type 0
IsTrueOver from count c = first_break from count c ≡ None

-- no line breaks a rule
abbrev pub IsTrueCertificate : Certificate → Type 0
IsTrueCertificate c = IsTrueOver 1 (length c.classes) c

-- the class lines at `count` places from the place `from` on, the first class line having the place 1
abbrev pub AllWalked : ℕ → ℕ → (ClassLine → Type 0) → List ClassLine → Type 0
AllWalked from count P lines = All (λ row. in_range from count row.place ≡ true → P row.line) (rows lines)

-- the cards of the class lines
abbrev pub hands : Certificate → List (List ℕ)
hands c = map (λ line. line.hand) c.classes

-- the class lines are all classes, by rising index
abbrev pub HasAllClasses : Certificate → Type 0
HasAllClasses c = hands c ≡ representatives c.table.deck

-- each class line has the least best mask, for this pay table and bet
abbrev pub HasLeastBestMasks : PayTable → ℕ → Certificate → Type 0
HasLeastBestMasks table coin c = All (λ line. line.mask ≡ least_best table coin line.hand) c.classes

-- what holds of each certificate in the grammar, whichever class lines are walked
abbrev pub OfEachWalk : (ℕ → ℕ → Certificate → Type 0) → Type 0
OfEachWalk P = (from count : ℕ) (c : Certificate) → IsCertificate c → P from count c

-- what a certificate without a broken rule is, where `count` class lines from the place `from` on are walked: least images that
-- rise by index, with their weights, the best value and a best hold on each walked line; and a return for all deals
pub record KeepsRules (from count : ℕ) (c : Certificate) : Type 0 where
  pub least : All (λ line. is_representative line.hand ≡ true) c.classes
  pub rising : IsStrictlyIncreasing (map set_index (hands c))
  pub weights : All (λ line. line.weight ≡ weight line.hand) c.classes
  pub values : AllWalked from count (λ line. line.value ≡ best c.table c.coin line.hand) c.classes
  pub masks : AllWalked from count (λ line. value c.table c.coin line.hand line.mask ≡ best c.table c.coin line.hand) c.classes
  pub cover : sum_by (λ line. line.weight) c.classes ≡ choose c.table.deck 5
  pub sum : c.sum ≡ sum_by (λ line. line.weight * line.value) c.classes
  pub denominator : c.denominator ≡ return_denominator c.table.deck c.coin

-- what a class line says of a class: its weight, its least best hold, and the value of that
unfoldable pub due_line : PayTable → ℕ → List ℕ → ClassLine
due_line table coin hand = record { hand = hand; weight = weight hand; mask = least_best table coin hand; value = best table coin hand }

-- the true certificate of a pay table and a bet whose masks are the least best ones
unfoldable pub due_certificate : PayTable → ℕ → Certificate
due_certificate table coin = record {
  table = table;
  coin = coin;
  classes = map (due_line table coin) (representatives table.deck);
  sum = sum_of_best table coin;
  denominator = return_denominator table.deck coin;
}
