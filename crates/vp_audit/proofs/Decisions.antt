-- What the rules make of a hand.
use Rattle.std.proofs.Common.{◌≡◌, ℕ, Bool, true, false, List, [], ◌∷◌, get_or, refl, sym, ◌∙◌, Some, None, inl, inr}
use Rattle.std.specs.Prelude.{filter, position}
use Rattle.std.specs.List.{list_any}
use Rattle.std.proofs.lemmas.Bool.{cases_Bool, false≢true}
use Rattle.std.proofs.lemmas.List.Quantifiers.{position-Some}
use Rattle.vp_rank.specs.Bounded.{some_below}
use Rattle.vp_pay.specs.declared.table.PayTable.{PayTable}
use Rattle.vp_draws.specs.Draws.{best, greatest, masks, value}
use Rattle.vp_rule.specs.Holds.{matches}
use Rattle.vp_rule.specs.declared.rule.Rule.{Rule}
use Rattle.vp_audit.specs.Choices.{least_or_empty}
use Rattle.vp_audit.specs.Sums.{priced}
use Rattle.vp_audit.specs.Values.{deciding, least, matched, no_rule}
use Rattle.vp_audit.specs.declared.priced.Priced.{Priced}
use Rattle.vp_audit.specs.declared.priced.Decided.{Decided}
use Rattle.vp_audit.specs.declared.priced.Decided.TheVariants.{Except, ByRule, Nothing}

-- the first rule that matches some hold, as a search finds it
pub deciding_is : (table : PayTable) (rules : List Rule) (hand : List ℕ) → position (λ rule. some_below 32 (λ mask. matches table rule hand mask)) rules ≡ deciding table rules hand
unfolding deciding masks some_below
deciding_is table rules hand = refl

-- where no number passes, none is left
pub any_filter : (p : ℕ → Bool) (xs : List ℕ) → filter p xs ≡ [] → list_any p xs ≡ false
any_filter p [] none = refl
any_filter p (x ∷ xs) none = elim (cases_Bool (p x)) [
  | inl hit ↦ absurd (let some : filter p (x ∷ xs) ≡ x ∷ filter p xs = rw hit refl in cc)
  | inr miss ↦
      let rest : filter p xs ≡ [] = (let same : filter p (x ∷ xs) ≡ filter p xs = rw miss refl in sym same ∙ none) in
      rw miss (any_filter p xs rest)
]

full_least : (f : ℕ → ℕ) (p : ℕ → Bool) (xs : List ℕ) → list_any p xs ≡ true → least_or_empty f (filter p xs) ≡ least f (filter p xs)
full_least f p xs some = at (filter p xs) refl
  where
    at : (ys : List ℕ) → filter p xs ≡ ys → least_or_empty f ys ≡ least f ys
    at [] e = absurd (false≢true (sym (any_filter p xs e) ∙ some))
    at (y ∷ ys) e = refl

-- a price by its parts
pub priced_is : (y1 y2 : Decided) (b1 b2 l1 l2 g1 g2 : ℕ) → y1 ≡ y2 → b1 ≡ b2 → l1 ≡ l2 → g1 ≡ g2
    → ◌≡◌ {A = Priced} (record { by = y1; best = b1; least = l1; greatest = g1 }) (record { by = y2; best = b2; least = l2; greatest = g2 })
priced_is y1 y2 b1 b2 l1 l2 g1 g2 y b l g = rw (y, b, l, g) refl

-- a rule decides
pub by_rule : (table : PayTable) (coin : ℕ) (hand : List ℕ) (rules : List Rule) (place most low high : ℕ) → deciding table rules hand ≡ Some place → most ≡ best table coin hand
    → low ≡ least_or_empty (value table coin hand) (matched table (get_or rules place no_rule) hand) → high ≡ greatest (value table coin hand) (matched table (get_or rules place no_rule) hand)
    → ◌≡◌ {A = Priced} (record { by = ByRule place; best = most; least = low; greatest = high }) (priced table coin rules None hand)
unfolding priced deciding matched
by_rule table coin hand rules place most low high is top el eh =
    let found = position-Some (λ rule. list_any (λ mask. matches table rule hand mask) masks) rules place no_rule is in
    let full = full_least (value table coin hand) (λ mask. matches table (get_or rules place no_rule) hand mask) masks found.1 in
    rw (is, top, el ∙ full, eh) refl

-- no rule decides
pub by_none : (table : PayTable) (coin : ℕ) (hand : List ℕ) (rules : List Rule) (p : Priced) → deciding table rules hand ≡ None
    → p.by ≡ Nothing → p.best ≡ best table coin hand → p.least ≡ value table coin hand 0 → p.greatest ≡ value table coin hand 0 → p ≡ priced table coin rules None hand
unfolding priced
by_none table coin hand rules p is by top low high = rw (is) (alone by top low high)
  where
    alone : p.by ≡ Nothing → p.best ≡ best table coin hand → p.least ≡ value table coin hand 0 → p.greatest ≡ value table coin hand 0
        → ◌≡◌ {A = Priced} p (record { by = Nothing; best = best table coin hand; least = value table coin hand 0; greatest = value table coin hand 0 })
    alone by top low high = priced_is _ _ _ _ _ _ _ _ by top low high

-- the exception decides
pub by_mask : (table : PayTable) (coin mask : ℕ) (hand : List ℕ) (rules : List Rule) (p : Priced)
    → p.by ≡ Except → p.best ≡ best table coin hand → p.least ≡ value table coin hand mask → p.greatest ≡ value table coin hand mask → p ≡ priced table coin rules (Some mask) hand
unfolding priced
by_mask table coin mask hand rules p by top low high = priced_is _ _ _ _ _ _ _ _ by top low high
