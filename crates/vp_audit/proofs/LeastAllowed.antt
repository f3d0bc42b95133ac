-- What a list is charged for a deal: where an exception decides it, where a rule does, and where nothing does.
use Rattle.std.proofs.Common.{◌≡◌, ℕ, true, List, [], ◌∷◌, get_or, refl, sym, ap, subst, ◌∙◌, arith, Some, None}
use Rattle.std.specs.Prelude.{filter}
use Rattle.std.specs.List.{list_any}
use Rattle.std.proofs.lemmas.List.Quantifiers.{position-Some}
use Rattle.vp_pay.specs.declared.table.PayTable.{PayTable}
use Rattle.vp_draws.specs.Draws.{greatest, masks, value}
use Rattle.vp_rule.specs.Holds.{matches}
use Rattle.vp_rule.specs.Lists.{RuleList}
use Rattle.vp_rule.specs.declared.rule.Rule.{Rule}
use Rattle.vp_audit.specs.Laws.{ExceptionsChargeTheirHold, IsGreatestAllowed, IsLeastAllowed, NothingChargesHoldingNothing, RulesAllowTheGreatest}
use Rattle.vp_audit.specs.Values.{deciding, excepted, greatest_value, least, least_value, matched, no_rule}
use Rattle.vp_audit.proofs.KeptValues.{greatest_reached, greatest_upper, filter_in, filter_out, least_lower, least_reached, mask_in, mask_small, some_mask}
use Rattle.vp_audit.proofs.Lookups.{OneOf}

module _ (table : PayTable) (coin : ℕ) (rule : Rule) (cards : List ℕ) where
  -- where a rule matches some hold, the least of their values is that of one of them, and none is worth less
  pub least_allowed : list_any (λ mask. matches table rule cards mask) masks ≡ true → IsLeastAllowed table coin rule cards (least (value table coin cards) (matched table rule cards))
  unfolding matched
  least_allowed some = by_list (filter (λ mask. matches table rule cards mask) masks) refl
    where
      by_list : (ms : List ℕ) → filter (λ mask. matches table rule cards mask) masks ≡ ms → IsLeastAllowed table coin rule cards (least (value table coin cards) (filter (λ mask. matches table rule cards mask) masks))
      by_list [] none =
          let r = some_mask (λ mask. matches table rule cards mask) masks some in
          absurd (subst (λ (ms : List ℕ). OneOf ms r.at) none (filter_in (λ mask. matches table rule cards mask) masks r.at r.hit r.member))
      by_list (m ∷ ms) is =
          let r = least_reached (value table coin cards) m ms in
          let out = filter_out (λ mask. matches table rule cards mask) masks r.at (subst (λ (ms : List ℕ). OneOf ms r.at) (sym is) r.member) in
          record {
            allowed = record { mask = r.at; low = mask_small r.at out.1; matched = out.0; valued = sym (ap (least (value table coin cards)) is ∙ r.same) };
            least = λ worth a.
                let low = least_lower (value table coin cards) (filter (λ mask. matches table rule cards mask) masks) a.mask (filter_in (λ mask. matches table rule cards mask) masks a.mask a.matched (mask_in a.mask a.low)) in
                omega (arith, low, a.valued);
          }

  -- and the greatest of their values is that of one of them, and none is worth more
  pub greatest_allowed : list_any (λ mask. matches table rule cards mask) masks ≡ true → IsGreatestAllowed table coin rule cards (greatest (value table coin cards) (matched table rule cards))
  unfolding matched
  greatest_allowed some = by_list (filter (λ mask. matches table rule cards mask) masks) refl
    where
      by_list : (ms : List ℕ) → filter (λ mask. matches table rule cards mask) masks ≡ ms → IsGreatestAllowed table coin rule cards (greatest (value table coin cards) (filter (λ mask. matches table rule cards mask) masks))
      by_list [] none =
          let r = some_mask (λ mask. matches table rule cards mask) masks some in
          absurd (subst (λ (ms : List ℕ). OneOf ms r.at) none (filter_in (λ mask. matches table rule cards mask) masks r.at r.hit r.member))
      by_list (m ∷ ms) is =
          let r = greatest_reached (value table coin cards) m ms in
          let out = filter_out (λ mask. matches table rule cards mask) masks r.at (subst (λ (ms : List ℕ). OneOf ms r.at) (sym is) r.member) in
          record {
            allowed = record { mask = r.at; low = mask_small r.at out.1; matched = out.0; valued = sym (ap (greatest (value table coin cards)) is ∙ r.same) };
            greatest = λ worth a.
                let high = greatest_upper (value table coin cards) (filter (λ mask. matches table rule cards mask) masks) a.mask (filter_in (λ mask. matches table rule cards mask) masks a.mask a.matched (mask_in a.mask a.low)) in
                omega (arith, high, a.valued);
          }

found : (table : PayTable) (rules : List Rule) (cards : List ℕ) (place : ℕ) → deciding table rules cards ≡ Some place → list_any (λ mask. matches table (get_or rules place no_rule) cards mask) masks ≡ true
unfolding deciding
found table rules cards place is = (position-Some (λ rule. list_any (λ mask. matches table rule cards mask) masks) rules place no_rule is).1

-- a rule decides: the least value is the least among the holds that it matches
pub ruled : (table : PayTable) (coin : ℕ) (list : RuleList) (cards : List ℕ) (place : ℕ) → excepted list.exceptions cards ≡ None → deciding table list.rules cards ≡ Some place
    → IsLeastAllowed table coin (get_or list.rules place no_rule) cards (least_value table coin list cards)
unfolding least_value
ruled table coin list cards place none is =
    rw (none, is) (least_allowed table coin (get_or list.rules place no_rule) cards (found table list.rules cards place is))

-- and the greatest value is the greatest among them
pub ruled_greatest : RulesAllowTheGreatest
unfolding greatest_value
ruled_greatest table coin list cards place none is =
    rw (none, is) (greatest_allowed table coin (get_or list.rules place no_rule) cards (found table list.rules cards place is))

-- an exception decides
pub by_exception : ExceptionsChargeTheirHold
unfolding least_value greatest_value
by_exception table coin list cards mask is = record { least = rw is refl; greatest = rw is refl }

-- nothing decides
pub by_nothing : NothingChargesHoldingNothing
unfolding least_value greatest_value
by_nothing table coin list cards none is = record { least = rw (none, is) refl; greatest = rw (none, is) refl }
