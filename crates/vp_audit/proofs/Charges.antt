-- What a list is charged for a deal is at most the best value.
use Rattle.std.proofs.Common.{◌≡◌, ℕ, ◌<◌, ◌≤◌, Bool, true, false, cond, List, [], ◌∷◌, refl, sym, ap, subst, ◌∙◌, arith, Some, None, Option, inl}
use Rattle.std.specs.Prelude.{IfSome, filter, find, option_map, slice_index_or, ◌==◌}
use Rattle.std.specs.List.{All}
use Rattle.std.proofs.lemmas.List.Elements.{All-head, All-tail}
use Rattle.vp_sets.specs.Index.{set_index}
use Rattle.vp_suit.specs.Classes.{representative}
use Rattle.vp_pay.specs.declared.table.PayTable.{PayTable}
use Rattle.vp_draws.specs.Draws.{best, greatest, value, masks}
use Rattle.vp_draws.proofs.Chosen.{value_le_best}
use Rattle.vp_rule.specs.Holds.{matches}
use Rattle.vp_rule.specs.Lists.{Exception, RuleList}
use Rattle.vp_rule.specs.Valid.{IsException}
use Rattle.vp_rule.specs.declared.rule.Rule.{Rule}
use Rattle.vp_audit.specs.Sums.{priced}
use Rattle.vp_audit.specs.Values.{charged, decided, deciding, excepted, greatest_value, least, least_value, matched, no_rule}
use Rattle.vp_audit.specs.declared.priced.Priced.{Priced}
use Rattle.vp_audit.proofs.Decisions.{priced_is}
use Rattle.vp_audit.proofs.KeptValues.{filter_out, greatest_members, least_lower, mask_small}
use Rattle.vp_audit.proofs.Lookups.{OneOf}
use Rattle.vp_audit.proofs.SumsMore.{said}

pub least_members : (f : ℕ → ℕ) (b : ℕ) (xs : List ℕ) → ((m : ℕ) → OneOf xs m → f m ≤ b) → least f xs ≤ b
unfolding least
least_members f b [] all = omega arith
least_members f b (x ∷ []) all = all x (inl refl)
least_members f b (x ∷ y ∷ xs) all =
    let low = least_lower f (x ∷ y ∷ xs) x (inl refl) in
    let here = all x (inl refl) in
    omega (arith, low, here)

charged_le : (extreme : (ℕ → ℕ) → List ℕ → ℕ) (table : PayTable) (coin : ℕ) (rules : List Rule) (cards : List ℕ) (mask place : Option ℕ)
    → ((f : ℕ → ℕ) (b : ℕ) (xs : List ℕ) → ((m : ℕ) → OneOf xs m → f m ≤ b) → extreme f xs ≤ b) → IfSome mask (λ m. m < 32) → charged extreme table coin rules cards cards mask place ≤ best table coin cards
unfolding matched
charged_le extreme table coin rules cards (Some m) place members small = value_le_best table coin cards m small
charged_le extreme table coin rules cards None (Some k) members small =
    members (value table coin cards) (best table coin cards) (filter (λ m. matches table (slice_index_or rules k no_rule) cards m) masks)
    (λ m one. value_le_best table coin cards m (mask_small m (filter_out (λ m. matches table (slice_index_or rules k no_rule) cards m) masks m one).1))
charged_le extreme table coin rules cards None None members small = value_le_best table coin cards 0 (omega arith)

pub priced_le : (table : PayTable) (coin : ℕ) (rules : List Rule) (mask : Option ℕ) (cards : List ℕ) (p : Priced) → IfSome mask (λ m. m < 32) → p ≡ priced table coin rules mask cards → (p.least ≤ p.best) × (p.greatest ≤ p.best)
unfolding priced
priced_le table coin rules mask cards p small is = (
  subst (λ (p : Priced). p.least ≤ p.best) (sym is) (charged_le least table coin rules cards mask (deciding table rules cards) least_members small),
  subst (λ (p : Priced). p.greatest ≤ p.best) (sym is) (charged_le greatest table coin rules cards mask (deciding table rules cards) greatest_members small),
)

-- what a list says of a representative
pub priced_said : (table : PayTable) (coin : ℕ) (list : RuleList) (mask : Option ℕ) (cards : List ℕ) (p : Priced) → representative cards ≡ cards → mask ≡ excepted list.exceptions cards → p ≡ priced table coin list.rules mask cards
    → p ≡ said table coin list cards (decided table list cards)
unfolding priced decided least_value greatest_value
priced_said table coin list mask cards p own em ep =
    ep ∙ ap (λ (m : Option ℕ). priced table coin list.rules m cards) em
    ∙ priced_is _ _ _ _ _ _ _ _ refl refl
    (ap (λ (x : List ℕ). charged least table coin list.rules x cards (excepted list.exceptions cards) (deciding table list.rules cards)) (sym own))
    (ap (λ (x : List ℕ). charged greatest table coin list.rules x cards (excepted list.exceptions cards) (deciding table list.rules cards)) (sym own))

-- the masks of exceptions
small_at : (b : Bool) (e : Exception) (o : Option Exception) → e.1 < 32 → IfSome (option_map (λ (e : Exception). e.1) o) (λ m. m < 32) → IfSome (option_map (λ (e : Exception). e.1) (cond b (Some e) o)) (λ m. m < 32)
small_at true e o here rest = here
small_at false e o here rest = rest

find_small : (n : ℕ) (test : Exception → Bool) (es : List Exception) → All (IsException n) es → IfSome (option_map (λ (e : Exception). e.1) (find test es)) (λ m. m < 32)
find_small n test [] all = tt
find_small n test (e ∷ es) all = small_at (test e) e (find test es) (All-head (IsException n) e es all).mask (find_small n test es (All-tail (IsException n) e es all))

pub excepted_small : (n : ℕ) (es : List Exception) (cards : List ℕ) → All (IsException n) es → IfSome (excepted es cards) (λ m. m < 32)
unfolding excepted
excepted_small n es cards all = find_small n (λ e. set_index e.0 == set_index (representative cards)) es all
