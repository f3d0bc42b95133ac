-- What decides a deal, and what the list is charged for it, are kept by turns.
use Rattle.std.proofs.Common.{◌≡◌, ℕ, zero, suc, ◌+◌, ◌<◌, ◌≤◌, Bool, true, false, cond, List, [], ◌∷◌, refl, sym, ap, subst, ◌∙◌, arith, Some, None, Option, inl, inr}
use Rattle.std.proofs.Math.Path.{fun_ext}
use Rattle.std.specs.Prelude.{◌==◌, ◌||◌, nat_le, position, filter, slice_index_or, option_map, find}
use Rattle.std.specs.List.{list_any, range_with_len}
use Rattle.std.proofs.lemmas.Bool.{cases_Bool, cases_eq}
use Rattle.std.proofs.lemmas.Bool.Decides.{nat_tests}
use Rattle.vp_rank.proofs.BoundedTests.{same_tests}
use Rattle.vp_card.specs.Cards.{held, joined}
use Rattle.vp_sets.specs.Index.{set_index}
use Rattle.vp_sets.specs.Sets.{has}
use Rattle.vp_suit.specs.Classes.{IsDeal, representative}
use Rattle.vp_sets.specs.Draws.{mask_of}
use Rattle.vp_suit.specs.Turns.{carried, turn}
use Rattle.vp_suit.proofs.Group.{inverse, inverse_inside}
use Rattle.vp_suit.proofs.Cards.{turn_back}
use Rattle.vp_suit.proofs.Deals.{deal_rises, turned_deal}
use Rattle.vp_suit.proofs.Masks.{carried_small}
use Rattle.vp_suit.proofs.ClassLaws.{representative_kept}
use Rattle.vp_pay.specs.declared.table.PayTable.{PayTable}
use Rattle.vp_draws.specs.Draws.{greatest, masks, value}
use Rattle.vp_draws.proofs.TurnedValues.{best_turned, value_turned}
use Rattle.vp_rule.specs.Holds.{matches}
use Rattle.vp_rule.specs.Lists.{Exception, RuleList}
use Rattle.vp_rule.specs.declared.rule.Rule.{Rule}
use Rattle.vp_rule.proofs.TurnedRules.{matches_turned}
use Rattle.vp_audit.specs.Values.{charged, decided, deciding, decision, excepted, greatest_value, least, least_value, matched, no_rule}
use Rattle.vp_audit.specs.Audits.{lost}
use Rattle.vp_audit.specs.Laws.{Allows}
use Rattle.vp_audit.proofs.Lookups.{OneOf}

-- ---- members

in_range : (a n m : ℕ) → a ≤ m → m < a + n → OneOf (range_with_len a n) m
in_range a zero m low high = absurd (omega arith)
in_range a (suc n) m low high = elim (cases_eq m a) [ inl e ↦ inl e | inr d ↦ inr (in_range (a + 1) n m (omega arith) (omega arith)) ]

of_range : (a n m : ℕ) → OneOf (range_with_len a n) m → m < a + n
of_range a zero m one = absurd one
of_range a (suc n) m (inl e) = omega (arith, e)
of_range a (suc n) m (inr one) = let l = of_range (a + 1) n m one in omega (arith, l)

pub mask_in : (m : ℕ) → m < 32 → OneOf masks m
unfolding masks
mask_in m l = in_range 0 32 m (omega arith) (omega arith)

pub mask_small : (m : ℕ) → OneOf masks m → m < 32
unfolding masks
mask_small m one = let l = of_range 0 32 m one in omega (arith, l)

abbrev kept_or : Bool → ℕ → List ℕ → List ℕ
kept_or b x xs = cond b (x ∷ xs) xs

put_in : (p : ℕ → Bool) (x : ℕ) (xs : List ℕ) (m : ℕ) (b : Bool) → p x ≡ b → p m ≡ true → (OneOf xs m → OneOf (filter p xs) m) → OneOf (x ∷ xs) m → OneOf (kept_or b x (filter p xs)) m
put_in p x xs m true px pm more (inl e) = inl e
put_in p x xs m true px pm more (inr one) = inr (more one)
put_in p x xs m false px pm more (inl e) = absurd (let same : p m ≡ p x = ap p e in cc)
put_in p x xs m false px pm more (inr one) = more one

pub filter_in : (p : ℕ → Bool) (xs : List ℕ) (m : ℕ) → p m ≡ true → OneOf xs m → OneOf (filter p xs) m
filter_in p [] m pm one = one
filter_in p (x ∷ xs) m pm one = put_in p x xs m (p x) refl pm (λ more. filter_in p xs m pm more) one

take_out : (p : ℕ → Bool) (x : ℕ) (xs : List ℕ) (m : ℕ) (b : Bool) → p x ≡ b → (OneOf (filter p xs) m → (p m ≡ true) × OneOf xs m) → OneOf (kept_or b x (filter p xs)) m → (p m ≡ true) × OneOf (x ∷ xs) m
take_out p x xs m true px more (inl e) = (ap p e ∙ px, inl e)
take_out p x xs m true px more (inr one) = let t = more one in (t.0, inr t.1)
take_out p x xs m false px more one = let t = more one in (t.0, inr t.1)

pub filter_out : (p : ℕ → Bool) (xs : List ℕ) (m : ℕ) → OneOf (filter p xs) m → (p m ≡ true) × OneOf xs m
filter_out p [] m one = absurd one
filter_out p (x ∷ xs) m one = take_out p x xs m (p x) refl (λ more. filter_out p xs m more) one

pub least_lower : (f : ℕ → ℕ) (xs : List ℕ) (m : ℕ) → OneOf xs m → least f xs ≤ f m
unfolding least
least_lower f [] m one = absurd one
least_lower f (x ∷ []) m (inl e) = let same : f m ≡ f x = ap f e in omega arith
least_lower f (x ∷ []) m (inr one) = absurd one
least_lower f (x ∷ y ∷ xs) m (inl e) = let same : f m ≡ f x = ap f e in grind (arith, nat_tests)
least_lower f (x ∷ y ∷ xs) m (inr one) = let l = least_lower f (y ∷ xs) m one in grind (arith, nat_tests)

least_none : (f g : ℕ → ℕ) → least f [] ≡ least g []
unfolding least
least_none f g = refl

pub record Reached (f : ℕ → ℕ) (xs : List ℕ) : Type 0 where
  pub at : ℕ
  pub member : OneOf xs at
  pub same : least f xs ≡ f at

pub least_reached : (f : ℕ → ℕ) (x : ℕ) (xs : List ℕ) → Reached f (x ∷ xs)
unfolding least
least_reached f x [] = record { at = x; member = inl refl; same = refl }
least_reached f x (y ∷ xs) =
    let r = least_reached f y xs in
    elim (cases_Bool (nat_le (f x) (least f (y ∷ xs)))) [
      | inl le ↦ record { at = x; member = inl refl; same = grind (arith, nat_tests) }
      | inr gt ↦ record { at = r.at; member = inr r.member; same = (let e : least f (x ∷ y ∷ xs) ≡ least f (y ∷ xs) = grind (arith, nat_tests) in e ∙ r.same) }
    ]

-- ---- masks that are carried along

record Carries (p q : ℕ → Bool) (f g : ℕ → ℕ) : Type 0 where
  to : ℕ → ℕ
  inside : (m : ℕ) → m < 32 → to m < 32
  passes : (m : ℕ) → m < 32 → p (to m) ≡ q m
  worth : (m : ℕ) → m < 32 → f (to m) ≡ g m

pub record Reached_by (q : ℕ → Bool) (xs : List ℕ) : Type 0 where
  pub at : ℕ
  pub member : OneOf xs at
  pub hit : q at ≡ true

pub some_mask : (q : ℕ → Bool) (xs : List ℕ) → list_any q xs ≡ true → Reached_by q xs
some_mask q [] is = absurd cc
some_mask q (x ∷ xs) is = elim (cases_Bool (q x)) [
  | inl here ↦ record { at = x; member = inl refl; hit = here }
  | inr miss ↦
      let more : list_any q xs ≡ true = sym (ap (λ b. b || list_any q xs) miss) ∙ is in
      let r = some_mask q xs more in
      record { at = r.at; member = inr r.member; hit = r.hit }
]

pub any_in : (p : ℕ → Bool) (xs : List ℕ) (m : ℕ) → p m ≡ true → OneOf xs m → list_any p xs ≡ true
any_in p [] m pm one = absurd one
any_in p (x ∷ xs) m pm (inl e) = let here : p x ≡ true = ap p (sym e) ∙ pm in rw here refl
any_in p (x ∷ xs) m pm (inr one) = let more = any_in p xs m pm one in elim (cases_Bool (p x)) [ inl px ↦ rw px refl | inr px ↦ rw px more ]

any_carried : (p q : ℕ → Bool) (f g : ℕ → ℕ) → Carries p q f g → list_any q masks ≡ true → list_any p masks ≡ true
any_carried p q f g c is =
    let r = some_mask q masks is in
    let small = mask_small r.at r.member in
    any_in p masks (c.to r.at) (c.passes r.at small ∙ r.hit) (mask_in (c.to r.at) (c.inside r.at small))

least_carried : (p q : ℕ → Bool) (f g : ℕ → ℕ) → Carries p q f g → (x : ℕ) (xs : List ℕ) → filter q masks ≡ x ∷ xs → least f (filter p masks) ≤ least g (filter q masks)
least_carried p q f g c x xs some =
    let r = least_reached g x xs in
    let out = filter_out q masks r.at (subst (λ (ms : List ℕ). OneOf ms r.at) (sym some) r.member) in
    let small = mask_small r.at out.1 in
    let there = filter_in p masks (c.to r.at) (c.passes r.at small ∙ out.0) (mask_in (c.to r.at) (c.inside r.at small)) in
    let low = least_lower f (filter p masks) (c.to r.at) there in
    let same : least g (filter q masks) ≡ g r.at = ap (least g) some ∙ r.same in
    omega (arith, low, same, c.worth r.at small)

-- a turned deal's holds stand for the deal's, and back
turned_to : (n t coin : ℕ) (table : PayTable) (rule : Rule) (cards : List ℕ) → 52 ≤ table.deck → t < 24 → IsDeal table.deck cards
    → Carries (λ m. matches table rule (turn t cards) m) (λ m. matches table rule cards m) (value table coin (turn t cards)) (value table coin cards)
turned_to n t coin table rule cards big l d = record {
  to = λ m. carried t cards m;
  inside = λ m small. carried_small t m cards d.five;
  passes = λ m small. matches_turned table.deck t m table rule cards l d;
  worth = λ m small. value_turned t m coin table cards big l d;
}

turned_from : (n t coin : ℕ) (table : PayTable) (rule : Rule) (cards : List ℕ) → 52 ≤ table.deck → t < 24 → IsDeal table.deck cards
    → Carries (λ m. matches table rule cards m) (λ m. matches table rule (turn t cards) m) (value table coin cards) (value table coin (turn t cards))
turned_from n t coin table rule cards big l d =
    subst (λ (x : List ℕ). Carries (λ m. matches table rule x m) (λ m. matches table rule (turn t cards) m) (value table coin x) (value table coin (turn t cards)))
    (turn_back t cards l (deal_rises table.deck cards d))
    (turned_to n (inverse t) coin table rule (turn t cards) big (inverse_inside t l) (turned_deal table.deck t cards big l d))

matches_some_kept : (t coin : ℕ) (table : PayTable) (rule : Rule) (cards : List ℕ) → 52 ≤ table.deck → t < 24 → IsDeal table.deck cards
    → list_any (λ m. matches table rule (turn t cards) m) masks ≡ list_any (λ m. matches table rule cards m) masks
matches_some_kept t coin table rule cards big l d =
    same_tests (list_any (λ m. matches table rule (turn t cards) m) masks) (list_any (λ m. matches table rule cards m) masks)
    (any_carried _ _ _ _ (turned_from 0 t coin table rule cards big l d))
    (any_carried _ _ _ _ (turned_to 0 t coin table rule cards big l d))

pub deciding_kept : (t coin : ℕ) (table : PayTable) (rules : List Rule) (cards : List ℕ) → 52 ≤ table.deck → t < 24 → IsDeal table.deck cards → deciding table rules (turn t cards) ≡ deciding table rules cards
unfolding deciding
deciding_kept t coin table rules cards big l d = ap (λ (p : Rule → Bool). position p rules) (fun_ext (λ rule. matches_some_kept t coin table rule cards big l d))

pub excepted_kept : (t : ℕ) (n : ℕ) (es : List Exception) (cards : List ℕ) → 52 ≤ n → t < 24 → IsDeal n cards → excepted es (turn t cards) ≡ excepted es cards
unfolding excepted
excepted_kept t n es cards big l d = ap (λ (x : List ℕ). option_map (λ (e : Exception). e.1) (find (λ e. set_index e.0 == set_index x) es)) (representative_kept n cards t big d l)

pub decided_kept : (t : ℕ) (table : PayTable) (list : RuleList) (cards : List ℕ) → 52 ≤ table.deck → t < 24 → IsDeal table.deck cards → decided table list (turn t cards) ≡ decided table list cards
unfolding decided
decided_kept t table list cards big l d =
    ap (λ (m : Option ℕ). decision m (deciding table list.rules (turn t cards))) (excepted_kept t table.deck list.exceptions cards big l d)
    ∙ ap (λ (o : Option ℕ). decision (excepted list.exceptions cards) o) (deciding_kept t 1 table list.rules cards big l d)

-- the least value of the holds that a rule matches
pub least_matched_kept : (t coin : ℕ) (table : PayTable) (rule : Rule) (cards : List ℕ) → 52 ≤ table.deck → t < 24 → IsDeal table.deck cards
    → least (value table coin (turn t cards)) (matched table rule (turn t cards)) ≡ least (value table coin cards) (matched table rule cards)
unfolding matched
least_matched_kept t coin table rule cards big l d = by_lists (filter q masks) refl (filter p masks) refl
  where
    p : ℕ → Bool
    p m = matches table rule (turn t cards) m

    q : ℕ → Bool
    q m = matches table rule cards m

    none_member : (r : ℕ → Bool) (x : ℕ) (xs : List ℕ) → filter r masks ≡ x ∷ xs → (r x ≡ true) × (x < 32)
    none_member r x xs e = let out = filter_out r masks x (subst (λ (ms : List ℕ). OneOf ms x) (sym e) (inl refl)) in (out.0, mask_small x out.1)

    by_lists : (ys : List ℕ) → filter q masks ≡ ys → (xs : List ℕ) → filter p masks ≡ xs → least (value table coin (turn t cards)) (filter p masks) ≡ least (value table coin cards) (filter q masks)
    by_lists [] ey [] ex = ap (least (value table coin (turn t cards))) ex ∙ (least_none (value table coin (turn t cards)) (value table coin cards) ∙ sym (ap (least (value table coin cards)) ey))
    by_lists [] ey (x ∷ xs) ex =
        let c = turned_from 0 t coin table rule cards big l d in
        let m = none_member p x xs ex in
        let there = filter_in q masks (c.to x) (c.passes x m.1 ∙ m.0) (mask_in (c.to x) (c.inside x m.1)) in
        absurd (subst (λ (ms : List ℕ). OneOf ms (c.to x)) ey there)
    by_lists (y ∷ ys) ey [] ex =
        let c = turned_to 0 t coin table rule cards big l d in
        let m = none_member q y ys ey in
        let there = filter_in p masks (c.to y) (c.passes y m.1 ∙ m.0) (mask_in (c.to y) (c.inside y m.1)) in
        absurd (subst (λ (ms : List ℕ). OneOf ms (c.to y)) ex there)
    by_lists (y ∷ ys) ey (x ∷ xs) ex =
        let low = least_carried p q (value table coin (turn t cards)) (value table coin cards) (turned_to 0 t coin table rule cards big l d) y ys ey in
        let high = least_carried q p (value table coin cards) (value table coin (turn t cards)) (turned_from 0 t coin table rule cards big l d) x xs ex in
        omega arith

-- ---- the greatest value

pub greatest_upper : (f : ℕ → ℕ) (xs : List ℕ) (m : ℕ) → OneOf xs m → f m ≤ greatest f xs
unfolding greatest
greatest_upper f [] m one = absurd one
greatest_upper f (x ∷ xs) m (inl e) = let same : f m ≡ f x = ap f e in grind (arith, nat_tests)
greatest_upper f (x ∷ xs) m (inr one) = let l = greatest_upper f xs m one in grind (arith, nat_tests)

pub record Topped (f : ℕ → ℕ) (xs : List ℕ) : Type 0 where
  pub at : ℕ
  pub member : OneOf xs at
  pub same : greatest f xs ≡ f at

pub greatest_reached : (f : ℕ → ℕ) (x : ℕ) (xs : List ℕ) → Topped f (x ∷ xs)
unfolding greatest
greatest_reached f x [] = record { at = x; member = inl refl; same = grind (arith, nat_tests) }
greatest_reached f x (y ∷ xs) =
    let r = greatest_reached f y xs in
    elim (cases_Bool (nat_le (greatest f (y ∷ xs)) (f x))) [
      | inl le ↦ record { at = x; member = inl refl; same = grind (arith, nat_tests) }
      | inr gt ↦ record { at = r.at; member = inr r.member; same = (let e : greatest f (x ∷ y ∷ xs) ≡ greatest f (y ∷ xs) = grind (arith, nat_tests) in e ∙ r.same) }
    ]

pub greatest_members : (f : ℕ → ℕ) (b : ℕ) (xs : List ℕ) → ((m : ℕ) → OneOf xs m → f m ≤ b) → greatest f xs ≤ b
unfolding greatest
greatest_members f b [] all = omega arith
greatest_members f b (x ∷ xs) all =
    let here : f x ≤ b = all x (inl refl) in
    let rest : greatest f xs ≤ b = greatest_members f b xs (λ m one. all m (inr one)) in
    grind (arith, nat_tests)

greatest_carried : (p q : ℕ → Bool) (f g : ℕ → ℕ) → Carries p q f g → greatest g (filter q masks) ≤ greatest f (filter p masks)
greatest_carried p q f g c = greatest_members g (greatest f (filter p masks)) (filter q masks) each
  where
    each : (m : ℕ) → OneOf (filter q masks) m → g m ≤ greatest f (filter p masks)
    each m one =
        let out = filter_out q masks m one in
        let small = mask_small m out.1 in
        let there = filter_in p masks (c.to m) (c.passes m small ∙ out.0) (mask_in (c.to m) (c.inside m small)) in
        let high = greatest_upper f (filter p masks) (c.to m) there in
        omega (arith, high, c.worth m small)

pub greatest_matched_kept : (t coin : ℕ) (table : PayTable) (rule : Rule) (cards : List ℕ) → 52 ≤ table.deck → t < 24 → IsDeal table.deck cards
    → greatest (value table coin (turn t cards)) (matched table rule (turn t cards)) ≡ greatest (value table coin cards) (matched table rule cards)
unfolding matched
greatest_matched_kept t coin table rule cards big l d =
    let p : ℕ → Bool = λ m. matches table rule (turn t cards) m in
    let q : ℕ → Bool = λ m. matches table rule cards m in
    let high = greatest_carried p q (value table coin (turn t cards)) (value table coin cards) (turned_to 0 t coin table rule cards big l d) in
    let low = greatest_carried q p (value table coin cards) (value table coin (turn t cards)) (turned_from 0 t coin table rule cards big l d) in
    omega arith

-- ---- what a list is charged

none_held : (cards : List ℕ) → held 0 cards ≡ []
none_held [] = refl
none_held (c ∷ cards) = none_held cards

no_mask : (cards : List ℕ) → mask_of [] cards ≡ 0
unfolding mask_of has
no_mask [] = refl
no_mask (c ∷ cards) = let rest : mask_of [] cards ≡ 0 = no_mask cards in omega (arith, rest)

carried_none : (t : ℕ) (cards : List ℕ) → carried t cards 0 ≡ 0
unfolding carried turn joined
carried_none t cards = ap (λ (kept : List ℕ). mask_of (turn t kept) (turn t cards)) (none_held cards) ∙ no_mask (turn t cards)

no_hold_kept : (t coin : ℕ) (table : PayTable) (cards : List ℕ) → 52 ≤ table.deck → t < 24 → IsDeal table.deck cards → value table coin (turn t cards) 0 ≡ value table coin cards 0
no_hold_kept t coin table cards big l d = ap (λ m. value table coin (turn t cards) m) (sym (carried_none t cards)) ∙ value_turned t 0 coin table cards big l d

charged_kept : (extreme : (ℕ → ℕ) → List ℕ → ℕ) (t coin : ℕ) (table : PayTable) (rules : List Rule) (cards : List ℕ) → 52 ≤ table.deck → t < 24 → IsDeal table.deck cards
    → ((rule : Rule) → extreme (value table coin (turn t cards)) (matched table rule (turn t cards)) ≡ extreme (value table coin cards) (matched table rule cards)) → (mask place : Option ℕ)
    → charged extreme table coin rules (representative (turn t cards)) (turn t cards) mask place ≡ charged extreme table coin rules (representative cards) cards mask place
charged_kept extreme t coin table rules cards big l d same (Some m) place = ap (λ (x : List ℕ). value table coin x m) (representative_kept table.deck cards t big d l)
charged_kept extreme t coin table rules cards big l d same None (Some k) = same (slice_index_or rules k no_rule)
charged_kept extreme t coin table rules cards big l d same None None = no_hold_kept t coin table cards big l d

module _ (table : PayTable) (list : RuleList) (big : 52 ≤ table.deck) where
  value_kept : (extreme : (ℕ → ℕ) → List ℕ → ℕ) (t coin : ℕ) (cards : List ℕ) → t < 24 → IsDeal table.deck cards
      → ((rule : Rule) → extreme (value table coin (turn t cards)) (matched table rule (turn t cards)) ≡ extreme (value table coin cards) (matched table rule cards))
      → charged extreme table coin list.rules (representative (turn t cards)) (turn t cards) (excepted list.exceptions (turn t cards)) (deciding table list.rules (turn t cards))
      ≡ charged extreme table coin list.rules (representative cards) cards (excepted list.exceptions cards) (deciding table list.rules cards)
  value_kept extreme t coin cards l d same =
      ap (λ (m : Option ℕ). charged extreme table coin list.rules (representative (turn t cards)) (turn t cards) m (deciding table list.rules (turn t cards))) (excepted_kept t table.deck list.exceptions cards big l d)
      ∙ ap (λ (o : Option ℕ). charged extreme table coin list.rules (representative (turn t cards)) (turn t cards) (excepted list.exceptions cards) o) (deciding_kept t coin table list.rules cards big l d)
      ∙ charged_kept extreme t coin table list.rules cards big l d same (excepted list.exceptions cards) (deciding table list.rules cards)

  pub least_value_kept : (t coin : ℕ) (cards : List ℕ) → t < 24 → IsDeal table.deck cards → least_value table coin list (turn t cards) ≡ least_value table coin list cards
  unfolding least_value
  least_value_kept t coin cards l d = value_kept least t coin cards l d (λ rule. least_matched_kept t coin table rule cards big l d)

  pub greatest_value_kept : (t coin : ℕ) (cards : List ℕ) → t < 24 → IsDeal table.deck cards → greatest_value table coin list (turn t cards) ≡ greatest_value table coin list cards
  unfolding greatest_value
  greatest_value_kept t coin cards l d = value_kept greatest t coin cards l d (λ rule. greatest_matched_kept t coin table rule cards big l d)

  pub lost_kept : (t coin : ℕ) (cards : List ℕ) → t < 24 → IsDeal table.deck cards → lost table coin list (turn t cards) ≡ lost table coin list cards
  unfolding lost
  lost_kept t coin cards l d = rw (best_turned t coin table cards big l d, least_value_kept t coin cards l d) refl

-- a hold that a rule matches has its like in a turned deal, and back
pub allows_kept : (t coin worth : ℕ) (table : PayTable) (rule : Rule) (cards : List ℕ) → 52 ≤ table.deck → t < 24 → IsDeal table.deck cards
    → (Allows table coin rule (turn t cards) worth → Allows table coin rule cards worth) × (Allows table coin rule cards worth → Allows table coin rule (turn t cards) worth)
allows_kept t coin worth table rule cards big l d = (back, forth)
  where
    back : Allows table coin rule (turn t cards) worth → Allows table coin rule cards worth
    back a =
        let c = turned_from 0 t coin table rule cards big l d in
        record { mask = c.to a.mask; low = c.inside a.mask a.low; matched = c.passes a.mask a.low ∙ a.matched; valued = c.worth a.mask a.low ∙ a.valued }

    forth : Allows table coin rule cards worth → Allows table coin rule (turn t cards) worth
    forth a =
        let c = turned_to 0 t coin table rule cards big l d in
        record { mask = c.to a.mask; low = c.inside a.mask a.low; matched = c.passes a.mask a.low ∙ a.matched; valued = c.worth a.mask a.low ∙ a.valued }
