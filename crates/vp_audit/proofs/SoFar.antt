-- The classes so far.
use Rattle.std.proofs.Common.{◌≡◌, ℕ, ◌+◌, ◌*◌, ◌<◌, ◌≤◌, Bool, true, false, cond, List, [], ◌∷◌, ◌++◌, map, length, refl, sym, ap, subst, ◌∙◌, arith, Some, None, Option, inl, inr, append_assoc, length-append}
use Rattle.std.specs.Prelude.{option_to_list, is_some, IfNone, IfSome, position, nat_lt}
use Rattle.std.proofs.Math.Nat.{mul-le-mul_left}
use Rattle.std.proofs.lemmas.Bool.{ltb-true}
use Rattle.std.specs.List.{All, list_any, position_or_len}
use Rattle.std.proofs.lemmas.List.{append-nil}
use Rattle.std.proofs.lemmas.List.Elements.{All-head, All-tail}
use Rattle.vp_card.specs.Rising.{IsRising}
use Rattle.vp_sets.specs.Index.{set_index}
use Rattle.vp_suit.specs.Classes.{IsDeal, is_representative, representative, representatives, weight}
use Rattle.vp_suit.proofs.ClassLaws.{representatives_only, representative_own}
use Rattle.vp_pay.specs.declared.table.PayTable.{PayTable}
use Rattle.vp_draws.specs.Draws.{masks}
use Rattle.vp_rule.specs.Holds.{matches}
use Rattle.vp_rule.specs.Lists.{Exception, RuleList}
use Rattle.vp_rule.specs.Valid.{IsList}
use Rattle.vp_rule.specs.declared.rule.Rule.{Rule}
use Rattle.vp_audit.specs.Values.{excepted, deciding, decision, decided}
use Rattle.vp_audit.specs.Pending.{behind_head, head_mask}
use Rattle.vp_audit.specs.Sums.{added, priced, sums_over}
use Rattle.vp_audit.specs.declared.priced.Priced.{Priced}
use Rattle.vp_audit.specs.declared.priced.Decided.{Decided}
use Rattle.vp_audit.specs.declared.priced.Decided.TheVariants.{Except, ByRule, Nothing}
use Rattle.vp_audit.specs.declared.sums.Sums.{Sums}
use Rattle.vp_audit.proofs.Charges.{excepted_small, priced_le, priced_said}
use Rattle.vp_audit.proofs.Lookups.{OneOf, lookup, Pending, is_head, at_class, head_is}
use Rattle.vp_audit.proofs.SumsMore.{InList, sums_more}

abbrev pub indexes : List (List ℕ) → List ℕ
indexes classes = map (λ cards. set_index cards) classes

-- a class of deals, by its representative
abbrev IsClass : ℕ → List ℕ → Type 0
IsClass n cards = IsDeal n cards × (is_representative cards ≡ true)

pub record SoFar (table : PayTable) (coin : ℕ) (list : RuleList) (left : List (List ℕ)) (ahead : Option Exception) (rest : List Exception) (sums : Sums) (first steps : ℕ) : Type 0 where
  pub seen : List (List ℕ)
  pub all : representatives table.deck ≡ seen ++ left
  pub rising : IsRising (indexes left)
  pub sums_are : sums ≡ sums_over table coin list seen
  pub least_low : sums.least ≤ sums.optimum
  pub greatest_low : sums.greatest ≤ sums.optimum
  pub ended : IfNone ahead (rest ≡ [])
  pub pending : Pending (indexes left) (option_to_list ahead ++ rest)
  pub found : (i : ℕ) → OneOf (indexes left) i → lookup list.exceptions i ≡ lookup (option_to_list ahead ++ rest) i
  pub counted : steps ≡ first + length seen

member_behind : (P : List ℕ → Type 0) (front : List (List ℕ)) (x : List ℕ) (back : List (List ℕ)) → All P (front ++ x ∷ back) → P x
member_behind P [] x back all = All-head P x back all
member_behind P (y ∷ front) x back all = member_behind P front x back (All-tail P y (front ++ x ∷ back) all)

-- a decision by a rule is one by a rule of the list
position_in : {X : Type 0} (p : X → Bool) (xs : List X) → IfSome (position p xs) (λ k. k < length xs)
position_in p xs = at (nat_lt (position_or_len p xs) (length xs)) refl
  where
    at : (b : Bool) → nat_lt (position_or_len p xs) (length xs) ≡ b → IfSome (cond b (Some (position_or_len p xs)) None) (λ k. k < length xs)
    at true is = ltb-true (position_or_len p xs) (length xs) is
    at false is = tt

decision_in : (mask place : Option ℕ) (n : ℕ) → IfSome place (λ k. k < n) → InList (decision mask place) n
decision_in (Some m) place n is = tt
decision_in None None n is = tt
decision_in None (Some k) n is = is

pub decided_in : (table : PayTable) (list : RuleList) (cards : List ℕ) → InList (decided table list cards) (length list.rules)
unfolding decided deciding
decided_in table list cards = decision_in (excepted list.exceptions cards) (deciding table list.rules cards) (length list.rules) (position_in (λ rule. list_any (λ mask. matches table rule cards mask) masks) list.rules)

module _ (table : PayTable) (coin : ℕ) (list : RuleList) (big : 52 ≤ table.deck) where
  module _ (cards : List ℕ) (left more : List (List ℕ)) (ahead : Option Exception) (rest : List Exception) (sums : Sums) (first steps : ℕ) (is : left ≡ cards ∷ more) (before : SoFar table coin list left ahead rest sums first steps) where
    here : SoFar table coin list (cards ∷ more) ahead rest sums first steps
    here = subst (λ (l : List (List ℕ)). SoFar table coin list l ahead rest sums first steps) is before

    class : IsClass table.deck cards
    class = member_behind (IsClass table.deck) here.seen cards more (subst (λ (all : List (List ℕ)). All (IsClass table.deck) all) here.all (representatives_only table.deck))

    own : representative cards ≡ cards
    own = representative_own table.deck cards big class.0 class.1

    -- the next class is one of a deal from the table's deck
    pub next_deal : IsDeal table.deck cards
    next_deal = class.0

    -- the mask of its exception is that of the exception ahead
    mask_is : excepted list.exceptions cards ≡ head_mask ahead cards
    unfolding excepted
    mask_is =
        let at = at_class (set_index cards) (indexes more) (option_to_list ahead ++ rest) here.rising.0 here.pending in
        let head = head_is ahead rest cards here.ended in
        ap (λ (x : List ℕ). lookup list.exceptions (set_index x)) own ∙ (here.found (set_index cards) (inl refl) ∙ (at.here ∙ head.1))

    pub next_mask : (mask : Option ℕ) → IsList table list → mask ≡ head_mask ahead cards → IfSome mask (λ m. m < 32)
    next_mask mask valid em = subst (λ (m : Option ℕ). IfSome m (λ m. m < 32)) (mask_is ∙ sym em) (excepted_small table.deck list.exceptions cards valid.exceptions)

    -- what is added for it is at most its best value
    pub next_le : (mask : Option ℕ) (p : Priced) → IsList table list → mask ≡ head_mask ahead cards → p ≡ priced table coin list.rules mask cards → (p.least ≤ p.best) × (p.greatest ≤ p.best)
    next_le mask p valid em ep = priced_le table coin list.rules mask cards p (next_mask mask valid em) ep

    -- what decides it
    pub next_by : (mask : Option ℕ) (p : Priced) → mask ≡ head_mask ahead cards → p ≡ priced table coin list.rules mask cards → decided table list cards ≡ p.by
    next_by mask p em ep = sym (ap (λ (q : Priced). q.by) (priced_said table coin list mask cards p own (em ∙ sym mask_is) ep))

    -- one class more
    pub next : (ahead2 : Option Exception) (rest2 : List Exception) (mask : Option ℕ) (w : ℕ) (p : Priced) (sums2 : Sums) (steps2 : ℕ)
        → IsList table list → w ≡ weight cards
        → mask ≡ head_mask ahead cards → behind_head (is_some (head_mask ahead cards)) (option_to_list ahead ++ rest) ≡ option_to_list ahead2 ++ rest2 → IfNone ahead2 (rest2 ≡ [])
        → p ≡ priced table coin list.rules mask cards → sums2 ≡ added sums w p → steps2 ≡ steps + 1
        → SoFar table coin list more ahead2 rest2 sums2 first steps2
    next ahead2 rest2 mask w p sums2 steps2 valid ew em eb ended2 ep es ec =
        let at = at_class (set_index cards) (indexes more) (option_to_list ahead ++ rest) here.rising.0 here.pending in
        let head = head_is ahead rest cards here.ended in
        let left_are : behind_head (is_head (option_to_list ahead ++ rest) (set_index cards)) (option_to_list ahead ++ rest) ≡ option_to_list ahead2 ++ rest2 =
        ap (λ b. behind_head b (option_to_list ahead ++ rest)) head.0 ∙ eb in
        let told = priced_said table coin list mask cards p own (em ∙ sym mask_is) ep in
        let le = next_le mask p valid em ep in
        let parts = added_parts sums w p in
        let o : sums2.optimum ≡ sums.optimum + w * p.best = ap (λ (s : Sums). s.optimum) es ∙ parts.0 in
        let l : sums2.least ≡ sums.least + w * p.least = ap (λ (s : Sums). s.least) es ∙ parts.1 in
        let g : sums2.greatest ≡ sums.greatest + w * p.greatest = ap (λ (s : Sums). s.greatest) es ∙ parts.2 in
        let ml : w * p.least ≤ w * p.best = mul-le-mul_left w le.0 in
        let mg : w * p.greatest ≤ w * p.best = mul-le-mul_left w le.1 in
        let many : length (here.seen ++ cards ∷ []) ≡ length here.seen + 1 = length-append here.seen (cards ∷ []) in
        record {
          seen = here.seen ++ cards ∷ [];
          all = here.all ∙ sym (append_assoc here.seen (cards ∷ []) more);
          rising = here.rising.1;
          sums_are = es ∙ ap (λ (s : Sums). added s w p) here.sums_are ∙ sums_more table coin list here.seen cards w p ew told (decided_in table list cards);
          least_low = omega (arith, here.least_low, ml, o, l);
          greatest_low = omega (arith, here.greatest_low, mg, o, g);
          ended = ended2;
          pending = subst (λ (es : List Exception). Pending (indexes more) es) left_are at.next;
          found = λ i one. here.found i (inr one) ∙ (sym (at.same i one) ∙ ap (λ (es : List Exception). lookup es i) left_are);
          counted = omega (arith, here.counted, ec, many);
        }
      where
        added_parts : (sums : Sums) (w : ℕ) (p : Priced) → ((added sums w p).optimum ≡ sums.optimum + w * p.best) × ((added sums w p).least ≡ sums.least + w * p.least) × ((added sums w p).greatest ≡ sums.greatest + w * p.greatest)
        added_parts sums w p = at p.by refl
          where
            at : (by : Decided) → p.by ≡ by → ((added sums w p).optimum ≡ sums.optimum + w * p.best) × ((added sums w p).least ≡ sums.least + w * p.least) × ((added sums w p).greatest ≡ sums.greatest + w * p.greatest)
            at Except e = rw e (refl, refl, refl)
            at (ByRule i) e = rw e (refl, refl, refl)
            at Nothing e = rw e (refl, refl, refl)

  -- all classes
  pub end : (left : List (List ℕ)) (ahead : Option Exception) (rest : List Exception) (sums : Sums) (first steps : ℕ) → left ≡ [] → SoFar table coin list left ahead rest sums first steps
      → (sums ≡ sums_over table coin list (representatives table.deck)) × (steps ≡ first + length (representatives table.deck))
  end left ahead rest sums first steps is so =
      let whole : so.seen ≡ representatives table.deck = sym (so.all ∙ (ap (λ (l : List (List ℕ)). so.seen ++ l) is ∙ append-nil so.seen)) in
      (so.sums_are ∙ ap (λ (seen : List (List ℕ)). sums_over table coin list seen) whole, so.counted ∙ ap (λ (seen : List (List ℕ)). first + length seen) whole)

-- what is said of a hand, where the table, the bet, the rules and the hand are these
pub priced_at : (t1 t2 : PayTable) (c1 c2 : ℕ) (r1 r2 : List Rule) (mask : Option ℕ) (h1 h2 : List ℕ) (p : Priced) → t1 ≡ t2 → c1 ≡ c2 → r1 ≡ r2 → h1 ≡ h2 → p ≡ priced t1 c1 r1 mask h1 → p ≡ priced t2 c2 r2 mask h2
priced_at t1 t2 c1 c2 r1 r2 mask h1 h2 p t c r h is = is ∙ rw (t, c, r, h) refl
