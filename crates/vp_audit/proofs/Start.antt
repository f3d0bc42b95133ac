-- Before the first class.
use Rattle.std.proofs.Common.{◌≡◌, ℕ, zero, suc, ◌+◌, ◌≤◌, List, [], ◌∷◌, ◌++◌, map, length, refl, sym, ap, subst, ◌∙◌, arith, Some, None, Option, inl, inr, append_assoc, replicate}
use Rattle.std.specs.Prelude.{option_to_list, IfNone}
use Rattle.std.specs.List.{All, AllByRecursion, Contains, range_with_len}
use Rattle.std.proofs.lemmas.List.Elements.{All-head, All-tail, All-contains, All-from_recursion}
use Rattle.std.specs.List.Sorted.{IsStrictlyIncreasing}
use Rattle.vp_card.proofs.Rising.{rising_from}
use Rattle.vp_sets.specs.Index.{set_index}
use Rattle.vp_suit.specs.Classes.{representatives}
use Rattle.vp_suit.proofs.ClassLaws.{representative_own, representatives_all, representatives_rise}
use Rattle.vp_pay.specs.declared.table.PayTable.{PayTable}
use Rattle.vp_rule.specs.Lists.{Exception, RuleList}
use Rattle.vp_rule.specs.Valid.{IsException, IsList}
use Rattle.vp_audit.specs.Sums.{no_sums, no_tally, sums_over, tally_over}
use Rattle.vp_audit.specs.declared.audited.Tally.{Tally}
use Rattle.vp_audit.specs.declared.priced.Decided.TheVariants.{ByRule}
use Rattle.vp_audit.specs.declared.sums.Sums.{Sums}
use Rattle.vp_audit.proofs.Lookups.{OneOf, keys, lookup, Pending}
use Rattle.vp_audit.proofs.SoFar.{SoFar, indexes}
use Rattle.vp_audit.proofs.SumsMore.{sums_is}

all_none : (f : ℕ → Tally) (a n : ℕ) → ((i : ℕ) → f i ≡ no_tally) → map f (range_with_len a n) ≡ replicate n no_tally
all_none f a zero is = refl
all_none f a (suc n) is = ap (λ (t : Tally). t ∷ map f (range_with_len (a + 1) n)) (is a) ∙ ap (λ (ts : List Tally). no_tally ∷ ts) (all_none f (a + 1) n is)

-- the sums over no class
none_seen : (table : PayTable) (coin : ℕ) (list : RuleList) → no_sums (length list.rules) ≡ sums_over table coin list []
unfolding sums_over tally_over
none_seen table coin list = sums_is _ _ _ _ _ _ _ _ _ _ _ _ _ _ refl refl refl refl refl (sym (all_none (λ i. tally_over table coin list [] (ByRule i)) 0 (length list.rules) (λ i. refl))) refl

one_behind : (front : List (List ℕ)) (x : List ℕ) (xs : List (List ℕ)) → OneOf (indexes (front ++ x ∷ xs)) (set_index x)
one_behind [] x xs = inl refl
one_behind (y ∷ front) x xs = inr (one_behind front x xs)

all_one : (front xs : List (List ℕ)) → AllByRecursion (λ y. OneOf (indexes (front ++ xs)) (set_index y)) xs
all_one front [] = tt
all_one front (x ∷ xs) = (one_behind front x xs, subst (λ (all : List (List ℕ)). AllByRecursion (λ y. OneOf (indexes all) (set_index y)) xs) (append_assoc front (x ∷ []) xs) (all_one (front ++ x ∷ []) xs))

-- each exception is of a class
among : (n : ℕ) (es : List Exception) → 52 ≤ n → All (IsException n) es → AllByRecursion (OneOf (indexes (representatives n))) (keys es)
among n [] big all = tt
among n (e ∷ es) big all =
    let is : IsException n e = All-head (IsException n) e es all in
    let there : Contains (representatives n) e.0 = subst (λ (x : List ℕ). Contains (representatives n) x) (representative_own n e.0 big is.deal is.representative) (representatives_all n e.0 big is.deal) in (
      All-contains (λ y. OneOf (indexes (representatives n)) (set_index y)) (representatives n) e.0 (All-from_recursion (λ y. OneOf (indexes (representatives n)) (set_index y)) (representatives n) (all_one [] (representatives n))) there,
      among n es big (All-tail (IsException n) e es all),
    )

ended_is : (ahead : Option Exception) (rest es : List Exception) → es ≡ option_to_list ahead ++ rest → IfNone ahead (es ≡ []) → IfNone ahead (rest ≡ [])
ended_is None rest es is none = sym is ∙ none
ended_is (Some e) rest es is none = tt

pub start : (table : PayTable) (coin : ℕ) (list : RuleList) (left : List (List ℕ)) (ahead : Option Exception) (es rest : List Exception) (k : ℕ) (sums : Sums) (first : ℕ)
    → 52 ≤ table.deck → IsList table list → left ≡ representatives table.deck → es ≡ list.exceptions → es ≡ option_to_list ahead ++ rest → IfNone ahead (es ≡ []) → k ≡ length list.rules → sums ≡ no_sums k
    → SoFar table coin list left ahead rest sums first first
start table coin list left ahead es rest k sums first big valid is ees given none ek er =
    let split : list.exceptions ≡ option_to_list ahead ++ rest = sym ees ∙ given in
    let zero_least : sums.least ≡ 0 = ap (λ (s : Sums). s.least) er in
    let zero_greatest : sums.greatest ≡ 0 = ap (λ (s : Sums). s.greatest) er in
    record {
      seen = [];
      all = sym is;
      rising = rising_from (indexes left) (subst (λ (l : List (List ℕ)). IsStrictlyIncreasing (indexes l)) (sym is) (representatives_rise table.deck));
      sums_are = er ∙ (ap (λ (n : ℕ). no_sums n) ek ∙ none_seen table coin list);
      least_low = omega (arith, zero_least);
      greatest_low = omega (arith, zero_greatest);
      ended = ended_is ahead rest es given none;
      pending = subst (λ (es : List Exception). Pending (indexes left) es) split (record { rising = valid.rising; among = subst (λ (l : List (List ℕ)). AllByRecursion (OneOf (indexes l)) (keys list.exceptions)) (sym is) (among table.deck list.exceptions big valid.exceptions) });
      found = λ i one. ap (λ (es : List Exception). lookup es i) split;
      counted = omega arith;
    }
