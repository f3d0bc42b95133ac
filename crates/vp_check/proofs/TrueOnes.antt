-- What true certificates say of all deals, and the true certificate whose masks are the least best ones.
use Rattle.std.proofs.Common.{◌≡◌, ℕ, ◌+◌, ◌*◌, ◌<◌, ◌≤◌, true, None, List, [], ◌∷◌, length, map, get_or, refl, ap, sym, subst, ◌∙◌, arith}
use Rattle.std.specs.List.{All, sum_by}
use Rattle.std.specs.List.Sorted.{IsStrictlyIncreasing}
use Rattle.std.proofs.lemmas.Bool.Decides.{nat_tests}
use Rattle.std.proofs.lemmas.List.{length-map}
use Rattle.std.proofs.lemmas.List.Elements.{All-head, All-tail, All-map}
use Rattle.std.proofs.lemmas.List.Sums.{sum_by-cons}
use Rattle.vp_pay.specs.declared.table.PayTable.{PayTable}
use Rattle.vp_pay.specs.Bets.{IsBet}
use Rattle.vp_pay.specs.Table.{IsTable}
use Rattle.vp_sets.specs.Index.{set_index}
use Rattle.vp_card.proofs.Rising.{rising_from}
use Rattle.vp_sets.proofs.Colex.{increasing_from}
use Rattle.vp_draws.specs.Draws.{best, least_best, return_denominator, sum_of_best, value}
use Rattle.vp_draws.proofs.Chosen.{least_best_small, least_best_value, value_le_best}
use Rattle.vp_draws.proofs.Bounds.{best_fits, denominator_fits, sum_of_best_fits}
use Rattle.vp_draws.proofs.TurnedValues.{best_by_classes}
use Rattle.vp_suit.specs.Classes.{IsDeal, is_representative, representatives, weight}
use Rattle.vp_suit.proofs.TurnedDraws.{dealt_is}
use Rattle.vp_suit.proofs.Weights.{weight_few}
use Rattle.vp_suit.proofs.ClassLaws.{representatives_only, representatives_rise}
use Rattle.vp_suit.proofs.Cover.{weights_of_all, cover}
use Rattle.vp_check.specs.Certificates.{Certificate, IsCertificate, IsClassLine}
use Rattle.vp_check.specs.EveryDeal.{SumsAllDeals}
use Rattle.vp_check.specs.Rules.{in_range, rows}
use Rattle.vp_check.specs.Truth.{AllWalked, hands, KeepsRules, IsTrueOver, IsTrueCertificate, due_line, due_certificate}
use Rattle.vp_check.specs.declared.class_line.ClassLine.{ClassLine}
use Rattle.vp_check.proofs.KeptRules.{all_kept, kept_all, told_lines, told_rows, places_within, rising_rows, rows_rising}

-- ---- no broken rule is to keep all rules

-- the value of a class line's mask is at most the best
mask_le : (table : PayTable) (coin : ℕ) (line : ClassLine) → IsClassLine table.deck line → value table coin line.hand line.mask ≤ best table coin line.hand
mask_le table coin line is = value_le_best table coin line.hand line.mask is.mask

pub keeps_rules : (from count : ℕ) (c : Certificate) → IsCertificate c → IsTrueOver from count c → KeepsRules from count c
keeps_rules from count c is e =
    let k = all_kept from count c e in
    let masks = told_rows (λ line. value c.table c.coin line.hand line.mask ≤ best c.table c.coin line.hand) 1 None c.classes (λ i d l. mask_le c.table c.coin (get_or c.classes i d) (is.classes i d l)) in
    record {
      least = told_lines (λ line. is_representative line.hand ≡ true) 1 None c.classes (λ i d l. (k.0 i d l).least);
      rising = increasing_from _ (rising_rows 1 None c.classes (λ i d l. (k.0 i d l).above)).0;
      weights = told_lines (λ line. line.weight ≡ weight line.hand) 1 None c.classes (λ i d l. (k.0 i d l).weighs);
      values = λ i d l. (k.0 i d l).worth;
      masks = λ i d l walked. omega (arith, (k.0 i d l).held walked, masks i d l);
      cover = k.1.cover;
      sum = k.1.total;
      denominator = k.1.over;
    }

pub rules_kept : (from count : ℕ) (c : Certificate) → KeepsRules from count c → IsTrueOver from count c
rules_kept from count c k =
    let least = told_rows (λ line. is_representative line.hand ≡ true) 1 None c.classes k.least in
    let above = rows_rising 1 None c.classes (rising_from _ k.rising) tt in
    let weights = told_rows (λ line. line.weight ≡ weight line.hand) 1 None c.classes k.weights in
    kept_all from count c (λ i d l. record {
      least = least i d l;
      above = above i d l;
      weighs = weights i d l;
      worth = k.values i d l;
      held = λ walked. omega (arith, k.masks i d l walked);
    })
    (record { cover = k.cover; total = k.sum; over = k.denominator })

-- ---- where fewer lines are walked, no more is asked

-- what is told of walked lines is told of those lines among them that are walked in another range
walked_fewer : (P : ClassLine → Type 0) (from count first many : ℕ) (lines : List ClassLine)
    → ((place : ℕ) → 1 ≤ place → place ≤ length lines → in_range first many place ≡ true → in_range from count place ≡ true)
    → AllWalked from count P lines → AllWalked first many P lines
walked_fewer P from count first many lines fewer all i d l walked =
    let within = places_within 1 None lines i d l in
    all i d l (fewer (get_or (rows lines) i d).place within.0 (omega (arith, within.1)) walked)

true_fewer : (from count first many : ℕ) (c : Certificate) → IsCertificate c
    → ((place : ℕ) → 1 ≤ place → place ≤ length c.classes → in_range first many place ≡ true → in_range from count place ≡ true)
    → IsTrueOver from count c → IsTrueOver first many c
true_fewer from count first many c is fewer e =
    let k : KeepsRules from count c = keeps_rules from count c is e in
    rules_kept first many c (record {
      least = k.least;
      rising = k.rising;
      weights = k.weights;
      values = walked_fewer (λ line. line.value ≡ best c.table c.coin line.hand) from count first many c.classes fewer k.values;
      masks = walked_fewer (λ line. value c.table c.coin line.hand line.mask ≡ best c.table c.coin line.hand) from count first many c.classes fewer k.masks;
      cover = k.cover;
      sum = k.sum;
      denominator = k.denominator;
    })

walked_there : (from count place many : ℕ) → from ≤ 1 → many < from + count → 1 ≤ place → place ≤ many → in_range from count place ≡ true
walked_there from count place many low high some few = grind (arith, nat_tests)

-- where all class lines are walked, the certificate is true
pub all_walked_true : (from count : ℕ) (c : Certificate) → IsCertificate c → from ≤ 1 → length c.classes < from + count → IsTrueOver from count c → IsTrueCertificate c
all_walked_true from count c is low high =
    true_fewer from count 1 (length c.classes) c is (λ place some few walked. walked_there from count place (length c.classes) low high some few)

-- a true certificate is true over whatever lines are walked
pub true_anywhere : (from count : ℕ) (c : Certificate) → IsCertificate c → IsTrueCertificate c → IsTrueOver from count c
true_anywhere from count c is =
    true_fewer 1 (length c.classes) from count c is (λ place some few walked. walked_there 1 (length c.classes) place (length c.classes) (omega arith) (omega arith) some few)

-- ---- sums over class lines are sums over their cards

sum_same : (f : ClassLine → ℕ) (g : List ℕ → ℕ) (lines : List ClassLine) → All (λ line. f line ≡ g line.hand) lines → sum_by f lines ≡ sum_by g (map (λ line. line.hand) lines)
sum_same f g [] h = refl
sum_same f g (line ∷ lines) h =
    let first : f line ≡ g line.hand = All-head (λ x. f x ≡ g x.hand) line lines h in
    let rest : sum_by f lines ≡ sum_by g (map (λ x. x.hand) lines) = sum_same f g lines (All-tail (λ x. f x ≡ g x.hand) line lines h) in
    let a : sum_by f (line ∷ lines) ≡ f line + sum_by f lines = sum_by-cons f line lines in
    let b : sum_by g (line.hand ∷ map (λ x. x.hand) lines) ≡ g line.hand + sum_by g (map (λ x. x.hand) lines) = sum_by-cons g line.hand (map (λ x. x.hand) lines) in
    omega arith

-- ---- true certificates

-- the class lines of a true certificate are all representatives
pub true_classes : (from count : ℕ) (c : Certificate) → IsCertificate c → KeepsRules from count c → hands c ≡ representatives c.table.deck
true_classes from count c is k =
    let each : All (λ cards. IsDeal c.table.deck cards × (is_representative cards ≡ true)) (hands c) =
    All-map (λ cards. IsDeal c.table.deck cards × (is_representative cards ≡ true)) (λ line. line.hand) c.classes (λ i d l. ((is.classes i d l).deal, k.least i d l)) in
    cover c.table.deck (hands c) is.bet.rules.known_deck.0 (record { each = each; rise = k.rising }) (sym (sum_same (λ line. line.weight) (λ cards. weight cards) c.classes k.weights) ∙ k.cover)

-- what is told of all walked lines, where all are
pub all_walked : (P : ClassLine → Type 0) (lines : List ClassLine) → AllWalked 1 (length lines) P lines → All P lines
all_walked P lines all =
    let within = places_within 1 None lines in
    told_lines P 1 None lines (λ i d l. all i d l (walked_there 1 (length lines) (get_or (rows lines) i d).place (length lines) (omega arith) (omega arith) (within i d l).0 (omega (arith, (within i d l).1))))

walked_all : (P : ClassLine → Type 0) (from count : ℕ) (lines : List ClassLine) → All P lines → AllWalked from count P lines
walked_all P from count lines all i d l walked = told_rows P 1 None lines all i d l

true_sum : (c : Certificate) → IsCertificate c → KeepsRules 1 (length c.classes) c → c.sum ≡ sum_of_best c.table c.coin
true_sum c is k =
    let worth : All (λ line. line.value ≡ best c.table c.coin line.hand) c.classes = all_walked (λ line. line.value ≡ best c.table c.coin line.hand) c.classes k.values in
    let products : All (λ line. line.weight * line.value ≡ weight line.hand * best c.table c.coin line.hand) c.classes =
    λ i d l. ap (λ w. w * (get_or c.classes i d).value) (k.weights i d l) ∙ ap (λ v. weight (get_or c.classes i d).hand * v) (worth i d l) in
    k.sum
    ∙ sum_same (λ line. line.weight * line.value) (λ cards. weight cards * best c.table c.coin cards) c.classes products
    ∙ ap (λ (x : List (List ℕ)). sum_by (λ cards. weight cards * best c.table c.coin cards) x) (true_classes 1 (length c.classes) c is k)
    ∙ best_by_classes c.coin c.table is.bet.rules.known_deck.0

pub sums_all_deals : (c : Certificate) → IsCertificate c → IsTrueCertificate c → SumsAllDeals c
sums_all_deals c is e =
    let k : KeepsRules 1 (length c.classes) c = keeps_rules 1 (length c.classes) c is e in
    record { classes = true_classes 1 (length c.classes) c is k; sum = true_sum c is k; denominator = k.denominator }

-- ---- the true certificate with the least best masks

due_class_line : (table : PayTable) (coin : ℕ) (cards : List ℕ) → IsTable table → IsDeal table.deck cards → IsClassLine table.deck (due_line table coin cards)
unfolding due_line
due_class_line table coin cards t d = record {
  deal = d;
  some_weight = (weight_few cards).0;
  most_weight = (weight_few cards).1;
  mask = least_best_small table coin cards;
  value = best_fits table coin cards t (dealt_is table.deck cards d);
}

pub due_is_certificate : (table : PayTable) (coin : ℕ) → IsBet table coin → IsCertificate (due_certificate table coin)
unfolding due_certificate return_denominator
due_is_certificate table coin bet = record {
  bet = bet;
  classes = All-map (IsClassLine table.deck) (due_line table coin) (representatives table.deck) (λ i d l. due_class_line table coin (get_or (representatives table.deck) i d) bet.rules (representatives_only table.deck i d l).0);
  most_classes = omega (arith, length-map (representatives table.deck) (due_line table coin));
  sum = sum_of_best_fits table coin bet.rules;
  denominator = denominator_fits table.deck coin bet.rules.known_deck (omega (arith, bet.within, bet.rules.most_coins));
}

due_hands : (table : PayTable) (coin : ℕ) (rs : List (List ℕ)) → map (λ line. line.hand) (map (due_line table coin) rs) ≡ rs
unfolding due_line
due_hands table coin [] = refl
due_hands table coin (r ∷ rs) = ap (λ (x : List (List ℕ)). r ∷ x) (due_hands table coin rs)

-- what holds of each due line
due_lines : (P : ClassLine → Type 0) (table : PayTable) (coin : ℕ) → ((cards : List ℕ) → IsDeal table.deck cards → is_representative cards ≡ true → P (due_line table coin cards)) → All P (map (due_line table coin) (representatives table.deck))
due_lines P table coin h = All-map P (due_line table coin) (representatives table.deck) (λ i d l. let r = representatives_only table.deck i d l in h (get_or (representatives table.deck) i d) r.0 r.1)

due_weights : (table : PayTable) (coin : ℕ) → All (λ line. line.weight ≡ weight line.hand) (map (due_line table coin) (representatives table.deck))
unfolding due_line
due_weights table coin = due_lines (λ line. line.weight ≡ weight line.hand) table coin (λ cards d s. refl)

due_products : (table : PayTable) (coin : ℕ) → All (λ line. line.weight * line.value ≡ weight line.hand * best table coin line.hand) (map (due_line table coin) (representatives table.deck))
unfolding due_line
due_products table coin = due_lines (λ line. line.weight * line.value ≡ weight line.hand * best table coin line.hand) table coin (λ cards d s. refl)

due_keeps : (from count : ℕ) (table : PayTable) (coin : ℕ) → IsTable table → KeepsRules from count (due_certificate table coin)
unfolding due_certificate due_line
due_keeps from count table coin t =
    let lines : List ClassLine = map (due_line table coin) (representatives table.deck) in
    let back : map (λ line. line.hand) lines ≡ representatives table.deck = due_hands table coin (representatives table.deck) in
    record {
      least = due_lines (λ line. is_representative line.hand ≡ true) table coin (λ cards d s. s);
      rising = subst (λ (x : List (List ℕ)). IsStrictlyIncreasing (map set_index x)) (sym back) (representatives_rise table.deck);
      weights = due_weights table coin;
      values = walked_all (λ line. line.value ≡ best table coin line.hand) from count lines (due_lines (λ line. line.value ≡ best table coin line.hand) table coin (λ cards d s. refl));
      masks = walked_all (λ line. value table coin line.hand line.mask ≡ best table coin line.hand) from count lines (due_lines (λ line. value table coin line.hand line.mask ≡ best table coin line.hand) table coin (λ cards d s. least_best_value table coin cards));
      cover = sum_same (λ line. line.weight) (λ cards. weight cards) lines (due_weights table coin) ∙ ap (λ (x : List (List ℕ)). sum_by (λ cards. weight cards) x) back ∙ weights_of_all table.deck t.known_deck.0;
      sum = sym (sum_same (λ line. line.weight * line.value) (λ cards. weight cards * best table coin cards) lines (due_products table coin) ∙ ap (λ (x : List (List ℕ)). sum_by (λ cards. weight cards * best table coin cards) x) back ∙ best_by_classes coin table t.known_deck.0);
      denominator = refl;
    }

pub due_is_true : (table : PayTable) (coin : ℕ) → IsTable table → IsTrueCertificate (due_certificate table coin)
due_is_true table coin t = rules_kept 1 (length (due_certificate table coin).classes) (due_certificate table coin) (due_keeps 1 (length (due_certificate table coin).classes) table coin t)

-- ---- there is no other

line_of : List ℕ → ℕ → ℕ → ℕ → ClassLine
line_of hand weight mask value = record { hand = hand; weight = weight; mask = mask; value = value }

due_line_only : (table : PayTable) (coin : ℕ) (line : ClassLine) → line.weight ≡ weight line.hand → line.mask ≡ least_best table coin line.hand → line.value ≡ best table coin line.hand → line ≡ due_line table coin line.hand
unfolding due_line line_of
due_line_only table coin line w m v =
    ap (λ x. line_of line.hand x line.mask line.value) w
    ∙ ap (λ x. line_of line.hand (weight line.hand) x line.value) m
    ∙ ap (λ x. line_of line.hand (weight line.hand) (least_best table coin line.hand) x) v

due_lines_only : (table : PayTable) (coin : ℕ) (lines : List ClassLine) → All (λ line. line.weight ≡ weight line.hand) lines → All (λ line. line.mask ≡ least_best table coin line.hand) lines
    → All (λ line. line.value ≡ best table coin line.hand) lines → lines ≡ map (due_line table coin) (map (λ line. line.hand) lines)
due_lines_only table coin [] w m v = refl
due_lines_only table coin (line ∷ lines) w m v =
    let first : line ≡ due_line table coin line.hand =
    due_line_only table coin line (All-head (λ x. x.weight ≡ weight x.hand) line lines w) (All-head (λ x. x.mask ≡ least_best table coin x.hand) line lines m) (All-head (λ x. x.value ≡ best table coin x.hand) line lines v) in
    let rest : lines ≡ map (due_line table coin) (map (λ x. x.hand) lines) =
    due_lines_only table coin lines (All-tail (λ x. x.weight ≡ weight x.hand) line lines w) (All-tail (λ x. x.mask ≡ least_best table coin x.hand) line lines m) (All-tail (λ x. x.value ≡ best table coin x.hand) line lines v) in
    ap (λ (x : ClassLine). x ∷ lines) first ∙ ap (λ (x : List ClassLine). due_line table coin line.hand ∷ x) rest

certificate_with : PayTable → ℕ → List ClassLine → ℕ → ℕ → Certificate
certificate_with table coin classes sum denominator = record { table = table; coin = coin; classes = classes; sum = sum; denominator = denominator }

own_due : (c : Certificate) → IsCertificate c → IsTrueCertificate c → All (λ line. line.mask ≡ least_best c.table c.coin line.hand) c.classes → c ≡ due_certificate c.table c.coin
unfolding due_certificate certificate_with
own_due c is e masks =
    let k : KeepsRules 1 (length c.classes) c = keeps_rules 1 (length c.classes) c is e in
    let lines : c.classes ≡ map (due_line c.table c.coin) (representatives c.table.deck) =
    due_lines_only c.table c.coin c.classes k.weights masks (all_walked (λ line. line.value ≡ best c.table c.coin line.hand) c.classes k.values)
    ∙ ap (λ (x : List (List ℕ)). map (due_line c.table c.coin) x) (true_classes 1 (length c.classes) c is k) in
    ap (λ (x : List ClassLine). certificate_with c.table c.coin x c.sum c.denominator) lines
    ∙ ap (λ x. certificate_with c.table c.coin (map (due_line c.table c.coin) (representatives c.table.deck)) x c.denominator) (true_sum c is k)
    ∙ ap (λ x. certificate_with c.table c.coin (map (due_line c.table c.coin) (representatives c.table.deck)) (sum_of_best c.table c.coin) x) k.denominator

pub due_only : (table : PayTable) (coin : ℕ) (c : Certificate) → IsCertificate c → IsTrueCertificate c → c.table ≡ table → c.coin ≡ coin
    → All (λ line. line.mask ≡ least_best table coin line.hand) c.classes → c ≡ due_certificate table coin
due_only table coin c is e same_table same_coin masks =
    let here : All (λ line. line.mask ≡ least_best c.table coin line.hand) c.classes = subst (λ (t : PayTable). All (λ line. line.mask ≡ least_best t coin line.hand) c.classes) (sym same_table) masks in
    let own : All (λ line. line.mask ≡ least_best c.table c.coin line.hand) c.classes = subst (λ (x : ℕ). All (λ line. line.mask ≡ least_best c.table x line.hand) c.classes) (sym same_coin) here in
    own_due c is e own ∙ ap (λ (t : PayTable). due_certificate t c.coin) same_table ∙ ap (λ (x : ℕ). due_certificate table x) same_coin
