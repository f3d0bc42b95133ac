-- What a true certificate says of a class holds of every deal of it: values are kept by the turns of the suits.
use Rattle.std.proofs.Common.{◌≡◌, ℕ, zero, suc, ◌*◌, ◌<◌, ◌≤◌, List, [], ◌∷◌, length, map, get_or, refl, sym, ap, subst, ◌∙◌, arith}
use Rattle.std.specs.List.{All, Contains}
use Rattle.std.proofs.lemmas.List.Elements.{All-contains}
use Rattle.vp_draws.specs.Draws.{best, value}
use Rattle.vp_pay.specs.Bets.{IsBet}
use Rattle.vp_pay.specs.declared.table.PayTable.{PayTable}
use Rattle.vp_draws.proofs.Chosen.{value_le_best}
use Rattle.vp_draws.proofs.Values.{value_mean}
use Rattle.vp_sets.specs.Draws.{draws}
use Rattle.vp_suit.proofs.TurnedDraws.{dealt_is}
use Rattle.vp_draws.proofs.TurnedValues.{best_from, best_turned, carried_from}
use Rattle.vp_suit.specs.Classes.{IsDeal, least_turn, representative, representatives}
use Rattle.vp_suit.specs.Turns.{turn}
use Rattle.vp_suit.proofs.ClassLaws.{representatives_all}
use Rattle.vp_suit.proofs.Deals.{deal_rises}
use Rattle.vp_suit.proofs.Representatives.{represented}
use Rattle.vp_check.specs.Certificates.{Certificate, IsCertificate, IsClassLine}
use Rattle.vp_check.specs.EveryDeal.{PrintedHold, PrintsBest, TellsEveryDeal, TellsWalkedDeals}
use Rattle.vp_check.specs.Rules.{rows}
use Rattle.vp_check.specs.Truth.{IsTrueCertificate, IsTrueOver, KeepsRules, due_certificate, hands}
use Rattle.vp_check.specs.declared.class_line.ClassLine.{ClassLine}
use Rattle.vp_check.proofs.TrueOnes.{all_walked, due_is_certificate, due_is_true, keeps_rules, sums_all_deals, true_classes}

-- a member of what is made of all was made of a member
record MadeFrom {A B : Type 0} (f : A → B) (xs : List A) (y : B) : Type 0 where
  from : A
  listed : Contains xs from
  is : f from ≡ y

made_from : {A B : Type 0} (f : A → B) (xs : List A) (y : B) → Contains (map f xs) y → MadeFrom f xs y
made_from f [] y (k, inside, is) = absurd (omega arith)
made_from f (x ∷ xs) y (zero, inside, is) = record { from = x; listed = (zero, omega arith, refl); is = is }
made_from f (x ∷ xs) y (suc k, inside, is) =
    let rest = made_from f xs y (k, omega arith, is) in
    record { from = rest.from; listed = (suc rest.listed.0, omega (arith, rest.listed.1), rest.listed.2); is = rest.is }

-- the line of a deal's class is listed, and some hold of the deal is carried to its mask
every_deal : (c : Certificate) (cards : List ℕ) → IsCertificate c → hands c ≡ representatives c.table.deck → IsDeal c.table.deck cards → PrintedHold c cards
unfolding representative
every_deal c cards grammar classes deal =
    let turns = (represented cards (deal_rises c.table.deck cards deal)).inside in
    let there : Contains (hands c) (representative cards) =
    subst (λ (all : List (List ℕ)). Contains all (representative cards)) (sym classes) (representatives_all c.table.deck cards grammar.bet.rules.known_deck.0 deal) in
    let made = made_from (λ (line : ClassLine). line.hand) c.classes (representative cards) there in
    let small : made.from.mask < 32 = (All-contains (IsClassLine c.table.deck) c.classes made.from grammar.classes made.listed).mask in
    let from = carried_from c.table.deck (least_turn cards) made.from.mask cards turns deal small in
    record {
      mask = from.0;
      within = from.1;
      line = made.from;
      printed = record { listed = made.listed; turning = least_turn cards; within = turns; deal = made.is; hold = from.2 };
    }

-- each printed hold of a line with the best value and a best mask is best, and worth what the line says
printed_best : (c : Certificate) (line : ClassLine) → IsCertificate c → line.value ≡ best c.table c.coin line.hand → value c.table c.coin line.hand line.mask ≡ best c.table c.coin line.hand → PrintsBest c line
printed_best c line grammar worth held cards mask deal small printed =
    let t : ℕ = printed.turning in
    let turned : value c.table c.coin (turn t cards) line.mask ≡ best c.table c.coin (turn t cards) =
    subst (λ (x : List ℕ). value c.table c.coin x line.mask ≡ best c.table c.coin x) printed.deal held in
    let is : value c.table c.coin cards mask ≡ best c.table c.coin cards =
    best_from t mask c.coin c.table cards grammar.bet.rules.known_deck.0 printed.within deal (ap (λ m. value c.table c.coin (turn t cards) m) printed.hold ∙ turned) in
    let said : line.value ≡ best c.table c.coin cards = worth ∙ ap (best c.table c.coin) printed.deal ∙ best_turned t c.coin c.table cards grammar.bet.rules.known_deck.0 printed.within deal in
    let draws_of = value_mean c.table c.coin cards mask grammar.bet.rules (dealt_is c.table.deck cards deal) in
    record { said_value = is ∙ sym said; mean = ap (λ v. v * length (draws c.table.deck cards mask)) (said ∙ sym is) ∙ draws_of; greatest = λ other least. subst (λ v. value c.table c.coin cards other ≤ v) (sym is) (value_le_best c.table c.coin cards other least) }

-- a certificate that is true over the walked lines tells the deals of their classes
pub walked_tell : (from count : ℕ) (c : Certificate) → IsCertificate c → IsTrueOver from count c → TellsWalkedDeals from count c
walked_tell from count c grammar true_over =
    let keeps : KeepsRules from count c = keeps_rules from count c grammar true_over in
    record {
      every = λ cards deal. every_deal c cards grammar (true_classes from count c grammar keeps) deal;
      holds = λ i d l walked. printed_best c (get_or (rows c.classes) i d).line grammar (keeps.values i d l walked) (keeps.masks i d l walked);
    }

-- a true certificate tells every deal
pub true_tells : (c : Certificate) → IsCertificate c → IsTrueCertificate c → TellsEveryDeal c
true_tells c grammar true_one =
    let tells : TellsWalkedDeals 1 (length c.classes) c = walked_tell 1 (length c.classes) c grammar true_one in
    let all : All (PrintsBest c) c.classes = all_walked (PrintsBest c) c.classes tells.holds in
    record {
      every = tells.every;
      holds = λ cards mask line deal small printed. All-contains (PrintsBest c) c.classes line all printed.listed cards mask deal small printed;
      sums = sums_all_deals c grammar true_one;
    }

-- the true certificate with the least best masks tells every deal
pub due_tells : (table : PayTable) (coin : ℕ) → IsBet table coin → TellsEveryDeal (due_certificate table coin)
due_tells table coin bet = true_tells (due_certificate table coin) (due_is_certificate table coin bet) (due_is_true table coin bet.rules)
