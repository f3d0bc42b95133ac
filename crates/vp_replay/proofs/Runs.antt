-- The laws of games, game by game.
use Rattle.std.proofs.Common.{◌≡◌, ℕ, ◌+◌, ◌-◌, ◌≤◌, true, false, not, List, [], ◌∷◌, refl, sym, ◌∙◌, arith, Some, None}
use Rattle.std.specs.Prelude.{Option, ◌||◌, ◌==◌, nat_lt}
use Rattle.std.proofs.lemmas.Bool.{eqb-true, le-ltb, ltb-false, not-false}
use Rattle.vp_pay.specs.declared.table.PayTable.{PayTable}
use Rattle.vp_loggram.specs.declared.event.Event.{Event}
use Rattle.vp_answer.specs.Firsts.{first_of}
use Rattle.vp_answer.proofs.Firsts.{first_none, none_first, rest_none}
use Rattle.vp_replay.specs.declared.rule.Breach.{Breach}
use Rattle.vp_replay.specs.declared.rule.Broken.{Broken}
use Rattle.vp_replay.specs.declared.rule.LogRule.TheVariants.{Bet, Funds, Pay, Credits}
use Rattle.vp_replay.specs.Rules.{bet_breach, break_of, cards_breach, credits_breach, first_break, funds_breach, or_later, paid, pay_breach}
use Rattle.vp_replay.specs.LawfulGames.{AreLawfulGames, IsLawfulGame}
use Rattle.vp_replay.proofs.LawfulCards.{kept_cards, kept_if, lawful_cards, or_first, or_second, right_count, unbroken}

-- ---- one more game

later_same : (o : Option Breach) (game : ℕ) (more : Option Broken) (b : Broken) → or_later o game None ≡ Some b → or_later o game more ≡ Some b
later_same None game more b is = absurd cc
later_same (Some breach) game more b is = is

unbroken_game : (o : Option Breach) (game : ℕ) (more : Option Broken) → or_later o game None ≡ None → or_later o game more ≡ more
unbroken_game None game more is = refl
unbroken_game (Some breach) game more is = absurd cc

pub stops_game : (table : PayTable) (game credits : ℕ) (all rest : List Event) (e : Event) (b : Broken) (x : Option Broken) → all ≡ e ∷ rest → or_later (break_of table credits e) game None ≡ Some b
    → first_break table game credits all ≡ x → x ≡ Some b
unfolding first_break
stops_game table game credits all rest e b x split bad is = sym is ∙ rw split (later_same (break_of table credits e) game _ b bad)

pub goes_game : (table : PayTable) (game credits : ℕ) (all rest : List Event) (e : Event) (x : Option Broken) → all ≡ e ∷ rest → or_later (break_of table credits e) game None ≡ None
    → first_break table game credits all ≡ x → first_break table (game + 1) e.credits rest ≡ x
unfolding first_break
goes_game table game credits all rest e x split fine is = sym (unbroken_game (break_of table credits e) game (first_break table (game + 1) e.credits rest) fine) ∙ rw split at is

pub ends_game : (table : PayTable) (game credits : ℕ) (all : List Event) (x : Option Broken) → all ≡ [] → first_break table game credits all ≡ x → x ≡ None
unfolding first_break
ends_game table game credits all x none is = sym is ∙ rw none refl

-- ---- games that break no law

not_later : (o : Option Breach) (game : ℕ) (more : Option Broken) → or_later o game more ≡ None → (o ≡ None) × (more ≡ None)
not_later None game more e = (refl, e)
not_later (Some b) game more e = absurd cc

-- where no game breaks a law, neither the first does nor a later one
pub next_lawful : (table : PayTable) (game credits : ℕ) (e : Event) (rest : List Event) → first_break table game credits (e ∷ rest) ≡ None
    → (break_of table credits e ≡ None) × (first_break table (game + 1) e.credits rest ≡ None)
unfolding first_break
next_lawful table game credits e rest none = not_later (break_of table credits e) game (first_break table (game + 1) e.credits rest) none

-- a game without a broken law is lawful
pub lawful_game : (table : PayTable) (credits : ℕ) (e : Event) → break_of table credits e ≡ None → IsLawfulGame table credits e
unfolding break_of bet_breach funds_breach pay_breach credits_breach
lawful_game table credits e none =
    let of_bet = bet_breach table e in
    let of_funds = funds_breach credits e in
    let of_cards = cards_breach e in
    let of_pay = pay_breach table e in
    let of_credits = credits_breach credits e in
    let behind_bet : first_of (of_funds ∷ of_cards ∷ of_pay ∷ of_credits ∷ []) ≡ None = rest_none of_bet (of_funds ∷ of_cards ∷ of_pay ∷ of_credits ∷ []) none in
    let behind_funds : first_of (of_cards ∷ of_pay ∷ of_credits ∷ []) ≡ None = rest_none of_funds (of_cards ∷ of_pay ∷ of_credits ∷ []) behind_bet in
    let behind_cards : first_of (of_pay ∷ of_credits ∷ []) ≡ None = rest_none of_cards (of_pay ∷ of_credits ∷ []) behind_funds in
    let behind_pay : first_of (of_credits ∷ []) ≡ None = rest_none of_pay (of_credits ∷ []) behind_cards in
    let range : (nat_lt e.bet 1 || nat_lt table.coins e.bet) ≡ false = unbroken (nat_lt e.bet 1 || nat_lt table.coins e.bet) Bet e.bet table.coins (first_none of_bet (of_funds ∷ of_cards ∷ of_pay ∷ of_credits ∷ []) none) in
    let funds : nat_lt credits e.bet ≡ false = unbroken (nat_lt credits e.bet) Funds e.bet credits (first_none of_funds (of_cards ∷ of_pay ∷ of_credits ∷ []) behind_bet) in
    let pays : (e.pay == paid table e) ≡ true = not-false _ (unbroken (not (e.pay == paid table e)) Pay e.pay (paid table e) (first_none of_pay (of_credits ∷ []) behind_cards)) in
    let left : (e.credits == credits - e.bet + e.pay) ≡ true = not-false _ (unbroken (not (e.credits == credits - e.bet + e.pay)) Credits e.credits (credits - e.bet + e.pay) (first_none of_credits [] behind_pay)) in
    let within : e.bet ≤ credits = ltb-false _ _ funds in
    record {
      event = record {
        bet_from = ltb-false _ _ (or_first (nat_lt e.bet 1) (nat_lt table.coins e.bet) range);
        bet_to = ltb-false _ _ (or_second (nat_lt e.bet 1) (nat_lt table.coins e.bet) range);
        cards = lawful_cards e (first_none of_cards (of_pay ∷ of_credits ∷ []) behind_funds);
        pay = eqb-true _ _ pays;
      };
      funds = within;
      left = omega (arith, eqb-true _ _ left);
    }

-- so are all games without one
pub lawful_games : (table : PayTable) (game credits : ℕ) (events : List Event) → first_break table game credits events ≡ None → AreLawfulGames table credits events
lawful_games table game credits [] none = tt
lawful_games table game credits (e ∷ rest) none =
    let next = next_lawful table game credits e rest none in
    (lawful_game table credits e next.0, lawful_games table (game + 1) e.credits rest next.1)

-- ---- lawful games break no law

right_bet : (bet coins : ℕ) → 1 ≤ bet → bet ≤ coins → (nat_lt bet 1 || nat_lt coins bet) ≡ false
right_bet bet coins from to = rw (le-ltb bet 1 from, le-ltb coins bet to) refl

kept_game : (table : PayTable) (credits : ℕ) (e : Event) → IsLawfulGame table credits e → break_of table credits e ≡ None
unfolding break_of bet_breach funds_breach pay_breach credits_breach
kept_game table credits e l =
    let funds = l.funds in
    let left = l.left in
    let due : e.credits ≡ credits - e.bet + e.pay = omega arith in
    let of_bet : bet_breach table e ≡ None = kept_if _ Bet e.bet table.coins (right_bet e.bet table.coins l.event.bet_from l.event.bet_to) in
    let of_funds : funds_breach credits e ≡ None = kept_if _ Funds e.bet credits (le-ltb credits e.bet funds) in
    let of_cards : cards_breach e ≡ None = kept_cards e l.event.cards in
    let of_pay : pay_breach table e ≡ None = kept_if _ Pay e.pay (paid table e) (right_count e.pay (paid table e) l.event.pay) in
    let of_credits : credits_breach credits e ≡ None = kept_if _ Credits e.credits (credits - e.bet + e.pay) (right_count e.credits (credits - e.bet + e.pay) due) in
    none_first (bet_breach table e) (funds_breach credits e ∷ cards_breach e ∷ pay_breach table e ∷ credits_breach credits e ∷ []) of_bet
    (none_first (funds_breach credits e) (cards_breach e ∷ pay_breach table e ∷ credits_breach credits e ∷ []) of_funds
    (none_first (cards_breach e) (pay_breach table e ∷ credits_breach credits e ∷ []) of_cards
    (none_first (pay_breach table e) (credits_breach credits e ∷ []) of_pay (none_first (credits_breach credits e) [] of_credits refl))))

pub kept_games : (table : PayTable) (game credits : ℕ) (events : List Event) → AreLawfulGames table credits events → first_break table game credits events ≡ None
unfolding first_break
kept_games table game credits [] l = refl
kept_games table game credits (e ∷ rest) l = rw (kept_game table credits e l.0) (kept_games table (game + 1) e.credits rest l.1)
