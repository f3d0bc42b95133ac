-- The games so far: what was put, and what was added up; and what is left of them.
use Rattle.std.proofs.Common.{◌≡◌, ℕ, suc, ◌+◌, ◌*◌, ◌^◌, ◌<◌, ◌≤◌, Bool, true, false, List, [], ◌∷◌, ◌++◌, length, refl, sym, ap, subst, ◌∙◌, arith, None}
use Rattle.std.specs.Prelude.{Result, Ok, Err, IsErr, nat_lt, sum_by, if◌then◌else◌}
use Rattle.std.specs.List.{AllByRecursion}
use Rattle.std.proofs.lemmas.List.Sums.{sum_by-cons}
use Rattle.std.proofs.lemmas.Grind.{flat_map-append}
use Rattle.vp_io.specs.Puts.{Puts}
use Rattle.vp_io.specs.Streams.{Told}
use Rattle.vp_io.specs.declared.fault.WriteFault.{WriteFault}
use Rattle.vp_io.proofs.PutSoFar.{PutSoFar, put_all, put_halted, put_more, put_start}
use Rattle.vp_text.specs.Written.{line_of, written}
use Rattle.vp_card.specs.Cards.{in_order}
use Rattle.vp_pay.specs.declared.table.PayTable.{PayTable}
use Rattle.vp_pay.specs.Table.{IsTable}
use Rattle.vp_draws.proofs.Payments.{pay_le}
use Rattle.vp_loggram.specs.Logs.{IsEvent, IsLog, LogValue, is_of_deck}
use Rattle.vp_loggram.specs.declared.event.Event.{Event}
use Rattle.vp_replay.specs.declared.summary.Summary.{Summary}
use Rattle.vp_replay.specs.Rules.{break_in, first_break, paid}
use Rattle.vp_replay.specs.LawfulGames.{IsLawfulEvent}
use Rattle.vp_replay.specs.Costs.{cost_of}
use Rattle.vp_replay.specs.Adding.{added}
use Rattle.vp_replay.specs.Summaries.{cost_line, cost_lines, last_credits, slip_of, summary_of}
use Rattle.vp_replay.proofs.Runs.{lawful_game, next_lawful}

-- the text of the lines of games, which are counted from this number
abbrev pub lines : PayTable → Bool → ℕ → List Event → List ℕ
lines table show game events = written (cost_lines table show game events)

-- all games but those that are left
pub record SoFar (table : PayTable) (show : Bool) (log : LogValue) (left : List Event) (s : Summary) (old new : Told) : Type 0 where
  pub put : PutSoFar old new (lines table show 1 log.events) (lines table show (s.games + 1) left)
  pub games : s.games + length left ≡ length log.events
  pub bet : s.bet + sum_by (λ e. e.bet) left ≡ sum_by (λ e. e.bet) log.events
  pub pays : s.paid + sum_by (λ e. e.pay) left ≡ sum_by (λ e. e.pay) log.events
  pub credits : last_credits s.credits left ≡ last_credits log.start log.events
  pub slips : s.slips + sum_by (slip_of table) left ≡ sum_by (slip_of table) log.events
  pub loss : s.loss + sum_by (cost_of table) left ≡ sum_by (cost_of table) log.events
  pub lawful : first_break table (s.games + 1) s.credits left ≡ None
  pub each : AllByRecursion (IsEvent table.deck) left
  pub bet_small : s.bet ≤ 5 * s.games
  pub pays_small : s.paid ≤ 500000 * s.games
  pub slips_small : s.slips ≤ s.games
  pub loss_small : s.loss ≤ 2 ^ 64 * s.games

-- nothing was put yet
pub start : (table : PayTable) (show : Bool) (log : LogValue) (left : List Event) (s : Summary) (old : Told) → left ≡ log.events → s ≡ record { games = 0; bet = 0; paid = 0; credits = log.start; slips = 0; loss = 0 }
    → break_in table log ≡ None → IsLog table.deck log → SoFar table show log left s old old
start table show log left s old is zeros lawful grammar = rw (is, zeros) (record {
  put = put_start old (lines table show 1 log.events);
  games = omega arith;
  bet = omega arith;
  pays = omega arith;
  credits = refl;
  slips = omega arith;
  loss = omega arith;
  lawful = lawful;
  each = grammar.events;
  bet_small = omega arith;
  pays_small = omega arith;
  slips_small = omega arith;
  loss_small = omega arith;
})

-- the next game, and that the numbers have room for it
pub record Next (table : PayTable) (e : Event) (s : Summary) : Type 0 where
  pub lawful : IsLawfulEvent table e
  pub deck : is_of_deck table.deck e ≡ true
  pub games : s.games < 67108864
  pub few_coins : e.bet ≤ 5
  pub few_pays : e.pay ≤ 500000
  pub bet : s.bet + e.bet < 2 ^ 64
  pub pays : s.paid + e.pay < 2 ^ 64
  pub slips : s.slips < 67108864
  pub loss : s.loss < 2 ^ 127

slip_small : (b : Bool) → (if b then 1 else 0) ≤ 1
slip_small true = omega arith
slip_small false = omega arith

lines_next : (table : PayTable) (show : Bool) (game : ℕ) (e : Event) (rest : List Event) → lines table show game (e ∷ rest) ≡ written (cost_line show game (cost_of table e)) ++ lines table show (game + 1) rest
unfolding cost_lines
lines_next table show game e rest = flat_map-append line_of (cost_line show game (cost_of table e)) (cost_lines table show (game + 1) rest)

credits_next : (credits : ℕ) (e : Event) (rest : List Event) → last_credits credits (e ∷ rest) ≡ last_credits e.credits rest
unfolding last_credits
credits_next credits e rest = refl

module _ (table : PayTable) (show : Bool) (log : LogValue) (left rest : List Event) (e : Event) (s : Summary) (split : left ≡ e ∷ rest) where
  pub next_game : (old new : Told) → IsTable table → length log.events ≤ 67108864 → SoFar table show log left s old new → Next table e s
  next_game old new is few so =
      let at : first_break table (s.games + 1) s.credits (e ∷ rest) ≡ None = rw split at so.lawful in
      let game = lawful_game table s.credits e (next_lawful table (s.games + 1) s.credits e rest at).0 in
      let most : paid table e ≤ 500000 = pay_le table e.bet (in_order (e.hold.items ++ e.draw.items)) is in
      let first : AllByRecursion (IsEvent table.deck) (e ∷ rest) = subst (λ (es : List Event). AllByRecursion (IsEvent table.deck) es) split so.each in
      let count : length left ≡ suc (length rest) = ap length split in
      let a = so.games in let b = so.bet_small in let c = so.pays_small in let d = so.slips_small in let f = so.loss_small in
      let right = game.event.pay in let to = game.event.bet_to in let coins = is.most_coins in
      record {
        lawful = game.event;
        deck = first.0.cards;
        games = omega arith;
        few_coins = omega arith;
        few_pays = omega arith;
        bet = omega arith;
        pays = omega arith;
        slips = omega arith;
        loss = omega arith;
      }

  -- the line of the game, if it has one, and the lines of the rest
  lines_left : (cost : ℕ) → cost ≡ cost_of table e → lines table show (s.games + 1) left ≡ written (cost_line show (s.games + 1) cost) ++ lines table show (s.games + 1 + 1) rest
  lines_left cost is =
      ap (lines table show (s.games + 1)) split ∙ lines_next table show (s.games + 1) e rest
      ∙ ap (λ (c : ℕ). written (cost_line show (s.games + 1) c) ++ lines table show (s.games + 1 + 1) rest) (sym is)

  -- one more game was put, and added
  pub next : (t : Summary) (cost : ℕ) (old mid new : Told) (one : Result (Unit {0}) WriteFault) (done : Unit {0})
      → IsTable table → length log.events ≤ 67108864 → cost ≡ cost_of table e → cost < 2 ^ 64 → one ≡ Ok done → Puts mid new one (written (cost_line show (s.games + 1) cost)) → t ≡ added s e cost
      → SoFar table show log left s old mid → SoFar table show log rest t old new
  next t cost old mid new one done is few costs small ok put more so =
      let game = next_game old mid is few so in
      let law : first_break table (s.games + 1) s.credits (e ∷ rest) ≡ None = rw split at so.lawful in
      let count : length left ≡ suc (length rest) = ap length split in
      let bets : sum_by (λ e. e.bet) left ≡ e.bet + sum_by (λ e. e.bet) rest = ap (λ (es : List Event). sum_by (λ e. e.bet) es) split ∙ sum_by-cons (λ (e : Event). e.bet) e rest in
      let pay : sum_by (λ e. e.pay) left ≡ e.pay + sum_by (λ e. e.pay) rest = ap (λ (es : List Event). sum_by (λ e. e.pay) es) split ∙ sum_by-cons (λ (e : Event). e.pay) e rest in
      let slip : sum_by (slip_of table) left ≡ slip_of table e + sum_by (slip_of table) rest = ap (λ (es : List Event). sum_by (slip_of table) es) split ∙ sum_by-cons (slip_of table) e rest in
      let lost : sum_by (cost_of table) left ≡ cost_of table e + sum_by (cost_of table) rest = ap (λ (es : List Event). sum_by (cost_of table) es) split ∙ sum_by-cons (cost_of table) e rest in
      let same : (if nat_lt 0 cost then 1 else 0) ≡ slip_of table e = rw costs refl in
      let one_slip = slip_small (nat_lt 0 cost) in
      let a = so.games in let b = so.bet_small in let c = so.pays_small in let d = so.slips_small in let f = so.loss_small in
      let few_coins = game.few_coins in let few_pays = game.few_pays in
      let so_bet = so.bet in let so_pays = so.pays in let so_slips = so.slips in let so_loss = so.loss in
      rw more (record {
        put = put_more (lines_left cost costs) ok put so.put;
        games = omega arith;
        bet = omega arith;
        pays = omega arith;
        credits = sym (credits_next s.credits e rest) ∙ (ap (λ (es : List Event). last_credits s.credits es) (sym split) ∙ so.credits);
        slips = omega arith;
        loss = omega arith;
        lawful = (next_lawful table (s.games + 1) s.credits e rest law).1;
        each = (subst (λ (es : List Event). AllByRecursion (IsEvent table.deck) es) split so.each).1;
        bet_small = omega arith;
        pays_small = omega arith;
        slips_small = omega arith;
        loss_small = omega arith;
      })

  -- where the line of a game was not put whole, all lines were not
  pub stopped : {V F : Type 0} (cost : ℕ) (old mid new : Told) (one : Result (Unit {0}) WriteFault) (w : WriteFault) (result : Result V F)
      → cost ≡ cost_of table e → one ≡ Err w → IsErr result → Puts mid new one (written (cost_line show (s.games + 1) cost))
      → SoFar table show log left s old mid → Puts old new result (lines table show 1 log.events)
  stopped cost old mid new one w result costs err stop put so = put_halted (lines table show (s.games + 1 + 1) rest) (lines_left cost costs) err stop put so.put

nothing_left : (table : PayTable) (show : Bool) (game : ℕ) → lines table show game [] ≡ []
unfolding cost_lines
nothing_left table show game = refl

no_more : (credits : ℕ) → last_credits credits [] ≡ credits
unfolding last_credits
no_more credits = refl

-- all games were put
pub end_put : {U : Type 0} (table : PayTable) (show : Bool) (log : LogValue) (left : List Event) (s : Summary) (old new : Told) (v : U) → left ≡ [] → SoFar table show log left s old new
    → Puts {T = U} {E = WriteFault} old new (Ok v) (lines table show 1 log.events)
end_put table show log left s old new v none so = put_all (ap (lines table show (s.games + 1)) none ∙ nothing_left table show (s.games + 1)) so.put

same_numbers : (s : Summary) (g b p c l x : ℕ) → s.games ≡ g → s.bet ≡ b → s.paid ≡ p → s.credits ≡ c → s.slips ≡ l → s.loss ≡ x → s ≡ record { games = g; bet = b; paid = p; credits = c; slips = l; loss = x }
same_numbers s g b p c l x is_g is_b is_p is_c is_l is_x = rw (← is_g, ← is_b, ← is_p, ← is_c, ← is_l, ← is_x) refl

-- and added up
pub end_added : (table : PayTable) (show : Bool) (log : LogValue) (left : List Event) (s : Summary) (old new : Told) → left ≡ [] → SoFar table show log left s old new → s ≡ summary_of table log
end_added table show log left s old new none so =
    let so2 = subst (λ (es : List Event). SoFar table show log es s old new) none so in
    let g : s.games ≡ length log.events = omega (arith, so2.games) in
    let b : s.bet ≡ sum_by (λ e. e.bet) log.events = omega (arith, so2.bet) in
    let p : s.paid ≡ sum_by (λ e. e.pay) log.events = omega (arith, so2.pays) in
    let c : s.credits ≡ last_credits log.start log.events = sym (no_more s.credits) ∙ so2.credits in
    let l : s.slips ≡ sum_by (slip_of table) log.events = omega (arith, so2.slips) in
    let x : s.loss ≡ sum_by (cost_of table) log.events = omega (arith, so2.loss) in
    same_numbers s (length log.events) (sum_by (λ e. e.bet) log.events) (sum_by (λ e. e.pay) log.events) (last_credits log.start log.events) (sum_by (slip_of table) log.events) (sum_by (cost_of table) log.events) g b p c l x
