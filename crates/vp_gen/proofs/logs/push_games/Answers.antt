use Rattle.std.proofs.Common.{◌∙◌, arith}
use Rattle.vp_gen.proofs.Lines.{funds_left, last_game, next_game}
use Rattle.vp_gen.proofs.logs.push_games.Goals as goal

pub games-preserved : goal.games-preserved
games-preserved g c =
    let i = c.games.invariant in
    let made = c.make_event-event.ensures in
    record {
      so_far = next_game _ _ _ _ _ _ _ c.games.text.items c.append.new.text.items _ c.games-test.true made.made i.so_far c.in_ok-append.ensures.line;
      funds = funds_left _ _ _ _ c.games-test.true i.funds made.least;
      small = omega (arith, i.small, made.most, c.games-test.true);
      payments = made.same ∙ i.payments;
    }

pub returns : goal.returns
returns g c = last_game _ _ _ _ _ _ _ c.games-test.false c.games.invariant.so_far
