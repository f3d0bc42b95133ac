use Rattle.std.proofs.Common.{◌≡◌, ◌*◌, ◌++◌, ◌∙◌, [], ℕ, ap, arith, length, refl, map}
use Rattle.std.specs.Prelude.{codes}
use Rattle.vp_text.specs.Written.{line_of, written}
use Rattle.vp_loggram.specs.Spelling.{event_words, key_number}
use Rattle.vp_gen.specs.Generator.{games_from}
use Rattle.vp_pay.specs.Bets.{IsBet}
use Rattle.vp_gen.proofs.Accepted.{accepted}
use Rattle.vp_gen.proofs.Lines.{whole_log}
use Rattle.vp_gen.proofs.logs.log_of.Goals as goal

pub returns-clause-text : goal.returns-clause-text
returns-clause-text g c =
    let start : c.from.result * c.from-2.result ≡ c.args.game.now.coin * c.args.games = rw (c.from.ensures, c.from-2.ensures, c.coin-coin.ensures.coin) refl in
    let first : c.append_start.new.text.items ≡ [] ++ line_of (key_number (codes "log") (c.args.game.now.coin * c.args.games)) =
    c.in_ok-append_start.ensures.line ∙ rw (start, c.new-text.ensures.items) refl in
    let games = c.args.game.now in
    let second : c.push_games.new.text.items ≡ c.append_start.new.text.items ++ written (map event_words (games_from games.table games.coin (games.coin * c.args.games) c.args.seed c.args.games)) =
    rw start at c.in_ok-push_games.ensures in
    whole_log games.table games.coin c.args.seed c.args.games c.append_start.new.text.items c.push_games.new.text.items _ first second c.in_ok-append_end.ensures.line

pub returns-clause-fits : goal.returns-clause-fits
returns-clause-fits g c =
    let bet : IsBet c.args.game.now.table c.args.game.now.coin = record { rules = c.table-table.ensures.rules; some = c.coin-coin.ensures.coin_from; within = c.coin-coin.ensures.coin_to } in
    let is = accepted c.args.game.now.table c.args.game.now.coin c.args.seed c.args.games bet c.requires.most in
    omega (arith, ap {B = ℕ} length (returns-clause-text g c), is.fits)
