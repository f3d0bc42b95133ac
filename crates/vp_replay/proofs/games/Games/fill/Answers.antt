use Rattle.std.proofs.Common.{lit<, arith}
use Rattle.vp_replay.proofs.ColumnLaws.{count_is}
use Rattle.vp_replay.proofs.games.Games.fill.Goals as goal

pub push-requires : goal.push-requires
push-requires g c =
    let count = count_is c.args.table.now c.loop-column.games.items c.loop-column.column c.loop-column.invariant.games in
    (lit< tt, omega (arith, count, c.loop-column-test.true, c.requires.table.most_coins))
