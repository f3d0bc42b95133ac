use Rattle.std.proofs.Common.{◌≡◌, ◌<◌, length, arith, sym, ap, ◌∙◌}
use Rattle.std.proofs.lemmas.List.Edits.{map_over_more}
use Rattle.vp_csv.specs.Kept.{closed}
use Rattle.vp_csv.proofs.kept.close_all.Goals as goal

pub loop-session-preserved : goal.loop-session-preserved
loop-session-preserved c =
    let new : c.close.new.self ≡ closed c.session-item.result = c.in_ok-close.ensures ∙ ap closed (sym c.session-item.is) in
    let inside : c.loop-session.session-index < length c.args.sessions.now = omega arith in
    rw new (map_over_more closed c.args.sessions.now c.loop-session.sessions c.loop-session.session-index c.session-item.result inside c.loop-session.invariant c.session-item.is)
