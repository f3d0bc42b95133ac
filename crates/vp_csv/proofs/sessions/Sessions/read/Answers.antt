use Rattle.std.proofs.Common.{◌≡◌, map, ap, ◌∙◌}
use Rattle.vp_csv.specs.Kept.{closed}
use Rattle.vp_csv.specs.Records.{records_in}
use Rattle.vp_csv.specs.Sessions.{sessions_of}
use Rattle.vp_csv.proofs.Closing.{are_kept, sorted_is}
use Rattle.vp_csv.proofs.sessions.Sessions.read.Goals as goal

pub invariant_of-result : goal.invariant_of-result
invariant_of-result c =
    let read = c.in_ok-kept.ensures.read in
    let ended : c.close.new.sessions.items ≡ map closed c.in_ok-kept.kept.items = c.in-Ok.ensures in
    are_kept c.args.deck (records_in c.args.bytes.now) c.close.new.sessions.items c.requires read.0 (ended ∙ ap (map closed) read.1)

pub returns-clause-read : goal.returns-clause-read
unfolding sessions_of
returns-clause-read c =
    let read = c.in_ok-kept.ensures.read in
    let ended : c.close.new.sessions.items ≡ map closed c.in_ok-kept.kept.items = c.in-Ok.ensures in
    sorted_is c.args.deck (records_in c.args.bytes.now) c.close.new.sessions.items c.requires (ended ∙ ap (map closed) read.1)
