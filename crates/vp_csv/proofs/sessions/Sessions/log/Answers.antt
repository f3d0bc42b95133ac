use Rattle.std.proofs.Common.{◌<◌, length, arith, subst, ap}
use Rattle.vp_pay.specs.Written.{StandsIn}
use Rattle.vp_loggram.specs.Spelling.{log_text}
use Rattle.vp_csv.specs.Sessions.{Sorted, session_at}
use Rattle.vp_csv.proofs.Closing.{as_many_sessions, stands_at}
use Rattle.vp_csv.proofs.sessions.Sessions.log.Goals as goal

pub returns-clause-stands : goal.returns-clause-stands
returns-clause-stands c =
    let n = c.self.inside.deck in
    let ks = c.self.inside.kept.items in
    let many = as_many_sessions n ks in
    let seen = ap (λ (s : Sorted). length s.sessions) c.self.view_is in
    let asked = c.requires in
    let inside : c.args.place < length ks = omega arith in
    let here = stands_at n ks c.args.place c.index.result.now c.self.invariant.deck c.self.invariant.all inside c.index.ensures in
    rw c.text.ensures (subst (λ (s : Sorted). StandsIn log_text (session_at s c.args.place).log c.index.result.now.text) c.self.view_is here)
