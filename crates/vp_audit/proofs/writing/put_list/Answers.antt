-- The first line, the exceptions, the rules and the last line are put one after the other.
use Rattle.std.proofs.Common.{◌≡◌, ◌<◌, ℕ, length, ap, sym, subst}
use Rattle.std.specs.List.{All}
use Rattle.vp_io.proofs.Puts_laws.{Puts_as, Puts_stopped, Puts_then}
use Rattle.vp_compile.proofs.OrderLaws.{order_below}
use Rattle.vp_audit.proofs.ListLines.{first_line, list_parts, pool_rules, rule_lines_as}
use Rattle.vp_audit.proofs.writing.put_list.Goals as goal

pub put_rules-requires-clause-rules : goal.put_rules-requires-clause-rules
put_rules-requires-clause-rules g c = pool_rules c.args.game.now.table c.args.pool.now _ _ c.requires.pool c.table.ensures.table c.rules.ensures

pub put_rules-requires-clause-order : goal.put_rules-requires-clause-order
put_rules-requires-clause-order g c =
    let number : length c.args.pool.now.rules ≡ length c.rules.result.now = ap length (sym c.rules.ensures) in
    subst (λ (n : ℕ). All (λ place. place < n) c.args.order.now) number (order_below _ c.args.order.now c.requires.order)

pub returns-in_err-put_version : goal.returns-in_err-put_version
returns-in_err-put_version g c =
    let first = Puts_as (ap first_line c.version.ensures) c.put_version.ensures in
    Puts_as (sym (list_parts _ _ _ _ _)) (Puts_stopped _ c.in_err-put_version.was c.from_residual.ensures.0 first)

pub returns-in_err-put_exceptions : goal.returns-in_err-put_exceptions
returns-in_err-put_exceptions g c =
    let first = Puts_as (ap first_line c.version.ensures) c.put_version.ensures in
    Puts_as (sym (list_parts _ _ _ _ _)) (Puts_then _ c.in_ok-put_version.was first (Puts_stopped _ c.in_err-put_exceptions.was c.from_residual-in_err-put_exceptions.ensures.0 c.put_exceptions.ensures))

pub returns-in_err-put_rules : goal.returns-in_err-put_rules
returns-in_err-put_rules g c =
    let first = Puts_as (ap first_line c.version.ensures) c.put_version.ensures in
    let rules = Puts_as (rule_lines_as _ _ _ _ c.args.order.now c.table.ensures.table c.rules.ensures) c.put_rules.ensures in
    Puts_as (sym (list_parts _ _ _ _ _))
    (Puts_then _ c.in_ok-put_version.was first
    (Puts_then _ c.in_ok-put_exceptions.was c.put_exceptions.ensures (Puts_stopped _ c.in_err-put_rules.was c.from_residual-in_err-put_rules.ensures.0 rules)))

pub returns : goal.returns
returns g c =
    let first = Puts_as (ap first_line c.version.ensures) c.put_version.ensures in
    let rules = Puts_as (rule_lines_as _ _ _ _ c.args.order.now c.table.ensures.table c.rules.ensures) c.put_rules.ensures in
    Puts_as (sym (list_parts _ _ _ _ _))
    (Puts_then _ c.in_ok-put_version.was first
    (Puts_then _ c.in_ok-put_exceptions.was c.put_exceptions.ensures (Puts_then _ c.in_ok-put_rules.was rules c.put_words.ensures)))
