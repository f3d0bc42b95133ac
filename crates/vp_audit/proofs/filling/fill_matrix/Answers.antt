-- What is written is a matrix.
use Rattle.std.proofs.Common.{◌≡◌, ◌*◌, ℕ, List, arith, ap, length}
use Rattle.vp_suit.specs.Classes.{representatives}
use Rattle.vp_suit.proofs.Walks.{few_classes}
use Rattle.vp_rule.specs.declared.rule.Rule.{Rule}
use Rattle.vp_audit.proofs.ClassRows.{held_fit}
use Rattle.vp_audit.proofs.filling.fill_matrix.Goals as goal

pub invariant_of-result : goal.invariant_of-result
invariant_of-result g c =
    let classes : ℕ = length (representatives c.args.game.now.table.deck) in
    let same : length c.rules-rules.result.now ≡ length c.args.pool.now.rules = ap (λ (rules : List Rule). length rules) c.rules-rules.ensures in
    let many : length c.fill_rows.new.weights ≡ classes = omega (arith, c.requires.heads) in
    record {
      sizes = record {
        rules_from = omega (arith, same, c.requires.pool.some);
        rules_to = omega (arith, same, c.requires.pool.most);
        classes = omega (arith, many, few_classes c.args.game.now.table.deck c.fill_rows.ensures.known.known_deck);
        bests = omega arith;
        nones = omega arith;
        full = omega (arith, c.requires.cells, ap (λ n. classes * n) same, ap (λ n. n * length c.rules-rules.result.now) many);
      };
      rows = held_fit c.args.game.now.table c.args.game.now.coin c.fill_rows.ensures.known c.rules-rules.result.now _ _ _ _ c.fill_rows.ensures.rows;
    }
