-- Each class is written behind those before it.
use Rattle.std.proofs.Common.{◌≡◌, ◌+◌, ◌-◌, ◌*◌, ℕ, arith, ap, sym, subst, ◌∙◌, length, set}
use borrow.Rule.Slice.PartMut.{put_mid}
use Rattle.vp_pay.specs.declared.table.PayTable.{PayTable}
use Rattle.vp_suit.specs.Classes.{representatives}
use Rattle.vp_audit.proofs.Filled.{Filled, HasRoom, deal_here, end, next, start, told_of}
use Rattle.vp_audit.proofs.filling.fill_rows.Goals as goal

pub loop-class-init : goal.loop-class-init
loop-class-init g c = record { filled = start _ _ _ _ _ _ _ _ _ (c.new-classes.ensures ∙ ap (λ (t : PayTable). representatives t.deck) c.table.ensures.table) }

pub of-choices-requires : goal.of-choices-requires
of-choices-requires g c = record { deal = deal_here _ _ _ _ _ _ _ _ _ _ _ _ _ c.in-Some.ensures.given c.loop-class.invariant.filled }

pub loop-class-preserved : goal.loop-class-preserved
loop-class-preserved g c =
    let width : c.loop-class.place * length c.args.rules.now + length c.args.rules.now - c.loop-class.place * length c.args.rules.now ≡ length c.args.rules.now = omega arith in
    let room : HasRoom c.args.game.now.table c.args.rules.now c.loop-class.weights c.loop-class.best c.loop-class.none c.loop-class.cells = record {
      many_weights = omega arith;
      many_bests = omega arith;
      many_nones = omega arith;
      many_cells = omega (arith, ap (λ n. n * length c.args.rules.now) c.requires.weights);
    } in
    let told = told_of c.of-choices.result c.args.game.now.table c.args.game.now.coin c.in-Some.class.hand c.args.rules.now c.best.result c.value.result c.fill_cells.new.cells c.of-choices.ensures.table c.of-choices.ensures.coin c.of-choices.ensures.hand c.best.ensures c.value.ensures c.fill_cells.ensures in
    record {
      filled = subst (λ (w : ℕ). Filled c.args.game.now.table c.args.game.now.coin c.args.rules.now c.next.new.self (c.loop-class.place + 1) (set c.loop-class.weights c.loop-class.place c.from.result) (set c.loop-class.best c.loop-class.place c.best.result) (set c.loop-class.none c.loop-class.place c.value.result) (put_mid (c.loop-class.place * length c.args.rules.now) w c.loop-class.cells c.fill_cells.new.cells) c.args.steps.now c.of-choices.new.steps) (sym width)
          (next c.args.game.now.table c.args.game.now.coin c.args.rules.now c.in-Some.class.hand _ _ _ _ _ _ _ _ _ c.in-Some.ensures.given c.loop-class.invariant.filled room _ _ _ _
          (c.from.ensures ∙ c.in-Some.ensures.weight) told.best told.none told.cells
          _ c.of-choices.ensures.step);
    }

pub returns-clause-rows : goal.returns-clause-rows
returns-clause-rows g c = (end _ _ _ _ _ _ _ _ _ _ _ c.in_default.ensures.end (omega arith) c.loop-class.invariant.filled).0

pub returns-clause-steps : goal.returns-clause-steps
returns-clause-steps g c = omega (arith, (end _ _ _ _ _ _ _ _ _ _ _ c.in_default.ensures.end (omega arith) c.loop-class.invariant.filled).1)
