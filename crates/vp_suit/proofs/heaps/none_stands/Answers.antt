use Rattle.std.proofs.Common.{ap, drop, sym, ◌∙◌, ◌≡◌, true, get_or, ◌^◌, ◌*◌, ◌/◌}
use Rattle.vp_suit.specs.Heaps.{jumps}
use Rattle.vp_suit.proofs.Runs.{most_is, none_stand}
use Rattle.vp_suit.proofs.heaps.none_stands.Goals as goal

pub returns : goal.returns
returns c told lowest l =
    none_stand c.args.cards.now lowest c.requires.deal l
    (ap (λ most. jumps most (drop 1 c.args.cards.now)) (sym (most_is c.args.cards.now c.requires.deal)) ∙ sym (c.jump.ensures (drop 1 c.args.cards.now) c.requires.above) ∙ told)
