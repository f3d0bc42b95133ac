use Rattle.std.proofs.Common.{ap, sym, ◌∙◌, ℕ, Option}
use Rattle.std.specs.Option.{unwrap_or}
use Rattle.vp_pay.specs.declared.table.PayTable.{PayTable}
use Rattle.vp_wild.specs.Payment.{line}
use Rattle.vp_wild.specs.Places.{place_of}
use Rattle.vp_wild.proofs.KeptPlaces.{kept_more}
use Rattle.vp_wild.proofs.kept_lines.KeptLines.keep.Goals as goal

pub invariant_of-self : goal.invariant_of-self
invariant_of-self g c = (
  kept_more c.self.inside.table.now c.self.inside.kept c.args.cards.now c.args.place c.unwrap_or-slot.result c.requires.inside c.self.invariant.0 c.requires.set c.requires.five
      (c.requires.place ∙ ap (λ (t : PayTable). place_of t.wild c.args.cards.now) (sym c.self.view_is)) (c.unwrap_or-slot.ensures ∙ ap (λ (o : Option ℕ). unwrap_or o 32) (c.line_of-line.ensures.first ∙ ap (line c.self.inside.table.now) c.hand_of.ensures)),
  c.self.invariant.1,
)
