use Rattle.std.proofs.Common.{◌∙◌, ℕ, map, ap}
use Rattle.std.proofs.Math.Path.{fun_ext}
use Rattle.vp_draws.specs.Draws.{masks}
use Rattle.vp_hold.proofs.Values.{in_game, value_told}
use Rattle.vp_hold.proofs.game.Game.values.Goals as goal

pub means-requires : goal.means-requires
means-requires c = record { cards = in_game _ _ _ _ _ c.self.view_is c.self.invariant c.requires.cards }

pub returns : goal.returns
returns c =
    c.means.ensures.means ∙ ap (λ (f : ℕ → ℕ). map f masks) (fun_ext (λ mask. value_told _ _ _ _ _ mask c.self.view_is c.self.invariant c.means.ensures.hand c.requires.cards))
