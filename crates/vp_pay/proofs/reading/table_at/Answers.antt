use Rattle.vp_text.proofs.Standing.{leaves_then}
use Rattle.vp_pay.proofs.reading.table_at.Goals as goal

pub returns-in_err-deck-clause-leaves : goal.returns-in_err-deck-clause-leaves
returns-in_err-deck-clause-leaves c = leaves_then _ _ _ c.name_line.ensures.leaves c.deck_line.ensures.leaves

pub returns-in_err-wild-clause-leaves : goal.returns-in_err-wild-clause-leaves
returns-in_err-wild-clause-leaves c = leaves_then _ _ _ (leaves_then _ _ _ c.name_line.ensures.leaves c.deck_line.ensures.leaves) c.wild_line.ensures.leaves

pub returns-in_err-coins-clause-leaves : goal.returns-in_err-coins-clause-leaves
returns-in_err-coins-clause-leaves c =
    leaves_then _ _ _ (leaves_then _ _ _ (leaves_then _ _ _ c.name_line.ensures.leaves c.deck_line.ensures.leaves) c.wild_line.ensures.leaves) c.coins_line.ensures.leaves

pub returns-in_err-lines-clause-leaves : goal.returns-in_err-lines-clause-leaves
returns-in_err-lines-clause-leaves c =
    let front = leaves_then _ _ _ (leaves_then _ _ _ (leaves_then _ _ _ c.name_line.ensures.leaves c.deck_line.ensures.leaves) c.wild_line.ensures.leaves) c.coins_line.ensures.leaves
    in leaves_then _ _ _ front c.pay_lines.ensures.leaves

pub returns-clause-leaves : goal.returns-clause-leaves
returns-clause-leaves c =
    let front = leaves_then _ _ _ (leaves_then _ _ _ (leaves_then _ _ _ c.name_line.ensures.leaves c.deck_line.ensures.leaves) c.wild_line.ensures.leaves) c.coins_line.ensures.leaves
    in leaves_then _ _ _ front c.pay_lines.ensures.leaves
