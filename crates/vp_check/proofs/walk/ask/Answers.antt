use Rattle.std.proofs.Common.{◌≡◌, ◌∷◌, ◌++◌, [], List, Result, ℕ, ap, sym, subst, ◌∙◌, arith}
use Rattle.std.specs.List.{All}
use Rattle.vp_check.specs.Certificates.{IsClassLine}
use Rattle.vp_check.specs.Rows.{classes_of}
use Rattle.vp_check.specs.Walks.{asked_or, finding_or}
use Rattle.vp_check.specs.declared.finding.Finding.{Finding}
use Rattle.vp_check.specs.declared.numbered.Numbered.{Numbered}
use Rattle.vp_check.proofs.Asked.{asked_push, lines_push}
use Rattle.vp_check.proofs.walk.ask.Goals as goal

pub returns-then-len-lt256-clause-finding : goal.returns-then-len-lt256-clause-finding
returns-then-len-lt256-clause-finding g c = λ later. ap (λ (rows : List Numbered). asked_or c.args.table.now c.args.coin rows later) c.push.ensures.items ∙ asked_push c.args.table.now c.args.coin c.args.asked.now.items c.args.row later

pub walked-finding-requires-clause-lines : goal.walked-finding-requires-clause-lines
walked-finding-requires-clause-lines g c =
    subst (λ (rows : List Numbered). All (IsClassLine c.args.table.now.deck) (classes_of rows)) (sym (c.as_slice.ensures.value ∙ c.push.ensures.items)) (lines_push c.args.table.now.deck c.args.asked.now.items c.args.row c.requires.lines c.requires.line)

pub returns-clause-finding : goal.returns-clause-finding
returns-clause-finding g c = λ later.
    ap (λ (rows : List Numbered). finding_or c.walked-finding.result (asked_or c.args.table.now c.args.coin rows later)) c.clear.ensures
    ∙ sym (c.walked-finding.ensures later)
    ∙ ap (λ (rows : List Numbered). asked_or c.args.table.now c.args.coin rows later) (c.as_slice.ensures.value ∙ c.push.ensures.items)
    ∙ asked_push c.args.table.now c.args.coin c.args.asked.now.items c.args.row later
