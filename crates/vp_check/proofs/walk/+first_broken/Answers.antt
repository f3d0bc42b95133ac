use Rattle.std.proofs.Common.{◌≡◌, ◌<◌, List, subst, rules}
use Rattle.std.specs.List.{All}
use Rattle.std.proofs.lemmas.List.Elements.{All-tail}
use Rattle.vp_check.specs.Rows.{classes_of}
use Rattle.vp_check.specs.declared.class_line.ClassLine.{ClassLine}
use Rattle.vp_check.specs.declared.numbered.Numbered.{Numbered}
use Rattle.vp_check.proofs.walk.+first_broken.Goals as goal

pub first_broken-requires : goal.first_broken-requires
first_broken-requires t c =
    let later : All (λ line. line.mask < 32) (classes_of c.in-Some.rows.now) =
    All-tail (λ (line : ClassLine). line.mask < 32) c.in-Some.row.now.class (classes_of c.in-Some.rows.now) (subst (λ (rs : List Numbered). All (λ line. line.mask < 32) (classes_of rs)) c.in-Some.ensures.cases.0 c.requires) in
    search rules
