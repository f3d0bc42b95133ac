use Rattle.std.proofs.Common.{◌≡◌, Result, Ok, Err, sym, subst, ◌↔◌}
use Rattle.vp_text.specs.Lines.{feed_of}
use Rattle.vp_text.specs.Sections.{RefusedLine}
use Rattle.vp_check.specs.Answers.{IsChecked, IsBad}
use Rattle.vp_check.specs.Certificates.{IsCertificate}
use Rattle.vp_check.specs.Spelling.{certificate_text}
use Rattle.vp_check.specs.declared.finding.Checked.{Checked}
use Rattle.vp_check.specs.declared.finding.Finding.{Finding}
use Rattle.vp_check.specs.declared.finding.Finding.TheVariants.{Bad, Refused}
use Rattle.vp_check.proofs.Answered.{checked_tells, refused_tells, bad_tells}
use Rattle.vp_check.proofs.checker.check.Goals as goal

pub returns-clause-checked : goal.returns-clause-checked
returns-clause-checked c r =
    subst (λ (x : Result Checked Finding). x ≡ Ok r ↔ IsChecked c.args.bytes.now c.args.from c.args.count r) (sym c.check_from.ensures) (checked_tells c.args.bytes.now c.args.from c.args.count r)

pub returns-clause-refused : goal.returns-clause-refused
returns-clause-refused c line =
    subst (λ (x : Result Checked Finding). x ≡ Err (Refused line) ↔ RefusedLine certificate_text IsCertificate (feed_of c.args.bytes.now) line) (sym c.check_from.ensures) (refused_tells c.args.bytes.now c.args.from c.args.count line)

pub returns-clause-bad : goal.returns-clause-bad
returns-clause-bad c line rule said due =
    subst (λ (x : Result Checked Finding). x ≡ Err (Bad line rule said due) ↔ IsBad c.args.bytes.now c.args.from c.args.count (Bad line rule said due)) (sym c.check_from.ensures) (bad_tells c.args.bytes.now c.args.from c.args.count line rule said due)
