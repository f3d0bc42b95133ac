use Rattle.std.proofs.Common.{not, sym}
use Rattle.std.proofs.lemmas.List.Quantifiers.{position-Some}
use Rattle.vp_text.specs.Lines.{is_blank}
use Rattle.vp_text.proofs.Cuts.{from_first, from_none, blank_no, first_dropped}
use Rattle.vp_text.proofs.cutting.from_word.Goals as goal

pub returns-in-Some-clause-same : goal.returns-in-Some-clause-same
returns-in-Some-clause-same c = rw c.split_at.ensures.back (from_first c.args.text.now c.in-Some.start (sym c.in-Some.ensures))

pub returns-in-Some-clause-starts : goal.returns-in-Some-clause-starts
returns-in-Some-clause-starts c =
    let s = position-Some (λ byte. not (is_blank byte)) c.args.text.now c.in-Some.start 0 (sym c.in-Some.ensures) in
    λ _. rw c.split_at.ensures.back (first_dropped c.args.text.now c.in-Some.start (blank_no _ s.1))

pub returns-in-None-clause-same : goal.returns-in-None-clause-same
returns-in-None-clause-same c = rw c.split_at-in-None.ensures.back (from_none c.args.text.now (sym c.in-None.ensures))
