use Rattle.std.proofs.Common.{sym}
use Rattle.vp_text.proofs.Cuts.{word_found, word_missing_all}
use Rattle.vp_text.proofs.cutting.cut_word.Goals as goal

pub returns-in-Some : goal.returns-in-Some
returns-in-Some c = rw (c.split_at.ensures.front, c.split_at.ensures.back) (word_found c.args.text.now c.in-Some.end c.requires.starts (sym c.in-Some.ensures))

pub returns-in-None : goal.returns-in-None
returns-in-None c = rw (c.split_at-in-None.ensures.front, c.split_at-in-None.ensures.back) (word_missing_all c.args.text.now c.requires.some (sym c.in-None.ensures))
