use Rattle.vp_text.proofs.Sections.{spelling_unique}
use Rattle.vp_check.proofs.Certificates_grammar.{Exact-certificate}
use Rattle.vp_check.proofs.spellings.certificate_spellings_differ.Goals as goal

pub returns : goal.returns
returns c = λ a b x y is_a is_b same. let s = spelling_unique Exact-certificate a b x y is_a is_b same in (s.value, s.rest)
