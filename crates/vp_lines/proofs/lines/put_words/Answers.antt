use Rattle.std.proofs.Common.{[], ◌∷◌, ◌++◌, List, ℕ, ap, ◌∙◌}
use Rattle.vp_io.proofs.Puts_laws.{Puts_as}
use Rattle.vp_lines.proofs.PutWords.{line_bytes_of}
use Rattle.vp_lines.proofs.lines.put_words.Goals as goal

pub returns : goal.returns
returns g c = Puts_as (c.line.ensures.line ∙ (ap (λ (l : List ℕ). l ++ 10 ∷ []) c.add_words.ensures ∙ line_bytes_of _ c.requires.start)) c.put.ensures
