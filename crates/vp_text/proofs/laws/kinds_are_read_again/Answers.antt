use Rattle.vp_text.proofs.Streams.{kinds_again}
use Rattle.vp_text.proofs.laws.kinds_are_read_again.Goals as goal

pub returns : goal.returns
returns g c = λ row_of kind again law feed left items z read. kinds_again row_of kind again law feed.lines feed.past items z left read
