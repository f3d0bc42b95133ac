-- What is written in plain words stands in front of the lines that are read.
use Rattle.std.proofs.Common.{ℕ, List}
use Rattle.vp_text.specs.Sections.{Text}
use Rattle.vp_text.specs.ExactReaders.{Reader, Exact}
use Rattle.vp_text.specs.Written.{IsPlainText}
use Rattle.vp_text.proofs.Writing.{written_again}
use Rattle.vp_pay.specs.Written.{IsReadAgain}

pub read_again : {A : Type 0} (spell : A → Text) (Valid : A → Type 0) (read : Reader A) → Exact spell Valid read → (value : A) (more : List ℕ) → Valid value → IsPlainText (spell value) → IsReadAgain spell value more
read_again spell Valid read exact value more valid plain =
    let again = written_again spell Valid read exact value more valid plain in
    record { left = again.0; front = (exact.takes _ again.0 value again.1).1; rest = again.2 }
