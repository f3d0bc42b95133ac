-- What a reader of the crate csv over bytes in memory has left: for proofs.
use Rattle.std.specs.Prelude.{◌≡◌, ℕ, ◌+◌, List, [], ◌∷◌, length, Option, Some, None, Bool, true, false}
use Rattle.std.specs.Borrow.{Bor}
use Rattle.csv.specs.Reading.{default_config, records_from, source_of, has_failed, is_flexible, reader_config, reader_trim, reader_state, Ready}
use Rattle.csv.specs.declared.parser.State.{State}
use Rattle.csv.specs.declared.reader.Reader.{Reader}
use Rattle.csv.specs.declared.reader.Trim.TheVariants as trim
use Rattle.vp_csv.specs.Records.{Field, Record}

-- the records that are left from a state, where the bytes are known
abbrev pub left_from : State → Option (List ℕ) → List Record
left_from s None = []
left_from s (Some bytes) = records_from default_config (length bytes + 1) s bytes

-- the records that a reader of a slice has left; none where it has failed
unfoldable pub left_of : Reader (Bor (List ℕ)) → List Record
left_of r = left_from (reader_state r) (source_of (λ b. Some b.now) r)

-- how such a reader is set: it takes records of any lengths, so no read fails for the length of one
pub record IsSet (r : Reader (Bor (List ℕ))) : Type 0 where
  pub plain : reader_trim r ≡ trim.None
  pub ready : Ready r
  pub config : reader_config r ≡ default_config
  pub flexible : is_flexible r ≡ true

-- a reader that has not failed is set so
unfoldable pub Keeps : Reader (Bor (List ℕ)) → Type 0
Keeps r = has_failed r ≡ false → IsSet r

-- what one read does
abbrev pub Steps : List Record → Bool → Record → List Record → Type 0
Steps old true row new = old ≡ row ∷ new
Steps old false row new = old ≡ []

-- a field, empty where there is none
abbrev pub given : Option Field → Field
given None = []
given (Some field) = field
