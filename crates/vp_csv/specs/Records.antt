-- The records of a CSV text, as the crate csv reads them.
use Rattle.std.specs.Prelude.{ℕ, List}
use Rattle.csv.specs.Reading.{default_config, strip_bom, records}

-- a field is its bytes
abbrev pub Field : Type 0
Field = List ℕ

abbrev pub Record : Type 0
Record = List Field

-- The records of a text: no row is taken for a header, a record has any number of fields, and no field is trimmed. Fields end at commas, records at
-- line feeds and carriage returns, a field in quotes may have all of these, two quotes being one there, and lines without a byte are no records. A
-- byte order mark at the front is none of the text.
unfoldable pub records_in : List ℕ → List Record
records_in bytes = records default_config (strip_bom bytes)
