-- Numbers that are written in decimal digits. Decimal digits are the usual ones; no sign, no zero in front, is this program's own rule
-- (docs/FORMATS.md).
use Rattle.std.specs.Prelude.{ℕ, ◌^◌, ◌&&◌, nat_le, nat_lt, map, Option, Some, None, bytes_eq, if◌then◌else◌}
use Rattle.std.specs.Fmt.{decimal}
use Rattle.std.specs.Char.{digit_value}
use Rattle.std.specs.Int.Digits.{number_from_digits}
use Rattle.vp_text.specs.Lines.{Word}
use Rattle.vp_text.specs.Pieces.{◌>>=◌}

-- the number that a text's digits have
abbrev pub digits_number : Word → ℕ
digits_number text = number_from_digits 10 (map digit_value text)

-- a number below 2^64 in its decimal digits, without a sign and without a leading zero
unfoldable pub number_of : Word → Option ℕ
number_of text = if bytes_eq text (decimal (digits_number text)) && nat_lt (digits_number text) (2 ^ 64) then Some (digits_number text) else None

-- this number, where it is from `least` to `most`
abbrev pub within : ℕ → ℕ → ℕ → Option ℕ
within least most n = if nat_le least n && nat_le n most then Some n else None

-- a number from `least` to `most` in its decimal digits
unfoldable pub number_within : ℕ → ℕ → Word → Option ℕ
number_within least most text = number_of text >>= within least most
