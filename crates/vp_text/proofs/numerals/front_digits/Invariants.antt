use Rattle.std.proofs.Common.{◌≡◌, ◌<◌, ◌≤◌, ◌^◌, ◌-◌, length, take}
use Rattle.std.specs.Str.Parse.{AllDigits, digits_value}
use Rattle.vp_text.proofs.numerals.front_digits.Given as goal

abbrev pub invariant-digits : goal.invariant-digits
invariant-digits l = record {
  below : l.value < 2 ^ 64;
  inside : l.place ≤ length l.text;
  all : AllDigits 10 (take l.place l.text);
  value : l.value ≡ digits_value 10 (take l.place l.text);
}

abbrev pub decreases-digits : goal.decreases-digits
decreases-digits l = length l.text - l.place
