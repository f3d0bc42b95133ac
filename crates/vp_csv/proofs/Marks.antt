-- Names whose marks differ are different.
use Rattle.std.proofs.Common.{◌≡◌, ℕ, ◌+◌, ◌*◌, ◌%◌, ◌<◌, ◌^◌, false, [], ◌∷◌, length, get_or, drop, refl, ap, sym, arith, inl, inr}
use Rattle.std.specs.Prelude.{bytes_eq, ◌==◌}
use Rattle.std.proofs.lemmas.Bool.{cases_Bool}
use Rattle.std.proofs.lemmas.Bool.Decides.{nat_tests}
use Rattle.std.proofs.lemmas.List.{drop_more}
use Rattle.std.proofs.lemmas.Slice.Eq.{bytes_eq-Decides}
use Rattle.vp_text.specs.Lines.{Word}
use Rattle.vp_csv.specs.Kept.{mark_of}

-- behind the last byte
pub no_byte : (name : Word) → 0 ≡ mark_of (drop (length name) name)
unfolding mark_of
no_byte [] = refl
no_byte (byte ∷ name) = no_byte name

-- one byte more
pub next_byte : (name : Word) (place : ℕ) → place < length name → (mark_of (drop (place + 1) name) * 31 + get_or name place 0) % 2 ^ 32 ≡ mark_of (drop place name)
unfolding mark_of
next_byte name place inside = sym (ap mark_of (drop_more name place 0 inside))

pub differ : (a b : Word) → (mark_of a == mark_of b) ≡ false → false ≡ bytes_eq a b
differ a b apart = elim (cases_Bool (bytes_eq a b)) [
  | inl same ↦ let marks : mark_of a ≡ mark_of b = ap mark_of ((bytes_eq-Decides a b).0 same) in absurd (grind (arith, nat_tests))
  | inr other ↦ sym other
]
