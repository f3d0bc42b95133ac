-- What stands behind the line feed of a line.
use Rattle.std.proofs.Common.{◌≡◌, ℕ, zero, suc, ◌+◌, ◌<◌, ◌≤◌, true, false, eqb, List, [], ◌∷◌, length, get_or, drop, Some, None, position, refl, add-one, arith}
use Rattle.std.proofs.lemmas.List.Quantifiers.{position-Some}
use Rattle.std.proofs.lemmas.List.Sums.{fails_before_first}
use Rattle.vp_text.specs.Lines.{after_feed, behind_line, IsReading}
use Rattle.vp_text.proofs.Cuts.{position_missing}

pub behind_more : (line : ℕ) (bytes : List ℕ) → behind_line (suc line) bytes ≡ after_feed (behind_line line bytes)
unfolding behind_line
behind_more zero bytes = refl
behind_more (suc line) bytes = behind_more line (after_feed bytes)

pub behind_none : (line : ℕ) → behind_line line [] ≡ []
unfolding behind_line
behind_none zero = refl
behind_none (suc line) = behind_none line

pub behind_next : (line : ℕ) (bytes rest next : List ℕ) → behind_line line bytes ≡ rest → next ≡ after_feed rest → behind_line (line + 1) bytes ≡ next
behind_next line bytes rest next is more = rw (add-one, behind_more line bytes, is, more) refl

after_at : (bytes : List ℕ) (i : ℕ) → i < length bytes → eqb (get_or bytes i 0) 10 ≡ true → ((k : ℕ) → k < i → eqb (get_or bytes k 0) 10 ≡ false) → after_feed bytes ≡ drop (suc i) bytes
after_at [] i inside here before = absurd (omega arith)
after_at (b ∷ bytes) zero inside here before = rw here refl
after_at (b ∷ bytes) (suc i) inside here before = rw (before 0 (omega arith)) (after_at bytes i (omega arith) here (λ k less. before (suc k) (omega arith)))

after_none : (bytes : List ℕ) → ((k : ℕ) → k < length bytes → eqb (get_or bytes k 0) 10 ≡ false) → after_feed bytes ≡ []
after_none [] before = refl
after_none (b ∷ bytes) before = rw (before 0 (omega arith)) (after_none bytes (λ k less. before (suc k) (omega arith)))

drop_drop : (bytes : List ℕ) (i : ℕ) → drop 1 (drop i bytes) ≡ drop (suc i) bytes
drop_drop bytes zero = refl
drop_drop [] (suc i) = refl
drop_drop (b ∷ bytes) (suc i) = drop_drop bytes i

drop_whole : (xs : List ℕ) → drop (length xs) xs ≡ []
drop_whole [] = refl
drop_whole (x ∷ xs) = drop_whole xs

pub after_found : (bytes : List ℕ) (i : ℕ) → position (λ byte. eqb byte 10) bytes ≡ Some i → drop 1 (drop i bytes) ≡ after_feed bytes
after_found bytes i e =
    let s = position-Some (λ byte. eqb byte 10) bytes i 0 e in
    rw (drop_drop bytes i, after_at bytes i s.0 s.1 s.2) refl

pub after_missing : (bytes : List ℕ) → position (λ byte. eqb byte 10) bytes ≡ None → drop (length bytes) bytes ≡ after_feed bytes
after_missing bytes e =
    let past = position_missing (λ byte. eqb byte 10) bytes e in
    rw (drop_whole bytes, after_none bytes (λ k less. fails_before_first (λ byte. eqb byte 10) bytes k 0 (omega arith))) refl

-- no line is left
pub no_line_left : (count last : ℕ) (rest : List ℕ) → count + length rest ≤ 67108864 → length rest ≡ 0 → IsReading count last rest rest
no_line_left count last [] bound none = record { bound = bound; behind_last = behind_none last; behind = behind_none count }
no_line_left count last (b ∷ rest) bound none = absurd (omega arith)
