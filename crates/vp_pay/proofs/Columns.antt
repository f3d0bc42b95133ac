-- The columns of a pay line, one payment after another.
use Rattle.std.proofs.Common.{◌≡◌, ℕ, suc, ◌+◌, ◌-◌, ◌≤◌, ◌<◌, List, [], ◌∷◌, ◌++◌, length, take, drop, set, replicate, refl, ap, sym, ◌∙◌, arith, Some, None, append_assoc, add-one, get_or}
use Rattle.std.proofs.lemmas.List.{append-nil, take-append-drop, drop_more, drop-set-lt}
use Rattle.std.proofs.Math.Seq.{take-suc-set}
use Rattle.std.specs.Prelude.{Option, option_map}
use Rattle.vp_text.specs.Lines.{Word}
use Rattle.vp_text.specs.Pieces.{◌>>=◌, one_word, so_many}
use Rattle.vp_pay.specs.Reading.{payment_of, columns_piece}

-- the payments so far, in front of those that are still to be read
abbrev pub ahead : ℕ → ℕ → List ℕ → List Word → Option (List ℕ × List Word)
ahead coins column pays words = option_map (λ r. (take column pays ++ r.0, r.1)) (so_many payment_of (coins - column) words)

-- what so many words give behind a first one
many_more : (n m : ℕ) (words : List Word) → n ≡ suc m
    → so_many payment_of n words ≡ (one_word payment_of words >>= (λ value. so_many payment_of m value.1 >>= (λ more. Some (value.0 ∷ more.0, more.1))))
many_more n m words is = rw is

behind : (front : List ℕ) (pay : ℕ) (o : Option (List ℕ × List Word))
    → option_map {U = List ℕ × List Word} (λ (r : List ℕ × List Word). (front ++ r.0, r.1)) (o >>= (λ more. Some (pay ∷ more.0, more.1))) ≡ option_map {U = List ℕ × List Word} (λ (r : List ℕ × List Word). ((front ++ pay ∷ []) ++ r.0, r.1)) o
behind front pay None = refl
behind front pay (Some more) = let e : (front ++ pay ∷ []) ++ more.0 ≡ front ++ pay ∷ more.0 = append_assoc front (pay ∷ []) more.0 in rw e

pub columns_more : (coins column pay : ℕ) (pays : List ℕ) (words rest : List Word) (all : Option (List ℕ × List Word)) → column < coins → coins ≤ 5 → length pays ≡ 5
    → one_word payment_of words ≡ Some (pay, rest) → ahead coins column pays words ≡ all → ahead coins (column + 1) (set pays column pay) rest ≡ all
columns_more coins column pay pays words rest all more few long read so_far =
    let front : take (column + 1) (set pays column pay) ≡ take column pays ++ pay ∷ [] = rw add-one (take-suc-set pays column pay (omega arith))
    in let here : so_many payment_of (coins - column) words ≡ (so_many payment_of (coins - (column + 1)) rest >>= (λ more. Some (pay ∷ more.0, more.1))) =
    many_more (coins - column) (coins - (column + 1)) words (omega arith) ∙ (rw read)
    in rw front (sym (behind (take column pays) pay (so_many payment_of (coins - (column + 1)) rest))
    ∙ (ap (option_map {U = List ℕ × List Word} (λ (r : List ℕ × List Word). (take column pays ++ r.0, r.1))) (sym here) ∙ so_far))

pub columns_stop : (coins column : ℕ) (pays : List ℕ) (words : List Word) (all : Option (List ℕ × List Word)) → column < coins
    → one_word payment_of words ≡ None → ahead coins column pays words ≡ all → all ≡ None
columns_stop coins column pays words all more read so_far =
    let here : so_many payment_of (coins - column) words ≡ None = many_more (coins - column) (coins - (column + 1)) words (omega arith) ∙ (rw read)
    in sym so_far ∙ ap (option_map {U = List ℕ × List Word} (λ (r : List ℕ × List Word). (take column pays ++ r.0, r.1))) here

pub columns_end : (coins column : ℕ) (pays : List ℕ) (words before : List Word) → coins ≤ column → column ≤ coins → drop column pays ≡ replicate (5 - column) 0
    → ahead coins column pays words ≡ so_many payment_of coins before → columns_piece coins before ≡ Some (pays, words)
unfolding columns_piece
columns_end coins column pays words before low high above so_far =
    let none_left : coins - column ≡ 0 = omega arith
    in let same : column ≡ coins = omega arith
    in let read : so_many payment_of coins before ≡ Some (take column pays ++ [], words) = sym so_far ∙ (rw none_left)
    in rw (read, append-nil (take column pays), ← same, ← above, take-append-drop column pays)

-- a payment that can't be read leaves no columns
pub columns_none : (coins : ℕ) (words : List Word) → so_many payment_of coins words ≡ None → columns_piece coins words ≡ None
unfolding columns_piece
columns_none coins words read = rw read

-- the columns above are still 0
pub above_more : (column pay : ℕ) (pays : List ℕ) → column < 5 → length pays ≡ 5 → drop column pays ≡ replicate (5 - column) 0 → drop (column + 1) (set pays column pay) ≡ replicate (5 - (column + 1)) 0
above_more column pay pays inside long above =
    let zeros : 5 - column ≡ suc (5 - (column + 1)) = omega arith
    in let split : get_or pays column 0 ∷ drop (column + 1) pays ≡ 0 ∷ replicate (5 - (column + 1)) 0 = sym (drop_more pays column 0 (omega arith)) ∙ (above ∙ ap (λ n. replicate n 0) zeros)
    in drop-set-lt (column + 1) pays column pay (omega arith) ∙ cc
