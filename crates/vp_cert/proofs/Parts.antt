-- The parts of a certificate, one after the other.
use Rattle.std.proofs.Common.{◌≡◌, ℕ, List, [], ◌∷◌, ◌++◌, map, codes, refl, ap}
use Rattle.std.specs.Fmt.{decimal}
use Rattle.std.proofs.lemmas.Grind.{flat_map-append}
use Rattle.vp_text.specs.Written.{line_of, written}
use Rattle.vp_pay.specs.Spelling.{table_text}
use Rattle.vp_pay.specs.declared.table.PayTable.{PayTable}
use Rattle.vp_suit.specs.Classes.{representatives}
use Rattle.vp_draws.specs.Draws.{return_denominator, sum_of_best}
use Rattle.vp_check.specs.Spelling.{class_words, return_words, cert_text, certificate_text}
use Rattle.vp_check.specs.Truth.{due_certificate, due_line}
use Rattle.vp_cert.proofs.SoFar.{lines}

-- the line of the bet
abbrev pub bet_line : ℕ → List ℕ
bet_line coin = line_of (codes "cert" ∷ decimal coin ∷ [])

-- the line of the return, and the last line
abbrev pub last_lines : ℕ → ℕ → List ℕ
last_lines sum denominator = written (return_words sum denominator ∷ (codes "end" ∷ []) ∷ [])

-- the bet, the class lines and the return
pub behind_table : (table : PayTable) (coin : ℕ) → written (cert_text (due_certificate table coin))
    ≡ bet_line coin ++ (lines table coin (representatives table.deck) ++ last_lines (sum_of_best table coin) (return_denominator table.deck coin))
unfolding cert_text due_certificate
behind_table table coin =
    let classes = map class_words (map (due_line table coin) (representatives table.deck)) in
    ap (λ (text : List ℕ). bet_line coin ++ text)
    (flat_map-append line_of classes (return_words (sum_of_best table coin) (return_denominator table.deck coin) ∷ (codes "end" ∷ []) ∷ []))

-- the pay table, and what stands behind it
pub whole_text : (table : PayTable) (coin : ℕ) → written (certificate_text (due_certificate table coin)) ≡ written (table_text table) ++ written (cert_text (due_certificate table coin))
unfolding certificate_text due_certificate
whole_text table coin = flat_map-append line_of (table_text table) (cert_text (due_certificate table coin))

-- the same last lines, with the numbers that were reckoned
pub last_as : (table told : PayTable) (coin bet sum denominator : ℕ) → told ≡ table → bet ≡ coin → sum ≡ sum_of_best table coin → denominator ≡ return_denominator told.deck bet
    → last_lines sum denominator ≡ last_lines (sum_of_best table coin) (return_denominator table.deck coin)
last_as table told coin bet sum denominator is_table is_coin is_sum is = rw (is_sum, is, is_table, is_coin) refl
