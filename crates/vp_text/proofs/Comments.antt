-- A line that begins with `#` says nothing.
use Rattle.std.proofs.Common.{◌≡◌, ◌≢◌, ℕ, suc, ◌-◌, Bool, true, false, eqb, List, [], ◌∷◌, ◌++◌, length, refl, ap, ◌∙◌, arith, cond, take, get_or}
use Rattle.std.specs.List.{AllByRecursion, before_first}
use Rattle.std.proofs.lemmas.Bool.{ne_eqb}
use Rattle.vp_text.specs.Lines.{Word, feed_of, lines_in, numbered, said, words_in}
use Rattle.vp_text.specs.Sections.{text_of}
use Rattle.vp_text.proofs.Writing.{line_cut, numbered_alike}

-- with a carriage return at its end or without
says_nothing : (text : List ℕ) → words_in (said (35 ∷ text)) ≡ []
says_nothing [] = refl
says_nothing (x ∷ text) = at (eqb (get_or (35 ∷ x ∷ text) (length (35 ∷ x ∷ text) - 1) 0) 13)
  where
    at : (b : Bool) → words_in (before_first (λ byte. eqb byte 35) (cond b (take (length (35 ∷ x ∷ text) - 1) (35 ∷ x ∷ text)) (35 ∷ x ∷ text))) ≡ []
    at true =
        let some : length (35 ∷ x ∷ text) - 1 ≡ suc (length text) = omega arith in
        ap (λ (k : ℕ). words_in (before_first (λ byte. eqb byte 35) (take k (35 ∷ x ∷ text)))) some
    at false = refl

no_feed : (text : List ℕ) → AllByRecursion (λ byte. byte ≢ 10) text → AllByRecursion (λ byte. eqb byte 10 ≡ false) text
no_feed [] all = tt
no_feed (byte ∷ text) all = (ne_eqb byte 10 all.0, no_feed text all.1)

-- a comment in front of more
pub comment_read : (text more : List ℕ) → AllByRecursion (λ byte. byte ≢ 10) text → text_of (feed_of (35 ∷ text ++ 10 ∷ more)).lines ≡ text_of (feed_of more).lines
comment_read text more all =
    ap (λ (ls : List (List ℕ)). text_of (numbered 1 ls)) (line_cut (35 ∷ text) more (refl, no_feed text all))
    ∙ (ap (λ (ws : List Word). text_of (cond (eqb (length ws) 0) (numbered 2 (lines_in more)) (record { line = 1; words = ws } ∷ numbered 2 (lines_in more)))) (says_nothing text)
    ∙ numbered_alike 2 1 (lines_in more))
