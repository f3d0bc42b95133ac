-- The lines of a made log, one behind the other.
use Rattle.std.proofs.Common.{◌≡◌, ℕ, zero, suc, ◌+◌, ◌-◌, ◌*◌, ◌<◌, ◌≤◌, List, [], ◌∷◌, ◌++◌, map, sym, ap, ◌∙◌, arith, append_assoc}
use Rattle.std.specs.Prelude.{codes}
use Rattle.std.proofs.lemmas.List.{append-nil}
use Rattle.std.proofs.lemmas.List.Concat.{flat_map-cons}
use Rattle.std.proofs.lemmas.Grind.{flat_map-append}
use Rattle.vp_text.specs.Written.{line_of, written}
use Rattle.vp_pay.specs.declared.table.PayTable.{PayTable}
use Rattle.vp_loggram.specs.Spelling.{event_words, key_number, log_text}
use Rattle.vp_loggram.specs.declared.event.Event.{Event}
use Rattle.vp_gen.specs.Generator.{Made, games_from, generated, made}

-- ---- game by game

pub next_game : (table : PayTable) (coin credits x left : ℕ) (e : Event) (y : ℕ) (text more all : List ℕ) → 0 < left → made table coin credits x ≡ record { event = e; state = y }
    → text ++ written (map event_words (games_from table coin credits x left)) ≡ all → more ≡ text ++ line_of (event_words e)
    → more ++ written (map event_words (games_from table coin e.credits y (left - 1))) ≡ all
unfolding games_from
next_game table coin credits x zero e y text more all some is so_far grown = absurd (omega arith)
next_game table coin credits x (suc left) e y text more all some is so_far grown =
    let same : suc left - 1 ≡ left = omega arith in
    let game : written (map event_words (games_from table coin credits x (suc left))) ≡ line_of (event_words e) ++ written (map event_words (games_from table coin e.credits y left)) =
    ap (λ (m : Made). written (event_words m.event ∷ map event_words (games_from table coin m.event.credits m.state left))) is ∙ flat_map-cons line_of (event_words e) _ in
    rw (same, grown, append_assoc text (line_of (event_words e))) (ap (λ (l : List ℕ). text ++ l) (sym game) ∙ so_far)

pub last_game : (table : PayTable) (coin credits x left : ℕ) (text all : List ℕ) → left ≤ 0 → text ++ written (map event_words (games_from table coin credits x left)) ≡ all → text ≡ all
unfolding games_from
last_game table coin credits x zero text all none so_far = sym (append-nil text) ∙ so_far
last_game table coin credits x (suc left) text all none so_far = absurd (omega arith)

-- the funds of the games that are left
pub funds_more : (coin credits after games : ℕ) → coin * suc games ≤ credits → credits ≤ after + coin → coin * games ≤ after
funds_more coin credits after games funds least = let more : coin * suc games ≡ coin * games + coin = grind arith in omega arith

pub funds_left : (coin credits after left : ℕ) → 0 < left → coin * left ≤ credits → credits ≤ after + coin → coin * (left - 1) ≤ after
funds_left coin credits after zero some funds least = absurd (omega arith)
funds_left coin credits after (suc left) some funds least = let same : suc left - 1 ≡ left = omega arith in rw same (funds_more coin credits after left funds least)

pub funds_first : (coin left : ℕ) → 0 < left → coin ≤ coin * left
funds_first coin zero some = absurd (omega arith)
funds_first coin (suc left) some = let more : coin * suc left ≡ coin * left + coin = grind arith in omega arith

-- ---- a whole log

pub whole_log : (table : PayTable) (coin seed games : ℕ) (a b c : List ℕ) → a ≡ [] ++ line_of (key_number (codes "log") (coin * games))
    → b ≡ a ++ written (map event_words (games_from table coin (coin * games) seed games)) → c ≡ b ++ codes "end\n"
    → c ≡ written (log_text (generated table coin seed games))
unfolding generated log_text
whole_log table coin seed games a b c first second third =
    let lines = map event_words (games_from table coin (coin * games) seed games) in
    let all : written (log_text (generated table coin seed games)) ≡ line_of (key_number (codes "log") (coin * games)) ++ written (lines ++ (codes "end" ∷ []) ∷ []) =
    flat_map-cons line_of (key_number (codes "log") (coin * games)) (lines ++ (codes "end" ∷ []) ∷ []) in
    let back : written (lines ++ (codes "end" ∷ []) ∷ []) ≡ written lines ++ codes "end\n" = flat_map-append line_of lines ((codes "end" ∷ []) ∷ []) in
    third ∙ ap (λ (l : List ℕ). l ++ codes "end\n") (second ∙ ap (λ (l : List ℕ). l ++ written lines) first)
    ∙ append_assoc (line_of (key_number (codes "log") (coin * games))) (written lines) (codes "end\n")
    ∙ ap (λ (l : List ℕ). line_of (key_number (codes "log") (coin * games)) ++ l) (sym back) ∙ sym all
