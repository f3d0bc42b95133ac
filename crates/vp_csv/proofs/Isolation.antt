-- Sessions are told by their own records.
use Rattle.std.proofs.Common.{◌≡◌, ◌<◌, ℕ, zero, suc, List, [], ◌∷◌, map, length, get_or, refl, sym, ap, ◌∙◌, arith}
use Rattle.vp_text.specs.Lines.{Word}
use Rattle.vp_csv.specs.Records.{Record, records_in}
use Rattle.vp_csv.specs.Rules.{names_of}
use Rattle.vp_csv.specs.Sessions.{AreAlike, Session, behind_first, log_of, own, session_at, session_of, sessions_in, sessions_of, sorted}

abbrev session : Word → ℕ → List Record → Session
session name n rs = record { name = name; log = log_of n rs }

pub apart : (n : ℕ) (a b : List Record) (name : Word) → own name a ≡ own name b → session_of n a name ≡ session_of n b name
unfolding session_of
apart n a b name e = ap (session name n) e

abbrev no_session : Session
no_session = record { name = []; log = record { start = 0; events = [] } }

-- the session at a place is told by its name
by_name : (n : ℕ) (rs : List Record) (names : List Word) (i : ℕ) → i < length (map (session_of n rs) names)
    → get_or (map (session_of n rs) names) i no_session ≡ session_of n rs (get_or (map (session_of n rs) names) i no_session).name
unfolding session_of
by_name n rs [] i inside = absurd (omega arith)
by_name n rs (name ∷ names) zero inside = refl
by_name n rs (name ∷ names) (suc i) inside = by_name n rs names i (omega arith)

at_name : (n : ℕ) (bytes : List ℕ) (i : ℕ) → i < length (sessions_of n bytes) → session_at (sorted n bytes) i ≡ session_of n (behind_first (records_in bytes)) (session_at (sorted n bytes) i).name
unfolding sessions_of sessions_in
at_name n bytes i inside = by_name n (behind_first (records_in bytes)) (names_of (behind_first (records_in bytes))) i inside

pub texts_apart : (n : ℕ) (a b : List ℕ) (i j : ℕ) → AreAlike n a b i j → session_at (sorted n a) i ≡ session_at (sorted n b) j
texts_apart n a b i j alike =
    let first = behind_first (records_in a) in
    let second = behind_first (records_in b) in
    let here = (session_at (sorted n a) i).name in
    let there = (session_at (sorted n b) j).name in
    let records : own here first ≡ own here second = alike.records ∙ ap (λ (name : Word). own name second) (sym alike.name) in
    at_name n a i alike.first
    ∙ apart n first second here records
    ∙ ap (session_of n second) alike.name
    ∙ sym (at_name n b j alike.second)
