-- Records that keep their rules are at most 400000, of at most 1000 sessions.
use Rattle.std.proofs.Common.{◌≡◌, ◌≤◌, ◌+◌, ℕ, Bool, true, false, cond, List, [], ◌∷◌, ◌++◌, length, sym, subst, arith, Some, None, nat_lt, ◌&&◌, append_assoc, length-append, inl, inr}
use Rattle.std.specs.Prelude.{Option, bytes_eq, is_some, option_to_list}
use Rattle.std.proofs.lemmas.Bool.{cases_Bool, ltb-true}
use Rattle.std.proofs.lemmas.List.{append-nil}
use Rattle.vp_text.specs.Lines.{Word}
use Rattle.vp_text.proofs.Pieces.{both_true, no_value}
use Rattle.vp_pay.specs.Names.{is_name}
use Rattle.vp_loggram.specs.declared.event.Event.{Event}
use Rattle.vp_csv.specs.Records.{Record}
use Rattle.vp_csv.specs.Rules.{break_behind, game_of, knows, may_follow, name_of, names_behind, names_of, start_of}
use Rattle.vp_csv.specs.Sessions.{games_of, log_of, own}
use Rattle.vp_csv.proofs.Names.{names_more}

pub record AreFew (rs : List Record) : Type 0 where
  pub records : length rs ≤ 400000
  pub names : length (names_of rs) ≤ 1000

more_names : (b : Bool) (names : List Word) (name : Word) (n : ℕ) (r : Record) → length names ≤ 1000
    → cond b (is_some (game_of n r)) (nat_lt (length names) 1000 && is_some (start_of r)) ≡ true → length (cond b names (names ++ name ∷ [])) ≤ 1000
more_names true names name n r few keeps = few
more_names false names name n r few keeps =
    let room = ltb-true (length names) 1000 (both_true (nat_lt (length names) 1000) (is_some (start_of r)) keeps).0 in
    omega (arith, length-append names (name ∷ []))

one_more : (n : ℕ) (front : List Record) (r : Record) → AreFew front → may_follow n front r ≡ true → AreFew (front ++ r ∷ [])
one_more n front r few may =
    let names = names_of front in
    let all = both_true (nat_lt (length front) 400000 && is_name (name_of r)) (cond (knows (name_of r) names) (is_some (game_of n r)) (nat_lt (length names) 1000 && is_some (start_of r))) may in
    let room = ltb-true (length front) 400000 (both_true (nat_lt (length front) 400000) (is_name (name_of r)) all.0).0 in
    record {
      records = omega (arith, length-append front (r ∷ []));
      names = rw (names_more [] front r) (more_names (knows (name_of r) names) names (name_of r) n r few.names all.1);
    }

few_behind : (n : ℕ) (front rs : List Record) → AreFew front → break_behind n front rs ≡ None → AreFew (front ++ rs)
unfolding break_behind
few_behind n front [] few none = subst AreFew (sym (append-nil front)) few
few_behind n front (r ∷ rs) few none = elim (cases_Bool (may_follow n front r)) [
  | inl may ↦
      let next : break_behind n (front ++ r ∷ []) rs ≡ None = rw may at none in
      subst AreFew (append_assoc front (r ∷ []) rs) (few_behind n (front ++ r ∷ []) rs (one_more n front r few may) next)
  | inr broken ↦ let some : Some (length front + 2) ≡ None = rw broken at none in absurd (no_value (length front + 2) (sym some))
]

pub few_records : (n : ℕ) (rs : List Record) → break_behind n [] rs ≡ None → AreFew rs
unfolding names_behind
few_records n rs none = few_behind n [] rs (record { records = omega arith; names = omega arith }) none

-- ---- the games of a session

at_most_one : (o : Option Event) → length (option_to_list o) ≤ 1
at_most_one None = omega arith
at_most_one (Some e) = omega arith

few_games : (n : ℕ) (rs : List Record) → length (games_of n rs) ≤ length rs
few_games n [] = omega arith
few_games n (r ∷ rs) = omega (arith, length-append (option_to_list (game_of n r)) (games_of n rs), at_most_one (game_of n r), few_games n rs)

few_own : (name : Word) (rs : List Record) → length (own name rs) ≤ length rs
few_own name [] = omega arith
few_own name (r ∷ rs) = elim (bytes_eq name (name_of r)) as (λ b. length (cond b (r ∷ own name rs) (own name rs)) ≤ length (r ∷ rs)) [
  | true ↦ omega (arith, few_own name rs)
  | false ↦ omega (arith, few_own name rs)
]

log_few : (n : ℕ) (rs : List Record) → length (log_of n rs).events ≤ length rs
log_few n [] = omega arith
log_few n (opening ∷ games) = omega (arith, few_games n games)

pub few_events : (n : ℕ) (name : Word) (rs : List Record) → length rs ≤ 400000 → length (log_of n (own name rs)).events ≤ 400000
few_events n name rs few = omega (arith, log_few n (own name rs), few_own name rs)
