-- What one more record does to the sessions.
use Rattle.std.proofs.Common.{◌≡◌, ℕ, Bool, true, false, ◌||◌, List, [], ◌∷◌, ◌++◌, map, inl, inr, refl, sym, ap, subst, ◌∙◌, append_assoc, Some, None}
use Rattle.std.specs.Prelude.{Option, bytes_eq, option_to_list}
use Rattle.std.proofs.lemmas.Bool.{cases_Bool}
use Rattle.std.proofs.lemmas.Grind.{flat_map-append}
use Rattle.std.proofs.lemmas.List.{append-nil, map-append}
use Rattle.std.proofs.lemmas.Slice.Eq.{bytes_eq-Decides}
use Rattle.vp_text.specs.Lines.{Word}
use Rattle.vp_text.specs.Written.{line_of, written}
use Rattle.vp_text.proofs.Pieces.{same_bytes}
use Rattle.vp_loggram.specs.Spelling.{event_words}
use Rattle.vp_loggram.specs.declared.event.Event.{Event}
use Rattle.vp_csv.specs.Records.{Record}
use Rattle.vp_csv.specs.Rules.{game_of, knows, name_of, names_of, start_of}
use Rattle.vp_csv.specs.Sessions.{games_of, log_of, or_zero, own}
use Rattle.vp_csv.specs.Kept.{Kept, game_line, is_kept, kept_in, kept_of, names_kept, open_text, opened, start_line, updated, with_text, with_text_for}
use Rattle.vp_csv.specs.Naming.{AllDiffer}
use Rattle.vp_csv.proofs.Names.{IsOpened, known, names_differ, names_more, own_more, unknown}

-- ---- the text of a session

-- the lines of one more game
more_lines : (events : List Event) (o : Option Event) → written (map event_words (events ++ option_to_list o)) ≡ written (map event_words events) ++ game_line o
more_lines events None = ap (λ (l : List Event). written (map event_words l)) (append-nil events) ∙ sym (append-nil (written (map event_words events)))
more_lines events (Some e) =
    ap written (map-append event_words events (e ∷ []))
    ∙ flat_map-append line_of (map event_words events) (event_words e ∷ [])
    ∙ ap (λ (l : List ℕ). written (map event_words events) ++ l) (append-nil (line_of (event_words e)))

-- the text of a session that was opened, with one more of its records
text_more : (n : ℕ) (opening : Record) (games : List Record) (r : Record)
    → open_text (log_of n ((opening ∷ games) ++ r ∷ [])) ≡ open_text (log_of n (opening ∷ games)) ++ game_line (game_of n r)
text_more n opening games r =
    let start = start_line (or_zero (start_of opening)) in
    let all : games_of n (games ++ r ∷ []) ≡ games_of n games ++ option_to_list (game_of n r) =
    flat_map-append (λ (r : Record). option_to_list (game_of n r)) games (r ∷ []) ∙ ap (λ (l : List Event). games_of n games ++ l) (append-nil (option_to_list (game_of n r))) in
    ap (λ (l : List Event). start ++ written (map event_words l)) all
    ∙ ap (λ (l : List ℕ). start ++ l) (more_lines (games_of n games) (game_of n r))
    ∙ sym (append_assoc start (written (map event_words (games_of n games))) (game_line (game_of n r)))

abbrev kept : Word → List ℕ → Kept
kept name text = record { name = name; text = text }

-- ---- a game of a session that is known

mine : (n : ℕ) (rs : List Record) (r : Record) → IsOpened (name_of r) rs → (name : Word) → bytes_eq name (name_of r) ≡ true
    → kept_of n (rs ++ r ∷ []) name ≡ with_text (game_line (game_of n r)) (kept_of n rs name)
unfolding kept_of
mine n rs r opened name is =
    let same : name ≡ name_of r = (bytes_eq-Decides name (name_of r)).0 is in
    let own : own name rs ≡ opened.opening ∷ opened.games = subst (λ (m : Word). own m rs ≡ opened.opening ∷ opened.games) (sym same) opened.is in
    rw (own_more name rs r, is, own) (ap (kept name) (text_more n opened.opening opened.games r))

other : (n : ℕ) (rs : List Record) (r : Record) (name : Word) → bytes_eq name (name_of r) ≡ false → kept_of n (rs ++ r ∷ []) name ≡ kept_of n rs name
unfolding kept_of
other n rs r name differ = rw (own_more name rs r, differ, append-nil (own name rs)) refl

neither : (a b : Bool) → (a || b) ≡ false → (a ≡ false) × (b ≡ false)
neither true b e = absurd cc
neither false b e = (refl, e)

as_before : (n : ℕ) (rs : List Record) (r : Record) (names : List Word) → knows (name_of r) names ≡ false → map (kept_of n (rs ++ r ∷ [])) names ≡ map (kept_of n rs) names
as_before n rs r [] none = refl
as_before n rs r (name ∷ names) none =
    let parts = neither (bytes_eq name (name_of r)) (knows (name_of r) names) none in
    rw (other n rs r name parts.0, as_before n rs r names parts.1) refl

kept_name : (n : ℕ) (rs : List Record) (name : Word) → (kept_of n rs name).name ≡ name
unfolding kept_of
kept_name n rs name = refl

all_more : (n : ℕ) (rs : List Record) (r : Record) → IsOpened (name_of r) rs → (names : List Word) → AllDiffer names
    → map (kept_of n (rs ++ r ∷ [])) names ≡ with_text_for (name_of r) (game_line (game_of n r)) (map (kept_of n rs) names)
unfolding with_text_for kept_of
all_more n rs r opened [] differ = refl
all_more n rs r opened (name ∷ names) differ = elim (cases_Bool (bytes_eq name (name_of r))) [
  | inl is ↦
      let same : name ≡ name_of r = (bytes_eq-Decides name (name_of r)).0 is in
      let rest : knows (name_of r) names ≡ false = subst (λ (m : Word). knows m names ≡ false) same differ.0 in
      rw (kept_name n rs name, is, mine n rs r opened name is, as_before n rs r names rest) refl
  | inr not_mine ↦ rw (kept_name n rs name, not_mine, other n rs r name not_mine, all_more n rs r opened names differ.1) refl
]

-- ---- a record that opens a session

opens : (n : ℕ) (rs : List Record) (r : Record) → own (name_of r) rs ≡ [] → kept_of n (rs ++ r ∷ []) (name_of r) ≡ opened (name_of r) (start_of r)
unfolding kept_of
opens n rs r none = rw (own_more (name_of r) rs r, none, same_bytes (name_of r)) (ap (kept (name_of r)) (append-nil (start_line (or_zero (start_of r)))))

-- ---- all sessions

is_known : (n : ℕ) (rs : List Record) (name : Word) (names : List Word) → is_kept name (map (kept_of n rs) names) ≡ knows name names
unfolding kept_of
is_known n rs name [] = refl
is_known n rs name (other ∷ names) = ap (λ (b : Bool). bytes_eq other name || b) (is_known n rs name names)

names_of_kept : (n : ℕ) (rs : List Record) (names : List Word) → names_kept (map (kept_of n rs) names) ≡ names
unfolding kept_of
names_of_kept n rs [] = refl
names_of_kept n rs (name ∷ names) = ap (λ (ns : List Word). name ∷ ns) (names_of_kept n rs names)

pub names_are : (n : ℕ) (rs : List Record) → names_kept (kept_in n rs) ≡ names_of rs
unfolding kept_in
names_are n rs = names_of_kept n rs (names_of rs)

was_opened : (rs : List Record) (name : Word) → knows name (names_of rs) ≡ true → IsOpened name rs
was_opened rs name old = elim (known name [] rs old) [ inl before ↦ absurd cc | inr opened ↦ opened ]

pub updates : (n : ℕ) (rs : List Record) (r : Record) → kept_in n (rs ++ r ∷ []) ≡ updated n r (kept_in n rs)
unfolding kept_in updated
updates n rs r =
    let names = names_of rs in
    let name = name_of r in
    elim (cases_Bool (knows name names)) [
      | inl old ↦ rw (names_more [] rs r, old, is_known n rs name names, old) (all_more n rs r (was_opened rs name old) names (names_differ rs))
      | inr new ↦
          let last : kept_of n (rs ++ r ∷ []) name ≡ opened name (start_of r) = opens n rs r (unknown name [] rs new) in
          rw (names_more [] rs r, new, is_known n rs name names, new)
          (map-append (kept_of n (rs ++ r ∷ [])) names (name ∷ []) ∙ rw (as_before n rs r names new, last) refl)
    ]
