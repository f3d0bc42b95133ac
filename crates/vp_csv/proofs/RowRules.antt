-- The rule of a record by its fields.
use Rattle.std.proofs.Common.{◌≡◌, ◌<◌, ℕ, Bool, true, false, cond, ◌&&◌, ◌||◌, List, [], ◌∷◌, ◌++◌, length, refl, sym, ap, ◌∙◌, arith, Some, None, nat_lt}
use Rattle.std.specs.Prelude.{Option, is_some, bytes_eq, if◌then◌else◌}
use Rattle.std.proofs.lemmas.Bool.{lt-ltb}
use Rattle.vp_text.specs.Lines.{Word}
use Rattle.vp_text.proofs.Pieces.{no_value, same_value}
use Rattle.vp_pay.specs.Names.{is_name}
use Rattle.vp_csv.specs.Fields.{Row, row_of}
use Rattle.vp_csv.specs.Kept.{Kept, game_line, is_kept, names_kept, opened, updated, with_text_for}
use Rattle.vp_csv.specs.Records.{Record}
use Rattle.vp_csv.specs.Rules.{game_in, game_of, keeps_rule, knows, name_of, start_in, start_of}

-- ---- what a record of seven fields says

pub name_is : (r : Record) (row : Row) → row_of r ≡ Some row → name_of r ≡ row.session
name_is (a ∷ b ∷ c ∷ d ∷ e ∷ f ∷ g ∷ []) row is = ap (λ (w : Row). w.session) (same_value (record { session = a; bet = b; deal = c; hold = d; draw = e; pay = f; credits = g }) row is)
name_is [] row is = absurd (no_value row is)
name_is (a ∷ []) row is = absurd (no_value row is)
name_is (a ∷ b ∷ []) row is = absurd (no_value row is)
name_is (a ∷ b ∷ c ∷ []) row is = absurd (no_value row is)
name_is (a ∷ b ∷ c ∷ d ∷ []) row is = absurd (no_value row is)
name_is (a ∷ b ∷ c ∷ d ∷ e ∷ []) row is = absurd (no_value row is)
name_is (a ∷ b ∷ c ∷ d ∷ e ∷ f ∷ []) row is = absurd (no_value row is)
name_is (a ∷ b ∷ c ∷ d ∷ e ∷ f ∷ g ∷ h ∷ more) row is = absurd (no_value row is)

game_is : (n : ℕ) (r : Record) (row : Row) → row_of r ≡ Some row → game_of n r ≡ game_in n row
unfolding game_of
game_is n r row is = rw is refl

start_is : (r : Record) (row : Row) → row_of r ≡ Some row → start_of r ≡ start_in row
unfolding start_of
start_is r row is = rw is refl

no_game : (n : ℕ) (r : Record) → row_of r ≡ None → game_of n r ≡ None
unfolding game_of
no_game n r is = rw is refl

no_start : (r : Record) → row_of r ≡ None → start_of r ≡ None
unfolding start_of
no_start r is = rw is refl

pub kept_known : (name : Word) (ks : List Kept) → is_kept name ks ≡ knows name (names_kept ks)
kept_known name [] = refl
kept_known name (k ∷ ks) = ap (λ (b : Bool). bytes_eq k.name name || b) (kept_known name ks)

many_kept : (ks : List Kept) → length (names_kept ks) ≡ length ks
many_kept [] = refl
many_kept (k ∷ ks) = omega (arith, many_kept ks)

-- ---- the rule

and_false : (b : Bool) → (b && false) ≡ false
and_false true = refl
and_false false = refl

-- a record that has not seven fields breaks its rule
pub rule_none : (n count : ℕ) (names : List Word) (r : Record) → row_of r ≡ None → keeps_rule n count names r ≡ false
rule_none n count names r is = rw (no_game n r is, no_start r is) (by_test (knows (name_of r) names))
  where
    by_test : (b : Bool) → (nat_lt count 400000 && is_name (name_of r) && cond b false (nat_lt (length names) 1000 && false)) ≡ false
    by_test true = and_false (nat_lt count 400000 && is_name (name_of r))
    by_test false = rw (and_false (nat_lt (length names) 1000)) (and_false (nat_lt count 400000 && is_name (name_of r)))

pub rule_unnamed : (n count : ℕ) (names : List Word) (r : Record) (row : Row) → row_of r ≡ Some row → is_name row.session ≡ false → keeps_rule n count names r ≡ false
rule_unnamed n count names r row is none = rw (name_is r row is, none) (rw (and_false (nat_lt count 400000)) refl)

pub rule_known : (n count : ℕ) (ks : List Kept) (r : Record) (row : Row) (name : Word) → row_of r ≡ Some row → name ≡ row.session → count < 400000 → is_name name ≡ true → is_kept name ks ≡ true
    → keeps_rule n count (names_kept ks) r ≡ is_some (game_in n row)
rule_known n count ks r row name is same few named old =
    let known : knows name (names_kept ks) ≡ true = sym (kept_known name ks) ∙ old in
    rw (name_is r row is, game_is n r row is, lt-ltb count 400000 few, ← same, named, known) refl

pub rule_new : (n count : ℕ) (ks : List Kept) (r : Record) (row : Row) (name : Word) → row_of r ≡ Some row → name ≡ row.session → count < 400000 → is_name name ≡ true → is_kept name ks ≡ false
    → keeps_rule n count (names_kept ks) r ≡ (nat_lt (length ks) 1000 && is_some (start_in row))
rule_new n count ks r row name is same few named new =
    let unknown : knows name (names_kept ks) ≡ false = sym (kept_known name ks) ∙ new in
    rw (name_is r row is, start_is r row is, lt-ltb count 400000 few, ← same, named, unknown, many_kept ks) refl

pub game_kept : (n : ℕ) (ks : List Kept) (r : Record) (row : Row) (name : Word) → row_of r ≡ Some row → name ≡ row.session → is_kept name ks ≡ true
    → updated n r ks ≡ with_text_for name (game_line (game_in n row)) ks
unfolding updated
game_kept n ks r row name is same old = rw (name_is r row is, game_is n r row is, ← same, old) refl

pub opening_kept : (n : ℕ) (ks : List Kept) (r : Record) (row : Row) (name : Word) → row_of r ≡ Some row → name ≡ row.session → is_kept name ks ≡ false
    → updated n r ks ≡ ks ++ opened name (start_in row) ∷ []
unfolding updated
opening_kept n ks r row name is same new = rw (name_is r row is, start_is r row is, ← same, new) refl

pub name_read : (text name : Word) (o : Option Word) → o ≡ (if is_name text then Some text else None) → o ≡ Some name → name ≡ text
name_read text name o read is = by_test (is_name text) (sym read ∙ is)
  where
    by_test : (b : Bool) → (if b then Some text else None) ≡ Some name → name ≡ text
    by_test true e = sym (same_value text name e)
    by_test false e = absurd (no_value name e)
