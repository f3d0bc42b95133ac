-- A pay table that fits, alone or with a section behind it, is read exactly.
use Rattle.std.proofs.Common.{◌≡◌, ℕ, Bool, true, false, List, [], ◌∷◌, refl, sym, ap, ◌∙◌, append-nil, inl, inr, if◌then◌else◌}
use Rattle.std.specs.Prelude.{Result, Ok, Err}
use Rattle.vp_card.specs.Cards.{in_order}
use Rattle.vp_text.specs.Lines.{WordLine, Feed, feed_of}
use Rattle.vp_text.specs.Sections.{Text, Begins, both_text, AreBoth, RefusedLine, RefusedInput}
use Rattle.vp_text.specs.ExactReaders.{Exact, Reader}
use Rattle.vp_text.specs.Reading.{◌>>=◌, ended, fitting, mapped, nothing, whole}
use Rattle.vp_text.proofs.Sections.{Exact-nothing}
use Rattle.vp_text.proofs.Spelled.{ok_is, err_is}
use Rattle.vp_text.proofs.Fitted.{fitted_found, fitted_again, fitted_stops, fitted_refused}
use Rattle.vp_pay.specs.Deal.{AreDealtCards}
use Rattle.vp_pay.specs.Sections.{deal_at, hand_at, table_at}
use Rattle.vp_pay.specs.Spelling.{deal_text, table_text}
use Rattle.vp_pay.specs.Table.{IsTable}
use Rattle.vp_pay.specs.declared.table.PayTable.{PayTable}
use Rattle.vp_pay.proofs.Deals.{Exact-deal, hand_at-is}
use Rattle.vp_pay.proofs.Tables.{Exact-table}
use Rattle.vp_pay.specs.Inputs.{AreRead, HandsAreRead, RefusesSection, RefusesTable, SpellsSection, TablesAreRead, section_input, table_input}

-- ---- a section, and none behind it

abbrev no_text : {A : Type 0} → A → Unit {0} → Text
no_text a u = []

abbrev AnyUnit : {A : Type 0} → A → Unit {0} → Type 0
AnyUnit a u = Unit {0}

-- each valid value of one spelling has a valid one of the other that is spelled the same
abbrev Respelled : {A B : Type 0} → (A → Text) → (A → Type 0) → (B → Text) → (B → Type 0) → Type 0
Respelled {A} {B} spell Valid other Also = (a : A) → Valid a → (b : B) × Also b × (other b ≡ spell a)

begins_as : {A B : Type 0} (spell : A → Text) (Valid : A → Type 0) (other : B → Text) (Also : B → Type 0) (text : Text) → Respelled spell Valid other Also → Begins spell Valid text → Begins other Also text
begins_as spell Valid other Also text there b =
    let same = there b.value b.valid in
    record { value = same.0; valid = same.1; more = b.more; spelled = same.2 ∙ b.spelled }

-- where the same texts are spelled, the same line is refused
refused_as : {A B : Type 0} (spell : A → Text) (Valid : A → Type 0) (other : B → Text) (Also : B → Type 0) (feed : Feed) (line : ℕ)
    → Respelled spell Valid other Also → Respelled other Also spell Valid → RefusedLine spell Valid feed line → RefusedLine other Also feed line
refused_as spell Valid other Also feed line there back (inl r) = inl (record {
  front = r.front;
  line = r.line;
  rest = r.rest;
  lines = r.lines;
  number = r.number;
  begun = begins_as spell Valid other Also _ there r.begun;
  broken = λ b. r.broken (begins_as other Also spell Valid _ back b);
})
refused_as spell Valid other Also feed line there back (inr r) = inr (record {
  number = r.number;
  begun = begins_as spell Valid other Also _ there r.begun;
  none = λ value valid whole. let same = back value valid in r.none same.0 same.1 (whole ∙ sym same.2);
})

alone : {A : Type 0} (spell : A → Text) (Valid : A → Type 0) → Respelled (both_text spell no_text) (AreBoth Valid AnyUnit) spell Valid
alone spell Valid pair valid = (pair.0, valid.0, sym (append-nil (spell pair.0)))

behind_it : {A : Type 0} (spell : A → Text) (Valid : A → Type 0) → Respelled spell Valid (both_text spell no_text) (AreBoth Valid AnyUnit)
behind_it spell Valid value valid = ((value, tt), (valid, tt), append-nil (spell value))

-- ---- a pay table alone

none_exact : (pays : PayTable) → IsTable pays → Exact (no_text pays) (AnyUnit pays) nothing
none_exact pays table = Exact-nothing

of_two : (fits : PayTable → Bool) (bytes : List ℕ) (line : ℕ) → RefusedInput table_text IsTable fits (λ (t : PayTable). no_text t) (λ t. AnyUnit t) (feed_of bytes) line → RefusesTable fits bytes line
of_two fits bytes line (inl misfit) = inl misfit
of_two fits bytes line (inr (all, refused)) = inr (all, refused_as (both_text table_text no_text) (AreBoth IsTable AnyUnit) table_text IsTable (feed_of bytes) line (alone table_text IsTable) (behind_it table_text IsTable) refused)

to_two : (fits : PayTable → Bool) (bytes : List ℕ) (line : ℕ) → RefusesTable fits bytes line → RefusedInput table_text IsTable fits (λ (t : PayTable). no_text t) (λ t. AnyUnit t) (feed_of bytes) line
to_two fits bytes line (inl misfit) = inl misfit
to_two fits bytes line (inr (all, refused)) = inr (all, refused_as table_text IsTable (both_text table_text no_text) (AreBoth IsTable AnyUnit) (feed_of bytes) line (behind_it table_text IsTable) (alone table_text IsTable) refused)

pub tables_read : TablesAreRead
unfolding table_input
tables_read fits = record {
  spelled = λ bytes read. (
    λ e. let both = fitted_found table_text IsTable fits table_at (λ (t : PayTable). no_text t) (λ t. AnyUnit t) (λ t. nothing) Exact-table none_exact (feed_of bytes) read e in
        (both.0.0, both.1, both.2 ∙ append-nil (table_text read.0)),
    λ (valid, fit, is). fitted_again table_text IsTable fits table_at (λ (t : PayTable). no_text t) (λ t. AnyUnit t) (λ t. nothing) Exact-table none_exact (feed_of bytes) read
        ((valid, tt), fit, is ∙ sym (append-nil (table_text read.0))),
  );
  refused = λ bytes line. (
    λ e. of_two fits bytes line (fitted_stops table_text IsTable fits table_at (λ (t : PayTable). no_text t) (λ t. AnyUnit t) (λ t. nothing) Exact-table none_exact (feed_of bytes) line e),
    λ refuses. fitted_refused table_text IsTable fits table_at (λ (t : PayTable). no_text t) (λ t. AnyUnit t) (λ t. nothing) Exact-table none_exact (feed_of bytes) line (to_two fits bytes line refuses),
  );
}

-- ---- a section that is seen otherwise

-- what was said, seen so
seen : {A B C : Type 0} → (C → B) → Result (A × C) ℕ → Result (A × B) ℕ
seen see (Ok read) = Ok (read.0, see read.1)
seen see (Err line) = Err line

abbrev paired : {A B : Type 0} → A → B × Feed → Result ((A × B) × Feed) ℕ
paired a read = Ok ((a, read.0), read.1)

abbrev at_the_end : {A : Type 0} → A × Feed → Result A ℕ
at_the_end read = ended read.0 read.1.lines

at_end : {A B C : Type 0} (see : C → B) (a : A) (c : C) (lines : List WordLine) → ended (a, see c) lines ≡ seen see (ended (a, c) lines)
unfolding seen
at_end see a c [] = refl
at_end see a c (line ∷ more) = refl

behind_first : {A B C : Type 0} (see : C → B) (a : A) (r : Result (C × Feed) ℕ)
    → (((r >>= (λ x. Ok (see x.0, x.1))) >>= paired a) >>= at_the_end) ≡ seen see ((r >>= paired a) >>= at_the_end)
unfolding seen
behind_first see a (Ok read) = at_end see a read.0 read.1.lines
behind_first see a (Err line) = refl

where_fits : {A B C : Type 0} (see : C → B) (b : Bool) (a : A) (last : ℕ) (as_seen : Result (B × Feed) ℕ) (r : Result (C × Feed) ℕ) → as_seen ≡ (r >>= (λ x. Ok (see x.0, x.1)))
    → (((if b then as_seen else Err last) >>= paired a) >>= at_the_end) ≡ seen see (((if b then r else Err last) >>= paired a) >>= at_the_end)
unfolding seen
where_fits see true a last as_seen r is = ap (λ x. (x >>= paired a) >>= at_the_end) is ∙ behind_first see a r
where_fits see false a last as_seen r is = refl

in_first : {A B C : Type 0} (see : C → B) (fits : A → Bool) (as_seen : A → Reader B) (second : A → Reader C) → ((a : A) (feed : Feed) → as_seen a feed ≡ mapped see (second a) feed) → (r : Result (A × Feed) ℕ)
    → ((r >>= (λ a. (if fits a.0 then as_seen a.0 a.1 else Err a.1.last) >>= paired a.0)) >>= at_the_end)
    ≡ seen see ((r >>= (λ a. (if fits a.0 then second a.0 a.1 else Err a.1.last) >>= paired a.0)) >>= at_the_end)
unfolding seen
in_first see fits as_seen second is (Ok read) = where_fits see (fits read.0) read.0 read.1.last (as_seen read.0 read.1) (second read.0 read.1) (is read.0 read.1)
in_first see fits as_seen second is (Err line) = refl

record From {A B C : Type 0} (see : C → B) (r : Result (A × C) ℕ) (read : A × B) : Type 0 where
  said : C
  is : r ≡ Ok (read.0, said)
  seen_is : read.1 ≡ see said

seen_ok : {A B C : Type 0} (see : C → B) (r : Result (A × C) ℕ) (read : A × B) → seen see r ≡ Ok read → From see r read
unfolding seen
seen_ok {A} {B} {C} see (Ok v) read e =
    let p : A × B = (v.0, see v.1) in
    let same = ok_is p read e in
    record { said = v.1; is = ap (λ (a : A). Ok (a, v.1)) (ap (λ (x : A × B). x.0) same); seen_is = sym (ap (λ (x : A × B). x.1) same) }
seen_ok see (Err line) read e = absurd cc

seen_err : {A B C : Type 0} (see : C → B) (r : Result (A × C) ℕ) (line : ℕ) → seen see r ≡ Err line → r ≡ Err line
unfolding seen
seen_err see (Ok v) line e = absurd cc
seen_err {A} {B} {C} see (Err n) line e = ap (λ (k : ℕ). Err k) (err_is {A = A × B} n line e)

-- a section whose reader is exact, seen otherwise
pub section_read : {B C : Type 0} (fits : PayTable → Bool) (spell : PayTable → C → Text) (Valid : PayTable → C → Type 0) (see : C → B) (as_seen : PayTable → Reader B) (reader : PayTable → Reader C)
    → ((t : PayTable) → IsTable t → Exact (spell t) (Valid t) (reader t)) → ((t : PayTable) (feed : Feed) → as_seen t feed ≡ mapped see (reader t) feed)
    → AreRead (section_input fits as_seen) (SpellsSection fits spell Valid see) (RefusesSection fits spell Valid)
unfolding section_input seen
section_read {B} {C} fits spell Valid see as_seen reader exact is =
    let said = λ (bytes : List ℕ). whole (fitting fits table_at reader) (feed_of bytes) in
    let same : (bytes : List ℕ) → section_input fits as_seen bytes ≡ seen see (said bytes) = λ bytes. in_first see fits as_seen reader is (table_at (feed_of bytes)) in
    record {
      spelled = λ bytes read. (
        λ e. let from = seen_ok see (said bytes) read (sym (same bytes) ∙ e) in
            (from.said, fitted_found table_text IsTable fits table_at spell Valid reader Exact-table exact (feed_of bytes) (read.0, from.said) from.is, from.seen_is),
        λ (c, accepted, seen_is). same bytes ∙ (ap (seen see) (fitted_again table_text IsTable fits table_at spell Valid reader Exact-table exact (feed_of bytes) (read.0, c) accepted) ∙ ap (λ (b : B). Ok (read.0, b)) (sym seen_is)),
      );
      refused = λ bytes line. (
        λ e. fitted_stops table_text IsTable fits table_at spell Valid reader Exact-table exact (feed_of bytes) line (seen_err see (said bytes) line (sym (same bytes) ∙ e)),
        λ refuses. same bytes ∙ ap (seen see) (fitted_refused table_text IsTable fits table_at spell Valid reader Exact-table exact (feed_of bytes) line refuses),
      );
    }

deal_exact : (pays : PayTable) → IsTable pays → Exact deal_text (AreDealtCards pays.deck) (deal_at pays.deck)
deal_exact pays table = Exact-deal pays.deck table.known_deck

pub hands_read : HandsAreRead
hands_read fits = section_read fits (λ t. deal_text) (λ t. AreDealtCards t.deck) in_order (λ t. hand_at t.deck) (λ t. deal_at t.deck) deal_exact (λ t feed. hand_at-is t.deck feed)
