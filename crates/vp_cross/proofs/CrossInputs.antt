-- Two pay tables, each of which has to fit, are read exactly.
use Rattle.std.proofs.Common.{◌≡◌, ℕ, Bool, List, [], sym, ap, subst, ◌∙◌, inl, inr, Result, Ok, Err, ◌⊎◌}
use Rattle.vp_text.specs.Lines.{Feed, feed_of}
use Rattle.vp_text.specs.Sections.{RefusedLine, last_of}
use Rattle.vp_text.specs.ExactReaders.{Exact, Reader}
use Rattle.vp_text.specs.Reading.{both, fitted, fitting, whole}
use Rattle.vp_text.proofs.Fitted.{DoesFit, DoesNotFit, fits_in_front, fits_or_not, fitted_pair, fitting_by, no_misfit, same_misfit, whole_by}
use Rattle.vp_text.proofs.Joined.{Exact-both, starts_apart}
use Rattle.vp_text.proofs.Spelled.{err_is, ok_err}
use Rattle.vp_text.proofs.Whole.{starts_whole, whole_again, whole_found, whole_refused, whole_stops}
use Rattle.vp_pay.specs.Sections.{table_at}
use Rattle.vp_pay.specs.Spelling.{table_text}
use Rattle.vp_pay.specs.Table.{IsTable}
use Rattle.vp_pay.specs.declared.table.PayTable.{PayTable}
use Rattle.vp_pay.proofs.Tables.{Exact-table}
use Rattle.vp_pay.specs.Inputs.{has_bet, section_input}
use Rattle.vp_cross.specs.Cross.{AreTables, CrossInputsAreRead, IsNowhere, MisfitFirst, MisfitSecond, RefusesTables, SpellsTables, crosses, two_texts}

module _ (coin : ℕ) (bytes : List ℕ) where
  abbrev feed : Feed
  feed = feed_of bytes

  abbrev at_end : Feed
  at_end = record { lines = []; past = feed.past; last = last_of feed.lines feed.last }

  abbrev second_at : PayTable → Reader PayTable
  second_at played = fitted (crosses coin played) table_at

  abbrev pair_fits : PayTable × PayTable → Bool
  pair_fits read = crosses coin read.0 read.1

  abbrev two_at : Reader (PayTable × PayTable)
  two_at = both table_at (λ played. table_at)

  exact : Exact two_texts AreTables two_at
  exact = Exact-both table_text IsTable table_at (λ played. table_text) (λ played. IsTable) (λ played. table_at) Exact-table (λ played valid. Exact-table)

  abbrev input : Result (PayTable × PayTable) ℕ
  input = whole (fitting (has_bet coin) table_at second_at) feed

  -- ---- which table does not fit, if any

  abbrev HasNoBet : Type 0
  HasNoBet = DoesNotFit table_text IsTable (has_bet coin) table_at feed

  abbrev HasBet : Type 0
  HasBet = DoesFit table_text IsTable (has_bet coin) table_at feed

  abbrev CrossesNot : Type 0
  CrossesNot = DoesNotFit two_texts AreTables pair_fits two_at feed

  abbrev Crosses : Type 0
  Crosses = DoesFit two_texts AreTables pair_fits two_at feed

  first : HasNoBet ⊎ HasBet
  first = fits_or_not table_text IsTable (has_bet coin) table_at Exact-table feed

  second : CrossesNot ⊎ Crosses
  second = fits_or_not two_texts AreTables pair_fits two_at exact feed

  -- the second table is tested behind the first, or the pair behind both
  as_pair : HasBet → input ≡ whole (fitted pair_fits two_at) feed
  as_pair h =
      fitting_by (has_bet coin) table_at second_at feed (table_at feed) h.answer
      ∙ whole_by (both table_at second_at) feed (fitted pair_fits two_at feed) (fitted_pair (crosses coin) table_at (λ played. table_at) feed)

  no_bet : (m : HasNoBet) → input ≡ Err m.refused
  no_bet m = fitting_by (has_bet coin) table_at second_at feed (Err m.refused) m.answer

  no_pair : HasBet → (m : CrossesNot) → input ≡ Err m.refused
  no_pair h m = as_pair h ∙ whole_by (fitted pair_fits two_at) feed (Err m.refused) m.answer

  both_fit : HasBet → Crosses → input ≡ whole two_at feed
  both_fit h c = as_pair h ∙ whole_by (fitted pair_fits two_at) feed (two_at feed) c.answer

  -- ---- what is read, and which line is refused

  found : (read : PayTable × PayTable) → input ≡ Ok read → SpellsTables coin bytes read
  found read e = by_case first second
    where
      by_case : HasNoBet ⊎ HasBet → CrossesNot ⊎ Crosses → SpellsTables coin bytes read
      by_case (inl m) s = absurd (ok_err input read m.refused e (no_bet m))
      by_case (inr h) (inl m) = absurd (ok_err input read m.refused e (no_pair h m))
      by_case (inr h) (inr c) =
          let t = whole_found two_texts AreTables two_at exact feed read (sym (both_fit h c) ∙ e) in
          let all = starts_whole two_texts feed read t.1 in
          let p = starts_apart table_text (λ (played : PayTable). table_text) feed at_end read.0 read.1 all in
          (t.0, fits_in_front table_text IsTable (has_bet coin) feed p.between read.0 h.none t.0.0 p.first, fits_in_front two_texts AreTables pair_fits feed at_end read c.none t.0 all, t.1)

  again : (read : PayTable × PayTable) → SpellsTables coin bytes read → input ≡ Ok read
  again read (valid, bet, fit, is) = by_case first second
    where
      by_case : HasNoBet ⊎ HasBet → CrossesNot ⊎ Crosses → input ≡ Ok read
      by_case (inl m) s =
          let p = starts_apart table_text (λ (played : PayTable). table_text) feed at_end read.0 read.1 (starts_whole two_texts feed read is) in
          absurd (no_misfit table_text IsTable (has_bet coin) table_at Exact-table feed p.between read.0 m.refused valid.0 p.first bet m.misfit)
      by_case (inr h) (inl m) = absurd (no_misfit two_texts AreTables pair_fits two_at exact feed at_end read m.refused valid (starts_whole two_texts feed read is) fit m.misfit)
      by_case (inr h) (inr c) = both_fit h c ∙ whole_again two_texts AreTables two_at exact feed read valid is

  stops : (line : ℕ) → input ≡ Err line → RefusesTables coin bytes line
  stops line e = by_case first second
    where
      by_case : HasNoBet ⊎ HasBet → CrossesNot ⊎ Crosses → RefusesTables coin bytes line
      by_case (inl m) s = inl (subst (λ (n : ℕ). MisfitFirst coin bytes n) (err_is {A = PayTable × PayTable} m.refused line (sym (no_bet m) ∙ e)) m.misfit)
      by_case (inr h) (inl m) = inr (h.none, inl (subst (λ (k : ℕ). MisfitSecond coin bytes k) (err_is {A = PayTable × PayTable} m.refused line (sym (no_pair h m) ∙ e)) m.misfit))
      by_case (inr h) (inr c) = inr (h.none, inr (c.none, whole_stops two_texts AreTables two_at exact feed line (sym (both_fit h c) ∙ e)))

  refuses : (line : ℕ) → RefusesTables coin bytes line → input ≡ Err line
  refuses line at = by_case at first second
    where
      as_err : ℕ → Result (PayTable × PayTable) ℕ
      as_err n = Err n

      by_case : RefusesTables coin bytes line → HasNoBet ⊎ HasBet → CrossesNot ⊎ Crosses → input ≡ Err line
      by_case (inl m) (inl k) s = no_bet k ∙ ap as_err (same_misfit table_text IsTable (has_bet coin) table_at Exact-table feed k.refused line k.misfit m)
      by_case (inl m) (inr h) s = absurd (h.none line m)
      by_case (inr r) (inl k) s = absurd (r.0 k.refused k.misfit)
      by_case (inr r) (inr h) s = behind r.1 s
        where
          behind : MisfitSecond coin bytes line ⊎ (IsNowhere (MisfitSecond coin bytes) × RefusedLine two_texts AreTables feed line) → CrossesNot ⊎ Crosses → input ≡ Err line
          behind (inl m) (inl k) = no_pair h k ∙ ap as_err (same_misfit two_texts AreTables pair_fits two_at exact feed k.refused line k.misfit m)
          behind (inl m) (inr c) = absurd (c.none line m)
          behind (inr q) (inl k) = absurd (q.0 k.refused k.misfit)
          behind (inr q) (inr c) = both_fit h c ∙ whole_refused two_texts AreTables two_at exact feed line q.1

pub crosses_read : CrossInputsAreRead
unfolding section_input
crosses_read coin = record {
  spelled = λ bytes read. (found coin bytes read, again coin bytes read);
  refused = λ bytes line. (stops coin bytes line, refuses coin bytes line);
}
