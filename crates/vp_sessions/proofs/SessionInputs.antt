-- An input of `sessions` is read exactly: a pay table, whatever follows.
use Rattle.std.proofs.Common.{◌≡◌, ℕ, List, refl, sym, ap, ◌∙◌, subst, inl, inr}
use Rattle.std.specs.Prelude.{Result, Ok, Err}
use Rattle.vp_text.specs.Lines.{Feed, feed_of, rest_of}
use Rattle.vp_text.specs.Reading.{◌>>=◌}
use Rattle.vp_text.specs.Sections.{Refuses}
use Rattle.vp_text.proofs.Spelled.{bind_err, bind_ok, ok_is}
use Rattle.vp_text.proofs.Refusals.{refused_again}
use Rattle.vp_pay.specs.Sections.{table_at}
use Rattle.vp_pay.specs.Spelling.{table_text}
use Rattle.vp_pay.specs.Table.{IsTable}
use Rattle.vp_pay.specs.declared.table.PayTable.{PayTable}
use Rattle.vp_pay.proofs.Tables.{Exact-table}
use Rattle.vp_sessions.specs.Sessions.{IsMixed, SessionsInputsAreRead, sessions_input}

abbrev with_rest : PayTable × Feed → Result (PayTable × List ℕ) ℕ
with_rest read = Ok (read.0, rest_of read.1)

taken : (bytes : List ℕ) (read : PayTable × List ℕ) → sessions_input bytes ≡ Ok read → IsMixed bytes read
taken bytes read e =
    let p = bind_ok (table_at (feed_of bytes)) with_rest read e in
    let s = Exact-table.takes (feed_of bytes) p.0.1 p.0.0 p.1 in
    subst (IsMixed bytes) (ok_is (p.0.0, rest_of p.0.1) read p.2) (record { table = s.0; left = p.0.1; front = s.1; csv = refl })

again : (bytes : List ℕ) (read : PayTable × List ℕ) → IsMixed bytes read → sessions_input bytes ≡ Ok read
again bytes read is =
    ap (λ r. r >>= with_rest) (Exact-table.again (feed_of bytes) is.left read.0 is.table is.front) ∙ ap (λ (csv : List ℕ). Ok (read.0, csv)) (sym is.csv)

stopped : (bytes : List ℕ) (line : ℕ) → sessions_input bytes ≡ Err line → Refuses table_text IsTable (feed_of bytes) line
stopped bytes line e =
    elim (bind_err (table_at (feed_of bytes)) with_rest line e) [
      | inl r ↦ Exact-table.stops (feed_of bytes) line r
      | inr h ↦ (let no : with_rest h.0 ≡ Err line = h.2 in absurd cc)
    ]

pub inputs_read : SessionsInputsAreRead
inputs_read = record {
  spelled = λ bytes read. (taken bytes read, again bytes read);
  refused = λ bytes line. (stopped bytes line, λ at. ap (λ r. r >>= with_rest) (refused_again table_text IsTable table_at Exact-table (feed_of bytes) line at));
}
