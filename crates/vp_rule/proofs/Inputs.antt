-- What inputs of a table and of a list or a pool say.
use Rattle.std.proofs.Common.{◌≡◌, ℕ, Bool, [], Ok, Err, refl, sym, subst}
use Rattle.std.specs.Prelude.{Result}
use Rattle.vp_text.specs.ExactReaders.{Exact, Reader}
use Rattle.vp_text.specs.Lines.{Feed, feed_of}
use Rattle.vp_text.specs.Reading.{mapped}
use Rattle.vp_text.specs.Sections.{AcceptedInput, Text}
use Rattle.vp_pay.specs.Inputs.{AreRead, RefusesSection, section_input}
use Rattle.vp_pay.specs.Spelling.{table_text}
use Rattle.vp_pay.specs.Table.{IsTable}
use Rattle.vp_pay.specs.declared.table.PayTable.{PayTable}
use Rattle.vp_pay.proofs.Inputs.{section_read}
use Rattle.vp_rule.specs.Inputs.{RefusesList, RefusesPool, SpellsList, SpellsPool, list_input, pool_input}
use Rattle.vp_rule.specs.Reading.{list_at, pool_at}
use Rattle.vp_rule.specs.Spelling.{list_text, pool_text}
use Rattle.vp_rule.specs.Valid.{IsList, IsPool}
use Rattle.vp_rule.proofs.ListsGrammar.{Exact-list, Exact-pool}

-- ---- a section that is seen as it is

same_result : {A : Type 0} (read : Result (A × Feed) ℕ) → read ≡ mapped (λ (a : A). a) (λ feed. read) (feed_of [])
same_result (Ok read) = refl
same_result (Err line) = refl

as_spelled : {A : Type 0} (fits : PayTable → Bool) (spell : PayTable → A → Text) (Valid : PayTable → A → Type 0) (reader : PayTable → Reader A) → ((t : PayTable) → IsTable t → Exact (spell t) (Valid t) (reader t))
    → AreRead (section_input fits reader) (λ bytes read. AcceptedInput table_text IsTable fits spell Valid (feed_of bytes) read) (RefusesSection fits spell Valid)
as_spelled {A} fits spell Valid reader exact =
    let read = section_read fits spell Valid (λ (a : A). a) reader reader exact (λ t feed. same_result (reader t feed)) in
    record {
      spelled = λ bytes value. (
        λ is. let found = (read.spelled bytes value).0 is in subst (λ (a : A). AcceptedInput table_text IsTable fits spell Valid (feed_of bytes) (value.0, a)) (sym found.2) found.1,
        λ accepted. (read.spelled bytes value).1 (value.1, accepted, refl),
      );
      refused = read.refused;
    }

-- ---- lists and pools

pub lists_read : (fits : PayTable → Bool) → AreRead (list_input fits) (SpellsList fits) (RefusesList fits)
lists_read fits = as_spelled fits list_text IsList list_at Exact-list

pub pools_read : (fits : PayTable → Bool) → AreRead (pool_input fits) (SpellsPool fits) (RefusesPool fits)
pools_read fits = as_spelled fits pool_text IsPool pool_at Exact-pool
