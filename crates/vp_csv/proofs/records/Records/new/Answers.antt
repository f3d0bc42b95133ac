use Rattle.std.proofs.Common.{◌∙◌, refl, inr}
use Rattle.vp_csv.specs.Left.{left_of, Keeps}
use Rattle.vp_csv.specs.Records.{records_in}
use Rattle.vp_csv.proofs.records.Records.new.Goals as goal

pub returns : goal.returns
unfolding records_in left_of
returns c = let fr = c.from_reader.ensures in rw (fr.source, fr.state) refl

pub invariant_of-result : goal.invariant_of-result
unfolding Keeps
invariant_of-result c = λ good.
    let fr = c.from_reader.ensures in
    let h = c.has_headers.ensures in
    let e = c.flexible.ensures in
    record {
      plain = fr.trim ∙ rw (e, h) c.new.ensures.trim;
      ready = inr (inr (fr.has_headers ∙ rw (e, h) refl, fr.headers));
      config = fr.config ∙ rw (e, h) c.new.ensures.config;
      flexible = fr.flexible ∙ rw e refl;
    }
