use Rattle.std.proofs.Common.{rules, ◌≡◌, sym, ◌∙◌, arith, true, false}
use Rattle.csv.specs.Records.{fields_of}
use Rattle.vp_csv.specs.Rules.{keeps_rule}
use Rattle.vp_csv.specs.Kept.{names_kept}
use Rattle.vp_csv.proofs.SoFar.{breaks, ends, goes_on, starts}
use Rattle.vp_csv.proofs.reading.read_behind.Goals as goal

pub records-init : goal.records-init
records-init c = record {
  so_far = starts _ _ _ c.new-sessions.ensures.items;
  most = omega arith;
}

pub returns-then-not-found-clause-read : goal.returns-then-not-found-clause-read
returns-then-not-found-clause-read c =
    let none : c.in-Ok.found ≡ false = search rules in
    let e = ends _ _ _ _ _ _ _ _ c.records.invariant.so_far c.in-Ok.ensures none in
    (e.none, e.sessions)

pub returns-then-not-kept-clause-refused : goal.returns-then-not-kept-clause-refused
returns-then-not-kept-clause-refused c =
    let found : c.in-Ok.found ≡ true = search rules in
    let kept : keeps_rule c.args.deck c.records.count (names_kept c.records.sessions.items) (fields_of c.next.new.row) ≡ false = sym c.in-Ok-take.ensures.may ∙ c.if-not-kept.true in
    breaks _ _ _ _ _ _ _ _ c.records.invariant.so_far c.in-Ok.ensures found kept

pub records-preserved : goal.records-preserved
records-preserved c =
    let found : c.in-Ok.found ≡ true = search rules in
    let kept : keeps_rule c.args.deck c.records.count (names_kept c.records.sessions.items) (fields_of c.next.new.row) ≡ true = sym c.in-Ok-take.ensures.may ∙ c.if-not-kept.false in
    record {
      so_far = goes_on _ _ _ _ _ _ _ _ _ c.records.invariant.so_far c.in-Ok.ensures found kept (c.in-Ok-take.ensures.keeps c.if-not-kept.false);
      most = let lt = c.in-Ok-take.ensures.room c.if-not-kept.false in omega arith;
    }
