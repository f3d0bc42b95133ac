use Rattle.csv.specs.Reading.{stops_reader, error_kind}
use Rattle.csv.specs.Records.{fields_of}
use Rattle.vp_csv.proofs.Stepping.{steps, keeps_ok, keeps_err}
use Rattle.vp_csv.proofs.records.read_row.Goals as goal

pub returns-in_default-clause-keeps : goal.returns-in_default-clause-keeps
returns-in_default-clause-keeps c =
    let e = c.in_default.ensures in
    keeps_err c.args.reader.now c.read_byte_record.new.self (stops_reader (error_kind c.in_default.field-0)) c.requires
    (λ bad. let same = c.read_byte_record.ensures.failed bad in let is = c.in_default.is in cc) e.fails e.goes_on

pub returns-clause-keeps : goal.returns-clause-keeps
returns-clause-keeps c =
    let e = c.in-Ok.ensures in
    keeps_ok c.args.reader.now c.read_byte_record.new.self c.in-Ok.found (fields_of c.read_byte_record.new.row) c.requires e.goes e.flexible e.ready e.reads

pub returns-clause-steps : goal.returns-clause-steps
returns-clause-steps c =
    let e = c.in-Ok.ensures in
    steps c.args.reader.now c.read_byte_record.new.self c.in-Ok.found (fields_of c.read_byte_record.new.row) c.requires
    (λ bad. let same = c.read_byte_record.ensures.failed bad in let is = c.in-Ok.is in cc) e.reads
