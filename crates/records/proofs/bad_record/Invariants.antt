-- The search goes on at r.
use Rattle.std.proofs.Common.{◌≡◌, ◌-◌}
use Rattle.records.specs.First.{first_from}
use Rattle.records.specs.Records.{record_bad, records_in}
use Rattle.records.proofs.bad_record.Given as goal

abbrev pub invariant-loop-r : goal.invariant-loop-r
invariant-loop-r l = first_from (record_bad l.image.bytes.now l.image.header) 0 (records_in l.image.header) ≡ first_from (record_bad l.image.bytes.now l.image.header) l.r (records_in l.image.header - l.r)
