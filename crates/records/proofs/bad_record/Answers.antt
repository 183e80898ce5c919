-- The search goes on at r (`here`, `on`, `done`).
use Rattle.std.proofs.Common.{◌≡◌, ◌-◌, ◌<◌, true, false, not, None, arith, sym, ap, ◌∙◌}
use Rattle.records.specs.First.{first_from}
use Rattle.records.specs.Records.{record_bad, records_in, bad_record}
use Rattle.records.proofs.Search.{here, on, done}
use Rattle.records.proofs.bad_record.Goals as goal

pub returns-then-not-record_good : goal.returns-then-not-record_good
unfolding bad_record
returns-then-not-record_good c =
    let a = c.args in
    let r = c.loop-r.r in
    let less : r < records_in a.image.now.header = omega arith in
    let bad : record_bad a.image.now.bytes.now a.image.now.header r ≡ true = ap not (sym c.record_good.ensures ∙ c.if-not-record_good.true) in
    rw (c.loop-r.invariant ∙ here (record_bad a.image.now.bytes.now a.image.now.header) r _ less bad, sym c.record_offset.ensures)

pub loop-r-preserved : goal.loop-r-preserved
loop-r-preserved c =
    let a = c.args in
    let r = c.loop-r.r in
    let less : r < records_in a.image.now.header = omega arith in
    let good : record_bad a.image.now.bytes.now a.image.now.header r ≡ false = ap not (sym c.record_good.ensures ∙ c.if-not-record_good.false) in
    c.loop-r.invariant ∙ on (record_bad a.image.now.bytes.now a.image.now.header) r _ less good

pub returns : goal.returns
unfolding bad_record
returns c =
    let a = c.args in
    let test = record_bad a.image.now.bytes.now a.image.now.header in
    let end : records_in a.image.now.header ≡ c.loop-r.r = omega arith in
    let stop : first_from test 0 (records_in a.image.now.header) ≡ None =
    c.loop-r.invariant ∙ ap (λ n. first_from test c.loop-r.r (n - c.loop-r.r)) end ∙ done test c.loop-r.r in
    rw stop
