use Rattle.std.proofs.Common.{◌<◌, ◌^◌, sym, ap, ◌∙◌, length, rules}
use Rattle.std.specs.Prelude.{nat_lt}
use Rattle.pv_rows_reports.proofs.Lying.{lies}
use Rattle.pv_rows_reports.proofs.rows.lies_in.Goals as goal

pub returns : goal.returns
returns c = λ below.
    let near : c.args.place.offset < 2 ^ 32 = search rules in
    let count = ap length c.as_slice.ensures.value in
    lies c.args.places.now.files.items c.args.place near (sym (ap (nat_lt c.args.place.file) count) ∙ below)
