use Rattle.std.proofs.Common.{◌∙◌, arith}
use Rattle.pv_parse.proofs.Merging.{merged_cut}
use Rattle.pv_parse.proofs.shade.merged.Goals as goal

pub returns : goal.returns
returns c =
    c.in_ok-extend_from_slice.ensures.items
    ∙ merged_cut c.args.before.items c.args.behind.items c.deref.result.now c.len-from.result c.deref.ensures.value
    (c.len-from.ensures ∙ c.args.before.ok.0) (omega (arith, c.if-from-len.false, c.len.ensures, c.args.behind.ok.0))
