use Rattle.std.proofs.Common.{arith, ◌≡◌, length, ap, ◌∙◌}
use Rattle.pv_mean.specs.Counts.{capped}
use Rattle.pv_bytes.specs.NamedBytes.{bytes_tree}
use Rattle.pv_cells.proofs.TableParts.{bytes-counted}
use Rattle.pv_cells.proofs.table.size_of_bytes.Goals as goal

pub returns : goal.returns
returns c =
    let b = c.args.bytes.now in
    let inputs : c.len.result ≡ length b.inputs.items = omega (arith, c.len.ensures, b.inputs.ok.0) in
    let outputs : c.len-2.result ≡ length b.outputs.items = omega (arith, c.len-2.ensures, b.outputs.ok.0) in
    let flags : c.len-3.result ≡ length b.flags.items = omega (arith, c.len-3.ensures, b.flags.ok.0) in
    bytes-counted (bytes_tree b) (c.tables_are_laid_out.ensures.areas (bytes_tree b)) c.count-inputs.result c.count-outputs.result c.count-flags.result
    c.sum-first.result c.sum.result (c.count-inputs.ensures ∙ ap capped inputs) (c.count-outputs.ensures ∙ ap capped outputs)
    (c.count-flags.ensures ∙ ap capped flags) c.sum-first.ensures c.sum.ensures
