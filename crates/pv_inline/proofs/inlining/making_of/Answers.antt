use Rattle.pv_inline.specs.Blocks.{codes_in}
use Rattle.pv_call_tables.proofs.ForCallers.{passed_on}
use Rattle.pv_inline.proofs.ShortWalks.{entry_work, entry_made}
use Rattle.pv_inline.proofs.Coding.{entry_seen, copies_are}
use Rattle.pv_inline.proofs.inlining.making_of.Goals as goal

pub returns-clause-made : goal.returns-clause-made
returns-clause-made c =
    copies_are (codes_in c.args.blocks.now) c.count.result c.args.parts.now _ _ _ c.in_ok-add_copy.ensures.made c.count.ensures
    (entry_seen (codes_in c.args.blocks.now) c.args.parts.now c.args.table.now c.in_ok-places.places c.in_ok-body.body c.requires c.in_ok-places.ensures
    c.in_ok-body.ensures.body) c.in_ok-making.ensures

pub returns-in_err-add_copy-clause-short : goal.returns-in_err-add_copy-clause-short
returns-in_err-add_copy-clause-short c all =
    let same = entry_seen (codes_in c.args.blocks.now) c.args.parts.now c.args.table.now c.in_ok-places.places c.in_ok-body.body c.requires c.in_ok-places.ensures
    c.in_ok-body.ensures.body in
    passed_on c.from_residual-in_err-add_copy.result c.in_err-add_copy.field-0.0 c.from_residual-in_err-add_copy.ensures.1
    (c.in_err-add_copy.ensures.short c.args.parts.now all (entry_work (codes_in c.args.blocks.now) c.args.parts.now _ c.count.result same c.count.ensures)
    (entry_made (codes_in c.args.blocks.now) c.args.parts.now _ c.count.result _ same c.count.ensures c.in_ok-making.ensures))
