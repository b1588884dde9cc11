use Rattle.std.proofs.Common.{map, ap}
use Rattle.pv_tree.specs.View.{block_tree}
use Rattle.pv_case_fit.proofs.Entering.{no_name, no_block}
use Rattle.pv_case_fit.proofs.entry.entry_of.Goals as goal

pub returns-in_default-clause-none : goal.returns-in_default-clause-none
returns-in_default-clause-none c = λ same n.
    no_name (map block_tree c.args.blocks.now.list.items) c.args.text.now c.in_ok-name.field-0 n c.in_default.is c.in_ok-name.ensures.none

pub returns-clause-none : goal.returns-clause-none
returns-clause-none c = λ same n.
    no_block (map block_tree c.args.blocks.now.list.items) (map block_tree c.as_slice.result.now) c.args.text.now c.in_ok-name.field-0
    c.in-Some.name c.number_of.result n (ap (map block_tree) c.as_slice.ensures.value) c.in-Some.is c.in_ok-name.ensures.found
    c.number_of.ensures c.in-None.is
