use Rattle.pv_tree.specs.View.{expr_tree}
use Rattle.pv_pattern_read.specs.InContext.{scope_at}
use Rattle.pv_pattern_read.proofs.Wanted.{says_term}
use Rattle.pv_pattern_read.proofs.reading.term_in.Goals as goal

pub term_of-requires : goal.term_of-requires
term_of-requires c =
    says_term c.tables_are_laid_out.ensures.visible c.patterns_have_types.ensures c.parts_of_typed_expressions_have_types.ensures
    c.entered_blocks_are_at_work.ensures c.reached_blocks_have_room.ensures c.args.context.now c.args.text.now (expr_tree c.in-Ok.e)
    c.requires.entered c.in-Ok.ensures

pub returns : goal.returns
returns c = c.at.ensures (scope_at c.args.context.now) c.args.text.now c.in-Err.ensures
