use Rattle.std.proofs.Common.{ap, ◌∙◌, map}
use Rattle.pv_tree.specs.View.{expr_tree}
use Rattle.pv_tree.specs.Projects.{symbol_tree}
use Rattle.pv_rules_decl.proofs.Entering.{is_counted, of_project}
use Rattle.pv_rules_decl.proofs.pattern_expression.type_among.Goals as goal

pub type_in_block-requires-clause-number : goal.type_in_block-requires-clause-number
type_in_block-requires-clause-number c =
    is_counted c.in_ok-tables.tables c.args.all.now c.args.project.now.blocks.list.items c.args.number c.in_ok-tables.ensures.blocks
    c.requires.tables c.requires.number

pub returns : goal.returns
returns c = λ block found.
    of_project c.in_ok-tables.tables c.args.all.now c.args.project.now.blocks.list.items c.args.project.now.symbols.items c.args.number
    block (expr_tree c.args.e.now) c.type_in_block.result c.in_ok-tables.ensures.blocks c.requires.tables
    (c.in_ok-tables.ensures.symbols ∙ ap (map symbol_tree) c.symbols.ensures) found (c.type_in_block.ensures block)
