use Rattle.std.proofs.Common.{sym}
use Rattle.pv_tree.specs.View.{expr_tree}
use Rattle.pv_names.specs.Tables.{blocks_of}
use Rattle.pv_rules_decl.proofs.Entering.{is_number, is_inside, is_answered}
use Rattle.pv_rules_decl.proofs.pattern_expression.type_in_block.Goals as goal

pub pattern_type-requires-clause-inside : goal.pattern_type-requires-clause-inside
pattern_type-requires-clause-inside c =
    is_inside c.entries.result.now (blocks_of c.args.tables.now) c.args.number c.in-Some.entered.now (sym c.entries.ensures)
    c.in-Some.ensures.lookup.0 c.in-Some.ensures.lookup.1

pub unreachable-requires : goal.unreachable-requires
unreachable-requires c =
    is_number c.entries.result.now (blocks_of c.args.tables.now) c.args.number c.entries.ensures c.requires.number c.in-None.ensures.lookup.0

pub returns : goal.returns
returns c = λ block found.
    is_answered c.args.tables.now c.entries.result.now c.args.number c.in-Some.entered.now block (expr_tree c.args.e.now) c.pattern_type.result
    c.entries.ensures c.in-Some.ensures.lookup.0 c.in-Some.ensures.lookup.1 found c.pattern_type.ensures
