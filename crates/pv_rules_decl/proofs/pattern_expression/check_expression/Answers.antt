use Rattle.std.proofs.Common.{ap, ◌∙◌, map}
use Rattle.pv_tree.specs.View.{block_tree}
use Rattle.pv_names.specs.Entries.{block_of}
use Rattle.pv_rules_decl.proofs.pattern_expression.check_expression.Goals as goal

pub type_among-requires-clause-tables : goal.type_among-requires-clause-tables
type_among-requires-clause-tables c =
    ap (map block_of) c.as_slice-2.ensures.value ∙ c.in_ok-all.ensures
    ∙ ap (map block_tree) (c.as_slice.ensures.value ∙ ap (λ b. b.list.items) c.blocks-2.ensures)
