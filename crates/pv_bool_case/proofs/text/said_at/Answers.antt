use Rattle.std.proofs.Common.{◌∙◌, ap, map}
use Rattle.pv_tree.specs.View.{block_tree}
use Rattle.pv_names.specs.Entries.{block_of}
use Rattle.pv_bool_case.proofs.text.said_at.Goals as goal

pub said_among-requires-clause-tables : goal.said_among-requires-clause-tables
said_among-requires-clause-tables c =
    ap (map block_of) c.as_slice-2.ensures.value ∙ c.in-Ok.ensures
    ∙ ap (map block_tree) (c.as_slice.ensures.value ∙ ap (λ b. b.list.items) c.blocks-2.ensures)
