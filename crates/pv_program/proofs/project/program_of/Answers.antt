use Rattle.std.proofs.Common.{◌∙◌, ap, map}
use Rattle.pv_tree.specs.View.{block_tree}
use Rattle.pv_names.specs.Entries.{block_of}
use Rattle.pv_program.proofs.project.program_of.Goals as goal

pub program_among-requires : goal.program_among-requires
program_among-requires c =
    ap (map block_of) c.as_slice-2.ensures.value ∙ c.in_ok-list.ensures
    ∙ ap (map block_tree) (c.as_slice.ensures.value ∙ ap (λ b. b.list.items) c.blocks-2.ensures)
