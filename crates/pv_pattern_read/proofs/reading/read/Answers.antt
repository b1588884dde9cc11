use Rattle.std.proofs.Common.{◌∙◌, ap, map}
use Rattle.pv_tree.specs.View.{block_tree}
use Rattle.pv_names.specs.Entries.{block_of}
use Rattle.pv_pattern_read.proofs.reading.read.Goals as goal

pub read_listed-requires-clause-list : goal.read_listed-requires-clause-list
read_listed-requires-clause-list c =
    ap (map block_of) c.as_slice-2.ensures.value ∙ c.in_ok-list.ensures
    ∙ ap (map block_tree) (c.as_slice.ensures.value ∙ ap (λ b. b.list.items) c.blocks-2.ensures)
