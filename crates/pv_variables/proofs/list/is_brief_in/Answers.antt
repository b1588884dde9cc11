use Rattle.std.proofs.Common.{refl, ◌∙◌}
use Rattle.pv_tree.specs.View.{block_tree}
use Rattle.pv_variables.proofs.list.is_brief_in.Goals as goal

pub returns : goal.returns
returns c = c.has.ensures ∙ c.activation_part.ensures (block_tree c.args.block.now) c.args.section refl
