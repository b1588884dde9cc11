use Rattle.std.proofs.Common.{ap, map, ◌∙◌}
use Rattle.pv_types.specs.View.{var_tree}
use Rattle.pv_names.specs.Needed.{needed_among}
use Rattle.pv_names.proofs.entry.Entry.needed.Goals as goal

pub returns : goal.returns
returns c =
    let entry = c.args.self.now in
    ap (map var_tree) c.as_slice.ensures.value ∙ entry.all_needed ∙ ap (needed_among entry.block.now.kind) entry.all
