use Rattle.std.proofs.Common.{ap, ◌∙◌, map}
use Rattle.pv_tree.specs.View.{arg_tree, call_tree}
use Rattle.pv_tree.specs.Callees.{block_of_callee}
use Rattle.pv_tree.specs.Parts.{site}
use Rattle.pv_names.specs.Entries.{block_of}
use Rattle.pv_names.specs.InScope.{scope_of}
use Rattle.pv_names.specs.Callees.{how_tree}
use Rattle.pv_sizes.specs.Counts.{capped}
use Rattle.pv_sizes.specs.Sizes.{size_of_args, size_of_run}
use Rattle.pv_sizes.proofs.Adding.{sum_with}
use Rattle.pv_sizes.proofs.calls.call_size.Goals as goal

pub returns-in-Runs : goal.returns-in-Runs
returns-in-Runs c =
    let here = scope_of c.args.scope.now in
    let how = how_tree c.args.how in
    let call = call_tree c.args.call.now in
    let callee = block_of c.in-Runs.entry.now in
    let same = ap (λ l. capped (size_of_args here how callee (map arg_tree l))) c.as_slice.ensures.value in
    sum_with c.sum.result c.args_size.result (size_of_args here how callee call.args) 1 c.sum.ensures (c.args_size.ensures ∙ same)
    ∙ ap (λ k. capped (size_of_run here (site how call) (block_of_callee k))) c.in-Runs.ensures
