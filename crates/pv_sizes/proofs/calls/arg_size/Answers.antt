use Rattle.std.proofs.Common.{ap, ◌∙◌}
use Rattle.pv_tree.specs.View.{arg_tree}
use Rattle.pv_names.specs.Entries.{block_of}
use Rattle.pv_names.specs.InScope.{scope_of}
use Rattle.pv_sizes.specs.Counts.{capped}
use Rattle.pv_sizes.specs.Sizes.{size_of_copy, size_of_param}
use Rattle.pv_sizes.proofs.calls.arg_size.Goals as goal

pub returns-in-Some : goal.returns-in-Some
returns-in-Some c =
    let here = scope_of c.args.scope.now in
    let callee = block_of c.args.callee.now in
    let arg = arg_tree c.args.arg.now in
    c.copy_size.ensures
    ∙ ap (λ s. capped (size_of_copy here callee arg.value s)) c.section_of_param.ensures
    ∙ ap (λ o. capped (size_of_param here callee arg.value o)) c.in-Some.ensures

pub returns-in-None : goal.returns-in-None
returns-in-None c =
    let here = scope_of c.args.scope.now in
    let callee = block_of c.args.callee.now in
    let arg = arg_tree c.args.arg.now in
    ap (λ o. capped (size_of_param here callee arg.value o)) c.in-None.ensures
