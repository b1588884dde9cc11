use Rattle.std.proofs.Common.{map, sym, ◌∙◌}
use Rattle.pv_tree.specs.View.{arg_tree}
use Rattle.pv_names.specs.Entries.{block_of}
use Rattle.pv_names.specs.Callees.{how_tree}
use Rattle.pv_mean.specs.Calls.{is_for}
use Rattle.pv_program.proofs.Arguments.{argument_found, no_argument}
use Rattle.pv_program.proofs.argument.named_argument.Goals as goal

pub returns-in-Some : goal.returns-in-Some
returns-in-Some c =
    argument_found (is_for (how_tree c.args.how) (block_of c.args.callee.now) c.args.name.now.key) arg_tree (λ a. a.now) c.as_slice.result.now
    c.args.call.now.args.items c.in-Some.number _ c.get.result c.in-Some.ensures
    (c.requires c.args.name.now.key (sym c.is_value_name.ensures ∙ c.if-is_value_name.false)) c.as_slice.ensures.value c.get.ensures.lookup.0 c.get.ensures.lookup.1

pub returns-in-None : goal.returns-in-None
returns-in-None c =
    no_argument (is_for (how_tree c.args.how) (block_of c.args.callee.now) c.args.name.now.key) (map arg_tree c.args.call.now.args.items) _
    c.in-None.ensures (c.requires c.args.name.now.key (sym c.is_value_name.ensures ∙ c.if-is_value_name.false))
