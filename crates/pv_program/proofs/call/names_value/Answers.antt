use Rattle.std.proofs.Common.{ap, ◌∙◌}
use Rattle.std.specs.Prelude.{is_some}
use Rattle.pv_tree.specs.Scopes.{value_key}
use Rattle.pv_names.specs.Callees.{how_tree}
use Rattle.pv_names.specs.Entries.{block_of}
use Rattle.pv_program.proofs.Seeking.{some-first}
use Rattle.pv_program.proofs.call.names_value.Goals as goal

pub returns : goal.returns
returns c =
    c.is_some.ensures ∙ ap is_some (c.number_for.ensures (how_tree c.args.how) value_key c.requires)
    ∙ some-first value_key (block_of c.args.callee.now).vars
