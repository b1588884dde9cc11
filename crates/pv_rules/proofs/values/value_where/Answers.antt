use Rattle.std.proofs.Common.{map}
use Rattle.std.specs.Prelude.{flat_map}
use Rattle.pv_tree.specs.Parts.{calls_of_stmt}
use Rattle.pv_tree.specs.View.{stmt_tree}
use Rattle.pv_names.specs.InScope.{scope_of}
use Rattle.pv_rules.specs.Reads.{reads_of_stmt}
use Rattle.pv_rules.proofs.ValueLaws.{no_values}
use Rattle.pv_rules.proofs.values.value_where.Goals as goal

pub returns-else-reads_void : goal.returns-else-reads_void
returns-else-reads_void c =
    let list = map (λ s. stmt_tree s.now) c.args.statements.now in
    no_values (scope_of c.args.scope.now) (flat_map calls_of_stmt list) (flat_map reads_of_stmt list) c.args.nearest
    (c.requires c.if-reads_void.false)
