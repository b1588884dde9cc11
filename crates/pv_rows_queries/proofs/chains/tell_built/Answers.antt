use Rattle.std.proofs.Common.{◌+◌, ◌≤◌, sym, subst}
use Rattle.pv_circuit.specs.Steps.{widths}
use Rattle.pv_bool.specs.declared.program.Program.{Program}
use Rattle.pv_bool.specs.Programs.{program_tree}
use Rattle.pv_step.specs.Steps.{form_of}
use Rattle.pv_rows_queries.proofs.Widths.{few}
use Rattle.pv_rows_queries.proofs.chains.tell_built.Goals as goal

pub build-requires : goal.build-requires
build-requires c =
    subst (λ (p : Program). widths (form_of (program_tree p)).state + widths (form_of (program_tree p)).input ≤ 28999999) (sym c.in-Ok.ensures)
    (few (program_tree c.args.program.now) c.requires)
