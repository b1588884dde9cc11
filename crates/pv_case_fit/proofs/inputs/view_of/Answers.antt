use Rattle.std.proofs.Common.{map}
use Rattle.std.specs.Prelude.{string_bytes}
use Rattle.pv_case.specs.Cases.{bound_data}
use Rattle.pv_case_fit.proofs.Viewing.{params_within, bounds_within}
use Rattle.pv_case_fit.proofs.inputs.view_of.Goals as goal

pub returns-clause-params : goal.returns-clause-params
returns-clause-params c =
    params_within c.args.cells.now (map string_bytes c.as_slice-2.result.now) c.in_ok-numbers_of.field-0.items c.in_ok-numbers_of.ensures

pub returns-clause-bound : goal.returns-clause-bound
returns-clause-bound c =
    bounds_within c.args.cells.now (map bound_data c.as_slice-3.result.now) c.in_ok-bounds_of.field-0.items c.in_ok-bounds_of.ensures
