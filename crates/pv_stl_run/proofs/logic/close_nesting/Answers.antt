use Rattle.std.proofs.Common.{◌-◌, false, None, Ok, Err, arith}
use Rattle.pv_stl_run.specs.declared.registers.Joining.TheVariants.{And}
use Rattle.pv_stl_run.specs.declared.registers.Nesting.{Nesting}
use Rattle.pv_stl_run.specs.Rows.{logic_in}
use Rattle.pv_stl_run.proofs.Nestings.{closed_is}
use Rattle.pv_stl_run.proofs.logic.close_nesting.Goals as goal

abbrev nothing : Nesting
nothing = record {
  outer = record { checked = false; rlo = None; kept_or = false };
  junction = record { joining = And; negates = false };
}

pub returns-in-Ok-join-clause-same : goal.returns-in-Ok-join-clause-same
returns-in-Ok-join-clause-same c =
    closed_is c.args.place c.args.r.now.accu1 c.args.r.now.accu2 c.args.r.now.logic c.args.r.now.codes c.args.r.now.nestings
    (c.args.r.now.depth - 1) c.args.r.now.depth nothing c.in-Ok.e (logic_in (Ok c.in-Ok-join.logic)) (omega arith) (omega arith)
    c.in-Ok.ensures c.in-Ok-join.ensures

pub returns-in-Err-join-clause-same : goal.returns-in-Err-join-clause-same
returns-in-Err-join-clause-same c =
    closed_is c.args.place c.args.r.now.accu1 c.args.r.now.accu2 c.args.r.now.logic c.args.r.now.codes c.args.r.now.nestings
    (c.args.r.now.depth - 1) c.args.r.now.depth nothing c.in-Ok.e (logic_in (Err c.in-Err-join.trap)) (omega arith) (omega arith)
    c.in-Ok.ensures c.in-Err-join.ensures
