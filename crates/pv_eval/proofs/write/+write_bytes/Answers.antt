use Rattle.std.proofs.Common.{◌-◌, arith}
use Rattle.pv_eval.proofs.Bytes.{weight_room, weight_some}
use Rattle.pv_eval.proofs.write.+write_bytes.Goals as goal

pub pow-weight-requires : goal.pow-weight-requires
pow-weight-requires t c = weight_room (c.args.count - 1) (omega arith)

pub nonzero_div-number : goal.nonzero_div-number
nonzero_div-number t c = omega (arith, c.pow-weight.ensures, weight_some (c.args.count - 1))
