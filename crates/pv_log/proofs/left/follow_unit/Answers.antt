use Rattle.std.proofs.Common.{arith}
use Rattle.pv_cnf.specs.Literal.{complement}
use Rattle.pv_log.proofs.Literals.{inside-bounds}
use Rattle.pv_log.proofs.LeftLaws.{one-inside, complement-inside, complement-complement}
use Rattle.pv_log.proofs.left.follow_unit.Goals as goal

pub is_false-requires : goal.is_false-requires
is_false-requires c =
    let one = one-inside c.args.values.now.variables c.args.values.now.falses c.args.clause.now c.in-One.lit c.in-One.ensures c.requires in
    let b = inside-bounds c.args.values.now.variables (complement c.in-One.lit) (complement-inside c.args.values.now.variables c.in-One.lit one.0) in
    omega (arith, c.flip.ensures.complement)

pub make_false-requires-clause-inside : goal.make_false-requires-clause-inside
make_false-requires-clause-inside c =
    let one = one-inside c.args.values.now.variables c.args.values.now.falses c.args.clause.now c.in-One.lit c.in-One.ensures c.requires in
    rw c.flip-2.ensures.complement (complement-inside c.args.values.now.variables c.in-One.lit one.0)

pub make_false-requires-clause-not_true : goal.make_false-requires-clause-not_true
make_false-requires-clause-not_true c =
    let one = one-inside c.args.values.now.variables c.args.values.now.falses c.args.clause.now c.in-One.lit c.in-One.ensures c.requires in
    rw (c.flip-2.ensures.complement, complement-complement c.in-One.lit) one.1
