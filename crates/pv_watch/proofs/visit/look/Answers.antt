use Rattle.std.proofs.Common.{refl, Some, None}
use Rattle.pv_watch.proofs.Clauses.{own-inside, none-left}
use Rattle.pv_watch.proofs.Looking.{whole-replaces}
use Rattle.pv_watch.proofs.visit.look.Goals as goal

pub returns-in-Some-clause-looks : goal.returns-in-Some-clause-looks
returns-in-Some-clause-looks c =
    (refl, whole-replaces c.args.trail.now.falses c.args.clause.now c.args.other c.len.result (Some c.in-Some.lit) c.len.ensures.len c.in-Some.ensures)

pub settle-requires-clause-inside : goal.settle-requires-clause-inside
settle-requires-clause-inside c =
    own-inside c.args.trail.now.variables c.args.clause.now c.args.other c.requires.valid.inside c.requires.own

pub returns-then-settle-clause-looks : goal.returns-then-settle-clause-looks
returns-then-settle-clause-looks c =
    c.settle.ensures.made c.if-settle.true c.args.clause.now (record {
      valid = c.requires.valid;
      own = c.requires.own;
      rest = whole-replaces c.args.trail.now.falses c.args.clause.now c.args.other c.len.result None c.len.ensures.len c.in-None.ensures;
    })

pub returns-clause-looks : goal.returns-clause-looks
returns-clause-looks c = (
  c.settle.ensures.same c.if-settle.false,
  none-left c.args.trail.now.falses c.args.clause.now c.args.other (c.settle.ensures.gone c.if-settle.false)
      (whole-replaces c.args.trail.now.falses c.args.clause.now c.args.other c.len.result None c.len.ensures.len c.in-None.ensures),
)
