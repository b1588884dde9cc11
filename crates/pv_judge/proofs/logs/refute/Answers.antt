use Rattle.std.proofs.Common.{◌+◌}
use Rattle.pv_valid.specs.declared.fault.Kind.TheVariants as kind
use Rattle.pv_valid.specs.Walk.{refuting_fault}
use Rattle.pv_valid.proofs.ForCallers.{accepted-refuting}
use Rattle.pv_judge.proofs.Finds.{finds-at}
use Rattle.pv_judge.proofs.Refusals.{refused, lacks}
use Rattle.pv_judge.proofs.logs.refute.Goals as goal

pub returns-in-Accepted : goal.returns-in-Accepted
returns-in-Accepted c = accepted-refuting c.args.formula.now c.args.at c.args.log.now (c.check.ensures.accepted.0 c.in-Accepted.is)

pub returns-in-NoEmpty : goal.returns-in-NoEmpty
returns-in-NoEmpty c = finds-at (refuting_fault c.args.formula.now c.args.at c.args.log.now) c.fault_at.result c.args.at kind.NoEmpty c.fault_at.ensures
    (lacks c.args.formula.now c.args.at c.args.log.now (c.check.ensures.no_empty.0 c.in-NoEmpty.is))

pub returns : goal.returns
returns c =
    let f = c.args.formula.now in
    let line = c.in-Refused.line in
    let why = c.in-Refused.kind in
    finds-at (refuting_fault f c.args.at c.args.log.now) c.line_fault.result (c.args.at + line) (kind.Line why) c.line_fault.ensures
    (refused f c.args.at c.args.log.now line why ((c.check.ensures.refused line why).0 c.in-Refused.is))
