use Rattle.std.proofs.Common.{◌∙◌, None, Some, length, take, ap, subst}
use Rattle.pv_cnf.specs.Literal.{is_outside}
use Rattle.pv_log.specs.Propagation.{is_false}
use Rattle.pv_log.proofs.ForCallers.{complement-inside}
use Rattle.pv_watch.specs.Turns.{Replaces}
use Rattle.pv_watch.proofs.Clauses.{own-inside}
use Rattle.pv_watch.proofs.Looking.{whole-replaces}
use Rattle.pv_watch.proofs.Entering.{entered-self, can-free, first-unset, entered-made, can-made, one-made}
use Rattle.pv_watch.proofs.enter.enter.Goals as goal

pub returns-in-Some-clause-entered : goal.returns-in-Some-clause-entered
returns-in-Some-clause-entered c = entered-self c.args.trail.now c.args.id c.args.lits.now

pub returns-in-Some-clause-pair : goal.returns-in-Some-clause-pair
returns-in-Some-clause-pair c = can-free c.args.trail.now (length c.args.trail.now.falses) c.args.lits.now c.free_of-first.result c.in-Some.second c.free_of-first.ensures.own c.free_of-first.ensures.not_false (whole-replaces c.args.trail.now.falses c.args.lits.now c.free_of-first.result c.len.result (Some c.in-Some.second) c.len.ensures.len c.in-Some.ensures)

pub imply-requires-clause-inside : goal.imply-requires-clause-inside
imply-requires-clause-inside c = ap (is_outside c.args.trail.now.variables) c.flip.ensures.complement ∙ complement-inside c.args.trail.now.variables c.free_of-first.result (own-inside c.args.trail.now.variables c.args.lits.now c.free_of-first.result c.requires.valid.inside c.free_of-first.ensures.own)

pub imply-requires-clause-not_false : goal.imply-requires-clause-not_false
imply-requires-clause-not_false c = ap (is_false c.args.trail.now.falses) c.flip.ensures.complement ∙ first-unset c.args.trail.now.falses c.args.lits.now c.free_of-first.result c.requires.unset (whole-replaces c.args.trail.now.falses c.args.lits.now c.free_of-first.result c.len.result None c.len.ensures.len c.in-None.ensures)

pub imply-requires-clause-not_true : goal.imply-requires-clause-not_true
imply-requires-clause-not_true c = ap (is_false c.args.trail.now.falses) c.flip.ensures.back ∙ c.free_of-first.ensures.not_false

pub returns-in-Some-second-clause-entered : goal.returns-in-Some-second-clause-entered
returns-in-Some-second-clause-entered c = entered-made c.args.trail.now c.imply.new.self c.args.lits.now c.args.id c.free_of-first.result c.flip.result c.last_level.result c.flip.ensures.complement c.requires.valid c.requires.unset c.free_of-first.ensures.own c.free_of-first.ensures.not_false (whole-replaces c.args.trail.now.falses c.args.lits.now c.free_of-first.result c.len.result None c.len.ensures.len c.in-None.ensures) c.last_level.ensures c.imply.ensures.falses c.imply.ensures.starts c.imply.ensures.variables c.imply.ensures.reasons c.imply.ensures.room c.imply.ensures.rise

pub returns-in-Some-second-clause-pair : goal.returns-in-Some-second-clause-pair
returns-in-Some-second-clause-pair c = can-made c.args.trail.now c.imply.new.self c.args.lits.now c.args.id c.free_of-first.result c.flip.result c.last_level.result c.flip.ensures.complement c.requires.valid c.requires.unset c.free_of-first.ensures.own c.free_of-first.ensures.not_false (whole-replaces c.args.trail.now.falses c.args.lits.now c.free_of-first.result c.len.result None c.len.ensures.len c.in-None.ensures) c.last_level.ensures c.imply.ensures.falses c.imply.ensures.starts c.in-Some-second.second (subst (Replaces (take c.last_level.result c.args.trail.now.falses) c.args.lits.now c.free_of-first.result) c.in-Some-second.is c.other_free-second.ensures)

pub returns-in-None-second-clause-entered : goal.returns-in-None-second-clause-entered
returns-in-None-second-clause-entered c = entered-made c.args.trail.now c.imply.new.self c.args.lits.now c.args.id c.free_of-first.result c.flip.result c.last_level.result c.flip.ensures.complement c.requires.valid c.requires.unset c.free_of-first.ensures.own c.free_of-first.ensures.not_false (whole-replaces c.args.trail.now.falses c.args.lits.now c.free_of-first.result c.len.result None c.len.ensures.len c.in-None.ensures) c.last_level.ensures c.imply.ensures.falses c.imply.ensures.starts c.imply.ensures.variables c.imply.ensures.reasons c.imply.ensures.room c.imply.ensures.rise

pub returns-in-None-second-clause-single : goal.returns-in-None-second-clause-single
returns-in-None-second-clause-single c = one-made c.args.trail.now c.imply.new.self c.args.lits.now c.args.id c.free_of-first.result c.flip.result c.last_level.result c.flip.ensures.complement c.requires.valid c.requires.unset c.free_of-first.ensures.own c.free_of-first.ensures.not_false (whole-replaces c.args.trail.now.falses c.args.lits.now c.free_of-first.result c.len.result None c.len.ensures.len c.in-None.ensures) c.last_level.ensures c.imply.ensures.falses c.imply.ensures.starts c.requires.quiet (subst (Replaces (take c.last_level.result c.args.trail.now.falses) c.args.lits.now c.free_of-first.result) c.in-None-second.is c.other_free-second.ensures)
