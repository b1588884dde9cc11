use Rattle.std.proofs.Common.{slice_index, refl}
use Rattle.pv_region.specs.Stored.{all_lits}
use Rattle.pv_watch.proofs.Entering.{not-one, one-inside, one-extends, one-sound, one-true, one-conflict}
use Rattle.pv_watch.proofs.enter.settle_one.Goals as goal

pub returns-then-lits-ne1-clause-true_is : goal.returns-then-lits-ne1-clause-true_is
returns-then-lits-ne1-clause-true_is c = λ _. not-one (all_lits c.args.region.now) c.args.trail.now.falses c.args.id c.lits-lits.result.now c.requires.from_one c.lits-lits.ensures c.if-lits-ne1.true

pub settle-requires-clause-inside : goal.settle-requires-clause-inside
settle-requires-clause-inside c = one-inside (all_lits c.args.region.now) c.args.trail.now c.args.id c.lits-lits.result.now (slice_index c.lits-lits.result.now 0) c.requires.from_one c.lits-lits.ensures c.requires.valid c.if-lits-ne1.false refl

pub returns-clause-extends : goal.returns-clause-extends
returns-clause-extends c = one-extends (all_lits c.args.region.now) c.args.trail.now c.args.id c.lits-lits.result.now (slice_index c.lits-lits.result.now 0) c.requires.from_one c.lits-lits.ensures c.requires.valid c.if-lits-ne1.false refl c.settle.new.trail c.settle.result c.settle.ensures.made c.settle.ensures.same c.settle.ensures.gone

pub returns-clause-sound : goal.returns-clause-sound
returns-clause-sound c = one-sound (all_lits c.args.region.now) c.args.trail.now c.args.id c.lits-lits.result.now (slice_index c.lits-lits.result.now 0) c.requires.from_one c.lits-lits.ensures c.requires.valid c.if-lits-ne1.false refl c.settle.new.trail c.settle.result c.settle.ensures.made c.settle.ensures.same c.settle.ensures.gone c.requires.sound

pub returns-clause-true_is : goal.returns-clause-true_is
returns-clause-true_is c = one-true (all_lits c.args.region.now) c.args.trail.now c.args.id c.lits-lits.result.now (slice_index c.lits-lits.result.now 0) c.requires.from_one c.lits-lits.ensures c.requires.valid c.if-lits-ne1.false refl c.settle.new.trail c.settle.result c.settle.ensures.made c.settle.ensures.same c.settle.ensures.gone

pub returns-clause-conflict : goal.returns-clause-conflict
returns-clause-conflict c = one-conflict (all_lits c.args.region.now) c.args.trail.now c.args.id c.lits-lits.result.now (slice_index c.lits-lits.result.now 0) c.requires.from_one c.lits-lits.ensures c.requires.valid c.if-lits-ne1.false refl c.settle.new.trail c.settle.result c.settle.ensures.made c.settle.ensures.same c.settle.ensures.gone
