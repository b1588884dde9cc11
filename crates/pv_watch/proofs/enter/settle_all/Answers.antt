use Rattle.std.proofs.Common.{ℕ, sym, subst, arith}
use Rattle.pv_cnf.specs.Clause.{AreClauses}
use Rattle.pv_region.specs.Stored.{all_lits}
use Rattle.pv_watch.proofs.Looking.{extends-self}
use Rattle.pv_watch.proofs.Turning.{extends-on}
use Rattle.pv_watch.proofs.Readying.{one-extended, ones-none, ones-more}
use Rattle.pv_watch.proofs.enter.settle_all.Goals as goal

pub overflow_add-count : goal.overflow_add-count
overflow_add-count c = omega (arith, c.clauses.ensures, c.lemmas.ensures, c.requires.small)

pub loop-n-init : goal.loop-n-init
loop-n-init c = record { distinct = c.requires.distinct; extends = extends-self c.args.trail.now; sound = c.requires.sound; ones = λ id le. ones-none (all_lits c.args.region.now) c.args.trail.now.falses id le }

pub settle_one-requires-clause-to_last : goal.settle_one-requires-clause-to_last
settle_one-requires-clause-to_last c = omega (arith, c.clauses.ensures, c.lemmas.ensures, c.loop-n-test.true)

pub settle_one-requires-clause-valid : goal.settle_one-requires-clause-valid
settle_one-requires-clause-valid c = subst (λ (v : ℕ). AreClauses v (all_lits c.args.region.now)) (sym c.loop-n.invariant.extends.variables) c.requires.valid

pub loop-n-preserved : goal.loop-n-preserved
loop-n-preserved c = record { distinct = c.settle_one.ensures.distinct; extends = extends-on c.args.trail.now c.loop-n.trail c.settle_one.new.trail c.loop-n.invariant.extends c.settle_one.ensures.extends; sound = c.settle_one.ensures.sound; ones = ones-more (all_lits c.args.region.now) c.settle_one.new.trail.falses c.loop-n.n (λ id le. one-extended (all_lits c.args.region.now) c.loop-n.trail c.settle_one.new.trail id c.settle_one.ensures.extends (c.loop-n.invariant.ones id le)) (c.settle_one.ensures.true_is c.if-not-settle_one.false) }

pub returns-then-not-settle_one-clause-extends : goal.returns-then-not-settle_one-clause-extends
returns-then-not-settle_one-clause-extends c = extends-on c.args.trail.now c.loop-n.trail c.settle_one.new.trail c.loop-n.invariant.extends c.settle_one.ensures.extends

pub returns-then-not-settle_one-clause-conflict : goal.returns-then-not-settle_one-clause-conflict
returns-then-not-settle_one-clause-conflict c = c.settle_one.ensures.conflict c.if-not-settle_one.true

pub returns-clause-ones : goal.returns-clause-ones
returns-clause-ones c = λ id le. c.loop-n.invariant.ones id (omega (arith, le, c.clauses.ensures, c.lemmas.ensures, c.loop-n-test.false))
