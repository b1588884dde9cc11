use Rattle.std.proofs.Common.{◌/◌, ◌∙◌, length, refl, sym, ap, subst, arith}
use Rattle.pv_region.specs.Stored.{Stored, all_lits}
use Rattle.pv_watch.specs.Trail.{Path}
use Rattle.pv_watch.specs.Watched.{IsReady}
use Rattle.pv_solver.specs.Search.{IsFree, AllSet}
use Rattle.pv_solver.proofs.Visits.{free-unset}
use Rattle.pv_solver.proofs.Steps.{text-self, text-on, text-is, extended-longer}
use Rattle.pv_solver.proofs.search.descend.Goals as goal

pub levels-init : goal.levels-init
levels-init c = record { text = text-self c.args.propagator.now.stored; variables = refl; ready = c.requires }

pub decide-requires-clause-inside : goal.decide-requires-clause-inside
decide-requires-clause-inside c =
    (free-unset c.propagate.new.self.path.variables c.propagate.new.self.path.falses c.in-Some-pick.lit
    (subst (λ (q : Path). IsFree q.variables q.falses (c.in-Some-pick.lit / 2)) c.trail.ensures.path c.in-Some-pick.ensures.some)).inside

pub decide-requires-clause-not_false : goal.decide-requires-clause-not_false
decide-requires-clause-not_false c =
    (free-unset c.propagate.new.self.path.variables c.propagate.new.self.path.falses c.in-Some-pick.lit
    (subst (λ (q : Path). IsFree q.variables q.falses (c.in-Some-pick.lit / 2)) c.trail.ensures.path c.in-Some-pick.ensures.some)).not_false

pub decide-requires-clause-not_true : goal.decide-requires-clause-not_true
decide-requires-clause-not_true c =
    (free-unset c.propagate.new.self.path.variables c.propagate.new.self.path.falses c.in-Some-pick.lit
    (subst (λ (q : Path). IsFree q.variables q.falses (c.in-Some-pick.lit / 2)) c.trail.ensures.path c.in-Some-pick.ensures.some)).not_true

pub levels-preserved : goal.levels-preserved
levels-preserved c =
    let old = c.levels.propagator in let mid = c.propagate.new.self in let new = c.decide.new.self in
    record {
      text = text-on c.args.propagator.now.stored old.stored new.stored c.levels.invariant.text
          (text-on old.stored mid.stored new.stored c.propagate.ensures.goes.text (text-is mid.stored new.stored c.decide.ensures.stored));
      variables = c.decide.ensures.variables ∙ c.propagate.ensures.goes.extends.variables ∙ c.levels.invariant.variables;
      ready = subst (λ (s : Stored). IsReady (all_lits s) new.path) (sym c.decide.ensures.stored)
          (c.decide.ensures.ready (all_lits mid.stored) c.in-None.ensures.quiet c.propagate.ensures.ready);
    }

pub levels-smaller : goal.levels-smaller
levels-smaller c =
    let longer = extended-longer c.levels.propagator.path c.propagate.new.self.path c.decide.new.self.path c.in-Some-pick.lit
    c.propagate.ensures.goes.extends c.decide.ensures.falses in
    omega (arith, longer, c.len.ensures.bound, c.len.ensures.len, ap (λ (q : Path). q.variables) c.trail-in-levels.ensures.path, ap (λ (q : Path). length q.falses) c.trail-in-levels.ensures.path, c.decide.ensures.variables, c.propagate.ensures.goes.extends.variables)

pub returns-in-Some-clause-text : goal.returns-in-Some-clause-text
returns-in-Some-clause-text c =
    text-on c.args.propagator.now.stored c.levels.propagator.stored c.propagate.new.self.stored c.levels.invariant.text c.propagate.ensures.goes.text

pub returns-in-None-pick-clause-text : goal.returns-in-None-pick-clause-text
returns-in-None-pick-clause-text c =
    text-on c.args.propagator.now.stored c.levels.propagator.stored c.propagate.new.self.stored c.levels.invariant.text c.propagate.ensures.goes.text

pub returns-in-None-pick-clause-set : goal.returns-in-None-pick-clause-set
returns-in-None-pick-clause-set c = subst (λ (q : Path). AllSet q.variables q.falses) c.trail.ensures.path c.in-None-pick.ensures.none
