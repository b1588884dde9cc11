use Rattle.std.proofs.Common.{◌≡◌, ◌∙◌, length, sym, ap, subst}
use Rattle.pv_watch.specs.Quiet.{AreQuiet}
use Rattle.pv_watch.specs.Watched.{IsReady}
use Rattle.pv_watch.specs.Propagating.{Propagating}
use Rattle.pv_watch.proofs.Guards.{keeps-decided}
use Rattle.pv_watch.proofs.Readying.{ready-decided}
use Rattle.pv_watch.proofs.propagator.Propagator.decide.Goals as goal

pub invariant_of-self : goal.invariant_of-self
invariant_of-self c =
    let i = c.self.inside in
    let all : i.done ≡ length i.trail.falses = ap (λ (p : Propagating). p.done) c.self.view_is ∙ c.requires.ended ∙ sym (ap (λ (p : Propagating). length p.path.falses) c.self.view_is) in
    keeps-decided i.region i.trail c.decide.new.self i.slots.items i.done c.args.lit c.self.invariant all c.decide.ensures.variables
    c.decide.ensures.falses c.decide.ensures.starts c.decide.ensures.distinct

pub returns-clause-ready : goal.returns-clause-ready
returns-clause-ready c = λ clauses quiet ready.
    let e = c.decide.ensures in
    ready-decided clauses c.self.inside.trail c.decide.new.self c.args.lit e.rise e.falses e.reasons e.starts
    (subst (λ (p : Propagating). AreQuiet p.path.falses clauses) (sym c.self.view_is) quiet)
    (subst (λ (p : Propagating). IsReady clauses p.path) (sym c.self.view_is) ready)
