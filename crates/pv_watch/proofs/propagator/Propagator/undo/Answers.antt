use Rattle.std.proofs.Common.{sym, subst}
use Rattle.pv_watch.specs.Watched.{Keeps, IsReady}
use Rattle.pv_watch.specs.Propagating.{Propagating}
use Rattle.pv_watch.proofs.Guards.{keeps-undone}
use Rattle.pv_watch.proofs.Readying.{ready-undone}
use Rattle.pv_watch.proofs.propagator.Propagator.undo.Goals as goal

pub invariant_of-self : goal.invariant_of-self
invariant_of-self c =
    let i = c.self.inside in
    subst (Keeps i.region c.undo.new.self i.slots.items) (sym c.len-self-inside.ensures.len)
    (keeps-undone i.region i.trail c.undo.new.self i.slots.items i.done c.self.invariant c.undo.ensures.rise
    c.undo.ensures.variables c.undo.ensures.starts c.undo.ensures.falses)

pub returns-clause-ready : goal.returns-clause-ready
returns-clause-ready c = λ clauses ready.
    let e = c.undo.ensures in
    ready-undone clauses c.self.inside.trail c.undo.new.self e.rise e.reasons e.starts e.falses
    (subst (λ (p : Propagating). IsReady clauses p.path) (sym c.self.view_is) ready)
