use Rattle.std.proofs.Common.{◌<◌, length, sym, subst}
use Rattle.pv_watch.specs.Trail.{Path, Rise}
use Rattle.pv_solver.proofs.search.undo.Goals as goal

pub last_start-start-requires : goal.last_start-start-requires
last_start-start-requires c = subst (λ (q : Path). 0 < length q.starts) (sym c.trail-trail.ensures.path) c.requires

pub returns-clause-back : goal.returns-clause-back
returns-clause-back c =
    let e = c.undo.ensures in
    let rise = subst (λ (q : Path). Rise q.starts (length q.falses)) c.trail-trail.ensures.path c.last_start-start.ensures.rise in
    record { variables = e.variables; starts = e.starts; falses = e.falses; rise = rise; ready = e.ready }
