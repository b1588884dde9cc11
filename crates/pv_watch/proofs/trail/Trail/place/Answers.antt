use Rattle.std.proofs.Common.{◌+◌, ◌*◌, ◌<◌, length, sym, subst, ◌∙◌, arith}
use Rattle.std.proofs.lemmas.List.{get_or_read}
use Rattle.pv_watch.specs.Trail.{Path, no_place}
use Rattle.pv_watch.proofs.trail.Trail.place.Goals as goal

pub returns : goal.returns
returns c =
    let i = c.self.inside in let a = c.self.invariant.0 in
    let low = subst (λ (p : Path). c.args.lit < 2 * p.variables + 2) (sym c.self.view_is) c.requires in
    let lt : c.args.lit < length i.places.items = omega (arith, a.size) in
    rw (← c.self.view_is) (get_or_read i.places.items c.args.lit c.index.result.now lt c.index.ensures no_place
    ∙ a.placed c.args.lit)
