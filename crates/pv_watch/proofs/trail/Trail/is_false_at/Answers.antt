use Rattle.std.proofs.Common.{◌+◌, ◌*◌, ◌≤◌, ◌<◌, ℕ, length, ltb, sym, ap, subst, ◌∙◌, arith}
use Rattle.std.proofs.lemmas.List.{get_or_read}
use Rattle.pv_watch.specs.Trail.{Path, no_place}
use Rattle.pv_watch.proofs.Places.{asks}
use Rattle.pv_watch.proofs.trail.Trail.is_false_at.Goals as goal

pub returns : goal.returns
returns c =
    let i = c.self.inside in let a = c.self.invariant.0 in
    let small = subst (λ (p : Path). c.args.upto ≤ length p.falses) (sym c.self.view_is) c.requires.there in
    let low = subst (λ (p : Path). c.args.lit < 2 * p.variables + 2) (sym c.self.view_is) c.requires.inside in
    let lt : c.args.lit < length i.places.items = omega (arith, a.size) in
    rw (← c.self.view_is) (ap (λ (p : ℕ). ltb p c.args.upto) (get_or_read i.places.items c.args.lit c.index.result.now lt c.index.ensures
    no_place) ∙ asks i.variables i.places.items i.falses.items i.reasons.items i.starts.items a c.args.lit c.args.upto small)
