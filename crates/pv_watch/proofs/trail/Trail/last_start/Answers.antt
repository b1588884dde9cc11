use Rattle.std.proofs.Common.{◌-◌, ◌<◌, ℕ, length, sym, subst, arith}
use Rattle.std.proofs.lemmas.List.{get_or_read}
use Rattle.pv_watch.specs.Trail.{Path}
use Rattle.pv_watch.proofs.Places.{few}
use Rattle.pv_watch.proofs.Alone.{start-below, alone-at}
use Rattle.pv_watch.proofs.trail.Trail.last_start.Goals as goal

pub returns-clause-bound : goal.returns-clause-bound
returns-clause-bound c =
    let i = c.self.inside in
    let some = subst (λ (p : Path). 0 < length p.starts) (sym c.self.view_is) c.requires in
    let lt : c.len.result - 1 < length i.starts.items = omega (arith, c.len.ensures) in
    let at = get_or_read i.starts.items (c.len.result - 1) c.index.result.now lt c.index.ensures 0 in
    rw (← c.self.view_is) (subst (λ (n : ℕ). n < length i.falses.items) (sym at) (start-below i.starts.items (length i.falses.items)
    (c.len.result - 1) c.self.invariant.0.rise lt))

pub returns-clause-alone : goal.returns-clause-alone
returns-clause-alone c =
    let i = c.self.inside in
    let some = subst (λ (p : Path). 0 < length p.starts) (sym c.self.view_is) c.requires in
    let lt : c.len.result - 1 < length i.starts.items = omega (arith, c.len.ensures) in
    let at = get_or_read i.starts.items (c.len.result - 1) c.index.result.now lt c.index.ensures 0 in
    let bound = subst (λ (n : ℕ). n < length i.falses.items) (sym at) (start-below i.starts.items (length i.falses.items)
    (c.len.result - 1) c.self.invariant.0.rise lt) in
    rw (← c.self.view_is) (alone-at i.falses.items c.index.result.now bound c.self.invariant.0.distinct)

pub returns-clause-small : goal.returns-clause-small
returns-clause-small c =
    let i = c.self.inside in let a = c.self.invariant.0 in
    let some = subst (λ (p : Path). 0 < length p.starts) (sym c.self.view_is) c.requires in
    let lt : c.len.result - 1 < length i.starts.items = omega (arith, c.len.ensures) in
    let at = get_or_read i.starts.items (c.len.result - 1) c.index.result.now lt c.index.ensures 0 in
    let bound = subst (λ (n : ℕ). n < length i.falses.items) (sym at)
    (start-below i.starts.items (length i.falses.items) (c.len.result - 1) a.rise lt) in
    let most = few i.variables i.places.items i.falses.items i.reasons.items i.starts.items a in
    omega (arith, a.small)
