use Rattle.std.proofs.Common.{List, length, refl, ap, arith}
use Rattle.pv_region.specs.Stored.{Hinted}
use Rattle.pv_solver.proofs.Steps.{descended}
use Rattle.pv_solver.proofs.search.Search.go_on.Goals as goal

pub descend-requires : goal.descend-requires
descend-requires c = c.conflicts.invariant.some.1.ready

pub turn-requires-clause-searching : goal.turn-requires-clause-searching
turn-requires-clause-searching c =
    let e = c.descend.ensures in let s = c.conflicts.invariant.some in
    (s.0, descended s.0 c.conflicts.self _ s.1 e.text e.variables refl refl refl e.ready)

pub conflicts-preserved : goal.conflicts-preserved
conflicts-preserved c =
    let e = c.descend.ensures in let s = c.conflicts.invariant.some in
    record {
      kept = λ p is. (c.in-None-turn.ensures p (descended p c.conflicts.self _ (c.conflicts.invariant.kept p is) e.text e.variables refl refl refl e.ready)).searching;
      some = (s.0, (c.in-None-turn.ensures s.0 (descended s.0 c.conflicts.self _ s.1 e.text e.variables refl refl refl e.ready)).searching);
    }

pub conflicts-smaller : goal.conflicts-smaller
conflicts-smaller c =
    let e = c.descend.ensures in let s = c.conflicts.invariant.some in
    let l = c.in-None-turn.ensures s.0 (descended s.0 c.conflicts.self _ s.1 e.text e.variables refl refl refl e.ready) in
    let same = ap (λ (ls : List Hinted). length ls) e.text.lemmas in
    omega (arith, same, l.one_more, l.searching.under_way.few, l.searching.under_way.is_of.lemmas, s.1.under_way.is_of.lemmas)

pub returns-in-None : goal.returns-in-None
returns-in-None c = λ p is.
    let e = c.descend.ensures in
    let s = descended p c.conflicts.self _ (c.conflicts.invariant.kept p is) e.text e.variables refl refl refl e.ready in
    record { is_of = s.under_way.is_of; says = record { searching = s; quiet = c.in-None.ensures.quiet; set = c.in-None.ensures.set } }

pub returns-in-Some-turn : goal.returns-in-Some-turn
returns-in-Some-turn c = λ p is.
    let e = c.descend.ensures in
    c.in-Some-turn.ensures p (descended p c.conflicts.self _ (c.conflicts.invariant.kept p is) e.text e.variables refl refl refl e.ready)
