use Rattle.std.proofs.Common.{List, ℕ, suc, take, drop, length, get_or, sym, ◌∙◌, ap, subst, arith, length-append, length-take-le}
use Rattle.std.specs.List.{flat_map}
use Rattle.std.proofs.lemmas.Result.{err_from_is_err_and}
use Rattle.pv_cnf.specs.Clause.{AreClauses}
use Rattle.pv_frames.specs.declared.short.Short.TheVariants.{Omitted}
use Rattle.pv_frames.specs.Pushing.{ArePushed, StopsAt}
use Rattle.pv_frames.specs.Short.{clauses_of}
use Rattle.pv_frames.proofs.Lists.{flat_map-more, flat_map-around, clauses-at, length-shorts}
use Rattle.pv_frames.proofs.Pushed.{pushed_more, stops_within}
use Rattle.pv_frames.proofs.push.push_all.Goals as goal

pub push_short-requires-clause-valid : goal.push_short-requires-clause-valid
push_short-requires-clause-valid g c =
    subst (λ (n : ℕ). AreClauses n (clauses_of (get_or c.args.clauses.now c.loop-clause.clause-index Omitted))) (sym c.loop-clause.invariant.variables)
    (clauses-at (g.C.Clauses.variables c.args.into.now) clauses_of c.args.clauses.now c.loop-clause.clause-index Omitted c.loop-clause-test.true c.requires.valid)

pub push_short-requires-clause-room : goal.push_short-requires-clause-room
push_short-requires-clause-room g c =
    let front = take c.loop-clause.clause-index c.args.clauses.now in
    omega (
      arith,
      c.requires.room,
      c.loop-clause-test.true,
      ap (λ (t : List (List ℕ)). length t) c.loop-clause.invariant.pushed.stand,
      length-append (g.C.Clauses.clauses c.args.into.now) (flat_map clauses_of front),
      length-shorts front,
      length-take-le c.loop-clause.clause-index c.args.clauses.now (omega arith),
    )

pub returns-in_err-push_short-clause-pushes : goal.returns-in_err-push_short-clause-pushes
returns-in_err-push_short-clause-pushes g c =
    let p = err_from_is_err_and c.from_residual.result c.from_residual.ensures.1 in rw (p.1, p.2)
    (subst (λ (t : List (List ℕ)). StopsAt (g.C.Clauses.overflow c.args.into.now) (g.C.Clauses.clauses c.args.into.now) t (g.C.Clauses.clauses c.push_short.new.into) c.in_err-push_short.field-0.0)
    (sym (flat_map-around clauses_of c.args.clauses.now c.loop-clause.clause-index Omitted c.loop-clause-test.true))
    (stops_within (g.C.Clauses.overflow c.args.into.now) (g.C.Clauses.overflow c.loop-clause.into) (g.C.Clauses.clauses c.args.into.now) (g.C.Clauses.clauses c.loop-clause.into) (g.C.Clauses.clauses c.push_short.new.into)
    (flat_map clauses_of (take c.loop-clause.clause-index c.args.clauses.now)) (clauses_of (get_or c.args.clauses.now c.loop-clause.clause-index Omitted)) (flat_map clauses_of (drop (suc c.loop-clause.clause-index) c.args.clauses.now))
    c.in_err-push_short.field-0.0 c.loop-clause.invariant.overflow c.loop-clause.invariant.pushed c.in_err-push_short.ensures.pushes))

pub loop-clause-preserved : goal.loop-clause-preserved
loop-clause-preserved g c = record {
  pushed = subst (λ (t : List (List ℕ)). ArePushed (g.C.Clauses.overflow c.args.into.now) (g.C.Clauses.clauses c.args.into.now) t (g.C.Clauses.clauses c.push_short.new.into))
      (sym (flat_map-more clauses_of c.args.clauses.now c.loop-clause.clause-index Omitted c.loop-clause-test.true))
      (pushed_more (g.C.Clauses.overflow c.args.into.now) (g.C.Clauses.overflow c.loop-clause.into) (g.C.Clauses.clauses c.args.into.now) (g.C.Clauses.clauses c.loop-clause.into) (g.C.Clauses.clauses c.push_short.new.into)
      (flat_map clauses_of (take c.loop-clause.clause-index c.args.clauses.now)) (clauses_of (get_or c.args.clauses.now c.loop-clause.clause-index Omitted))
      c.loop-clause.invariant.overflow c.loop-clause.invariant.pushed c.in_ok-push_short.ensures.pushes);
  variables = c.push_short.ensures.variables_kept ∙ c.loop-clause.invariant.variables;
  takes = c.push_short.ensures.takes_kept ∙ c.loop-clause.invariant.takes;
  overflow = (λ all. c.push_short.ensures.overflow_kept all ∙ c.loop-clause.invariant.overflow all);
}
