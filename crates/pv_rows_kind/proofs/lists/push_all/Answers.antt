use Rattle.std.proofs.Common.{◌≡◌, ℕ, ◌+◌, ◌-◌, ◌≤◌, List, [], ◌∷◌, take, drop, sym, ap, subst, ◌∙◌, arith, Some, Err}
use Rattle.std.specs.Prelude.{slice_get}
use Rattle.std.proofs.lemmas.Result.{err_from_is_err_and}
use Rattle.pv_frames.specs.Pushing.{ArePushed, StopsAt}
use Rattle.pv_rows_kind.proofs.Pushing.{good_less, pushed_one, stops_one, take_next, around}
use Rattle.pv_rows_kind.proofs.lists.push_all.Goals as goal

pub returns-in_err-push-clause-pushes : goal.returns-in_err-push-clause-pushes
returns-in_err-push-clause-pushes g c =
    let p = err_from_is_err_and c.from_residual.result c.from_residual.ensures.1 in
    let f = g.C.Clauses.overflow c.args.into.now in
    let cs : List (List ℕ) = c.args.formula.now.clauses in
    let n : ℕ = c.loop-n.n in
    let lits : List ℕ = c.clause.result.now in
    let new = g.C.Clauses.clauses c.push.new.self in
    let fault = c.in_err-push.field-0.0 in
    let back : n + 1 - 1 ≡ n = omega arith in
    let at : slice_get cs n ≡ Some lits = subst (λ (k : ℕ). slice_get cs k ≡ Some lits) back c.clause.ensures.value in
    let fits : c.args.formula.now.variables ≤ g.C.Clauses.variables c.loop-n.into = omega (arith, c.requires.variables, c.loop-n.invariant.variables) in
    let good = good_less c.args.formula.now.variables (g.C.Clauses.variables c.loop-n.into) lits fits c.clause.ensures.valid in
    rw (p.1, p.2)
    (subst (λ (t : List (List ℕ)). StopsAt f t cs new fault) (sym c.requires.none)
    (subst (λ (t : List (List ℕ)). StopsAt f [] t new fault) (around cs n lits at)
    (stops_one f (g.C.Clauses.overflow c.loop-n.into) (take n cs) (g.C.Clauses.clauses c.loop-n.into) new (drop (n + 1) cs) (g.C.Clauses.variables c.loop-n.into) lits
    fault c.loop-n.invariant.overflow c.loop-n.invariant.pushed good c.in_err-push.ensures.err
    (λ e. c.push.ensures.out_of_range.0 (c.in_err-push.was ∙ ap Err e)) (λ e. (c.push.ensures.doubled.0 (c.in_err-push.was ∙ ap Err e)).1)
    (λ e. c.push.ensures.empty.0 (c.in_err-push.was ∙ ap Err e)) (λ need e. c.push.ensures.full need (c.in_err-push.was ∙ ap Err e)))))

pub loop-n-preserved : goal.loop-n-preserved
loop-n-preserved g c =
    let f = g.C.Clauses.overflow c.args.into.now in
    let cs : List (List ℕ) = c.args.formula.now.clauses in
    let n : ℕ = c.loop-n.n in
    let lits : List ℕ = c.clause.result.now in
    let new = g.C.Clauses.clauses c.push.new.self in
    let back : n + 1 - 1 ≡ n = omega arith in
    let at : slice_get cs n ≡ Some lits = subst (λ (k : ℕ). slice_get cs k ≡ Some lits) back c.clause.ensures.value in
    record {
      pushed = subst (λ (t : List (List ℕ)). ArePushed f [] t new) (sym (take_next cs n lits at))
          (pushed_one f (g.C.Clauses.overflow c.loop-n.into) (take n cs) (g.C.Clauses.clauses c.loop-n.into) new lits c.loop-n.invariant.overflow
          c.loop-n.invariant.pushed c.in_ok-push.ensures.ok c.in_ok-push.ensures.fits);
      variables = c.push.ensures.variables_kept ∙ c.loop-n.invariant.variables;
      takes = c.push.ensures.takes_kept ∙ c.loop-n.invariant.takes;
      overflow = λ all. c.push.ensures.overflow_kept all ∙ c.loop-n.invariant.overflow all;
    }
