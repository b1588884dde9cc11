use Rattle.std.proofs.Common.{◌≡◌, ◌<◌, ◌≤◌, ◌^◌, ◌++◌, ◌∷◌, [], ℕ, true, None, Some, refl, sym, ap, subst, ◌∙◌}
use Rattle.std.specs.Prelude.{is_none}
use Rattle.pv_cnf.specs.Clause.{Cnf, IsClause}
use Rattle.pv_region.specs.Stored.{Stored, Passes, clause_cost, used_of}
use Rattle.pv_watch.specs.Propagating.{Propagating}
use Rattle.pv_solver.specs.Costs.{words_of, past}
use Rattle.pv_solver.specs.Answers.{Solving}
use Rattle.pv_solver.specs.States.{IsKept}
use Rattle.pv_solver.proofs.Faults.{good-of, told-out, told-double, told-empty, told-full, good-out, good-double, good-empty}
use Rattle.pv_solver.proofs.Pushing.{fresh-of, kept-pushed, full-past, fits-past}
use Rattle.pv_solver.proofs.solver.SolverClauses.push.Goals as goal

-- ---- a fault of the clause

pub invariant_of-self : goal.invariant_of-self
invariant_of-self c = record {
  small = c.self.invariant.small;
  blank = ap (λ (f : Cnf). f.variables) c.fault.ensures.unchanged ∙ c.self.invariant.blank;
  kept = c.self.invariant.kept;
}

pub returns-in-Some-clause-err : goal.returns-in-Some-clause-err
returns-in-Some-clause-err c = ap (λ (s : Solving). s.problem.clauses) c.self.view_is

pub returns-in-Some-clause-out_of_range : goal.returns-in-Some-clause-out_of_range
returns-in-Some-clause-out_of_range c =
    told-out c.self.inside.blank.variables _ c.args.lits.now c.in-Some.fault
    (c.self.invariant.blank ∙ ap (λ (s : Solving). s.problem.variables) c.self.view_is) c.in-Some.ensures.fault

pub returns-in-Some-clause-doubled : goal.returns-in-Some-clause-doubled
returns-in-Some-clause-doubled c =
    told-double c.self.inside.blank.variables _ c.args.lits.now c.in-Some.fault
    (c.self.invariant.blank ∙ ap (λ (s : Solving). s.problem.variables) c.self.view_is) c.in-Some.ensures.fault

pub returns-in-Some-clause-empty : goal.returns-in-Some-clause-empty
returns-in-Some-clause-empty c = told-empty c.self.inside.blank.variables c.args.lits.now c.in-Some.fault c.in-Some.ensures.fault

pub returns-in-Some-clause-full : goal.returns-in-Some-clause-full
returns-in-Some-clause-full c = λ need is. absurd (told-full c.self.inside.blank.variables c.args.lits.now c.in-Some.fault need c.in-Some.ensures.fault is)

-- ---- the region takes it, or is full

pub put_clause-requires-clause-early : goal.put_clause-requires-clause-early
put_clause-requires-clause-early c =
    let i = c.self.inside in (fresh-of i.search i.last i.found c.self.invariant.kept (subst (λ (s : Solving). is_none s.outcome ≡ true) (sym c.self.view_is) c.requires.takes)).falses

pub put_clause-requires-clause-lemmas : goal.put_clause-requires-clause-lemmas
put_clause-requires-clause-lemmas c =
    let i = c.self.inside in (fresh-of i.search i.last i.found c.self.invariant.kept (subst (λ (s : Solving). is_none s.outcome ≡ true) (sym c.self.view_is) c.requires.takes)).lemmas

pub put_clause-requires-clause-valid : goal.put_clause-requires-clause-valid
put_clause-requires-clause-valid c =
    good-of c.self.inside.blank.variables c.self.inside.search.propagator.stored.variables c.args.lits.now c.self.invariant.blank c.in-None.ensures.fault

pub invariant_of-self-in-Err : goal.invariant_of-self-in-Err
invariant_of-self-in-Err c =
    let i = c.self.inside in
    record {
      small = subst (λ (x : Propagating). x.stored.variables < 2 ^ 31) (sym c.in-Err.ensures.err) c.self.invariant.small;
      blank = ap (λ (f : Cnf). f.variables) c.fault.ensures.unchanged ∙ c.self.invariant.blank
          ∙ sym (ap (λ (x : Propagating). x.stored.variables) c.in-Err.ensures.err);
      kept = subst (λ (x : Propagating). IsKept (record i.search { propagator = x }) i.last i.found) (sym c.in-Err.ensures.err) c.self.invariant.kept;
    }

pub returns-in-Err-clause-err : goal.returns-in-Err-clause-err
returns-in-Err-clause-err c =
    ap (λ (x : Propagating). x.stored.clauses) c.in-Err.ensures.err ∙ ap (λ (s : Solving). s.problem.clauses) c.self.view_is

pub returns-in-Err-clause-out_of_range : goal.returns-in-Err-clause-out_of_range
returns-in-Err-clause-out_of_range c = good-out _ _ c.args.lits.now
    (subst (λ (s : Solving). IsClause s.problem.variables c.args.lits.now) c.self.view_is
    (good-of c.self.inside.blank.variables c.self.inside.search.propagator.stored.variables c.args.lits.now c.self.invariant.blank c.in-None.ensures.fault)) (λ p. cc)

pub returns-in-Err-clause-doubled : goal.returns-in-Err-clause-doubled
returns-in-Err-clause-doubled c = good-double _ _ c.args.lits.now
    (subst (λ (s : Solving). IsClause s.problem.variables c.args.lits.now) c.self.view_is
    (good-of c.self.inside.blank.variables c.self.inside.search.propagator.stored.variables c.args.lits.now c.self.invariant.blank c.in-None.ensures.fault)) (λ p. cc)

pub returns-in-Err-clause-empty : goal.returns-in-Err-clause-empty
returns-in-Err-clause-empty c = good-empty _ c.args.self.now.problem.variables c.args.lits.now
    (subst (λ (s : Solving). IsClause s.problem.variables c.args.lits.now) c.self.view_is
    (good-of c.self.inside.blank.variables c.self.inside.search.propagator.stored.variables c.args.lits.now c.self.invariant.blank c.in-None.ensures.fault)) (λ p. cc)

pub returns-in-Err-clause-full : goal.returns-in-Err-clause-full
returns-in-Err-clause-full c = λ need is.
    let i = c.self.inside in
    let f = fresh-of i.search i.last i.found c.self.invariant.kept (subst (λ (s : Solving). is_none s.outcome ≡ true) (sym c.self.view_is) c.requires.takes) in
    let same : c.in-Err.full.need ≡ need = cc in
    subst (λ (s : Solving). past s.problem.words (words_of s.problem.variables (s.problem.clauses ++ c.args.lits.now ∷ [])) ≡ Some need) c.self.view_is
    (full-past i.search.propagator.stored c.args.lits.now need f.lemmas
    (subst (Passes i.search.propagator.stored (clause_cost c.args.lits.now)) same ((c.put_clause.ensures.full c.in-Err.full.need).0 c.in-Err.is)))

pub invariant_of-self-2 : goal.invariant_of-self-2
invariant_of-self-2 c =
    let i = c.self.inside in
    let none = subst (λ (s : Solving). is_none s.outcome ≡ true) (sym c.self.view_is) c.requires.takes in
    record {
      small = subst (λ (v : ℕ). v < 2 ^ 31) (sym c.in-Ok.ensures.ok.variables) c.self.invariant.small;
      blank = ap (λ (f : Cnf). f.variables) c.fault.ensures.unchanged ∙ c.self.invariant.blank ∙ sym c.in-Ok.ensures.ok.variables;
      kept = kept-pushed i.search _ i.last i.found c.args.lits.now c.self.invariant.kept none c.in-Ok.ensures.ok c.put_clause.ensures.path refl refl;
    }

pub returns-clause-ok : goal.returns-clause-ok
returns-clause-ok c = c.in-Ok.ensures.ok.clauses ∙ ap (λ (s : Solving). s.problem.clauses ++ c.args.lits.now ∷ []) c.self.view_is

pub returns-clause-valid : goal.returns-clause-valid
returns-clause-valid c =
    subst (λ (s : Solving). IsClause s.problem.variables c.args.lits.now) c.self.view_is
    (good-of c.self.inside.blank.variables c.self.inside.search.propagator.stored.variables c.args.lits.now c.self.invariant.blank c.in-None.ensures.fault)

pub returns-clause-out_of_range : goal.returns-clause-out_of_range
returns-clause-out_of_range c = good-out _ _ c.args.lits.now
    (subst (λ (s : Solving). IsClause s.problem.variables c.args.lits.now) c.self.view_is
    (good-of c.self.inside.blank.variables c.self.inside.search.propagator.stored.variables c.args.lits.now c.self.invariant.blank c.in-None.ensures.fault)) (λ p. cc)

pub returns-clause-doubled : goal.returns-clause-doubled
returns-clause-doubled c = good-double _ _ c.args.lits.now
    (subst (λ (s : Solving). IsClause s.problem.variables c.args.lits.now) c.self.view_is
    (good-of c.self.inside.blank.variables c.self.inside.search.propagator.stored.variables c.args.lits.now c.self.invariant.blank c.in-None.ensures.fault)) (λ p. cc)

pub returns-clause-empty : goal.returns-clause-empty
returns-clause-empty c = good-empty _ c.args.self.now.problem.variables c.args.lits.now
    (subst (λ (s : Solving). IsClause s.problem.variables c.args.lits.now) c.self.view_is
    (good-of c.self.inside.blank.variables c.self.inside.search.propagator.stored.variables c.args.lits.now c.self.invariant.blank c.in-None.ensures.fault)) (λ p. cc)

pub returns-clause-fits : goal.returns-clause-fits
returns-clause-fits c =
    let i = c.self.inside in
    let f = fresh-of i.search i.last i.found c.self.invariant.kept (subst (λ (s : Solving). is_none s.outcome ≡ true) (sym c.self.view_is) c.requires.takes) in
    let fits = subst (λ (s : Stored). used_of s ≤ s.capacity) c.region.ensures.stored
    (subst (λ (n : ℕ). n ≤ c.region.result.now.capacity) c.used.ensures.value c.used.ensures.fits) in
    subst (λ (s : Solving). past s.problem.words (words_of s.problem.variables (s.problem.clauses ++ c.args.lits.now ∷ [])) ≡ None) c.self.view_is
    (fits-past i.search.propagator.stored c.put_clause.new.self.stored c.args.lits.now f.lemmas c.in-Ok.ensures.ok fits)

pub returns-clause-variables_kept : goal.returns-clause-variables_kept
returns-clause-variables_kept c = c.in-Ok.ensures.ok.variables ∙ ap (λ (s : Solving). s.problem.variables) c.self.view_is
