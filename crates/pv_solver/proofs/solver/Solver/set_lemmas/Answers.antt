use Rattle.std.proofs.Common.{refl, ap, ◌∙◌}
use Rattle.pv_solver.specs.Answers.{Solving}
use Rattle.pv_solver.proofs.Pushing.{kept-set}
use Rattle.pv_solver.proofs.Saying.{set-is}
use Rattle.pv_solver.proofs.solver.Solver.set_lemmas.Goals as goal

pub invariant_of-self : goal.invariant_of-self
invariant_of-self c =
    let i = c.self.inside in
    record {
      small = c.self.invariant.small;
      blank = c.self.invariant.blank;
      kept = kept-set i.search _ i.last i.found c.self.invariant.kept (ap (λ (s : Solving). s.outcome) c.self.view_is ∙ c.requires.unanswered)
          refl refl refl;
    }

pub returns : goal.returns
returns c = let i = c.self.inside in set-is i.search (record i.search { lemmas = c.args.lemmas }) i.last i.found c.args.self.now c.args.lemmas c.self.view_is c.requires.unanswered refl refl
