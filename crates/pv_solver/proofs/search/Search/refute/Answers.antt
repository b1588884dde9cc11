use Rattle.std.proofs.Common.{ℕ, refl, sym, subst, ◌∙◌}
use Rattle.std.specs.Prelude.{vec_capacity}
use Rattle.pv_learn.specs.Learning.{HasRoom}
use Rattle.pv_solver.proofs.Steps.{text-self, refuted}
use Rattle.pv_solver.proofs.search.Search.refute.Goals as goal

pub make_last-requires-clause-checker : goal.make_last-requires-clause-checker
make_last-requires-clause-checker c = let u = c.requires.under_way.1 in u.checker ∙ sym u.is_of.variables

pub make_last-requires-clause-room : goal.make_last-requires-clause-room
make_last-requires-clause-room c = let u = c.requires.under_way.1 in subst (λ (v : ℕ). HasRoom v (vec_capacity c.args.self.now.draft.lits) (vec_capacity c.args.self.now.draft.hints))
    (sym u.is_of.variables) u.room

pub returns : goal.returns
returns c = λ p u. refuted p c.args.self.now _ u (text-self c.args.self.now.propagator.stored) refl c.make_last.ensures.last
