use Rattle.std.proofs.Common.{sym, subst, [], ◌∷◌}
use Rattle.pv_frames.specs.Pushing.{Pushes}
use Rattle.pv_frames.specs.Short.{clauses_of}
use Rattle.pv_frames.specs.declared.short.Short.{Short}
use Rattle.pv_cnf.specs.Clause.{AreClauses}
use Rattle.pv_frames.proofs.Pushed.{pushes_one}
use Rattle.pv_frames.proofs.push.push_short.Goals as goal

pub returns-in-One-clause-pushes : goal.returns-in-One-clause-pushes
returns-in-One-clause-pushes g c =
    let valid = subst (λ (s : Short). AreClauses (g.C.Clauses.variables c.args.into.now) (clauses_of s)) c.in-One.is c.requires.valid in
    subst (λ (s : Short). Pushes (g.C.Clauses.overflow c.args.into.now) (g.C.Clauses.clauses c.args.into.now) (clauses_of s) (g.C.Clauses.clauses c.push.new.self) c.push.result) (sym c.in-One.is)
    (pushes_one (g.C.Clauses.overflow c.args.into.now) (g.C.Clauses.variables c.args.into.now) (g.C.Clauses.clauses c.args.into.now) (g.C.Clauses.clauses c.push.new.self) (c.in-One.a ∷ []) c.push.result valid.0 c.push.ensures.ok c.push.ensures.err c.push.ensures.out_of_range c.push.ensures.doubled c.push.ensures.empty c.push.ensures.full c.push.ensures.fits)

pub returns-in-Two-clause-pushes : goal.returns-in-Two-clause-pushes
returns-in-Two-clause-pushes g c =
    let valid = subst (λ (s : Short). AreClauses (g.C.Clauses.variables c.args.into.now) (clauses_of s)) c.in-Two.is c.requires.valid in
    subst (λ (s : Short). Pushes (g.C.Clauses.overflow c.args.into.now) (g.C.Clauses.clauses c.args.into.now) (clauses_of s) (g.C.Clauses.clauses c.push-in-Two.new.self) c.push-in-Two.result) (sym c.in-Two.is)
    (pushes_one (g.C.Clauses.overflow c.args.into.now) (g.C.Clauses.variables c.args.into.now) (g.C.Clauses.clauses c.args.into.now) (g.C.Clauses.clauses c.push-in-Two.new.self) (c.in-Two.a ∷ c.in-Two.b ∷ []) c.push-in-Two.result valid.0 c.push-in-Two.ensures.ok c.push-in-Two.ensures.err c.push-in-Two.ensures.out_of_range c.push-in-Two.ensures.doubled c.push-in-Two.ensures.empty c.push-in-Two.ensures.full c.push-in-Two.ensures.fits)

pub returns-in-Three-clause-pushes : goal.returns-in-Three-clause-pushes
returns-in-Three-clause-pushes g c =
    let valid = subst (λ (s : Short). AreClauses (g.C.Clauses.variables c.args.into.now) (clauses_of s)) c.in-Three.is c.requires.valid in
    subst (λ (s : Short). Pushes (g.C.Clauses.overflow c.args.into.now) (g.C.Clauses.clauses c.args.into.now) (clauses_of s) (g.C.Clauses.clauses c.push-in-Three.new.self) c.push-in-Three.result) (sym c.in-Three.is)
    (pushes_one (g.C.Clauses.overflow c.args.into.now) (g.C.Clauses.variables c.args.into.now) (g.C.Clauses.clauses c.args.into.now) (g.C.Clauses.clauses c.push-in-Three.new.self) (c.in-Three.a ∷ c.in-Three.b ∷ c.in-Three.c ∷ []) c.push-in-Three.result valid.0 c.push-in-Three.ensures.ok c.push-in-Three.ensures.err c.push-in-Three.ensures.out_of_range c.push-in-Three.ensures.doubled c.push-in-Three.ensures.empty c.push-in-Three.ensures.full c.push-in-Three.ensures.fits)
