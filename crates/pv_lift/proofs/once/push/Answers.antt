use Rattle.std.proofs.Common.{ℕ, ◌≤◌, List, Option, length, sym, subst, ap, arith}
use Rattle.std.specs.Prelude.{IfSome, Err}
use Rattle.pv_cnf.specs.declared.clauses.PushFault.TheVariants.{NoMemory}
use Rattle.pv_frames.specs.Pushing.{Pushes}
use Rattle.pv_frames.specs.Queries.{variable_count, query_clauses}
use Rattle.pv_queries.specs.declared.built.Built.{Built}
use Rattle.pv_queries.specs.Built.{circuit_of, starts_of}
use Rattle.pv_lift.proofs.once.push.Goals as goal

pub push-requires-clause-variables : goal.push-requires-clause-variables
push-requires-clause-variables g c =
    subst (λ (o : Option Built). IfSome o (λ b. variable_count (circuit_of b) (starts_of b) c.args.query ≤ g.D.Clauses.variables c.args.into.now))
    c.in-Some.is c.requires.variables

pub push-requires-clause-room : goal.push-requires-clause-room
push-requires-clause-room g c = omega (arith, ap (λ (l : List (List ℕ)). length l) c.requires.none)

pub returns-in-Some-clause-pushes : goal.returns-in-Some-clause-pushes
returns-in-Some-clause-pushes g c =
    subst (λ (o : Option Built). IfSome o (λ b. Pushes (g.D.Clauses.overflow c.args.into.now) (g.D.Clauses.clauses c.args.into.now)
    (query_clauses (circuit_of b) (starts_of b) c.args.query) (g.D.Clauses.clauses c.push.new.into) c.push.result)) (sym c.in-Some.is)
    c.push.ensures.pushes

pub returns-in-None-clause-pushes : goal.returns-in-None-clause-pushes
returns-in-None-clause-pushes g c =
    subst (λ (o : Option Built). IfSome o (λ b. Pushes (g.D.Clauses.overflow c.args.into.now) (g.D.Clauses.clauses c.args.into.now)
    (query_clauses (circuit_of b) (starts_of b) c.args.query) (g.D.Clauses.clauses c.args.into.now) (Err NoMemory))) (sym c.in-None.is) tt
