use Rattle.std.proofs.Common.{sym, subst, Option}
use Rattle.std.specs.Prelude.{⊤, ◌≡◌, IfSome}
use Rattle.pv_frames.specs.Queries.{variable_count}
use Rattle.pv_queries.specs.declared.built.Built.{Built}
use Rattle.pv_queries.specs.Built.{circuit_of, starts_of}
use Rattle.pv_lift.proofs.once.count.Goals as goal

pub returns-in-Some-clause-number : goal.returns-in-Some-clause-number
returns-in-Some-clause-number c =
    subst (λ (o : Option Built). IfSome o (λ b. c.variables.result ≡ variable_count (circuit_of b) (starts_of b) c.args.query)) (sym c.in-Some.is)
    c.variables.ensures.number

pub returns-in-None-clause-number : goal.returns-in-None-clause-number
returns-in-None-clause-number c = subst (λ (o : Option Built). IfSome o (λ b. ⊤)) (sym c.in-None.is) tt
