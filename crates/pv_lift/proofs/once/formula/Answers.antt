use Rattle.std.proofs.Common.{Option, sym, subst}
use Rattle.std.specs.Prelude.{⊤, ◌≡◌, IfSome, IfOk}
use Rattle.pv_queries.specs.declared.built.Built.{Built}
use Rattle.pv_queries.specs.Built.{circuit_of, starts_of}
use Rattle.pv_lift.specs.Cases.{formula_of}
use Rattle.pv_lift.proofs.once.formula.Goals as goal

pub returns-in-Some-clause-formula : goal.returns-in-Some-clause-formula
returns-in-Some-clause-formula c =
    subst (λ (o : Option Built). IfSome o (λ b. IfOk c.formula_by.result (λ f. f ≡ formula_of (circuit_of b) (starts_of b) c.args.query)))
    (sym c.in-Some.is) c.formula_by.ensures.formula

pub returns-in-None-clause-formula : goal.returns-in-None-clause-formula
returns-in-None-clause-formula c = subst (λ (o : Option Built). IfSome o (λ b. ⊤)) (sym c.in-None.is) tt
