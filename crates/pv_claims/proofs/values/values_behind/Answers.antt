use Rattle.std.proofs.lemmas.Result.{IfOk-weaker}
use Rattle.pv_claims.proofs.ValueLaws.{behind}
use Rattle.pv_claims.proofs.values.values_behind.Goals as goal

pub returns-in-Some : goal.returns-in-Some
returns-in-Some c =
    IfOk-weaker c.values.result _ _ (λ found is. behind c.args.line.now c.args.word.now c.in-Some.rest.now found c.in-Some.ensures.found is) c.values.ensures
