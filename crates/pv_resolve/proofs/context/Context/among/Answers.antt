use Rattle.pv_resolve.proofs.context.Context.among.Goals as goal

pub returns-clause-near : goal.returns-clause-near
returns-clause-near c =
    λ near. c.exact.ensures.near _ c.variable.ensures near
