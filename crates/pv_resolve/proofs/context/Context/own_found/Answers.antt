use Rattle.pv_resolve.proofs.context.Context.own_found.Goals as goal

pub returns : goal.returns
returns c = λ source is. c.variable_in.ensures source is is.number
