use Rattle.pv_names.specs.Entries.{block_of}
use Rattle.pv_mean.specs.LaidOut.{test_of}
use Rattle.pv_resolve.proofs.context.Context.variable_from.Goals as goal

pub returns-clause-value : goal.returns-clause-value
returns-clause-value c = λ source is at.
    c.exact.ensures.value _ (c.laid_behind.ensures source.project (test_of c.args.part) (block_of c.args.entry.now).vars c.args.name.now.key
    (c.variable_in.ensures source is at))

pub returns-clause-near : goal.returns-clause-near
returns-clause-near c = λ source is at near.
    c.exact.ensures.near _ (c.laid_behind.ensures source.project (test_of c.args.part) (block_of c.args.entry.now).vars c.args.name.now.key
    (c.variable_in.ensures source is at)) near
