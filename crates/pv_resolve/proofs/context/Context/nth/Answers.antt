use Rattle.std.proofs.Common.{subst}
use Rattle.std.specs.Prelude.{IfSome}
use Rattle.pv_names.specs.Entries.{block_of}
use Rattle.pv_resolve.specs.Firsts.{AreFirsts, IsNumbered}
use Rattle.pv_resolve.proofs.context.Context.nth.Goals as goal

pub returns-in-Some-block : goal.returns-in-Some-block
returns-in-Some-block c = λ source is at.
    c.nth.ensures source.project (block_of c.args.entry.now) (subst (λ o. IfSome o (λ f. AreFirsts f.now source.project)) c.in-Some.is is.firsts)
    (subst (λ o. IsNumbered source.project o (block_of c.args.entry.now)) c.in-Some-block.is at) c.vars.ensures
