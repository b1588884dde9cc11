use Rattle.std.proofs.Common.{sym, ap, ◌∙◌}
use Rattle.std.proofs.lemmas.Result.{IfOk-weaker}
use Rattle.pv_resolve.specs.Contexts.{block_in}
use Rattle.pv_eval.specs.Means.{activation}
use Rattle.pv_resolve.specs.Begins.{begin_at}
use Rattle.pv_mean.specs.Activations.{root_begins}
use Rattle.pv_resolve.proofs.Naming.{area_begins}
use Rattle.pv_resolve.proofs.context.Context.root.Goals as goal

pub returns-in-Local-clause-value : goal.returns-in-Local-clause-value
returns-in-Local-clause-value c =
    λ source first is. IfOk-weaker c.word.result _ _ (λ b e.
    e ∙ ap (root_begins source (activation (block_in c.args.self.now) first)) (sym c.in-Local.is))
    (c.word.ensures.value source first is)

pub returns-in-Named-clause-value : goal.returns-in-Named-clause-value
returns-in-Named-clause-value c =
    λ source first is. IfOk-weaker c.name.result _ _ (λ b e.
    e ∙ ap (root_begins source (activation (block_in c.args.self.now) first)) (sym c.in-Named.is))
    (c.name.ensures.value source first is)

pub returns-in-Area-clause-value : goal.returns-in-Area-clause-value
returns-in-Area-clause-value c =
    λ source first is. IfOk-weaker c.area.result _ _ (λ b e.
    area_begins source (activation (block_in c.args.self.now) first) c.args.root.now _ c.in-Area.bits _ _ (begin_at b first) c.in-Area.is e)
    (c.area.ensures.value source first is)

pub returns-in-Local-clause-room : goal.returns-in-Local-clause-room
returns-in-Local-clause-room c =
    λ source is h fits. c.word.ensures.room source is h

pub returns-in-Named-clause-room : goal.returns-in-Named-clause-room
returns-in-Named-clause-room c =
    λ source is h fits. c.name.ensures.room source is h

pub returns-in-Area-clause-room : goal.returns-in-Area-clause-room
returns-in-Area-clause-room c =
    λ source is h fits. c.area.ensures.room source is h fits
