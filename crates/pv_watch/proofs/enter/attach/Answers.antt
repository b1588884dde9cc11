use Rattle.std.proofs.Common.{◌∙◌, ◌∷◌, ap, subst, arith}
use Rattle.pv_region.specs.Stored.{Stored, list_of, with_list, IsLinked}
use Rattle.pv_watch.proofs.Joining.{linked-with}
use Rattle.pv_watch.proofs.Moving.{slots-apart}
use Rattle.pv_watch.proofs.enter.attach.Goals as goal

pub watch-requires-clause-free : goal.watch-requires-clause-free
watch-requires-clause-free c = c.requires.free 0 (omega arith)

pub watch-requires-2-clause-free : goal.watch-requires-2-clause-free
watch-requires-2-clause-free c = λ l. c.requires.free 1 (omega arith) (linked-with c.args.region.now c.args.pair.first (record { id = c.args.id; slot = 0 }) (record { id = c.args.id; slot = 1 }) (subst (λ (s : Stored). IsLinked s (record { id = c.args.id; slot = 1 })) c.watch.ensures l) (slots-apart c.args.id))

pub returns-clause-stored : goal.returns-clause-stored
returns-clause-stored c = c.watch-2.ensures ∙ ap (λ (s : Stored). with_list s c.args.pair.second ((record { id = c.args.id; slot = 1 }) ∷ list_of s c.args.pair.second)) c.watch.ensures
