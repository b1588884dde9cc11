use Rattle.pv_ll.proofs.Leading.{one_more}
use Rattle.pv_ll.proofs.ways.keep.Goals as goal

pub returns : goal.returns
returns c =
    one_more c.args.language.now c.args.acts.now _ _ _ c.in_ok-push.ensures.items c.requires.ways c.in_ok-way.ensures
