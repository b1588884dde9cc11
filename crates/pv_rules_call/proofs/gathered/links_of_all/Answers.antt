use Rattle.pv_names.specs.Tables.{project_of}
use Rattle.pv_rules_call.proofs.Gathering.{one_block}
use Rattle.pv_rules_call.proofs.gathered.links_of_all.Goals as goal

pub loop-entry-preserved : goal.loop-entry-preserved
loop-entry-preserved c =
    one_block (project_of c.args.tables.now) _ c.loop-entry.entry-index c.entry-item.result _ c.loop-entry.all.items _
    c.loop-entry-test.true c.entry-item.is c.in_ok-push.ensures.items c.in_ok-list.ensures c.loop-entry.invariant
