use Rattle.std.proofs.lemmas.Result.{on_ok_weaker}
use Rattle.pv_tree.specs.View.{block_tree}
use Rattle.pv_variables.proofs.Listing.{same_behind, entry_listed, called_listed}
use Rattle.pv_variables.proofs.list.push_bound.Goals as goal

pub returns-then-is_entry-clause-adds : goal.returns-then-is_entry-clause-adds
returns-then-is_entry-clause-adds c = λ source is entry same leaves.
    on_ok_weaker c.push_entered.result
    (same_behind c.args.vars.now.items c.push_entered.new.vars.items _ _
    (entry_listed source (block_tree c.args.entered.now) (block_tree c.args.block.now) c.is_entry.result entry c.is_entry.ensures c.if-is_entry.true))
    (c.push_entered.ensures.adds source is same)

pub returns-clause-adds : goal.returns-clause-adds
returns-clause-adds c = λ source is entry same leaves.
    same_behind c.args.vars.now.items c.push_called.new.vars.items _ _
    (called_listed source (block_tree c.args.entered.now) (block_tree c.args.block.now) c.is_entry.result entry c.is_entry.ensures c.if-is_entry.false)
    (c.in_ok-push_called.ensures source.project leaves)

pub returns-then-is_entry-clause-room : goal.returns-then-is_entry-clause-room
returns-then-is_entry-clause-room c = λ source is h. c.push_entered.ensures.room source is h
