use Rattle.pv_learn.proofs.draft.add.Goals as goal

pub unwrap-requires : goal.unwrap-requires
unwrap-requires c = c.push.ensures.succeeds c.requires

pub returns-clause-items : goal.returns-clause-items
returns-clause-items c = rw c.unwrap.ensures at c.push.ensures.items

pub returns-clause-capacity : goal.returns-clause-capacity
returns-clause-capacity c = c.push.ensures.capacity
