use Rattle.pv_learn.proofs.draft.add_all.Goals as goal

pub unwrap-requires : goal.unwrap-requires
unwrap-requires c = c.extend_from_slice.ensures.succeeds c.requires

pub returns-clause-items : goal.returns-clause-items
returns-clause-items c = rw c.unwrap.ensures at c.extend_from_slice.ensures.items

pub returns-clause-capacity : goal.returns-clause-capacity
returns-clause-capacity c = c.extend_from_slice.ensures.capacity
