use Rattle.pv_resolve.proofs.forms.push_one.Goals as goal

pub push-requires-clause-follows : goal.push-requires-clause-follows
push-requires-clause-follows c = record { below = c.requires.arg; most = tt }
