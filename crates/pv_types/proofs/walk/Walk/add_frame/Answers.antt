use Rattle.std.proofs.Common.{refl, ◌∙◌}
use Rattle.pv_types.proofs.Stack.{framed}
use Rattle.pv_types.proofs.walk.Walk.add_frame.Goals as goal

pub returns-clause-adds : goal.returns-clause-adds
returns-clause-adds c = λ types.
    framed types _ _ c.args.rest c.args.levels c.len-path_len.result c.requires (c.len-path_len.ensures ∙ c.args.self.now.path.ok.0)
    c.in_ok-push.ensures.items refl refl
