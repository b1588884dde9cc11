use Rattle.std.proofs.Common.{subst, OnOk}
use Rattle.pv_types.specs.declared.walk.Span.{Span}
use Rattle.pv_types.specs.declared.walk.Rest.TheVariants.{Elements}
use Rattle.pv_types.specs.Walk.{Adds, leaves_of_rest, work_of_rest}
use Rattle.pv_types.proofs.walk.Walk.add_next_elements.Goals as goal

pub returns-in-Some-clause-adds : goal.returns-in-Some-clause-adds
returns-in-Some-clause-adds c = λ types.
    subst (λ (s : Span). OnOk c.add_frame.result (Adds types c.args.self.now c.add_frame.new.self
    (leaves_of_rest types c.args.levels c.args.self.now.path.items (Elements c.args.of s c.args.section))
    (work_of_rest types c.args.levels (Elements c.args.of s c.args.section))))
    c.in-Some.ensures.some (c.add_frame.ensures.adds types)
