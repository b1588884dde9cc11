use Rattle.std.proofs.Common.{sym, ◌∙◌}
use Rattle.pv_mean.specs.Sized.{sized_project}
use Rattle.pv_mean.specs.LaidOut.{test_of}
use Rattle.pv_mean.proofs.LaidVariables.{declared_passed}
use Rattle.pv_mean.proofs.sizes.Sizes.look.Goals as goal

pub returns-then-not-has : goal.returns-then-not-has
returns-then-not-has c = λ rest.
    declared_passed (sized_project c.args.self.now) (test_of c.args.part) c.args.of.now rest c.args.name.now.key c.args.at
    (sym c.has.ensures ∙ c.if-not-has.true)

pub returns : goal.returns
returns c = λ rest. c.look_at_each.ensures (test_of c.args.part) rest (sym c.has.ensures ∙ c.if-not-has.false)
