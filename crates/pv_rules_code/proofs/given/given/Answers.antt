use Rattle.std.proofs.Common.{ap, ◌∙◌, ◌||◌, refl, Bool}
use Rattle.pv_tree.specs.Tree.{ArgTree}
use Rattle.pv_tree.specs.Callees.{param_for}
use Rattle.pv_tree.specs.View.{arg_tree}
use Rattle.pv_rules_code.specs.AtGiven.{gives}
use Rattle.pv_names.specs.Entries.{block_of}
use Rattle.pv_names.specs.Callees.{how_tree}
use Rattle.pv_rules_code.proofs.Meeting.{any_more}
use Rattle.pv_rules_code.proofs.given.given.Goals as goal

pub loop-arg-preserved : goal.loop-arg-preserved
loop-arg-preserved c =
    λ key. let p : ArgTree → Bool = λ a. gives key (param_for (how_tree c.args.how) (block_of c.args.entry.now) a) in
    c.in_ok-meet_param.ensures key ∙ ap (λ b. b || p (arg_tree c.arg-item.result)) (c.loop-arg.invariant key)
    ∙ any_more p arg_tree c.args.args.now c.loop-arg.arg-index _ c.arg-item.result c.loop-arg-test.true c.arg-item.is refl
