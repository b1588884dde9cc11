use Rattle.std.proofs.Common.{ap, sym, ◌∙◌, refl}
use Rattle.pv_types.specs.View.{var_tree}
use Rattle.pv_names.specs.Firsts.{or_number}
use Rattle.pv_names.specs.Doubled.{is_sought}
use Rattle.pv_names.proofs.FirstNumbers.{grown_by}
use Rattle.pv_names.proofs.doubled.of_part.Goals as goal

pub loop-i-preserved : goal.loop-i-preserved
loop-i-preserved c = λ key.
    c.in_ok-push_of.ensures key
    ∙ ap (λ o. or_number o (is_sought c.args.part key (var_tree c.index-vars-i.result)) c.loop-i.i) (c.loop-i.invariant key)
    ∙ sym (grown_by (is_sought c.args.part key) var_tree c.args.vars.now c.loop-i.i _ c.index-vars-i.result c.loop-i-test.true
    c.index-vars-i.is refl)
