use Rattle.std.proofs.Common.{ap, sym, ◌∙◌, refl, bytes_eq}
use Rattle.pv_names.specs.Firsts.{or_number, number_in}
use Rattle.pv_names.proofs.ForCallers.{grown}
use Rattle.pv_bool_form.proofs.Places.{all_named}
use Rattle.pv_bool_form.proofs.words.numbered.Goals as goal

pub loop-i-preserved : goal.loop-i-preserved
loop-i-preserved c = λ key.
    c.in_ok-push.ensures key
    ∙ ap (λ o. or_number o (bytes_eq key c.index-vars-i.result.name.now.key) c.loop-i.i) (c.loop-i.invariant key)
    ∙ sym (grown (λ v. v.name.now.key) key c.args.vars.now c.loop-i.i _ c.index-vars-i.result c.loop-i-test.true c.index-vars-i.is refl)

pub returns : goal.returns
returns c = λ key.
    all_named c.args.vars.now c.loop-i.i key (number_in c.loop-i.numbers key) c.loop-i-test.false c.loop-i.auto.i-end (c.loop-i.invariant key)
