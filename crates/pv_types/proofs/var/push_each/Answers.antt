-- draft
use Rattle.pv_types.proofs.Words.{word_pushed, words_pushed}
use Rattle.pv_types.proofs.var.push_each.Goals as goal

pub loop-word-preserved : goal.loop-word-preserved
loop-word-preserved c =
    word_pushed c.args.of.now c.deref-word-items.result.now c.loop-word.word-index c.loop-word.vars.items _ c.word-item.result c.var_of.result _
    c.loop-word-test.true c.word-item.is c.in_ok-push.ensures.items c.var_of.ensures.tree c.loop-word.invariant

pub returns : goal.returns
returns c =
    words_pushed c.args.of.now c.deref-word-items.result.now c.loop-word.word-index c.args.vars.now.items c.loop-word.vars.items
    c.deref-word-items.ensures.value c.loop-word-test.false c.loop-word.invariant
