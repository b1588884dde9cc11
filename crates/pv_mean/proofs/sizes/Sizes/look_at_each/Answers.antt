use Rattle.pv_mean.specs.Sized.{sized_project}
use Rattle.pv_mean.proofs.LaidVariables.{word_laid, word_behind, words_behind}
use Rattle.pv_mean.proofs.sizes.Sizes.look_at_each.Goals as goal

pub returns-then-is_named : goal.returns-then-is_named
returns-then-is_named c = λ test rest part.
    word_laid (sized_project c.args.self.now) test c.args.of.now c.deref-word-items.result.now c.loop-word.word-index rest c.args.name.now.key c.loop-word.at
    c.args.at c.word-item.result c.is_named.result c.deref-word-items.ensures.value c.loop-word-test.true c.word-item.is part c.is_named.ensures
    c.if-is_named.true (c.loop-word.invariant.found test rest part)

pub loop-word-preserved : goal.loop-word-preserved
loop-word-preserved c = record {
  size = c.loop-word.invariant.size;
  found = λ test rest part.
      word_behind (sized_project c.args.self.now) test c.args.of.now c.deref-word-items.result.now c.loop-word.word-index rest c.args.name.now.key
      c.loop-word.at c.args.at c.word-item.result c.is_named.result c.of_type-size.result c.sum-at.result c.loop-word-test.true c.word-item.is part
      c.is_named.ensures c.if-is_named.false c.loop-word.invariant.size c.sum-at.ensures (c.loop-word.invariant.found test rest part);
}

pub returns : goal.returns
returns c = λ test rest part.
    words_behind (sized_project c.args.self.now) test c.args.of.now c.deref-word-items.result.now c.loop-word.word-index rest c.args.name.now.key c.loop-word.at
    c.args.at c.deref-word-items.ensures.value c.loop-word-test.false (c.loop-word.invariant.found test rest part)
