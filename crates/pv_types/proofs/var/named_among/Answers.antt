-- draft
use Rattle.std.specs.Prelude.{bytes_eq}
use Rattle.pv_types.specs.View.{var_tree, name_of}
use Rattle.pv_types.proofs.Words.{word_found, word_passed, no_word}
use Rattle.pv_types.proofs.var.named_among.Goals as goal

pub returns-then-is_named : goal.returns-then-is_named
returns-then-is_named c =
    word_found c.args.of.now (λ v. bytes_eq c.args.name.now.key (name_of v).key) c.deref-word-items.result.now c.loop-word.word-index c.word-item.result
    (var_tree c.var_of.result) c.is_named.result c.deref-word-items.ensures.value c.loop-word-test.true c.word-item.is c.var_of.ensures.tree c.is_named.ensures
    c.if-is_named.true c.loop-word.invariant

pub loop-word-preserved : goal.loop-word-preserved
loop-word-preserved c =
    word_passed c.args.of.now (λ v. bytes_eq c.args.name.now.key (name_of v).key) c.deref-word-items.result.now c.loop-word.word-index c.word-item.result
    c.is_named.result c.loop-word-test.true c.word-item.is c.is_named.ensures c.if-is_named.false c.loop-word.invariant

pub returns : goal.returns
returns c =
    no_word c.args.of.now (λ v. bytes_eq c.args.name.now.key (name_of v).key) c.deref-word-items.result.now c.loop-word.word-index
    c.deref-word-items.ensures.value c.loop-word-test.false c.loop-word.invariant
