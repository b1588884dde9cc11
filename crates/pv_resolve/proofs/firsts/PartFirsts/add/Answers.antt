use Rattle.std.proofs.Common.{◌∙◌}
use Rattle.pv_mean.specs.LaidOut.{test_of}
use Rattle.pv_mean.specs.Sized.{sized_project}
use Rattle.pv_resolve.proofs.Tabling.{word_added, words_added}
use Rattle.pv_resolve.proofs.firsts.PartFirsts.add.Goals as goal

pub loop-word-preserved : goal.loop-word-preserved
loop-word-preserved c =
    record {
      size = c.loop-word.invariant.size;
      part = c.in_ok-add_one.ensures.part ∙ c.loop-word.invariant.part;
      numbers = λ more. word_added (sized_project c.args.sizes.now) (test_of c.args.self.now.part) c.args.of.now c.deref-word-items.result.now
          c.loop-word._word-index c._word-item.result c.size_of-size.result c.loop-word.self.numbers.items _ c.loop-word.self.total _
          c.loop-word-test.true c._word-item.is c.loop-word.invariant.size c.in_ok-add_one.ensures.numbers c.in_ok-add_one.ensures.total more
          ∙ c.loop-word.invariant.numbers more;
    }

pub returns : goal.returns
returns c =
    record {
      part = c.loop-word.invariant.part;
      numbers = words_added (sized_project c.args.sizes.now) (test_of c.args.self.now.part) c.args.of.now c.deref-word-items.result.now
          c.loop-word._word-index c.args.self.now.numbers.items c.loop-word.self.numbers.items c.args.self.now.total c.loop-word.self.total
          c.deref-word-items.ensures.value c.loop-word-test.false c.loop-word.invariant.numbers;
    }
