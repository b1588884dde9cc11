use Rattle.pv_word.specs.Types.{width_of}
use Rattle.pv_word.proofs.PatternLaws.{pattern-sum, pattern-difference, pattern-product}
use Rattle.pv_word.proofs.laws.pattern_of_results.Goals as goal

pub returns : goal.returns
returns c =
    let w = width_of c.args.ty in
    record {
      sum = λ a b. pattern-sum w a b;
      difference = λ a b. pattern-difference w a b;
      product = λ a b. pattern-product w a b;
    }
