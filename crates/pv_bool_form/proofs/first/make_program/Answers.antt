use Rattle.std.proofs.Common.{map}
use Rattle.pv_bool_form.specs.Wording.{words_of}
use Rattle.pv_tree.specs.View.{block_tree}
use Rattle.pv_bool.specs.Tree.{term_tree, assignment_tree}
use Rattle.pv_bool_form.specs.Requirements.{pattern_tree}
use Rattle.pv_bool_form.proofs.Made.{made_of, made_is, made_is_program}
use Rattle.pv_bool_form.proofs.first.make_program.Goals as goal

pub invariant_of-result : goal.invariant_of-result
invariant_of-result c = record {
  own = made_is_program (block_tree c.args.block.now) (words_of c.args.words.now) (pattern_tree c.args.required)
      c.in_ok-bits.bits.items (map assignment_tree c.in_ok-body.body.items) (term_tree c.in_ok-holds.holds)
      (record {
        vars = c.requires.words;
        bits_are = made_of c.vars.result.now c.args.words.now.vars.items c.in_ok-bits.bits.items c.in_ok-bits.ensures c.vars.ensures;
        body_is = c.in_ok-body.ensures;
        holds_is = c.in_ok-holds.ensures;
      }) c.requires.is_first.0 c.requires.is_first.1;
}

pub returns : goal.returns
returns c = λ patterns bound are.
    made_is (block_tree c.args.block.now) (words_of c.args.words.now) (pattern_tree c.args.required)
    c.in_ok-bits.bits.items (map assignment_tree c.in_ok-body.body.items) (term_tree c.in_ok-holds.holds)
    (record {
      vars = c.requires.words;
      bits_are = made_of c.vars.result.now c.args.words.now.vars.items c.in_ok-bits.bits.items c.in_ok-bits.ensures c.vars.ensures;
      body_is = c.in_ok-body.ensures;
      holds_is = c.in_ok-holds.ensures;
    }) c.requires.is_first.0 c.requires.is_first.1 patterns bound are
