use Rattle.std.proofs.Common.{◌∙◌, sym}
use Rattle.pv_eval.specs.Means.{activation}
use Rattle.pv_resolve.specs.Contexts.{block_in}
use Rattle.pv_resolve.specs.Begins.{begin_at}
use Rattle.pv_program.proofs.Instances.{called-word, called-name}
use Rattle.pv_program.proofs.instance.called_begin.Goals as goal

pub returns-then-is_word-clause-begins : goal.returns-then-is_word-clause-begins
returns-then-is_word-clause-begins c = λ source first is.
    called-word c.word.result (λ b. begin_at b first) source (activation (block_in c.args.context.now) first) c.args.name.now c.args.hash
    (sym c.is_word.ensures ∙ c.if-is_word.true) (c.word.ensures.value source first is)

pub returns-else-is_word-clause-begins : goal.returns-else-is_word-clause-begins
returns-else-is_word-clause-begins c = λ source first is.
    called-name c.name.result (λ b. begin_at b first) source (activation (block_in c.args.context.now) first) c.args.name.now c.args.hash
    (sym c.is_word.ensures ∙ c.if-is_word.false) (c.name.ensures.value source first is)

pub returns-then-is_word-clause-room : goal.returns-then-is_word-clause-room
returns-then-is_word-clause-room c = c.word.ensures.room

pub returns-else-is_word-clause-room : goal.returns-else-is_word-clause-room
returns-else-is_word-clause-room c = c.name.ensures.room
