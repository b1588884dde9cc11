use Rattle.std.proofs.Common.{Err, ap, ◌∙◌}
use Rattle.pv_ll.specs.Reading.{answer_of}
use Rattle.pv_tree.specs.View.{block_trees}
use Rattle.pv_tree.specs.Lexemes.{lexemes_of}
use Rattle.pv_parse.specs.Items.{stack_of}
use Rattle.pv_parse_source.proofs.Answering.{told_in}
use Rattle.pv_parse_source.proofs.SourceReadings.{at_fault, read_well, too_deep, never_deep, never_built, never_without}
use Rattle.pv_parse_source.proofs.sources.read_source.Goals as goal

pub returns-in-Err : goal.returns-in-Err
returns-in-Err c = λ its reads.
    at_fault its c.args.language.now c.args.actions.now (lexemes_of c.args.text.now c.args.tokens.now) c.deref.result.now c.deref-2.result.now (answer_of c.in_ok-turns.field-0)
    c.in-Err.at reads c.requires.tokens (c.deref-2.ensures.value ∙ c.in_ok-kinds.ensures) (ap answer_of c.in-Err.is) c.in_ok-turns.ensures

pub returns-in-Some : goal.returns-in-Some
returns-in-Some c = λ its reads.
    too_deep its c.args.language.now c.args.actions.now (lexemes_of c.args.text.now c.args.tokens.now) c.deref-3.result.now c.in-Ok-find_too_deep.deep c.in-Some.place
    reads c.requires.tokens c.requires.order
    (told_in c.args.language.now c.args.actions.now (lexemes_of c.args.text.now c.args.tokens.now) c.deref.result.now c.deref-2.result.now (answer_of c.in_ok-turns.field-0) c.in-Ok.turns.items c.deref-3.result.now c.requires.ll1
    (c.deref.ensures.value ∙ c.in_ok-acts.ensures) (c.deref-2.ensures.value ∙ c.in_ok-kinds.ensures) (ap answer_of c.in-Ok.is) c.deref-3.ensures.value
    c.in_ok-turns.ensures)
    c.in-Some.is (c.in-Ok-find_too_deep.ensures c.args.text.now)

pub returns-in-Ok-pop_blocks : goal.returns-in-Ok-pop_blocks
returns-in-Ok-pop_blocks c = λ its reads.
    read_well its c.args.language.now c.args.actions.now (lexemes_of c.args.text.now c.args.tokens.now) c.deref-4.result.now c.deref-3.result.now c.in-Ok-find_too_deep.deep
    (stack_of c.in-Ok-build.stack) (stack_of c.pop_blocks.new.stack) (block_trees c.in-Ok-pop_blocks.list.items) reads c.requires.tokens
    (told_in c.args.language.now c.args.actions.now (lexemes_of c.args.text.now c.args.tokens.now) c.deref.result.now c.deref-2.result.now (answer_of c.in_ok-turns.field-0) c.in-Ok.turns.items c.deref-4.result.now c.requires.ll1
    (c.deref.ensures.value ∙ c.in_ok-acts.ensures) (c.deref-2.ensures.value ∙ c.in_ok-kinds.ensures) (ap answer_of c.in-Ok.is) c.deref-4.ensures.value
    c.in_ok-turns.ensures)
    (told_in c.args.language.now c.args.actions.now (lexemes_of c.args.text.now c.args.tokens.now) c.deref.result.now c.deref-2.result.now (answer_of c.in_ok-turns.field-0) c.in-Ok.turns.items c.deref-3.result.now c.requires.ll1
    (c.deref.ensures.value ∙ c.in_ok-acts.ensures) (c.deref-2.ensures.value ∙ c.in_ok-kinds.ensures) (ap answer_of c.in-Ok.is) c.deref-3.ensures.value
    c.in_ok-turns.ensures)
    c.in_default.is (c.in-Ok-find_too_deep.ensures c.args.text.now) c.in-Ok-build.ensures c.in-Ok-pop_blocks.ensures

-- ---- what can't come

pub unreachable-requires : goal.unreachable-requires
unreachable-requires c =
    never_deep c.requires.reads.0 c.args.language.now c.args.actions.now (lexemes_of c.args.text.now c.args.tokens.now) c.deref-3.result.now c.requires.reads.1 c.requires.tokens
    (told_in c.args.language.now c.args.actions.now (lexemes_of c.args.text.now c.args.tokens.now) c.deref.result.now c.deref-2.result.now (answer_of c.in_ok-turns.field-0) c.in-Ok.turns.items c.deref-3.result.now c.requires.ll1
    (c.deref.ensures.value ∙ c.in_ok-acts.ensures) (c.deref-2.ensures.value ∙ c.in_ok-kinds.ensures) (ap answer_of c.in-Ok.is) c.deref-3.ensures.value
    c.in_ok-turns.ensures)
    c.find_too_deep.result (c.in-Err-Mistyped.is ∙ ap (λ e. Err e) c.in-Err-Mistyped.field-0-is) (c.find_too_deep.ensures c.args.text.now)

pub unreachable-requires-in-Err-Mistyped-build : goal.unreachable-requires-in-Err-Mistyped-build
unreachable-requires-in-Err-Mistyped-build c =
    never_built c.requires.reads.0 c.args.language.now c.args.actions.now (lexemes_of c.args.text.now c.args.tokens.now) c.deref-4.result.now c.requires.reads.1 c.requires.tokens
    (told_in c.args.language.now c.args.actions.now (lexemes_of c.args.text.now c.args.tokens.now) c.deref.result.now c.deref-2.result.now (answer_of c.in_ok-turns.field-0) c.in-Ok.turns.items c.deref-4.result.now c.requires.ll1
    (c.deref.ensures.value ∙ c.in_ok-acts.ensures) (c.deref-2.ensures.value ∙ c.in_ok-kinds.ensures) (ap answer_of c.in-Ok.is) c.deref-4.ensures.value
    c.in_ok-turns.ensures)
    stack_of c.build.result (c.in-Err-Mistyped-build.is ∙ ap (λ e. Err e) c.in-Err-Mistyped-build.field-0-is) c.build.ensures

pub unreachable-requires-in-Err-Mistyped-pop_blocks : goal.unreachable-requires-in-Err-Mistyped-pop_blocks
unreachable-requires-in-Err-Mistyped-pop_blocks c =
    never_without c.requires.reads.0 c.args.language.now c.args.actions.now (lexemes_of c.args.text.now c.args.tokens.now) c.deref-4.result.now c.requires.reads.1 c.requires.tokens
    (told_in c.args.language.now c.args.actions.now (lexemes_of c.args.text.now c.args.tokens.now) c.deref.result.now c.deref-2.result.now (answer_of c.in_ok-turns.field-0) c.in-Ok.turns.items c.deref-4.result.now c.requires.ll1
    (c.deref.ensures.value ∙ c.in_ok-acts.ensures) (c.deref-2.ensures.value ∙ c.in_ok-kinds.ensures) (ap answer_of c.in-Ok.is) c.deref-4.ensures.value
    c.in_ok-turns.ensures)
    (stack_of c.in-Ok-build.stack) c.in-Ok-build.ensures (rw c.in-Err-Mistyped-pop_blocks.field-0-is at c.in-Err-Mistyped-pop_blocks.ensures)
