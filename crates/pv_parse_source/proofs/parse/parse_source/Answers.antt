use Rattle.std.proofs.Common.{◌<◌, length, Err, subst, rules}
use Rattle.pv_tree.specs.View.{block_trees}
use Rattle.pv_tree.specs.Lexemes.{lexemes_of}
use Rattle.pv_parse_source.specs.SourceAnswers.{AnswersSource}
use Rattle.pv_parse_source.proofs.Endings.{ends, kinds_before, order_before}
use Rattle.pv_parse_source.proofs.SourceEndings.{fault_lies, source_fault_at, only_blocks, blocks_too_deep}
use Rattle.pv_parse_source.proofs.parse.parse_source.Goals as goal

pub read_source-requires-clause-tokens : goal.read_source-requires-clause-tokens
read_source-requires-clause-tokens c =
    let text = c.args.text.now in
    let inner = c.split_at.result.0.now in
    kinds_before c.args.its c.requires.tokens.0 text c.args.tokens.now inner c.requires.tokens.1 (ends c.args.its c.requires.tokens.0 text c.args.tokens.now inner c.requires.tokens.1 c.split_at.ensures.front)

pub read_source-requires-clause-order : goal.read_source-requires-clause-order
read_source-requires-clause-order c =
    let text = c.args.text.now in
    let inner = c.split_at.result.0.now in
    order_before c.args.its c.requires.tokens.0 text c.args.tokens.now inner c.requires.tokens.1 (ends c.args.its c.requires.tokens.0 text c.args.tokens.now inner c.requires.tokens.1 c.split_at.ensures.front)

pub read_source-requires-clause-reads : goal.read_source-requires-clause-reads
read_source-requires-clause-reads c = (c.args.its, c.requires.reads)

pub offset_bounds-tokens-at : goal.offset_bounds-tokens-at
offset_bounds-tokens-at c =
    let text = c.args.text.now in
    let inner = c.split_at.result.0.now in
    let within : c.in-Syntax.at < length c.args.tokens.now =
    fault_lies c.args.its text c.args.tokens.now inner c.in-Syntax.at
    (ends c.args.its c.requires.tokens.0 text c.args.tokens.now inner c.requires.tokens.1 c.split_at.ensures.front)
    (subst (λ fault. AnswersSource c.args.its (lexemes_of text inner) (Err fault)) c.in-Syntax.is
    (subst (λ answer. AnswersSource c.args.its (lexemes_of text inner) answer) c.in-Err.is (c.in_ok-blocks.ensures c.args.its c.requires.reads))) in
    search rules

pub bounds-tokens-at : goal.bounds-tokens-at
bounds-tokens-at c =
    let text = c.args.text.now in
    let inner = c.split_at.result.0.now in
    fault_lies c.args.its text c.args.tokens.now inner c.in-Syntax.at
    (ends c.args.its c.requires.tokens.0 text c.args.tokens.now inner c.requires.tokens.1 c.split_at.ensures.front)
    (subst (λ fault. AnswersSource c.args.its (lexemes_of text inner) (Err fault)) c.in-Syntax.is
    (subst (λ answer. AnswersSource c.args.its (lexemes_of text inner) answer) c.in-Err.is (c.in_ok-blocks.ensures c.args.its c.requires.reads)))

pub returns-in-Ok : goal.returns-in-Ok
returns-in-Ok c =
    let text = c.args.text.now in
    let inner = c.split_at.result.0.now in
    only_blocks c.args.its text c.args.tokens.now inner (block_trees c.in-Ok.blocks.list.items)
    (ends c.args.its c.requires.tokens.0 text c.args.tokens.now inner c.requires.tokens.1 c.split_at.ensures.front) c.in_default.ensures.none
    (subst (λ answer. AnswersSource c.args.its (lexemes_of text inner) answer) c.in-Ok.is (c.in_ok-blocks.ensures c.args.its c.requires.reads))

pub returns-in-Syntax : goal.returns-in-Syntax
returns-in-Syntax c =
    let text = c.args.text.now in
    let inner = c.split_at.result.0.now in
    source_fault_at c.args.its text c.args.tokens.now inner c.in-Syntax.at _
    (ends c.args.its c.requires.tokens.0 text c.args.tokens.now inner c.requires.tokens.1 c.split_at.ensures.front) c.in_default.ensures.none
    (subst (λ fault. AnswersSource c.args.its (lexemes_of text inner) (Err fault)) c.in-Syntax.is
    (subst (λ answer. AnswersSource c.args.its (lexemes_of text inner) answer) c.in-Err.is (c.in_ok-blocks.ensures c.args.its c.requires.reads)))

pub returns-in-Deep : goal.returns-in-Deep
returns-in-Deep c =
    let text = c.args.text.now in
    let inner = c.split_at.result.0.now in
    blocks_too_deep c.args.its text c.args.tokens.now inner c.in-Deep.place
    (ends c.args.its c.requires.tokens.0 text c.args.tokens.now inner c.requires.tokens.1 c.split_at.ensures.front) c.in_default.ensures.none
    (subst (λ fault. AnswersSource c.args.its (lexemes_of text inner) (Err fault)) c.in-Deep.is
    (subst (λ answer. AnswersSource c.args.its (lexemes_of text inner) answer) c.in-Err.is (c.in_ok-blocks.ensures c.args.its c.requires.reads)))
