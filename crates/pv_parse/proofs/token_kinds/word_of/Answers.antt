use Rattle.pv_tree.specs.Words.{prefixes, function_word, type_word}
use Rattle.std.proofs.Common.{refl, sym, ◌∙◌}
use Rattle.pv_parse.specs.Kinds.{word_entries, argument_words, operation_words, bit_ops, or_ops, value_ops, free_ops, expression_words, one_functions, declaration_words, statement_words}
use Rattle.pv_parse.proofs.LookUps.{by-part, no-text}
use Rattle.pv_parse.proofs.token_kinds.word_of.Goals as goal

pub returns-then-is_empty : goal.returns-then-is_empty
unfolding word_entries argument_words operation_words bit_ops or_ops value_ops free_ops expression_words one_functions declaration_words statement_words prefixes function_word type_word
returns-then-is_empty c = λ other. no-text c.args.bytes.now word_entries other (sym c.is_empty.ensures ∙ c.if-is_empty.true) refl

pub returns : goal.returns
returns c = λ other.
    by-part c.args.bytes.now word_entries _ _ other _ (sym c.is_empty.ensures ∙ c.if-is_empty.false) c.words_with.ensures
    c.to_ascii_lowercase.ensures.value (c.meaning_of.ensures other)
