use Rattle.std.proofs.Common.{[], ◌∷◌, refl, ap, sym, arith}
use Rattle.pv_parse.proofs.LookUps.{none-begins}
use Rattle.pv_tree.specs.Words.{prefixes, function_word, type_word}
use Rattle.pv_parse.specs.LookUps.{entries_with}
use Rattle.pv_parse.specs.Kinds.{word_entries, argument_words, operation_words, bit_ops, or_ops, value_ops, free_ops, expression_words, one_functions, declaration_words, statement_words}
use Rattle.pv_parse.proofs.entries.words_with.Goals as goal

pub returns-in-97 : goal.returns-in-97
unfolding word_entries argument_words operation_words bit_ops or_ops value_ops free_ops expression_words one_functions declaration_words statement_words prefixes function_word type_word
returns-in-97 c = ap (λ b. entries_with b word_entries) (sym c.in-97.is)

pub returns-in-98 : goal.returns-in-98
unfolding word_entries argument_words operation_words bit_ops or_ops value_ops free_ops expression_words one_functions declaration_words statement_words prefixes function_word type_word
returns-in-98 c = ap (λ b. entries_with b word_entries) (sym c.in-98.is)

pub returns-in-99 : goal.returns-in-99
unfolding word_entries argument_words operation_words bit_ops or_ops value_ops free_ops expression_words one_functions declaration_words statement_words prefixes function_word type_word
returns-in-99 c = ap (λ b. entries_with b word_entries) (sym c.in-99.is)

pub returns-in-100 : goal.returns-in-100
unfolding word_entries argument_words operation_words bit_ops or_ops value_ops free_ops expression_words one_functions declaration_words statement_words prefixes function_word type_word
returns-in-100 c = ap (λ b. entries_with b word_entries) (sym c.in-100.is)

pub returns-in-101 : goal.returns-in-101
unfolding word_entries argument_words operation_words bit_ops or_ops value_ops free_ops expression_words one_functions declaration_words statement_words prefixes function_word type_word
returns-in-101 c = ap (λ b. entries_with b word_entries) (sym c.in-101.is)

pub returns-in-102 : goal.returns-in-102
unfolding word_entries argument_words operation_words bit_ops or_ops value_ops free_ops expression_words one_functions declaration_words statement_words prefixes function_word type_word
returns-in-102 c = ap (λ b. entries_with b word_entries) (sym c.in-102.is)

pub returns-in-103 : goal.returns-in-103
unfolding word_entries argument_words operation_words bit_ops or_ops value_ops free_ops expression_words one_functions declaration_words statement_words prefixes function_word type_word
returns-in-103 c = ap (λ b. entries_with b word_entries) (sym c.in-103.is)

pub returns-in-105 : goal.returns-in-105
unfolding word_entries argument_words operation_words bit_ops or_ops value_ops free_ops expression_words one_functions declaration_words statement_words prefixes function_word type_word
returns-in-105 c = ap (λ b. entries_with b word_entries) (sym c.in-105.is)

pub returns-in-106 : goal.returns-in-106
unfolding word_entries argument_words operation_words bit_ops or_ops value_ops free_ops expression_words one_functions declaration_words statement_words prefixes function_word type_word
returns-in-106 c = ap (λ b. entries_with b word_entries) (sym c.in-106.is)

pub returns-in-108 : goal.returns-in-108
unfolding word_entries argument_words operation_words bit_ops or_ops value_ops free_ops expression_words one_functions declaration_words statement_words prefixes function_word type_word
returns-in-108 c = ap (λ b. entries_with b word_entries) (sym c.in-108.is)

pub returns-in-109 : goal.returns-in-109
unfolding word_entries argument_words operation_words bit_ops or_ops value_ops free_ops expression_words one_functions declaration_words statement_words prefixes function_word type_word
returns-in-109 c = ap (λ b. entries_with b word_entries) (sym c.in-109.is)

pub returns-in-110 : goal.returns-in-110
unfolding word_entries argument_words operation_words bit_ops or_ops value_ops free_ops expression_words one_functions declaration_words statement_words prefixes function_word type_word
returns-in-110 c = ap (λ b. entries_with b word_entries) (sym c.in-110.is)

pub returns-in-111 : goal.returns-in-111
unfolding word_entries argument_words operation_words bit_ops or_ops value_ops free_ops expression_words one_functions declaration_words statement_words prefixes function_word type_word
returns-in-111 c = ap (λ b. entries_with b word_entries) (sym c.in-111.is)

pub returns-in-112 : goal.returns-in-112
unfolding word_entries argument_words operation_words bit_ops or_ops value_ops free_ops expression_words one_functions declaration_words statement_words prefixes function_word type_word
returns-in-112 c = ap (λ b. entries_with b word_entries) (sym c.in-112.is)

pub returns-in-114 : goal.returns-in-114
unfolding word_entries argument_words operation_words bit_ops or_ops value_ops free_ops expression_words one_functions declaration_words statement_words prefixes function_word type_word
returns-in-114 c = ap (λ b. entries_with b word_entries) (sym c.in-114.is)

pub returns-in-115 : goal.returns-in-115
unfolding word_entries argument_words operation_words bit_ops or_ops value_ops free_ops expression_words one_functions declaration_words statement_words prefixes function_word type_word
returns-in-115 c = ap (λ b. entries_with b word_entries) (sym c.in-115.is)

pub returns-in-116 : goal.returns-in-116
unfolding word_entries argument_words operation_words bit_ops or_ops value_ops free_ops expression_words one_functions declaration_words statement_words prefixes function_word type_word
returns-in-116 c = ap (λ b. entries_with b word_entries) (sym c.in-116.is)

pub returns-in-117 : goal.returns-in-117
unfolding word_entries argument_words operation_words bit_ops or_ops value_ops free_ops expression_words one_functions declaration_words statement_words prefixes function_word type_word
returns-in-117 c = ap (λ b. entries_with b word_entries) (sym c.in-117.is)

pub returns-in-118 : goal.returns-in-118
unfolding word_entries argument_words operation_words bit_ops or_ops value_ops free_ops expression_words one_functions declaration_words statement_words prefixes function_word type_word
returns-in-118 c = ap (λ b. entries_with b word_entries) (sym c.in-118.is)

pub returns-in-119 : goal.returns-in-119
unfolding word_entries argument_words operation_words bit_ops or_ops value_ops free_ops expression_words one_functions declaration_words statement_words prefixes function_word type_word
returns-in-119 c = ap (λ b. entries_with b word_entries) (sym c.in-119.is)

pub returns-in-120 : goal.returns-in-120
unfolding word_entries argument_words operation_words bit_ops or_ops value_ops free_ops expression_words one_functions declaration_words statement_words prefixes function_word type_word
returns-in-120 c = ap (λ b. entries_with b word_entries) (sym c.in-120.is)

pub returns-in_default : goal.returns-in_default
unfolding word_entries argument_words operation_words bit_ops or_ops value_ops free_ops expression_words one_functions declaration_words statement_words prefixes function_word type_word
returns-in_default c =
    sym (none-begins c.args.letter (97 ∷ 98 ∷ 99 ∷ 100 ∷ 101 ∷ 102 ∷ 103 ∷ 105 ∷ 106 ∷ 108 ∷ 109 ∷ 110 ∷ 111 ∷ 112 ∷ 114 ∷ 115 ∷ 116 ∷ 117 ∷ 118 ∷ 119 ∷ 120 ∷ []) word_entries refl
    (omega arith, (omega arith, (omega arith, (omega arith, (omega arith, (omega arith, (omega arith, (omega arith, (omega arith, (omega arith, (omega arith, (omega arith, (omega arith, (omega arith, (omega arith, (omega arith, (omega arith, (omega arith, (omega arith, (omega arith, (omega arith, tt))))))))))))))))))))))
