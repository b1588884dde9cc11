use Rattle.std.proofs.Common.{[], ◌∷◌, refl, ap, sym, arith}
use Rattle.pv_tree.specs.Outside.{left_out, area_words, left_out_instructions, timer_words, code_words, data_words, end_words, begin_words, network_words}
use Rattle.pv_parse.specs.LookUps.{entries_with}
use Rattle.pv_parse.specs.Roles.{role_entries}
use Rattle.pv_parse.proofs.LookUps.{none-begins}
use Rattle.pv_parse.proofs.role.roles_with.Goals as goal

pub returns-in-97 : goal.returns-in-97
unfolding role_entries left_out area_words left_out_instructions timer_words code_words data_words end_words begin_words network_words
returns-in-97 c = ap (λ b. entries_with b role_entries) (sym c.in-97.is)

pub returns-in-98 : goal.returns-in-98
unfolding role_entries left_out area_words left_out_instructions timer_words code_words data_words end_words begin_words network_words
returns-in-98 c = ap (λ b. entries_with b role_entries) (sym c.in-98.is)

pub returns-in-99 : goal.returns-in-99
unfolding role_entries left_out area_words left_out_instructions timer_words code_words data_words end_words begin_words network_words
returns-in-99 c = ap (λ b. entries_with b role_entries) (sym c.in-99.is)

pub returns-in-100 : goal.returns-in-100
unfolding role_entries left_out area_words left_out_instructions timer_words code_words data_words end_words begin_words network_words
returns-in-100 c = ap (λ b. entries_with b role_entries) (sym c.in-100.is)

pub returns-in-101 : goal.returns-in-101
unfolding role_entries left_out area_words left_out_instructions timer_words code_words data_words end_words begin_words network_words
returns-in-101 c = ap (λ b. entries_with b role_entries) (sym c.in-101.is)

pub returns-in-102 : goal.returns-in-102
unfolding role_entries left_out area_words left_out_instructions timer_words code_words data_words end_words begin_words network_words
returns-in-102 c = ap (λ b. entries_with b role_entries) (sym c.in-102.is)

pub returns-in-103 : goal.returns-in-103
unfolding role_entries left_out area_words left_out_instructions timer_words code_words data_words end_words begin_words network_words
returns-in-103 c = ap (λ b. entries_with b role_entries) (sym c.in-103.is)

pub returns-in-105 : goal.returns-in-105
unfolding role_entries left_out area_words left_out_instructions timer_words code_words data_words end_words begin_words network_words
returns-in-105 c = ap (λ b. entries_with b role_entries) (sym c.in-105.is)

pub returns-in-106 : goal.returns-in-106
unfolding role_entries left_out area_words left_out_instructions timer_words code_words data_words end_words begin_words network_words
returns-in-106 c = ap (λ b. entries_with b role_entries) (sym c.in-106.is)

pub returns-in-108 : goal.returns-in-108
unfolding role_entries left_out area_words left_out_instructions timer_words code_words data_words end_words begin_words network_words
returns-in-108 c = ap (λ b. entries_with b role_entries) (sym c.in-108.is)

pub returns-in-109 : goal.returns-in-109
unfolding role_entries left_out area_words left_out_instructions timer_words code_words data_words end_words begin_words network_words
returns-in-109 c = ap (λ b. entries_with b role_entries) (sym c.in-109.is)

pub returns-in-110 : goal.returns-in-110
unfolding role_entries left_out area_words left_out_instructions timer_words code_words data_words end_words begin_words network_words
returns-in-110 c = ap (λ b. entries_with b role_entries) (sym c.in-110.is)

pub returns-in-111 : goal.returns-in-111
unfolding role_entries left_out area_words left_out_instructions timer_words code_words data_words end_words begin_words network_words
returns-in-111 c = ap (λ b. entries_with b role_entries) (sym c.in-111.is)

pub returns-in-112 : goal.returns-in-112
unfolding role_entries left_out area_words left_out_instructions timer_words code_words data_words end_words begin_words network_words
returns-in-112 c = ap (λ b. entries_with b role_entries) (sym c.in-112.is)

pub returns-in-114 : goal.returns-in-114
unfolding role_entries left_out area_words left_out_instructions timer_words code_words data_words end_words begin_words network_words
returns-in-114 c = ap (λ b. entries_with b role_entries) (sym c.in-114.is)

pub returns-in-115 : goal.returns-in-115
unfolding role_entries left_out area_words left_out_instructions timer_words code_words data_words end_words begin_words network_words
returns-in-115 c = ap (λ b. entries_with b role_entries) (sym c.in-115.is)

pub returns-in-116 : goal.returns-in-116
unfolding role_entries left_out area_words left_out_instructions timer_words code_words data_words end_words begin_words network_words
returns-in-116 c = ap (λ b. entries_with b role_entries) (sym c.in-116.is)

pub returns-in_default : goal.returns-in_default
unfolding role_entries left_out area_words left_out_instructions timer_words code_words data_words end_words begin_words network_words
returns-in_default c =
    sym (none-begins c.args.letter (97 ∷ 98 ∷ 99 ∷ 100 ∷ 101 ∷ 102 ∷ 103 ∷ 105 ∷ 106 ∷ 108 ∷ 109 ∷ 110 ∷ 111 ∷ 112 ∷ 114 ∷ 115 ∷ 116 ∷ []) role_entries refl
    (omega arith, (omega arith, (omega arith, (omega arith, (omega arith, (omega arith, (omega arith, (omega arith, (omega arith, (omega arith, (omega arith, (omega arith, (omega arith, (omega arith, (omega arith, (omega arith, (omega arith, tt))))))))))))))))))
