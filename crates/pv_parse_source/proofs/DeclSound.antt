-- All laws of the productions of declarations and blocks, in the grammar's order, before those that calls share.
use Rattle.std.proofs.Common.{ℕ, List, ◌++◌, drop}
use Rattle.pv_lex.specs.declared.token.Language.{Language}
use Rattle.pv_ll.specs.declared.table.Symbol.{Symbol}
use Rattle.pv_ll.specs.Meaning.{Law, Each}
use Rattle.pv_ll.proofs.ForCallers.{◌⋄◌}
use Rattle.pv_parse.specs.declared.action.Action.{Action}
use Rattle.pv_parse.specs.Front.{declaration_productions}
use Rattle.pv_parse.specs.Deeds.{expression_actions, declaration_actions}
use Rattle.pv_parse.proofs.ForCallers.{sure_making, Sort, expression_sorts, declaration_sorts, call_sorts, body_sorts, meaning}
use Rattle.pv_parse_source.proofs.DeclLaws as law
use Rattle.pv_parse_source.proofs.BlockLaws as block

-- what is to hold of a production, by its number
abbrev pub Lawful : List Action → List Sort → Language → ℕ → ℕ → List Symbol → Type 0
Lawful acts sorts l k m body =
    Law (sure_making (expression_actions ++ (declaration_actions ++ acts)))
    (meaning (expression_sorts ++ (declaration_sorts l ++ (call_sorts ++ (body_sorts l ++ sorts))))) k m body

pub declaration_laws : (acts : List Action) (sorts : List Sort) (l : Language)
    → Each (Lawful acts sorts l) 134 (drop 59 declaration_productions) → Each (Lawful acts sorts l) 75 declaration_productions
declaration_laws acts sorts l others =
    block.source_1 acts sorts l ⋄
    block.new_source_1 acts sorts l ⋄
    block.blocks_1 acts sorts l ⋄
    block.blocks_2 acts sorts l ⋄
    block.block_1 acts sorts l ⋄
    block.block_2 acts sorts l ⋄
    block.block_3 acts sorts l ⋄
    block.block_4 acts sorts l ⋄
    block.block_5 acts sorts l ⋄
    block.block_name_1 acts sorts l ⋄
    law.name_1 acts (call_sorts ++ (body_sorts l ++ sorts)) l ⋄
    law.name_2 acts (call_sorts ++ (body_sorts l ++ sorts)) l ⋄
    block.value_type_1 acts sorts l ⋄
    block.value_type_2 acts sorts l ⋄
    block.sections_1 acts sorts l ⋄
    block.sections_2 acts sorts l ⋄
    block.section_1 acts sorts l ⋄
    block.section_2 acts sorts l ⋄
    law.section_head_1 acts (call_sorts ++ (body_sorts l ++ sorts)) l ⋄
    law.const_head_1 acts (call_sorts ++ (body_sorts l ++ sorts)) l ⋄
    law.constants_1 acts (call_sorts ++ (body_sorts l ++ sorts)) l ⋄
    law.constants_2 acts (call_sorts ++ (body_sorts l ++ sorts)) l ⋄
    law.constant_1 acts (call_sorts ++ (body_sorts l ++ sorts)) l ⋄
    law.declarations_1 acts (call_sorts ++ (body_sorts l ++ sorts)) l ⋄
    law.declarations_2 acts (call_sorts ++ (body_sorts l ++ sorts)) l ⋄
    law.first_word_1 acts (call_sorts ++ (body_sorts l ++ sorts)) l ⋄
    law.declared_words_1 acts (call_sorts ++ (body_sorts l ++ sorts)) l ⋄
    law.declared_words_2 acts (call_sorts ++ (body_sorts l ++ sorts)) l ⋄
    law.next_word_1 acts (call_sorts ++ (body_sorts l ++ sorts)) l ⋄
    law.declared_1 acts (call_sorts ++ (body_sorts l ++ sorts)) l ⋄
    law.type_head_1 acts (call_sorts ++ (body_sorts l ++ sorts)) l ⋄
    law.declared_type_1 acts (call_sorts ++ (body_sorts l ++ sorts)) l ⋄
    law.declared_type_2 acts (call_sorts ++ (body_sorts l ++ sorts)) l ⋄
    law.declared_type_3 acts (call_sorts ++ (body_sorts l ++ sorts)) l ⋄
    law.declared_type_4 acts (call_sorts ++ (body_sorts l ++ sorts)) l ⋄
    law.declared_type_5 acts (call_sorts ++ (body_sorts l ++ sorts)) l ⋄
    law.array_head_1 acts (call_sorts ++ (body_sorts l ++ sorts)) l ⋄
    law.struct_1 acts (call_sorts ++ (body_sorts l ++ sorts)) l ⋄
    law.struct_head_1 acts (call_sorts ++ (body_sorts l ++ sorts)) l ⋄
    block.own_fields_1 acts sorts l ⋄
    law.own_head_1 acts (call_sorts ++ (body_sorts l ++ sorts)) l ⋄
    law.start_value_1 acts (call_sorts ++ (body_sorts l ++ sorts)) l ⋄
    law.start_value_2 acts (call_sorts ++ (body_sorts l ++ sorts)) l ⋄
    block.maybe_semicolon_1 acts sorts l ⋄
    block.maybe_semicolon_2 acts sorts l ⋄
    law.literal_1 acts (call_sorts ++ (body_sorts l ++ sorts)) l ⋄
    law.literal_2 acts (call_sorts ++ (body_sorts l ++ sorts)) l ⋄
    law.integer_1 acts (call_sorts ++ (body_sorts l ++ sorts)) l ⋄
    law.integer_2 acts (call_sorts ++ (body_sorts l ++ sorts)) l ⋄
    block.data_type_1 acts sorts l ⋄
    block.data_type_2 acts sorts l ⋄
    block.data_head_1 acts sorts l ⋄
    block.data_values_1 acts sorts l ⋄
    block.data_values_2 acts sorts l ⋄
    block.data_value_1 acts sorts l ⋄
    block.path_steps_1 acts sorts l ⋄
    block.path_steps_2 acts sorts l ⋄
    block.path_step_1 acts sorts l ⋄
    block.path_step_2 acts sorts l ⋄
    others
