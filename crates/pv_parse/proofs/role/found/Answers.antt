use Rattle.pv_tree.specs.Outside.{left_out, area_words, left_out_instructions, timer_words, code_words, data_words, end_words, begin_words, network_words}
use Rattle.std.proofs.Common.{refl, sym, ◌∙◌}
use Rattle.pv_parse.specs.Roles.{role_entries}
use Rattle.pv_parse.proofs.LookUps.{by-part, no-text}
use Rattle.pv_parse.proofs.role.found.Goals as goal

pub returns-then-is_empty : goal.returns-then-is_empty
unfolding role_entries left_out area_words left_out_instructions timer_words code_words data_words end_words begin_words network_words
returns-then-is_empty c = λ other. no-text c.args.bytes.now role_entries other (sym c.is_empty.ensures ∙ c.if-is_empty.true) refl

pub returns : goal.returns
returns c = λ other.
    by-part c.args.bytes.now role_entries _ _ other _ (sym c.is_empty.ensures ∙ c.if-is_empty.false) c.roles_with.ensures
    c.to_ascii_lowercase.ensures.value (c.meaning_of.ensures other)
