use Rattle.std.proofs.Common.{refl, sym, ◌∙◌}
use Rattle.pv_parse.specs.Kinds.{sign_entries, stl_signs}
use Rattle.pv_parse.proofs.LookUps.{by-part, no-text}
use Rattle.pv_parse.proofs.token_kinds.sign_of.Goals as goal

pub returns-then-is_empty : goal.returns-then-is_empty
unfolding sign_entries stl_signs
returns-then-is_empty c = λ other. no-text c.args.bytes.now sign_entries other (sym c.is_empty.ensures ∙ c.if-is_empty.true) refl

pub returns : goal.returns
returns c = λ other.
    by-part c.args.bytes.now sign_entries _ _ other _ (sym c.is_empty.ensures ∙ c.if-is_empty.false) c.signs_with.ensures
    c.to_ascii_lowercase.ensures.value (c.meaning_of.ensures other)
