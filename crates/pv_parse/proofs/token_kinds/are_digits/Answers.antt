use Rattle.std.proofs.Common.{sym, ◌∙◌}
use Rattle.pv_parse.proofs.LookUps.{digits-are}
use Rattle.pv_parse.proofs.token_kinds.are_digits.Goals as goal

pub returns-then-not-is_empty : goal.returns-then-not-is_empty
returns-then-not-is_empty c =
    c.are_all_digits.ensures ∙ sym (digits-are c.args.bytes.now (sym c.is_empty.ensures ∙ c.if-not-is_empty.true))
