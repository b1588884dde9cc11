use Rattle.pv_parse.proofs.NumberLaws.{token_value_is_wide, read_is_wide}
use Rattle.pv_parse.proofs.numbers.negated_value.Goals as goal

pub negated-requires : goal.negated-requires
negated-requires c = read_is_wide _ _ c.token_value.ensures (token_value_is_wide c.args.kind c.args.bytes.now)
