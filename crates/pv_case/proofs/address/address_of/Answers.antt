use Rattle.std.proofs.Common.{arith}
use Rattle.pv_case.proofs.AddressLaws.{token_lies}
use Rattle.pv_case.proofs.address.address_of.Goals as goal

pub address_at-requires : goal.address_at-requires
address_at-requires c = token_lies c.args.text.now c.args.tokens.now _ (omega arith) c.requires
