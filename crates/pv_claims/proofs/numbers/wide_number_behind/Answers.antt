use Rattle.std.proofs.Common.{◌^◌}
use Rattle.pv_claims.proofs.NumberLaws.{behind}
use Rattle.pv_claims.proofs.numbers.wide_number_behind.Goals as goal

pub returns-clause-none : goal.returns-clause-none
returns-clause-none c = behind (2 ^ 64) c.args.text.now c.args.prefix.now c.in_ok-rest.rest.now c.wide_number.result c.in_ok-rest.ensures.found c.wide_number.ensures.none
