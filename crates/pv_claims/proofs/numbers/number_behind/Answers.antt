use Rattle.std.proofs.Common.{◌^◌}
use Rattle.pv_claims.proofs.NumberLaws.{behind}
use Rattle.pv_claims.proofs.numbers.number_behind.Goals as goal

pub returns-clause-none : goal.returns-clause-none
returns-clause-none c = behind (2 ^ 32) c.args.text.now c.args.prefix.now c.in_ok-rest.rest.now c.number.result c.in_ok-rest.ensures.found c.number.ensures.none
