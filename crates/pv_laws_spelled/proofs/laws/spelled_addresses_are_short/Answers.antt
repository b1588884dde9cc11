use Rattle.pv_laws_spelled.proofs.Widths.{spelled-short, sources-short, expression-short}
use Rattle.pv_laws_spelled.proofs.laws.spelled_addresses_are_short.Goals as goal

pub returns : goal.returns
returns c =
    record {
      block = spelled-short;
      sources = λ sources symbols block are there. sources-short sources symbols block are there;
      expression = expression-short;
    }
