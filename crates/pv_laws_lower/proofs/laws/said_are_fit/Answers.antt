use Rattle.pv_laws_lower.proofs.Patterns.{said_are_fit}
use Rattle.pv_laws_lower.proofs.Widths.{short_wide}
use Rattle.pv_laws_lower.proofs.laws.said_are_fit.Goals as goal

pub returns : goal.returns
returns c = said_are_fit (λ scope e text o said there. short_wide o
    (c.spelled_addresses_are_short.ensures.expression scope e said.reads.reads.inner o said.reads.reads.read.spelled there))
