use Rattle.std.proofs.lemmas.Slice.Eq.{strip_prefix_is}
use Rattle.std.proofs.lemmas.Bool.Decides.{Decides-eqb}
use Rattle.pv_claims.proofs.LineLaws.{prefix_found, prefix_missed}
use Rattle.pv_claims.proofs.lines.strip.Goals as goal

pub returns-clause-found : goal.returns-clause-found
returns-clause-found c = prefix_found c.args.text.now c.args.prefix.now c.strip_prefix.result (strip_prefix_is Decides-eqb c.args.text.now c.args.prefix.now c.strip_prefix.result c.strip_prefix.ensures.cases)

pub returns-clause-none : goal.returns-clause-none
returns-clause-none c = prefix_missed c.args.text.now c.args.prefix.now c.strip_prefix.result (strip_prefix_is Decides-eqb c.args.text.now c.args.prefix.now c.strip_prefix.result c.strip_prefix.ensures.cases)
