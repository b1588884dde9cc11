use Rattle.std.proofs.Common.{arith}
use Rattle.pv_region.proofs.Seen.{empty-stored}
use Rattle.pv_region.proofs.region.Region.make.Goals as goal

pub returns-clause-ok : goal.returns-clause-ok
returns-clause-ok c =
    empty-stored c.args.variables c.args.words c.in_ok-words.words.items (omega arith) (c.in_ok-words.ensures.items_if_clones_equal
    (λ y h. (cc)))
