use Rattle.std.proofs.Common.{ap, arith}
use Rattle.pv_region.specs.Stored.{count_of}
use Rattle.pv_learn.proofs.Counts.{count-costs}
use Rattle.pv_learn.proofs.known.next_id.Goals as goal

pub overflow_add-result : goal.overflow_add-result
overflow_add-result c =
    let s = c.region-region.result.now in let costs = count-costs s in
    omega (arith, costs, c.clauses.ensures, c.lemmas.ensures, c.used.ensures.value, c.used.ensures.fits, c.capacity.ensures.value, c.capacity.ensures.small)

pub overflow_add-result-2 : goal.overflow_add-result-2
overflow_add-result-2 c =
    let s = c.region-region.result.now in let costs = count-costs s in
    omega (arith, costs, c.clauses.ensures, c.lemmas.ensures, c.used.ensures.value, c.used.ensures.fits, c.capacity.ensures.value, c.capacity.ensures.small)

pub returns-clause-id : goal.returns-clause-id
returns-clause-id c = let same = ap count_of c.region-region.ensures.stored in omega (arith, same, c.clauses.ensures, c.lemmas.ensures)

pub returns-clause-valid : goal.returns-clause-valid
returns-clause-valid c = c.region-region.ensures.valid
