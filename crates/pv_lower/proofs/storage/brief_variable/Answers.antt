use Rattle.pv_lower.proofs.Stored.{number_is}
use Rattle.pv_lower.proofs.storage.brief_variable.Goals as goal

pub returns-in-Some : goal.returns-in-Some
returns-in-Some c = λ source block are.
    let l = c.in-Some.ensures.lookup in
    number_is c.args.numbers.now source block _ c.args.cell c.in-Some.n.now c.as_slice.ensures.value are l.0 l.1
