use Rattle.std.proofs.Common.{arith}
use Rattle.std.proofs.lemmas.Bool.{false≢true}
use Rattle.pv_variables.proofs.count.behind.Goals as goal

pub returns-clause-room : goal.returns-clause-room
returns-clause-room c = λ few.
    let once = c.in_ok-once.ensures.value in c.added-2.ensures.room (omega (arith, few, once))

pub returns-in_err-once-clause-room : goal.returns-in_err-once-clause-room
returns-in_err-once-clause-room c = λ few. absurd (false≢true (c.in_err-once.ensures.room (omega (arith, few))))
