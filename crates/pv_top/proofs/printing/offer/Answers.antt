use Rattle.std.proofs.Common.{refl, sym, ap}
use Rattle.pv_top.specs.Calls.{fault_status}
use Rattle.pv_top.specs.Printing.{stopped}
use Rattle.pv_top.proofs.printing.offer.Goals as goal

pub returns-in-Err-Failed-clause-prints : goal.returns-in-Err-Failed-clause-prints
returns-in-Err-Failed-clause-prints g c =
    stopped c.in-Err-Failed.field-0 refl (ap fault_status (sym c.in-Err-Failed.field-0-is)) c.in-Err-Failed.ensures.stops
    c.in-Err-Failed.ensures.err

pub returns-in-Err-NoMemory-clause-prints : goal.returns-in-Err-NoMemory-clause-prints
returns-in-Err-NoMemory-clause-prints g c =
    stopped c.in-Err-NoMemory.field-0 refl (ap fault_status (sym c.in-Err-NoMemory.field-0-is)) c.in-Err-NoMemory.ensures.stops
    c.in-Err-NoMemory.ensures.err
