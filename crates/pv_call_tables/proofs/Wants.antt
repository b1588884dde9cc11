-- What is wanting is handed on.
use Rattle.std.proofs.Common.{◌≡◌, ℕ, ◌≤◌, Result, Ok, Err, IfErr, ◌∙◌, arith}
use Rattle.std.specs.Result.{IsErrAnd}
use Rattle.pv_call_tables.specs.declared.fault.Wanting.{Wanting}
use Rattle.pv_call_tables.specs.Wanted.{MOST, IsBeyond, IsMemory}

pub passed_on : {A : Type 0} (r : Result A Wanting) (fault : Wanting) → IsErrAnd r (λ e. e ≡ fault) → IsMemory fault → IfErr r IsMemory
passed_on (Ok x) fault same is = tt
passed_on (Err e) fault same is = same ∙ is

-- of a number that has no more than 32 bits
pub not_beyond : (n : ℕ) (fault : Wanting) → n ≤ MOST → IsBeyond n fault → IsMemory fault
not_beyond n fault le is = absurd (omega (arith, le, is.1))

pub at_most : (a b : ℕ) → a ≤ b → b ≤ MOST → a ≤ MOST
at_most a b le short = omega (arith, le, short)
