-- A `?` passes on want of memory alone where nothing else stopped.
use Rattle.std.proofs.Common.{◌≡◌, ℕ, ◌<◌, List, length, Option, Some, None, sym, ap, ◌∙◌}
use Rattle.std.specs.Prelude.{Result, Ok, Err, IfErr, IsErrAnd, OnOk, slice_get}
use Rattle.std.proofs.lemmas.Option.{none-some, slice_get_within}
use Rattle.pv_resolve.specs.declared.fault.ResolveFault.{ResolveFault}
use Rattle.pv_resolve.specs.declared.fault.ResolveFault.TheVariants as found
use Rattle.pv_program.specs.declared.fault.ProgramFault.{ProgramFault}
use Rattle.pv_program.specs.declared.fault.ProgramFault.TheVariants.{NoMemory}
use Rattle.pv_program.specs.Faults.{fault_of}

pub told : {T : Type 0} (r : Result T ProgramFault) (stop : ResolveFault) → IsErrAnd r (λ e. e ≡ fault_of stop) → stop ≡ found.NoMemory
    → IfErr r (λ e. e ≡ NoMemory)
told (Ok x) stop is same = tt
told (Err e) stop is same = is ∙ ap fault_of same

pub passed : {T : Type 0} (r : Result T ProgramFault) (stop : ProgramFault) → IsErrAnd r (λ e. e ≡ stop) → stop ≡ NoMemory
    → IfErr r (λ e. e ≡ NoMemory)
passed (Ok x) stop is same = tt
passed (Err e) stop is same = is ∙ same

-- where nothing is found at a number, nothing is there
pub none_made : {Y : Type 0} (o : Option Y) (y : Y) → None ≡ o → o ≡ Some y → ⊥
none_made o y none at = none-some y (none ∙ at)

-- what is found at a number lies within the list
pub inside_made : {T E Y : Type 0} (r : Result T E) (ys : List Y) (n : ℕ) (y : Y) → Some y ≡ slice_get ys n → OnOk r (n < length ys)
inside_made (Ok x) ys n y is = slice_get_within ys n y (sym is)
inside_made (Err e) ys n y is = tt
