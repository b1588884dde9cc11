-- What judging a certificate answers.
use Rattle.std.specs.Prelude.{◌≡◌, ◌⊎◌, Some, Result, Ok, Err}
use Rattle.pv_cert.specs.declared.certificate.Certificate.{Certificate}
use Rattle.pv_valid.specs.declared.fault.Fault.{Fault}
use Rattle.pv_valid.specs.declared.fault.Fault.TheVariants.{TooManyGates, Line, NoMemory}
use Rattle.pv_valid.specs.declared.fault.Verdict.{Verdict}
use Rattle.pv_valid.specs.Cases.{Case}
use Rattle.pv_valid.specs.Validity.{IsRight, verdict_of}
use Rattle.pv_valid.specs.Walk.{certificate_fault}

-- the verdict of a certificate that is right, or what is wrong first with it
abbrev pub Judges : Case → Certificate → Result Verdict Fault → Type 0
Judges case c (Ok verdict) = IsRight case c × (verdict ≡ verdict_of case c)
Judges case c (Err TooManyGates) = certificate_fault case c ≡ Some TooManyGates
Judges case c (Err (Line at why)) = certificate_fault case c ≡ Some (Line at why)
Judges case c (Err NoMemory) = Unit {0}

-- the answer is this one, unless memory ran out
abbrev pub IsUnlessNoMemory : Result Verdict Fault → Result Verdict Fault → Type 0
IsUnlessNoMemory result answer = (result ≡ answer) ⊎ (result ≡ Err NoMemory)
