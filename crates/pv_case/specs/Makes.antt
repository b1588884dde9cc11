-- What a function that checks a value and makes something of it answers.
use Rattle.std.specs.Prelude.{Result, Ok, Err}
use Rattle.pv_case.specs.declared.stop.Stop.{Stop}
use Rattle.pv_case.specs.declared.stop.Stop.TheVariants.{Broken, NoMemory}
use Rattle.pv_case.specs.Checks.{Checks}

-- what it makes, where nothing is broken; else the first rule that is, or that there is no memory
abbrev pub Makes : {A : Type 0} → Checks → (A → Type 0) → Result A Stop → Type 0
Makes checks IsMade (Ok made) = checks.keeps × IsMade made
Makes checks IsMade (Err (Broken b)) = checks.breaks b.kind b.field.now
Makes checks IsMade (Err NoMemory) = Unit {0}
