-- The kinds of faults of a certificate, and their words in a fault line.
use Rattle.std.specs.Prelude.{ℕ, List, codes}
use Rattle.pv_log.specs.declared.fault.LineFault.{LineFault}
use Rattle.pv_log.specs.declared.fault.LineFault.TheVariants.{BadId, UnknownHint, NotUnit, LastNotFalse, Tautology, NotNew}
use Rattle.pv_valid.specs.declared.fault.Kind.{Kind}
use Rattle.pv_valid.specs.declared.fault.Kind.TheVariants.{NotACertificate, Line, NoEmpty, WrongQuery, TraceDiffers, WrongBudget, WrongNeed}

abbrev pub line_word : LineFault → List ℕ
line_word BadId = codes "BadId"
line_word UnknownHint = codes "UnknownHint"
line_word NotUnit = codes "NotUnit"
line_word LastNotFalse = codes "LastNotFalse"
line_word Tautology = codes "Tautology"
line_word NotNew = codes "NotNew"

abbrev pub kind_word : Kind → List ℕ
kind_word NotACertificate = codes "NotACertificate"
kind_word (Line fault) = line_word fault
kind_word NoEmpty = codes "NoEmpty"
kind_word WrongQuery = codes "WrongQuery"
kind_word TraceDiffers = codes "TraceDiffers"
kind_word WrongBudget = codes "WrongBudget"
kind_word WrongNeed = codes "WrongNeed"
