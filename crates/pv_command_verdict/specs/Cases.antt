-- The case by which certificates of what files hold of the form are judged: its limits, the ranges of its cells, the machine of its
-- Boolean program, and the formulas of queries on the circuit of one scan.
use Rattle.pv_bool.specs.Machine.{machine_of as program_machine}
use Rattle.pv_step.specs.Circuits.{circuit_of}
use Rattle.pv_step.specs.Steps.{starts_of}
use Rattle.pv_pattern.specs.Patterns.{asks_for_goal}
use Rattle.pv_pattern.specs.Sources.{looks_back}
use Rattle.pv_case.specs.declared.case.Limits.{Limits as A_limits}
use Rattle.pv_kind.specs.declared.decision.Limits.{Limits}
use Rattle.pv_valid.specs.declared.facts.Facts.{Facts}
use Rattle.pv_valid.specs.Cases.{Case}
use Rattle.pv_lift.specs.Facts.{facts_of}
use Rattle.pv_lift.specs.Cases.{case_of}
use Rattle.pv_bool_load.specs.Handed.{SubjectData, source_in}
use Rattle.pv_bool_load.specs.Forms.{program_of}

-- the limits within which a case is decided
abbrev pub limits_by : A_limits → Limits
limits_by limits = record { depth = limits.depth; lemmas = limits.lemmas; words = limits.region_words }

-- the ranges are those of the source's cells
abbrev pub facts_in : SubjectData → Facts
facts_in s = facts_of (source_in s).cells (asks_for_goal s.pattern) (looks_back s.pattern) (limits_by s.given.case.limits)

abbrev pub case_in : SubjectData → Case
case_in s = case_of (program_machine (program_of s)) (circuit_of (program_of s)) (starts_of (program_of s)) (facts_in s)
