-- How the log of a proof is judged. No public clause cites this.
use Rattle.std.specs.Prelude.{ℕ, List, Option}
use Rattle.pv_cnf.specs.Clause.{Cnf}
use Rattle.pv_log.specs.declared.line.Line.{Line}
use Rattle.pv_valid.specs.declared.fault.Fault.{Fault}
use Rattle.pv_valid.specs.Walk.{refuting_fault, budget_fault, need_fault}
use Rattle.pv_judge.specs.declared.proofs.Task.{Task}
use Rattle.pv_judge.specs.declared.proofs.Task.TheVariants.{Refute, SpendLemmas, SpendWords}

abbrev pub log_fault : Task → Cnf → ℕ → List Line → Option Fault
log_fault Refute f at log = refuting_fault f at log
log_fault (SpendLemmas budget) f at log = budget_fault budget f at log
log_fault (SpendWords limit need next) f at log = need_fault limit need next.now f at log
