use Rattle.std.proofs.Common.{◌-◌, length}
use Rattle.pv_solver.specs.Answers.{Problem}
use Rattle.pv_solver.specs.States.{IsSearching}
use Rattle.pv_solver.proofs.search.Search.go_on.Given as goal

abbrev pub invariant-conflicts : goal.invariant-conflicts
invariant-conflicts l = record {
  kept : (p : Problem) → IsSearching p l.initial.self → IsSearching p l.self;
  some : (p : Problem) × IsSearching p l.self;
}

abbrev pub decreases-conflicts : goal.decreases-conflicts
decreases-conflicts l = l.self.lemmas - length l.self.propagator.stored.lemmas
