use Rattle.std.proofs.Common.{◌≡◌, ◌≤◌, ◌+◌, ◌-◌, length}
use Rattle.pv_cert.specs.declared.proof.Query.{Query}
use Rattle.pv_kind.specs.Refinements.{IsRefinedBy}
use Rattle.pv_kind.proofs.ask.ask.Given as goal

abbrev pub invariant-rounds : goal.invariant-rounds
invariant-rounds g l = record {
  fixed : g.O.Oracle.fixed l.oracle ≡ g.O.Oracle.fixed l.initial.oracle;
  refined : IsRefinedBy (g.O.Oracle.encoding (g.O.Oracle.fixed l.initial.oracle)).tells (λ (asked : Query). asked ≡ l.q)
      (g.O.Oracle.stage l.initial.oracle) (g.O.Oracle.stage l.oracle);
  proofs : l.proofs ≡ l.initial.proofs;
  words : l.words ≤ l.limits.words;
}

abbrev pub decreases-rounds : goal.decreases-rounds
decreases-rounds g l = length (g.O.Oracle.stage l.oracle).abstracted + (l.limits.words - l.words)
