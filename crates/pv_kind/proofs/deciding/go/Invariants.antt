use Rattle.std.proofs.Common.{◌≡◌}
use Rattle.pv_cert.specs.declared.proof.Query.TheVariants.{Step}
use Rattle.pv_kind.specs.Refinements.{IsRefined}
use Rattle.pv_kind.specs.Decisions.{IsTurn}
use Rattle.pv_kind.proofs.deciding.go.Given as goal

abbrev pub invariant-loop-k : goal.invariant-loop-k
invariant-loop-k g l = record {
  fixed : g.O.Oracle.fixed l.oracle ≡ g.O.Oracle.fixed l.initial.oracle;
  refined : IsRefined (g.O.Oracle.encoding (g.O.Oracle.fixed l.initial.oracle)).tells (g.O.Oracle.stage l.initial.oracle) (g.O.Oracle.stage l.oracle);
  turn : IsTurn (g.O.Source.Machine.machine (g.O.Oracle.source (g.O.Oracle.fixed l.initial.oracle)))
      (g.O.Oracle.encoding (g.O.Oracle.fixed l.initial.oracle)) (g.O.Oracle.stage l.initial.oracle) (g.O.Oracle.stage l.oracle) (Step l.k) l.proofs;
}
