use Rattle.std.proofs.Common.{Err, ap, sym, ◌∙◌}
use Rattle.pv_kind.specs.declared.told.OracleFault.{OracleFault}
use Rattle.pv_command_check.proofs.Deciding.{many_edges, few_edges, stops_by}
use Rattle.pv_command_check.proofs.decided.decided.Goals as goal

pub returns-then-has_too_many_edges-clause-stopped : goal.returns-then-has_too_many_edges-clause-stopped
returns-then-has_too_many_edges-clause-stopped c = λ told file s reads is. (
  s,
  reads,
  many_edges c.args.first.now s is (sym c.has_too_many_edges.ensures ∙ c.if-has_too_many_edges.true),
)

pub returns-in-Ok-clause-found : goal.returns-in-Ok-clause-found
returns-in-Ok-clause-found c = λ told file s reads is. record {
  evidence = c.in-Ok.ensures.found told file s reads is;
  few = few_edges c.args.first.now s is (sym c.has_too_many_edges.ensures ∙ c.if-has_too_many_edges.false);
}

pub returns-in-Err-clause-stopped : goal.returns-in-Err-clause-stopped
returns-in-Err-clause-stopped c = λ told file s reads is.
    stops_by told file s c.in-Err.fault c.stop_of.result c.stop_of.ensures reads
    (few_edges c.args.first.now s is (sym c.has_too_many_edges.ensures ∙ c.if-has_too_many_edges.false))
    (λ e. c.in-Err.ensures.gates told file s reads is (ap (λ (fault : OracleFault). Err fault) e))
