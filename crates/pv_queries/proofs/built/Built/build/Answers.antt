use Rattle.std.proofs.Common.{◌∙◌}
use Rattle.pv_queries.proofs.Fitting.{seen-is, long-starts, few-made, few-made-gates}
use Rattle.pv_queries.proofs.built.Built.build.Goals as goal

pub of-requires-clause-starting : goal.of-requires-clause-starting
of-requires-clause-starting g c =
    let at = c.args.source.now in
    long-starts (g.C.StepSource.step at) (g.C.StepSource.start at) c.in_ok-starts.starts 1000000 c.in-Ok.circuit c.in-Ok.ensures.made c.in_ok-starts.ensures
    (g.met.C.StepSource.steps at).bits.starts

pub of-requires-clause-few : goal.of-requires-clause-few
of-requires-clause-few g c =
    let at = c.args.source.now in
    few-made (g.C.StepSource.step at) (g.C.StepSource.form at) (g.C.StepSource.start at) 1000000 c.in-Ok.circuit (g.met.C.StepSource.kept at)
    (g.met.C.StepSource.steps at).bits c.in-Ok.ensures.made c.requires c.in-Ok.ensures.within

pub of-requires-clause-few_gates : goal.of-requires-clause-few_gates
of-requires-clause-few_gates g c =
    let at = c.args.source.now in
    few-made-gates (g.C.StepSource.step at) 1000000 c.in-Ok.circuit c.in-Ok.ensures.made c.in-Ok.ensures.within

pub returns-in-Ok-clause-built : goal.returns-in-Ok-clause-built
returns-in-Ok-clause-built g c =
    let at = c.args.source.now in
    record {
      circuit = c.of.ensures.circuit ∙ seen-is (g.C.StepSource.step at) 1000000 c.in-Ok.circuit c.in-Ok.ensures.made;
      starts = c.of.ensures.starts ∙ c.in_ok-starts.ensures;
    }
