use Rattle.std.proofs.Common.{refl, ap, ◌∙◌}
use Rattle.pv_rules_expr.specs.Nearest.{nearer_of}
use Rattle.pv_rules_code.proofs.RuleNears.{are_in_code}
use Rattle.pv_rules_code.proofs.on_statements.by_rules.Goals as goal

pub returns : goal.returns
returns c =
    let n = c.args.n in
    λ project h. are_in_code project n _ (record {
      condition = refl;
      leave = refl;
      target = refl;
      output = refl;
      counter = c.nearer_of-counter.ensures ∙ ap (nearer_of n.counts.other) c.nearest_of-written.ensures;
      step = refl;
      choice = c.nearer_of-choice.ensures;
      argument = c.nearest_of-argument.ensures;
      address = c.nearer_of-address.ensures;
      missing = c.nearer_of-missing.ensures ∙ ap (λ o. nearer_of o c.nearest_of-word.result) c.nearer_of-named.ensures
          ∙ ap (nearer_of (nearer_of n.parts.missing n.aims.missing)) c.nearest_of-word.ensures;
      misfit = c.nearest_of-misfit.ensures
          ∙ ap (λ o. nearer_of n.parts.misapplied (nearer_of o c.nearer_of-passed.result)) c.nearest_of-stated.ensures
          ∙ ap (λ o. nearer_of n.parts.misapplied (nearer_of (nearer_of n.misfit (nearer_of n.counts.date n.picks.date)) o)) c.nearer_of-passed.ensures;
      outside = c.nearest_of-outside.ensures;
      misused = c.nearer_of-misused.ensures;
      beyond = c.nearer_of-beyond.ensures;
      void = refl;
    }) h
