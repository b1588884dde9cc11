use Rattle.std.proofs.Common.{ap, None, ◌∙◌}
use Rattle.pv_names.specs.Params.{sole_input}
use Rattle.pv_names.proofs.entry.Entry.sole_input.Goals as goal

pub returns : goal.returns
returns c = c.args.self.now.one_input ∙ ap (sole_input None) c.args.self.now.all
