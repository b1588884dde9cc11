use Rattle.std.proofs.Common.{ap, sym, ◌∙◌, option_map}
use Rattle.pv_types.specs.Named.{look_up, types_of}
use Rattle.pv_types.specs.View.{var_trees}
use Rattle.pv_types.proofs.LookUps.{look_up-typed}
use Rattle.pv_types.proofs.named.Types.find.Goals as goal

pub returns-in-Some : goal.returns-in-Some
returns-in-Some c = ap (option_map (λ v. var_trees v.now)) c.in-Some.ensures.value
    ∙ sym (look_up-typed (λ v. var_trees v.now) c.args.self.now.types.entries c.key.result.now) ∙ ap (look_up (types_of c.args.self.now)) c.key.ensures

pub returns-in-None : goal.returns-in-None
returns-in-None c = ap (option_map (λ v. var_trees v.now)) c.in-None.ensures.value
    ∙ sym (look_up-typed (λ v. var_trees v.now) c.args.self.now.types.entries c.key.result.now) ∙ ap (look_up (types_of c.args.self.now)) c.key.ensures
