use Rattle.std.proofs.Common.{refl, sym, ◌∙◌, subst}
use Rattle.std.proofs.Math.Path.{fun_ext}
use Rattle.pv_types.specs.View.{var_trees}
use Rattle.pv_types.specs.Named.{types_of}
use Rattle.pv_mean.specs.Counts.{known_in}
use Rattle.pv_mean.specs.Visits.{visits_of, IsOpen}
use Rattle.pv_mean.proofs.Visits.{left_size, type_left, left_falls}
use Rattle.pv_mean.proofs.sizing.Sizing.leave.Goals as goal

pub returns : goal.returns
returns c =
    let types = types_of c.args.self.now.types in
    let known = known_in c.args.self.now.known in
    let xs = visits_of c.args.self.now.tasks.items in
    let key = c.args.name.now.key in
    let vars = var_trees c.args.vars.now in
    let size = c.of_instance-size.ensures ∙ left_size types known xs key vars c.requires.open c.requires.nest in
    record {
      open_still = subst (λ f. IsOpen types f xs) (fun_ext (λ k. sym (c.in_ok-insert.ensures k)))
          (type_left types known xs key vars c.requires.open c.requires.nest c.of_instance-size.result size);
      types = refl;
      falls = left_falls types xs key vars;
    }
