use Rattle.pv_names.specs.Tables.{project_of}
use Rattle.pv_rules.proofs.found.whole_near.Goals as goal

pub returns : goal.returns
returns c =
    let project = project_of c.args.tables.now in
    record {
      missing = c.missing_name.ensures project c.requires.code c.in_ok-values.ensures;
      misfit = c.in_ok-misfit.ensures;
      outside = c.in_ok-outside.ensures;
      beyond = c.beyond_bounds.ensures project c.requires.code c.in_ok-values.ensures;
      uncallable = c.in_ok-uncallable.ensures;
      address = c.wrong_address.ensures project c.requires.code c.in_ok-values.ensures;
    }
