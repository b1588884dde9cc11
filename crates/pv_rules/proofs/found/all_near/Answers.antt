use Rattle.pv_names.specs.Tables.{project_of}
use Rattle.pv_rules.proofs.found.all_near.Goals as goal

pub returns : goal.returns
returns c = record {
  declared = c.in_ok-declared.ensures (project_of c.args.tables.now) c.requires;
  code = c.in_ok-code.ensures;
  whole = c.in_ok-whole.ensures;
  chained = c.in_ok-chained.ensures;
  instructed = c.in_ok-instructed.ensures;
}
