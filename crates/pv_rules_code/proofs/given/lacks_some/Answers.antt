use Rattle.std.proofs.Common.{map, ap, ◌∙◌}
use Rattle.std.specs.List.{list_any}
use Rattle.pv_tree.specs.View.{arg_tree}
use Rattle.pv_names.specs.Entries.{block_of}
use Rattle.pv_names.specs.Callees.{how_tree}
use Rattle.pv_rules_code.specs.AtGiven.{is_out}
use Rattle.pv_rules_code.proofs.GivenLaws.{lacks_by_needed}
use Rattle.pv_rules_code.proofs.given.lacks_some.Goals as goal

pub returns : goal.returns
returns c =
    c.some_out.ensures ∙ ap (list_any (is_out c.in_ok-names.names)) c.needed.ensures
    ∙ lacks_by_needed (how_tree c.args.how) (block_of c.args.entry.now) (map arg_tree c.args.args.now) c.in_ok-names.names c.in_ok-names.ensures
    (block_of c.args.entry.now).vars
