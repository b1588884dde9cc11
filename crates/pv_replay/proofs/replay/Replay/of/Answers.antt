use Rattle.std.proofs.Common.{◌≡◌, length, rules, ap, ◌∙◌}
use Rattle.pv_replay.specs.Images.{stored_count}
use Rattle.pv_replay.proofs.ImageLaws.{count-roles, long-zeros}
use Rattle.pv_replay.proofs.replay.Replay.of.Goals as goal

pub invariant_of-result : goal.invariant_of-result
invariant_of-result c =
    let counted : length c.in_ok-image.image.items ≡ stored_count c.in_ok-roles.roles.items = search rules in
    record {
      stored = counted;
      imaged = counted ∙ ap stored_count c.in_ok-roles.ensures ∙ count-roles c.args.cells.now;
      visible = search rules;
      beginning = search rules;
      ending = search rules;
      long_beginning = long-zeros c.in_ok-begin.begin.items c.in_ok-roles.roles.len (search rules);
      long_ending = long-zeros c.in_ok-end.end.items c.in_ok-roles.roles.len (search rules);
      room = search rules;
      turning = search rules;
      space = search rules;
    }
