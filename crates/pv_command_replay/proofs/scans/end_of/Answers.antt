use Rattle.std.proofs.Common.{sym}
use Rattle.pv_command_load.specs.Subjects.{source_in}
use Rattle.pv_command_replay.proofs.Starts.{ok_map}
use Rattle.pv_command_replay.proofs.scans.end_of.Goals as goal

pub returns : goal.returns
returns c =
    ok_map _ _ c.replayed.result
    (λ end ends s is starts values. ends (source_in s) s.pattern (record {
      of_project = is.project;
      entry = is.entered;
      bytes = is.bytes;
      cells = is.cells;
      bound = sym is.bound;
    }) starts is.pattern values)
    c.replayed.ensures
