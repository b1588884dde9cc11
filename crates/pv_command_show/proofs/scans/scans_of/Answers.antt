use Rattle.std.proofs.Common.{sym}
use Rattle.pv_command_replay.specs.Handed.{source_in}
use Rattle.pv_command_show.proofs.Showing.{ok_map}
use Rattle.pv_command_show.proofs.scans.scans_of.Goals as goal

pub returns : goal.returns
returns c =
    ok_map _ _ c.shown.result
    (λ text is s subject starts values. is (source_in s) s.pattern (record {
      of_project = subject.project;
      entry = subject.entered;
      bytes = subject.bytes;
      cells = subject.cells;
      bound = sym subject.bound;
    }) starts subject.pattern values)
    c.shown.ensures
