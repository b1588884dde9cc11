use Rattle.std.proofs.Common.{◌≡◌, map, take}
use Rattle.pv_case.specs.Cases.{source_data}
use Rattle.pv_command_load.specs.Gathered.{HasSources}
use Rattle.pv_command_load.proofs.sources.sources_in.Given as goal

-- the sources so far are kept, and the files' counts are as they were
abbrev pub invariant-loop-source : goal.invariant-loop-source
invariant-loop-source g l =
    record {
      files : g.F.Files.told l.files ≡ g.F.Files.told l.fn.files;
      has : HasSources (g.F.Files.told l.fn.files) (map source_data (take l.source-index l.list)) l.sources;
      reads : g.F.Files.read_faults l.files ≡ g.F.Files.read_faults l.fn.files;
      writes : g.F.Files.write_faults l.files ≡ g.F.Files.write_faults l.fn.files;
    }
