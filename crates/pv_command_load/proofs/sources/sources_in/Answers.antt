use Rattle.std.proofs.Common.{◌∙◌}
use Rattle.pv_case.specs.Cases.{data_of}
use Rattle.pv_command_load.specs.Stops.{StopsSource}
use Rattle.pv_command_load.proofs.Gathering.{few_texts, stops_there, more_there, passed_on}
use Rattle.pv_command_load.proofs.sources.sources_in.Goals as goal

pub add_source-requires : goal.add_source-requires
add_source-requires g c =
    record {
      few = few_texts (g.F.Files.told c.args.files.now) c.args.case.now.sources.items c.as_slice-list.result.now c.loop-source.source-index
          c.loop-source.sources c.as_slice-list.ensures.value c.loop-source-test.true c.requires.few c.loop-source.invariant.has;
    }

pub returns-in_err-add_source-clause-stopped : goal.returns-in_err-add_source-clause-stopped
returns-in_err-add_source-clause-stopped g c =
    passed_on (StopsSource (g.F.Files.told c.args.files.now) (data_of c.args.case.now)) c.from_residual.result c.in_err-add_source.field-0.0
    c.from_residual.ensures.1
    (stops_there (g.F.Files.told c.args.files.now) (g.F.Files.told c.loop-source.files) c.args.case.now.sources.items
    c.as_slice-list.result.now c.loop-source.source-index c.source-item.result c.loop-source.sources c.in_err-add_source.field-0.0
    c.as_slice-list.ensures.value c.loop-source.invariant.files c.loop-source-test.true c.source-item.is c.loop-source.invariant.has
    c.in_err-add_source.ensures.stopped)

pub loop-source-preserved : goal.loop-source-preserved
loop-source-preserved g c =
    record {
      files = c.in_ok-add_source.ensures.files ∙ c.loop-source.invariant.files;
      has = more_there (g.F.Files.told c.args.files.now) (g.F.Files.told c.loop-source.files) c.as_slice-list.result.now
          c.loop-source.source-index c.source-item.result c.loop-source.sources c.add_source.new.sources c.loop-source.invariant.files
          c.loop-source-test.true c.source-item.is c.loop-source.invariant.has c.in_ok-add_source.ensures.added;
      reads = c.in_ok-add_source.ensures.counted ∙ c.loop-source.invariant.reads;
      writes = c.in_ok-add_source.ensures.writes ∙ c.loop-source.invariant.writes;
    }
