use Rattle.std.specs.Prelude.{map}
use Rattle.pv_command_verdict.proofs.Places.{lines_by, places_more}
use Rattle.pv_command_verdict.proofs.report.places_of.Goals as goal

pub loop-source-preserved : goal.loop-source-preserved
loop-source-preserved c =
    let l = c.loop-source in
    record {
      files = places_more c.args.sources.now c.source-item.result l.source-index l.files.items c.push.new.self.items c.in_ok-lines.lines
          (map lines_by c.args.sources.now) c.loop-source-test.true c.source-item.is c.in_ok-push.ensures.items c.in_ok-lines.ensures l.invariant.files;
    }
