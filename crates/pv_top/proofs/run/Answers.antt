use Rattle.std.proofs.Common.{refl}
use Rattle.pv_top.proofs.Promised.{came_to, promised}
use Rattle.pv_top.proofs.run.Goals as goal

pub returns : goal.returns
returns g c = record {
  promises =
      promised g.S.Sink.call _ c.outcome_of.result
      (came_to g.S.Sink.call _ c.outcome_of.result c.told-told.result c.print-printed.result refl c.outcome_of.ensures.says
      c.outcome_of.ensures.leaves c.outcome_of.ensures.counted c.outcome_of.ensures.named c.outcome_of.ensures.writes
      (record { status = c.told-told.ensures.status; text = c.told-told.ensures.text; keep = c.told-told.ensures.keep }) c.keep.ensures
      c.print-printed.ensures.prints c.print-printed.ensures.unwritten c.print-printed.ensures.all_taken)
      (record {
        checks = c.files_decide_one_check.ensures;
        replays = record {
          decide = c.files_decide_one.ensures;
          decide_trace = c.files_decide_one_trace.ensures;
          end_once = c.runs_end_in_one_way.ensures;
        };
        rechecks = c.files_decide_one_recheck.ensures;
      });
}
