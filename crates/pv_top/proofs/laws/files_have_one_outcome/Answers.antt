use Rattle.pv_top.proofs.Promised.{one_outcome}
use Rattle.pv_top.proofs.laws.files_have_one_outcome.Goals as goal

pub returns : goal.returns
returns c =
    one_outcome (record {
      checks = c.files_decide_one_check.ensures;
      replays = record {
        decide = c.files_decide_one.ensures;
        decide_trace = c.files_decide_one_trace.ensures;
        end_once = c.runs_end_in_one_way.ensures;
      };
      rechecks = c.files_decide_one_recheck.ensures;
    })
