use Rattle.pv_layout.proofs.PartRuns.{parts_run}
use Rattle.pv_layout.proofs.laws.parts_run.Goals as goal

pub returns : goal.returns
returns c = λ blocks k s head text l counts w out parts place leads le are reaches.
    parts_run blocks k s head text parts place leads l counts w out le are reaches
