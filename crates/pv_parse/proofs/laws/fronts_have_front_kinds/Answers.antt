use Rattle.pv_parse.proofs.KindSteps.{kinds-append}
use Rattle.pv_parse.proofs.laws.fronts_have_front_kinds.Goals as goal

pub returns : goal.returns
returns c = λ marked front back. kinds-append marked front back
