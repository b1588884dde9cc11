use Rattle.pv_frames.proofs.FormulaLaws.{is-formula}
use Rattle.pv_frames.proofs.laws.queries_are_formulas.Goals as goal

pub returns : goal.returns
returns c = is-formula
