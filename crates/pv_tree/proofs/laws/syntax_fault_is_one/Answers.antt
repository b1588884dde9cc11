use Rattle.pv_tree.specs.Reading.{ReadAsBlocks, ReadAsExpression}
use Rattle.pv_tree.proofs.Faults.{fault-one}
use Rattle.pv_tree.proofs.laws.syntax_fault_is_one.Goals as goal

pub returns : goal.returns
returns c = record {
  source = λ language inner i j f g. fault-one (ReadAsBlocks language) inner i j f g;
  expression = λ inner i j f g. fault-one ReadAsExpression inner i j f g;
}
