use Rattle.std.proofs.Common.{sym, ap, ◌∙◌}
use Rattle.pv_mean.specs.Instructions.{effect}
use Rattle.pv_eval.specs.Means.{activation}
use Rattle.pv_tree.specs.InstructionGroups.{group_of}
use Rattle.pv_stl_run.specs.Code.{ends, ends_where}
use Rattle.pv_program.specs.Ready.{is_nesting}
use Rattle.pv_program.specs.Rows.{is_end}
use Rattle.pv_program.proofs.word.end.Goals as goal

pub returns-in-Be : goal.returns-in-Be
returns-in-Be c = record {
  row = λ source block targets room i e.
      ends (λ first w. ap (λ o. effect source (activation block first) i o w) (sym e ∙ c.in-Be.is));
  each = ap (λ o. is_end (group_of o)) (sym c.in-Be.is);
  leads = λ all k i. tt;
  suits = ap (λ o. is_nesting (group_of o)) c.in-Be.is;
}

pub returns-in-Beu : goal.returns-in-Beu
returns-in-Beu c = record {
  row = λ source block targets room i e.
      ends (λ first w. ap (λ o. effect source (activation block first) i o w) (sym e ∙ c.in-Beu.is));
  each = ap (λ o. is_end (group_of o)) (sym c.in-Beu.is);
  leads = λ all k i. tt;
  suits = ap (λ o. is_nesting (group_of o)) c.in-Beu.is;
}

pub returns-in-Bec : goal.returns-in-Bec
returns-in-Bec c = record {
  row = λ source block targets room i e.
      ends_where (λ first w. ap (λ o. effect source (activation block first) i o w) (sym e ∙ c.in-Bec.is));
  each = ap (λ o. is_end (group_of o)) (sym c.in-Bec.is);
  leads = λ all k i. tt;
  suits = ap (λ o. is_nesting (group_of o)) c.in-Bec.is;
}
