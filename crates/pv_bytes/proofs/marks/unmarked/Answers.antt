use Rattle.std.proofs.Common.{ap, ◌∙◌}
use Rattle.pv_bytes.specs.Numbers.{flag_at}
use Rattle.pv_bytes.proofs.Marking.{none_marked}
use Rattle.pv_bytes.proofs.marks.unmarked.Goals as goal

pub returns-clause-none : goal.returns-clause-none
returns-clause-none c = λ k. ap (λ l. flag_at l k) (c.in_ok-flags.ensures.items_if_clones_equal (λ y h. (cc))) ∙ none_marked c.args.len k
