use Rattle.std.proofs.Common.{ap, sym, ◌∙◌}
use Rattle.std.specs.Prelude.{◌||◌, nat_eq}
use Rattle.std.specs.List.{list_any}
use Rattle.pv_tree.specs.View.{operand_tree}
use Rattle.pv_mean.specs.AreaBytes.{bytes_of_operand, bytes_of_root}
use Rattle.pv_bytes.specs.Numbers.{flag_at}
use Rattle.pv_bytes.proofs.Marking.{also_one}
use Rattle.pv_bytes.proofs.Gathering.{operand_seen}
use Rattle.pv_bytes.proofs.marks.Marks.mark_own.Goals as goal

pub returns : goal.returns
returns c =
    let old = c.args.self.now.flags.items in
    also_one c.args.area old c.mark_root.new.self.flags.items (operand_tree c.args.operand.now)
    (λ k. c.mark_root.ensures k
    ∙ ap (λ r. flag_at old k || list_any (nat_eq k) (bytes_of_root c.args.area r)) c.deref.ensures
    ∙ ap (λ o. flag_at old k || list_any (nat_eq k) (bytes_of_operand c.args.area o)) (sym (operand_seen c.args.operand.now)))
