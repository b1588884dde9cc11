use Rattle.std.proofs.Common.{ℕ, List, [], ap, ◌∙◌, sym, subst}
use Rattle.pv_ll.specs.Making.{Making}
use Rattle.pv_parse.specs.declared.shade.Shading.{Shading}
use Rattle.pv_parse.specs.Deeds.{Kinded}
use Rattle.pv_parse.specs.Levels.{table_making}
use Rattle.pv_parse.specs.Building.{Makes}
use Rattle.pv_parse.proofs.LevelLaws.{tabled}
use Rattle.pv_parse.proofs.depth.count_levels.Goals as goal

pub returns : goal.returns
returns c = λ behind h.
    c.count_by.ensures behind (subst (λ (m : Making Kinded ℕ). Makes m c.args.turns.now [] behind)
    (tabled c.args.actions.now ∙ ap (λ (z : List Shading). table_making z) (sym c.in_ok-table.ensures ∙ sym c.as_slice.ensures.value)) h)
