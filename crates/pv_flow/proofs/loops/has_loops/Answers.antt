use Rattle.std.proofs.Common.{List, map, subst, ◌∙◌}
use Rattle.pv_flow.specs.declared.parts.Loop.{Loop}
use Rattle.pv_flow.specs.View.{loop_of}
use Rattle.pv_flow.specs.Windows.{HaveWindows}
use Rattle.pv_flow.proofs.Checking.{loops_judged}
use Rattle.pv_flow.proofs.loops.has_loops.Goals as goal

pub returns : goal.returns
returns c = c.judged.ensures
    ∙ loops_judged c.args.parts.now c.in_ok-swept.swept c.windows_of.new.windows.items c.requires.locations c.requires.nested
    (subst (λ (loops : List Loop). HaveWindows c.in_ok-swept.swept (map loop_of loops) c.args.parts.now.locations c.windows_of.new.windows.items)
    c.as_slice.ensures.value c.in_ok-swept.ensures)
