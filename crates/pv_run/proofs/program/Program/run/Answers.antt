use Rattle.std.proofs.Common.{None, rules, ap, ◌∙◌}
use Rattle.std.proofs.Math.ListN.{replicate}
use Rattle.pv_run.specs.Runs.{frame_in}
use Rattle.pv_run.proofs.Blocks.{entry_ends}
use Rattle.pv_run.proofs.program.Program.run.Goals as goal

pub returns : goal.returns
returns c =
    λ source program. entry_ends source c.args.self.now program c.in-Some.code
    (search rules)
    c.args.visible.now c.clear.new.cells
    (λ h. c.clear.ensures ∙ ap (λ n. replicate n None) (c.split_at_mut-own.ensures.front_len ∙ c.width.ensures.same h))
    c.run_body.result (frame_in c.run_body.new.visible c.run_body.new.own)
    (λ tree is. c.run_body.ensures source source.entry tree program is)
