use Rattle.std.proofs.Common.{sym, ap, ◌∙◌, map, subst}
use Rattle.std.specs.Prelude.{slice_get}
use Rattle.pv_tree.specs.Rules.Chains.{here}
use Rattle.pv_mean.specs.declared.cell.Cell.{Cell}
use Rattle.pv_mean.specs.Frames.{visible_cells}
use Rattle.pv_program.specs.Growth.{Coded}
use Rattle.pv_program.proofs.Failing.{passed}
use Rattle.pv_program.proofs.Leading.{none_led}
use Rattle.pv_program.proofs.project.program_with.Goals as goal

pub returns : goal.returns
returns c =
    let grown = c.in_ok-blocks.ensures.grows in
    let same-entry = grown.entry ∙ c.begun-program.ensures.entry in
    let same-bound = grown.bound ∙ c.begun-program.ensures.bound in
    record {
      bound = c.with_blocks.ensures.bound ∙ same-bound;
      entry = c.with_blocks.ensures.entry ∙ same-entry;
      is = λ source is at cells bound.
          c.with_blocks.ensures.is source (c.in_ok-blocks.ensures.are source is) c.in_ok-blocks.ensures.made
          (subst (Coded _) (sym grown.entry) c.in_ok-blocks.ensures.entered)
          (record {
            are = grown.types ∙ ap (λ v. v.items) c.begun-program.ensures.types ∙ c.in_ok-types.ensures
                ∙ ap (λ l. map (λ (x : Cell). x.ty) (visible_cells l)) cells;
          })
          (sym bound ∙ sym same-bound)
          (ap (slice_get source.project.blocks) same-entry ∙ at);
      room = λ source is at ready. tt;
    }

pub returns-in_err-blocks-clause-room : goal.returns-in_err-blocks-clause-room
returns-in_err-blocks-clause-room c = λ source is at ready.
    passed _ _ c.from_residual-in_err-blocks.ensures.1 (c.in_err-blocks.ensures.room source is ready
    (record {
      block = source.entry;
      at = ap (slice_get source.project.blocks) c.begun-program.ensures.entry ∙ at;
      leads = here;
    })
    (none_led source _ c.begun-program.ensures.calls))
