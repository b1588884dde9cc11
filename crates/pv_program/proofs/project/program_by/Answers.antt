use Rattle.std.proofs.Common.{◌∙◌}
use Rattle.pv_program.proofs.Reached.{is_reached}
use Rattle.pv_program.proofs.project.program_by.Goals as goal

pub returns : goal.returns
returns c = record {
  bound = c.program_sized.ensures.bound;
  entry = c.program_sized.ensures.entry;
  is = λ source project entry bytes cells bound.
      c.program_sized.ensures.is source (c.requires ∙ project) (c.in_ok-sizes.ensures ∙ project) entry bytes cells bound;
  room = λ source project entry bytes run texts.
      c.program_sized.ensures.room source (c.requires ∙ project) (c.in_ok-sizes.ensures ∙ project) entry bytes
      (is_reached source (λ b. c.reached_blocks_have_room.ensures source b) (λ b. c.bodies_fit.ensures source.project b) run texts);
}
