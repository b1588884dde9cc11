use Rattle.std.proofs.Common.{◌∙◌, ap, rules}
use Rattle.std.specs.Prelude.{slice_get}
use Rattle.pv_tree.specs.Scopes.{ProjectTree}
use Rattle.pv_names.specs.Entries.{block_of}
use Rattle.pv_program.proofs.Making.{entered-is}
use Rattle.pv_program.proofs.project.program_sized.Goals as goal

pub returns-in-Some : goal.returns-in-Some
returns-in-Some c = record {
  bound = c.program_in.ensures.bound;
  entry = c.program_in.ensures.entry;
  is = λ source project sizes entry bytes cells bound.
      c.program_in.ensures.is source project sizes
      (entered-is block_of c.entries.result.now c.args.entry c.in-Some.entered.now source.entry (search rules) (search rules)
      (ap (λ l. slice_get l c.args.entry) (c.entries.ensures ∙ ap (λ (p : ProjectTree). p.blocks) project) ∙ entry))
      entry bytes cells bound;
  room = λ source project sizes entry bytes ready.
      c.program_in.ensures.room source project sizes
      (entered-is block_of c.entries.result.now c.args.entry c.in-Some.entered.now source.entry (search rules) (search rules)
      (ap (λ l. slice_get l c.args.entry) (c.entries.ensures ∙ ap (λ (p : ProjectTree). p.blocks) project) ∙ entry))
      entry bytes ready;
}
