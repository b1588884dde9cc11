use Rattle.std.specs.Prelude.{◌∷◌, Some}
use Rattle.std.proofs.Common.{ap, sym, ◌∙◌}
use Rattle.pv_types.proofs.ForCallers.{tree-structure}
use Rattle.pv_parse.specs.Items.{Stack, stack_of, typed}
use Rattle.pv_parse_source.proofs.declarations.structure.Goals as goal

pub returns : goal.returns
returns c =
    rw c.in_ok-_end.ensures (rw c.in_ok-fields.ensures (ap (λ (s : Stack). Some s)
    (sym (c.in_ok-put_typed.ensures ∙ ap (λ t. typed t ∷ stack_of c.pop_fields.new.stack) (tree-structure c.in_ok-fields.fields.vars)))))
