-- What actions of literals make of the shades on the stack is the shades of what they make of the things on it.
use Rattle.std.proofs.Common.{◌∷◌, map, ap, ◌∙◌}
use Rattle.std.proofs.lemmas.Option.{option_and_then_some}
use Rattle.pv_parse.specs.declared.shade.Shading.TheVariants.{Join}
use Rattle.pv_parse.specs.Items.{Stack, token, token_on}
use Rattle.pv_parse.specs.DeclDeeds.{number_deed, negative_deed, truth_deed}
use Rattle.pv_parse.specs.ItemShades.{shade_of}
use Rattle.pv_parse.proofs.ForCallers.{token_popped, seen, under, Keeps}

pub number_keeps : Keeps number_deed (Join 1 0)
number_keeps s left e = option_and_then_some _ (token_on s) left e (λ t on is.
    under (Join 1 0) s (token t.0 ∷ t.1) (map shade_of left) (token_popped s t on) (seen _ left is))

pub negative_keeps : Keeps negative_deed (Join 2 0)
negative_keeps s left e = option_and_then_some _ (token_on s) left e (λ t on_t rest.
    option_and_then_some _ (token_on t.1) left rest (λ m on is.
    under (Join 2 0) s (token t.0 ∷ token m.0 ∷ m.1) (map shade_of left)
    (token_popped s t on_t ∙ ap (λ (z : Stack). token t.0 ∷ z) (token_popped t.1 m on)) (seen _ left is)))

pub truth_keeps : Keeps truth_deed (Join 1 0)
truth_keeps s left e = option_and_then_some _ (token_on s) left e (λ t on is.
    under (Join 1 0) s (token t.0 ∷ t.1) (map shade_of left) (token_popped s t on) (seen _ left is))
