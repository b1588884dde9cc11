use Rattle.std.proofs.Common.{refl, sym, ap, ◌∙◌, option_map}
use Rattle.pv_types.specs.declared.var.Var.{Var}
use Rattle.pv_types.specs.View.{var_tree}
use Rattle.pv_tree.specs.View.{block_tree}
use Rattle.pv_pattern.specs.Texts.{is_brief_var}
use Rattle.pv_pattern_read.proofs.TextLaws.{brief_seen}
use Rattle.pv_pattern_read.proofs.brief.is_brief_var.Goals as goal

pub returns-in-Some : goal.returns-in-Some
returns-in-Some c =
    let block = block_tree c.args.block.now in
    let var = c.in-Some.var in
    c.has.ensures ∙ c.activation_part.ensures block var.of.now.section refl ∙ brief_seen block var
    ∙ ap (λ o. is_brief_var block (option_map (λ (v : Var). var_tree v) o)) (sym c.in-Some.is)
