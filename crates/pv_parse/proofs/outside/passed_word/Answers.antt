use Rattle.std.proofs.Common.{ℕ, Bool, false, ap, sym, ◌∙◌}
use Rattle.pv_tree.specs.Lexemes.{lexemes_of}
use Rattle.pv_tree.specs.Outside.{behind_word}
use Rattle.pv_parse.specs.Roles.{spot_of, behind_role, is_outside_by_role, unless_outside}
use Rattle.pv_parse.proofs.RoleLaws.{unmarked-is, behind-by-role}
use Rattle.pv_parse.proofs.outside.passed_word.Goals as goal

pub returns-then-is_role_outside : goal.returns-then-is_role_outside
returns-then-is_role_outside c =
    let spot = spot_of c.args.spot in
    let bytes = c.args.bytes.now in
    let others = lexemes_of c.args.text.now c.args.others.now in
    ap (λ (outside : Bool). unless_outside outside (behind_word spot bytes)) (sym c.if-is_role_outside.true ∙ c.is_role_outside.ensures
    ∙ ap (λ (role : ℕ). is_outside_by_role c.args.language spot role bytes others) c.role_of-role.ensures
    ∙ unmarked-is c.args.language spot bytes others)

pub returns-else-is_role_outside : goal.returns-else-is_role_outside
returns-else-is_role_outside c =
    let spot = spot_of c.args.spot in
    let bytes = c.args.bytes.now in
    let others = lexemes_of c.args.text.now c.args.others.now in
    ap (λ s. unless_outside false s) (c.behind_role.ensures ∙ ap (λ (role : ℕ). behind_role spot role) c.role_of-role.ensures
    ∙ behind-by-role spot bytes)
    ∙ ap (λ (outside : Bool). unless_outside outside (behind_word spot bytes)) (sym c.if-is_role_outside.false ∙ c.is_role_outside.ensures
    ∙ ap (λ (role : ℕ). is_outside_by_role c.args.language spot role bytes others) c.role_of-role.ensures
    ∙ unmarked-is c.args.language spot bytes others)
