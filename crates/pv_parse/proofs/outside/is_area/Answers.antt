use Rattle.std.proofs.Common.{ℕ, ◌==◌, ap, sym, ◌∙◌}
use Rattle.pv_parse.specs.Roles.{area_word}
use Rattle.pv_parse.proofs.RoleLaws.{role-area}
use Rattle.pv_parse.proofs.outside.is_area.Goals as goal

pub returns : goal.returns
returns c = ap (λ (role : ℕ). role == area_word) c.role_of.ensures ∙ sym (role-area c.args.bytes.now)
