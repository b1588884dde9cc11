-- An expression that is a literal is one constant and makes no check.
use Rattle.std.proofs.Common.{◌≡◌, ap}
use Rattle.std.specs.Prelude.{Option, Some}
use Rattle.std.proofs.lemmas.Option.{none-some, same_Some}
use Rattle.pv_tree.specs.Tree.{ExprTree, lit, read, unary, binary, std, paren, BlockTree}
use Rattle.pv_tree.specs.LiteralTypes.{Want, nothing, type_of_literal}
use Rattle.pv_tree.specs.Types.{Written, literal_of}
use Rattle.pv_mean.specs.Sources.{Source}
use Rattle.pv_flow.specs.Terms.{constant}
use Rattle.pv_lower.specs.Lowered.{Lowered, unchecked, literal_or, around, part_type, scope_of, lowered}

abbrev pub literal_term : Want → Written → Lowered
literal_term want w = unchecked (constant (type_of_literal want w.ty w.value) w.value)

pub literal_lowered : (source : Source) (block : BlockTree) (want : Want) (e : ExprTree) (w : Written) → literal_of e ≡ Some w
    → lowered source block want e ≡ literal_term want w
literal_lowered source block want (lit ty v place) w is = ap (literal_term want) (same_Some (record { ty = ty; value = v }) w is)
literal_lowered source block want (read o) w is = absurd (none-some w is)
literal_lowered source block want (unary op place arg) w is =
    ap (λ (o : Option Written). literal_or want o (around op (part_type (scope_of source block) nothing arg) (lowered source block nothing arg))) is
literal_lowered source block want (binary op place left right) w is = absurd (none-some w is)
literal_lowered source block want (std function place args) w is = absurd (none-some w is)
literal_lowered source block want (paren place inner) w is = literal_lowered source block want inner w is
