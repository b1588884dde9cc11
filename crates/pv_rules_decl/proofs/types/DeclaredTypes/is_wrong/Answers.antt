use Rattle.std.proofs.Common.{refl, true}
use Rattle.pv_rules_decl.proofs.TypeCycles.{no_number, number_known}
use Rattle.pv_rules_decl.proofs.types.DeclaredTypes.is_wrong.Goals as goal

pub returns-in-None : goal.returns-in-None
returns-in-None c = λ bs t. no_number bs c.args.name.now.key true refl (c.in-None.ensures bs t.names)

pub returns-in-Some : goal.returns-in-Some
returns-in-Some c = λ bs t.
    number_known bs c.args.self.now.endless.items c.as_slice.result.now c.args.name.now.key c.in-Some.number c.flag_at.result t.endless
    c.as_slice.ensures.value (c.in-Some.ensures bs t.names) c.flag_at.ensures
