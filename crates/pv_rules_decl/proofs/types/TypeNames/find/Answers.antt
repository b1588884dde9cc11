use Rattle.std.proofs.Common.{refl, Some, None}
use Rattle.pv_rules_decl.proofs.TypeCycles.{number_found, flag_set, flag_unset}
use Rattle.pv_rules_decl.proofs.types.TypeNames.find.Goals as goal

pub returns-in-None : goal.returns-in-None
returns-in-None c = λ bs are. number_found c.args.self.now bs c.args.name.now.key None None are c.in-None.ensures refl

pub returns-then-flag_at : goal.returns-then-flag_at
returns-then-flag_at c = λ bs are.
    number_found c.args.self.now bs c.args.name.now.key (Some c.in-Some.number) (Some c.in-Some.number) are c.in-Some.ensures
    (flag_set c.args.self.now.kinds.items c.as_slice.result.now c.in-Some.number c.flag_at.result c.as_slice.ensures.value c.flag_at.ensures c.if-flag_at.true)

pub returns-else-flag_at : goal.returns-else-flag_at
returns-else-flag_at c = λ bs are.
    number_found c.args.self.now bs c.args.name.now.key (Some c.in-Some.number) None are c.in-Some.ensures
    (flag_unset c.args.self.now.kinds.items c.as_slice.result.now c.in-Some.number c.flag_at.result c.as_slice.ensures.value c.flag_at.ensures c.if-flag_at.false)
