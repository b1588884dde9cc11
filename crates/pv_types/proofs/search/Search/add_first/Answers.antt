use Rattle.std.proofs.Common.{subst, sym, false, ◌≡◌, IfOk}
use Rattle.pv_types.specs.declared.search.Sought.{Sought}
use Rattle.pv_types.specs.Named.{types_of}
use Rattle.pv_types.specs.Sizes.{size_of_named}
use Rattle.pv_types.specs.Search.{size_of_sought, Covers}
use Rattle.pv_types.proofs.search.Search.add_first.Goals as goal

pub returns-in-Element : goal.returns-in-Element
returns-in-Element c =
    let types = types_of c.args.named.now in
    subst (λ (x : Sought). IfOk c.add_type.result (λ found. found ≡ false → Covers types c.args.self.now c.add_type.new.self
    (λ n. size_of_sought (size_of_named types n) x))) (sym c.in-Element.is) c.add_type.ensures

pub returns-in-Vars : goal.returns-in-Vars
returns-in-Vars c =
    let types = types_of c.args.named.now in
    subst (λ (x : Sought). IfOk c.add_vars.result (λ found. found ≡ false → Covers types c.args.self.now c.add_vars.new.self
    (λ n. size_of_sought (size_of_named types n) x))) (sym c.in-Vars.is) c.add_vars.ensures
