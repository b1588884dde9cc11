use Rattle.std.proofs.Common.{refl}
use Rattle.pv_types.specs.Named.{types_of}
use Rattle.pv_types.specs.View.{type_tree}
use Rattle.pv_types.specs.Sizes.{size_of_type, size_of_named}
use Rattle.pv_types.specs.Walk.{around_view}
use Rattle.pv_types.proofs.Words.{nameless}
use Rattle.pv_types.proofs.Searching.{nothing_covered, implied_covered, nameless_none, passed_none, shared_none, if_ok}
use Rattle.pv_types.proofs.search.Search.add_shared.Goals as goal

pub returns-then-is_empty : goal.returns-then-is_empty
returns-then-is_empty c = λ no.
    nothing_covered (types_of c.args.named.now) c.args.self.now _
    (λ n. nameless_none (size_of_named (types_of c.args.named.now) n) (around_view c.args.around) c.args.of.now
    (nameless c.args.of.now c.is_empty.result c.is_empty.ensures c.if-is_empty.true))

pub returns-in-None : goal.returns-in-None
returns-in-None c = λ no.
    nothing_covered (types_of c.args.named.now) c.args.self.now _
    (λ n. passed_none (size_of_named (types_of c.args.named.now) n) (around_view c.args.around) c.args.of.now _ refl c.in-None.ensures)

pub returns-in-Some : goal.returns-in-Some
returns-in-Some c =
    let types = types_of c.args.named.now in
    if_ok c.add_type.result
    (λ found covers no. implied_covered types c.args.self.now c.add_type.new.self
    (λ n. size_of_type (size_of_named types n) (type_tree c.args.of.now.ty)) _
    (λ n. shared_none (size_of_named types n) (around_view c.args.around) c.args.of.now) (covers no))
    c.add_type.ensures
