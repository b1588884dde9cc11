use Rattle.std.proofs.Common.{refl, rules, ◌≡◌, []}
use Rattle.pv_types.specs.Named.{types_of}
use Rattle.pv_types.specs.View.{type_tree}
use Rattle.pv_types.proofs.Searching.{begun, searched, ended_search}
use Rattle.pv_types.proofs.search.Search.finds.Goals as goal

pub loop-init : goal.loop-init
loop-init c =
    begun (types_of c.args.named.now) (type_tree c.args.ty.now) _ c.add_type.new.self c.requires
    (c.in_ok-add_type.ensures c.if-branch.false)

pub returns-in_default : goal.returns-in_default
returns-in_default c = λ no.
    let empty : c.loop.self.sought.items ≡ [] = search rules in
    ended_search (types_of c.args.named.now) (type_tree c.args.ty.now) c.loop.self c.loop.invariant empty

pub loop-preserved : goal.loop-preserved
loop-preserved c =
    searched (types_of c.args.named.now) (type_tree c.args.ty.now) c.loop.self _ c.add_first.new.self c.in-Some.sought c.loop.invariant
    c.in-Some.ensures.items refl (c.in_ok-add_first.ensures c.if-branch-2.false)
