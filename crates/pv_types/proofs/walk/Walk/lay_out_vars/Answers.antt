use Rattle.std.proofs.Common.{ap, subst, ◌∙◌, refl, ◌+◌, ◌-◌, ◌++◌, ◌≡◌, ◌≤◌, length, arith}
use Rattle.std.proofs.lemmas.List.{length-append}
use Rattle.pv_types.specs.Named.{types_of}
use Rattle.pv_types.specs.View.{type_tree, trees_from, listed}
use Rattle.pv_types.specs.Leaves.{field_path, start_value, leaves_of_type, leaves_of_vars, leaves_of_named}
use Rattle.pv_types.specs.Walk.{around_view, IsLeafSection, work_of_type, work_of_vars, work_of_named}
use Rattle.pv_types.proofs.Walking.{
  on_ok,
  deeper,
  re_adds,
  longer_sound,
  field_behind,
  field_path_longer,
  leaves_first,
  work_first,
}
use Rattle.pv_types.proofs.Searching.{nothing_added}
use Rattle.pv_types.proofs.Passing.{leaves_passed, work_passed}
use Rattle.pv_types.proofs.walk.Walk.lay_out_vars.Goals as goal

pub returns-in_default-clause-adds : goal.returns-in_default-clause-adds
returns-in_default-clause-adds c =
    nothing_added (types_of c.args.named.now) c.args.self.now _ _ c.requires
    (ap (λ l. leaves_of_vars (leaves_of_named (types_of c.args.named.now) c.args.levels) (around_view c.args.around) c.args.self.now.path.items
    (listed l)) c.in_default.ensures.none)

pub returns-in-None-clause-adds : goal.returns-in-None-clause-adds
returns-in-None-clause-adds c =
    let types = types_of c.args.named.now in
    let first = c.in-Some.first in
    let all = trees_from c.args.vars.now c.args.from in
    on_ok c.add_vars.result
    (λ a. re_adds types c.args.self.now c.add_vars.new.self _ _ _ _
    (leaves_passed first.var first.behind.now first.vars.now first.from all c.in-Some.ensures.shared c.in-Some.ensures.some
    types c.args.levels (around_view c.args.around) c.args.self.now.path.items (subst (λ o. IsLeafSection types c.args.around first.var.of.now o) c.in-None.is c.in_ok-leaf_section.ensures c.args.levels))
    (work_passed first.var first.behind.now first.vars.now first.from all c.in-Some.ensures.shared c.in-Some.ensures.some
    (work_of_named types c.args.levels))
    a)
    (c.add_vars.ensures.adds types)

pub lay_out_type-requires : goal.lay_out_type-requires
lay_out_type-requires c =
    longer_sound c.add_frame.new.self _ (field_behind c.add_frame.new.self.path.items c.in-Some.first.var.name.now)
    (c.in_ok-add_frame-in-Some-2.ensures.adds (types_of c.args.named.now)).sound refl refl
    (c.in_ok-append_name-in-Some-2.ensures ∙ field_path_longer c.add_frame.new.self.path.items c.in-Some.first.var.name.now)

pub returns-in_ok-append_name-in-Some-2-clause-adds : goal.returns-in_ok-append_name-in-Some-2-clause-adds
returns-in_ok-append_name-in-Some-2-clause-adds c =
    let types = types_of c.args.named.now in
    let v = c.in-Some.first.var in
    let mid = c.add_frame.new.self in
    let expand = leaves_of_named types c.args.levels in
    let rest = leaves_of_vars expand (around_view c.args.around) c.args.self.now.path.items (listed (trees_from c.in-Some.first.vars.now c.in-Some.first.from)) in
    let cases = c.in-Some.ensures.some in
    let at : c.append_name.new.path.items ≡ field_path c.args.self.now.path.items v.name.now =
    c.in_ok-append_name-in-Some-2.ensures ∙ ap (λ p. field_path p v.name.now) c.in_ok-add_frame-in-Some-2.ensures.path in
    let m = work_of_vars (work_of_named types c.args.levels) (listed (trees_from c.in-Some.first.vars.now c.in-Some.first.from)) + work_of_type
    (work_of_named types c.args.levels) (type_tree v.of.now.ty) in
    let n = work_of_vars (work_of_named types c.args.levels) (listed (trees_from c.args.vars.now c.args.from)) - 1 in
    let falls : m ≤ n = let w = work_first (work_of_named types c.args.levels) v (trees_from c.in-Some.first.vars.now c.in-Some.first.from) (trees_from c.args.vars.now c.args.from) cases in omega
    (arith, w) in
    on_ok c.lay_out_type.result
    (λ a. re_adds types c.args.self.now c.lay_out_type.new.self _ _
    m n
    (ap (λ p. leaves_of_type expand p (start_value v.of.now.start) c.in-Some-2.section (type_tree v.of.now.ty) ++ rest) at
    ∙ leaves_first expand (around_view c.args.around) c.args.self.now.path.items v (trees_from c.in-Some.first.vars.now c.in-Some.first.from) (trees_from c.args.vars.now c.args.from)
    c.in-Some-2.section cases (subst (λ o. IsLeafSection types c.args.around v.of.now o) c.in-Some-2.is c.in_ok-leaf_section.ensures))
    falls
    (deeper types c.args.self.now mid _ c.lay_out_type.new.self rest _ (field_behind mid.path.items v.name.now) _ _
    c.in_ok-add_frame-in-Some-2.ensures.leaves refl refl
    (c.in_ok-append_name-in-Some-2.ensures ∙ field_path_longer mid.path.items v.name.now) (c.in_ok-add_frame-in-Some-2.ensures.adds types) a))
    c.lay_out_type.ensures.adds

pub returns-in_ok-append_name-in-Some-2-clause-too_large : goal.returns-in_ok-append_name-in-Some-2-clause-too_large
returns-in_ok-append_name-in-Some-2-clause-too_large c = λ is.
    let types = types_of c.args.named.now in
    let v = c.in-Some.first.var in
    let expand = leaves_of_named types c.args.levels in
    let rest = leaves_of_vars expand (around_view c.args.around) c.args.self.now.path.items (listed (trees_from c.in-Some.first.vars.now c.in-Some.first.from)) in
    let first = leaves_of_type expand c.append_name.new.path.items (start_value v.of.now.start) c.in-Some-2.section (type_tree v.of.now.ty) in
    let cases = c.in-Some.ensures.some in
    let at : c.append_name.new.path.items ≡ field_path c.args.self.now.path.items v.name.now =
    c.in_ok-append_name-in-Some-2.ensures ∙ ap (λ p. field_path p v.name.now) c.in_ok-add_frame-in-Some-2.ensures.path in
    let whole : first ++ rest ≡ leaves_of_vars expand (around_view c.args.around) c.args.self.now.path.items
    (listed (trees_from c.args.vars.now c.args.from)) =
    ap (λ p. leaves_of_type expand p (start_value v.of.now.start) c.in-Some-2.section (type_tree v.of.now.ty) ++ rest) at
    ∙ leaves_first expand (around_view c.args.around) c.args.self.now.path.items v (trees_from c.in-Some.first.vars.now c.in-Some.first.from) (trees_from c.args.vars.now c.args.from)
    c.in-Some-2.section cases (subst (λ o. IsLeafSection types c.args.around v.of.now o) c.in-Some-2.is c.in_ok-leaf_section.ensures) in
    let over = c.lay_out_type.ensures.too_large is in
    omega (arith, over, length-append first rest, ap length whole, ap length c.in_ok-add_frame-in-Some-2.ensures.leaves)
