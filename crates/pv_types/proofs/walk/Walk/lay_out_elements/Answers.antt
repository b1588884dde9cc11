use Rattle.std.proofs.Common.{ap, sym, refl, ◌∙◌, ◌≡◌, ◌++◌, ◌+◌, ◌*◌, ◌-◌, ◌≤◌, suc, pos, ◌+ℤ◌, ℤ, length, arith}
use Rattle.std.proofs.lemmas.List.{length-append}
use Rattle.pv_types.specs.Named.{types_of}
use Rattle.pv_types.specs.View.{type_tree}
use Rattle.pv_types.specs.Leaves.{element_path, count_between, leaves_of_elements, leaves_of_type, leaves_of_named}
use Rattle.pv_types.specs.Walk.{work_of_type, work_of_named}
use Rattle.pv_types.proofs.Elements.{count_some, elements_fall}
use Rattle.pv_types.proofs.Walking.{on_ok, deeper, re_adds, longer_sound, element_behind}
use Rattle.pv_types.proofs.walk.Walk.lay_out_elements.Goals as goal

pub lay_out_type-requires : goal.lay_out_type-requires
lay_out_type-requires c =
    longer_sound c.add_next_elements.new.self _ (element_behind c.args.span.now.index)
    (c.in_ok-add_next_elements.ensures.adds (types_of c.args.named.now)).sound refl refl
    c.in_ok-append_index.ensures

pub returns-clause-adds : goal.returns-clause-adds
returns-clause-adds c =
    let types = types_of c.args.named.now in
    let index = c.args.span.now.index in
    let high = c.args.span.now.high in
    let mid = c.add_next_elements.new.self in
    let expand = leaves_of_named types c.args.levels in
    let element = λ (i : ℤ). leaves_of_type expand (element_path c.args.self.now.path.items i) (pos 0) c.args.section
    (type_tree c.args.of.now) in
    let count = count_between (index +ℤ pos 1) high in
    let w = work_of_type (work_of_named types c.args.levels) (type_tree c.args.of.now) in
    let some : count_between index high ≡ suc count = count_some index high (c.is_empty.ensures.some c.if-is_empty.false) in
    let rest = leaves_of_elements element (index +ℤ pos 1) count in
    let at : c.append_index.new.path.items ≡ element_path c.args.self.now.path.items index =
    c.in_ok-append_index.ensures ∙ ap (λ p. element_path p index) c.in_ok-add_next_elements.ensures.path in
    let m = 1 + count * (1 + w) + w in
    let n = 1 + count_between index high * (1 + w) - 1 in
    let falls : m ≤ n = elements_fall count w (count_between index high) some in
    on_ok c.lay_out_type.result
    (λ a. re_adds types c.args.self.now c.lay_out_type.new.self _ _ m n
    (ap (λ p. leaves_of_type expand p (pos 0) c.args.section (type_tree c.args.of.now) ++ rest) at
    ∙ sym (ap (leaves_of_elements element index) some))
    falls
    (deeper types c.args.self.now mid _ c.lay_out_type.new.self rest _ (element_behind index) _ _ c.in_ok-add_next_elements.ensures.leaves refl
    refl
    c.in_ok-append_index.ensures (c.in_ok-add_next_elements.ensures.adds types) a))
    c.lay_out_type.ensures.adds

pub returns-clause-too_large : goal.returns-clause-too_large
returns-clause-too_large c = λ is.
    let types = types_of c.args.named.now in
    let index = c.args.span.now.index in
    let high = c.args.span.now.high in
    let expand = leaves_of_named types c.args.levels in
    let element = λ (i : ℤ). leaves_of_type expand (element_path c.args.self.now.path.items i) (pos 0) c.args.section
    (type_tree c.args.of.now) in
    let count = count_between (index +ℤ pos 1) high in
    let some : count_between index high ≡ suc count = count_some index high (c.is_empty.ensures.some c.if-is_empty.false) in
    let rest = leaves_of_elements element (index +ℤ pos 1) count in
    let first = leaves_of_type expand c.append_index.new.path.items (pos 0) c.args.section (type_tree c.args.of.now) in
    let at : c.append_index.new.path.items ≡ element_path c.args.self.now.path.items index =
    c.in_ok-append_index.ensures ∙ ap (λ p. element_path p index) c.in_ok-add_next_elements.ensures.path in
    let whole : first ++ rest ≡ leaves_of_elements element index (count_between index high) =
    ap (λ p. leaves_of_type expand p (pos 0) c.args.section (type_tree c.args.of.now) ++ rest) at
    ∙ sym (ap (leaves_of_elements element index) some) in
    let over = c.lay_out_type.ensures.too_large is in
    omega (arith, over, length-append first rest, ap length whole, ap length c.in_ok-add_next_elements.ensures.leaves)
