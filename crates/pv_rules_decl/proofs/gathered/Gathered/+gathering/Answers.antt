use Rattle.std.proofs.Common.{◌≤◌, ◌∷◌, [], ◌++◌, ◌+◌, drop, length, map, ap, subst, sym, refl, arith}
use Rattle.std.specs.Prelude.{flat_map}
use Rattle.std.proofs.lemmas.Result.{on_ok_weaker}
use Rattle.pv_types.specs.View.{type_tree, vars_tree, var_trees, listed}
use Rattle.pv_types.proofs.ForCallers.{array_seen, structure_seen, nameless as no_names, has_names}
use Rattle.pv_tree.specs.Interfaces.{types_in, fields_in, types_in_vars, vars_in}
use Rattle.pv_rules_decl.specs.Declarations.{types_of, vars_of, HaveTheSame}
use Rattle.pv_rules_decl.proofs.Sharing.{one_more, types_from, fields_from, same_itself, alone, plain_alone, named_alone, unread_alone, none_more, with_inner, then_same, and_nothing, shared_types, shared_vars, nameless, array_inside, structure_inside, types_pushed, vars_pushed}
use Rattle.pv_rules_decl.proofs.gathered.Gathered.+gathering.Goals as goal

-- a type is added before what lies in it
pub add_type-returns-in-Array : goal.add_type-returns-in-Array
add_type-returns-in-Array t c =
    let ty = type_tree c.args.ty.now in
    let inner = type_tree c.deref.result.now in
    let inside = array_inside ty c.in-Array.low c.in-Array.high inner c.in-Array.place
    (array_seen c.args.ty.now c.in-Array.low c.in-Array.high c.in-Array.of c.in-Array.place c.deref.result.now c.in-Array.is c.deref.ensures) in
    record {
      types = on_ok_weaker c.add_type.result
          (λ h. with_inner (map (λ t. type_tree t.now) c.push.new.self.items) (types_of c.args.self.now) (ty ∷ []) (types_in inner)
          (types_of c.add_type.new.self) (types_in ty) (types_pushed (λ t. type_tree t.now) _ _ _ c.in_ok-push.ensures.items) inside.0 h)
          c.add_type.ensures.types;
      vars = on_ok_weaker c.add_type.result
          (λ h. subst (λ l. HaveTheSame (vars_of c.add_type.new.self) (vars_of c.args.self.now ++ l)) (sym inside.1) h)
          c.add_type.ensures.vars;
    }

pub add_type-returns-in-Struct : goal.add_type-returns-in-Struct
add_type-returns-in-Struct t c =
    let ty = type_tree c.args.ty.now in
    let all = c.as_slice.result.now in
    let inside = structure_inside ty (listed (var_trees all))
    (structure_seen c.args.ty.now c.in-Struct.vars all c.in-Struct.is c.as_slice.ensures.value) in
    record {
      types = on_ok_weaker c.add_vars.result
          (λ h. with_inner (map (λ t. type_tree t.now) c.push.new.self.items) (types_of c.args.self.now) (ty ∷ []) (types_in_vars (listed (var_trees all)))
          (types_of c.add_vars.new.self) (types_in ty) (types_pushed (λ t. type_tree t.now) _ _ _ c.in_ok-push.ensures.items) inside.0 h)
          c.add_vars.ensures.types;
      vars = on_ok_weaker c.add_vars.result
          (λ h. subst (λ l. HaveTheSame (vars_of c.add_vars.new.self) (vars_of c.args.self.now ++ l)) (sym inside.1) h)
          c.add_vars.ensures.vars;
    }

-- a type in which nothing lies
pub add_type-returns-in-Plain : goal.add_type-returns-in-Plain
add_type-returns-in-Plain t c = record {
  types = alone (map (λ t. type_tree t.now) c.push.new.self.items) (types_of c.args.self.now) (type_tree c.args.ty.now)
      (types_pushed (λ t. type_tree t.now) _ _ _ c.in_ok-push.ensures.items) (plain_alone c.args.ty.now c.in-Plain.field-0 c.in-Plain.is).0;
  vars = and_nothing (vars_of c.args.self.now) (fields_in (type_tree c.args.ty.now)) (plain_alone c.args.ty.now c.in-Plain.field-0 c.in-Plain.is).1;
}

pub add_type-returns-in-Named : goal.add_type-returns-in-Named
add_type-returns-in-Named t c = record {
  types = alone (map (λ t. type_tree t.now) c.push.new.self.items) (types_of c.args.self.now) (type_tree c.args.ty.now)
      (types_pushed (λ t. type_tree t.now) _ _ _ c.in_ok-push.ensures.items) (named_alone c.args.ty.now c.in-Named.field-0 c.in-Named.field-1 c.in-Named.is).0;
  vars = and_nothing (vars_of c.args.self.now) (fields_in (type_tree c.args.ty.now)) (named_alone c.args.ty.now c.in-Named.field-0 c.in-Named.field-1 c.in-Named.is).1;
}

pub add_type-returns-in-Unread : goal.add_type-returns-in-Unread
add_type-returns-in-Unread t c = record {
  types = alone (map (λ t. type_tree t.now) c.push.new.self.items) (types_of c.args.self.now) (type_tree c.args.ty.now)
      (types_pushed (λ t. type_tree t.now) _ _ _ c.in_ok-push.ensures.items) (unread_alone c.args.ty.now c.in-Unread.is).0;
  vars = and_nothing (vars_of c.args.self.now) (fields_in (type_tree c.args.ty.now)) (unread_alone c.args.ty.now c.in-Unread.is).1;
}

-- variables that share a type are added before what lies in it
pub add_shared-returns-then-is_empty : goal.add_shared-returns-then-is_empty
add_shared-returns-then-is_empty t c =
    let none = nameless c.args.of.now
    (no_names c.args.of.now c.is_empty.result c.is_empty.ensures c.if-is_empty.true) in
    record {
      types = and_nothing (types_of c.args.self.now) (types_in_vars (listed (vars_tree c.args.of.now))) (ap (λ l. types_in_vars (listed l)) none);
      vars = and_nothing (vars_of c.args.self.now) (vars_in (listed (vars_tree c.args.of.now))) (ap (λ l. vars_in (listed l)) none);
    }

pub add_shared-returns : goal.add_shared-returns
add_shared-returns t c =
    let v = c.args.of.now in
    let some = has_names v c.is_empty.result c.is_empty.ensures c.if-is_empty.false in
    record {
      types = on_ok_weaker c.add_type.result
          (λ h. then_same (types_of c.add_type.new.self) (types_of c.args.self.now) (types_in (type_tree v.ty)) (types_in_vars (listed (vars_tree v))) h
          (shared_types v some))
          c.add_type.ensures.types;
      vars = on_ok_weaker c.add_type.result
          (λ h. then_same (vars_of c.add_type.new.self) (vars_of c.args.self.now) (vars_tree v ++ fields_in (type_tree v.ty)) (vars_in (listed (vars_tree v)))
          (with_inner (flat_map (λ v. vars_tree v.now) c.push.new.self.items) (vars_of c.args.self.now) (vars_tree v) (fields_in (type_tree v.ty))
          (vars_of c.add_type.new.self) (vars_tree v ++ fields_in (type_tree v.ty)) (vars_pushed (λ v. vars_tree v.now) _ _ _ c.in_ok-push.ensures.items) refl h)
          (shared_vars v some))
          c.add_type.ensures.vars;
    }

pub add_vars-loop-of-init : goal.add_vars-loop-of-init
add_vars-loop-of-init t c = record { types = same_itself _; vars = same_itself _ }

pub add_vars-loop-of-preserved : goal.add_vars-loop-of-preserved
add_vars-loop-of-preserved t c =
    let all = c.args.vars.now in
    let i = c.loop-of.of-index in
    let v = c.of-item.result in
    record {
      types = one_more (types_of c.add_shared.new.self) (types_of c.loop-of.self) (types_in_vars (listed (vars_tree v)))
          (types_in_vars (listed (var_trees (drop (i + 1) all)))) _ _ c.in_ok-add_shared.ensures.types
          (types_from all i v c.loop-of-test.true c.of-item.is) c.loop-of.invariant.types;
      vars = one_more (vars_of c.add_shared.new.self) (vars_of c.loop-of.self) (vars_in (listed (vars_tree v)))
          (vars_in (listed (var_trees (drop (i + 1) all)))) _ _ c.in_ok-add_shared.ensures.vars
          (fields_from all i v c.loop-of-test.true c.of-item.is) c.loop-of.invariant.vars;
    }

pub add_vars-returns : goal.add_vars-returns
add_vars-returns t c =
    let past : length c.args.vars.now ≤ c.loop-of.of-index = omega arith in
    record {
      types = none_more (λ l. types_in_vars (listed (var_trees l))) c.args.vars.now c.loop-of.of-index (types_of c.loop-of.self) _ past refl
          c.loop-of.invariant.types;
      vars = none_more (λ l. vars_in (listed (var_trees l))) c.args.vars.now c.loop-of.of-index (vars_of c.loop-of.self) _ past refl
          c.loop-of.invariant.vars;
    }
