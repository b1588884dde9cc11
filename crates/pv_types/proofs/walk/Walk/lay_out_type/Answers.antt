use Rattle.std.proofs.Common.{subst, sym, OnOk, ℤ, to_z, of_z, rules, FitsSigned}
use Rattle.std.proofs.lemmas.Int.{to_z-of_z}
use mir.Syntax.{w128}
use Rattle.pv_types.specs.Named.{types_of}
use Rattle.pv_types.specs.Leaves.{leaves_of_type, leaves_of_named, start_value}
use Rattle.pv_types.specs.declared.walk.Rest.TheVariants.{Elements}
use Rattle.pv_types.specs.Walk.{Adds, work_of_type, work_of_named, leaves_of_rest, work_of_rest}
use Rattle.pv_types.specs.Tree.{TypeTree}
use Rattle.pv_types.proofs.Trees.{array_seen, structure_seen}
use Rattle.pv_types.proofs.walk.Walk.lay_out_type.Goals as goal

pub returns-in-Array-clause-adds : goal.returns-in-Array-clause-adds
returns-in-Array-clause-adds c =
    let types = types_of c.args.named.now in
    let low_fits : FitsSigned w128 c.in-Array.low = search rules in
    let high_fits : FitsSigned w128 c.in-Array.high = search rules in
    let G = λ (i h : ℤ). OnOk c.add_frame.result (Adds types c.args.self.now c.add_frame.new.self
    (leaves_of_rest types c.args.levels c.args.self.now.path.items
    (Elements c.deref.result (record { index = i; high = h }) c.args.section))
    (work_of_rest types c.args.levels (Elements c.deref.result (record { index = i; high = h }) c.args.section))) in
    let found : G c.in-Array.low c.in-Array.high =
    subst (λ (i : ℤ). G i c.in-Array.high) (to_z-of_z w128 c.in-Array.low low_fits)
    (subst (λ (h : ℤ). G (to_z w128 (of_z w128 c.in-Array.low)) h) (to_z-of_z w128 c.in-Array.high high_fits)
    (c.add_frame.ensures.adds types)) in
    subst (λ (t : TypeTree). OnOk c.add_frame.result (Adds types c.args.self.now c.add_frame.new.self
    (leaves_of_type (leaves_of_named types c.args.levels) c.args.self.now.path.items (start_value c.args.start) c.args.section t)
    (work_of_type (work_of_named types c.args.levels) t)))
    (sym (array_seen c.args.ty.now c.in-Array.low c.in-Array.high c.in-Array.of c.in-Array.place c.deref.result.now c.in-Array.is
    c.deref.ensures))
    found

pub returns-in-Struct-clause-adds : goal.returns-in-Struct-clause-adds
returns-in-Struct-clause-adds c =
    let types = types_of c.args.named.now in
    subst (λ (t : TypeTree). OnOk c.add_vars.result (Adds types c.args.self.now c.add_vars.new.self
    (leaves_of_type (leaves_of_named types c.args.levels) c.args.self.now.path.items (start_value c.args.start) c.args.section t)
    (work_of_type (work_of_named types c.args.levels) t)))
    (sym (structure_seen c.args.ty.now c.in-Struct.vars c.as_slice-vars.result.now c.in-Struct.is c.as_slice-vars.ensures.value))
    (c.add_vars.ensures.adds types)
