use Rattle.std.proofs.Common.{refl, subst, sym}
use Rattle.std.proofs.lemmas.Result.{on_ok_weaker}
use Rattle.pv_types.specs.Named.{AllNamed}
use Rattle.pv_types.specs.Tree.{TypeTree}
use Rattle.pv_types.proofs.ForCallers.{array_seen, structure_seen, nameless, has_names}
use Rattle.pv_mean.specs.Visits.{visits_of, enters_in, AddsEnters}
use Rattle.pv_mean.proofs.SharedVisits.{plain_named, unread_named, name_named, nothing_entered, shared_entered, unnamed_entered, declared_entered, all_entered}
use Rattle.pv_mean.proofs.sizing.+naming.Goals as goal

pub add_names-returns-in-Array : goal.add_names-returns-in-Array
add_names-returns-in-Array t c =
    on_ok_weaker c.add_names.result
    (λ e. subst (λ (t : TypeTree). AddsEnters (visits_of c.args.tasks.now.items) (visits_of c.add_names.new.tasks.items) (λ P. AllNamed P t) (enters_in t))
    (sym (array_seen c.args.ty.now c.in-Array.low c.in-Array.high c.in-Array.of c.in-Array.place c.deref.result.now c.in-Array.is c.deref.ensures)) e)
    c.add_names.ensures

pub add_names-returns-in-Struct : goal.add_names-returns-in-Struct
add_names-returns-in-Struct t c =
    on_ok_weaker c.add_names_of.result
    (λ e. subst (λ (t : TypeTree). AddsEnters (visits_of c.args.tasks.now.items) (visits_of c.add_names_of.new.tasks.items) (λ P. AllNamed P t) (enters_in t))
    (sym (structure_seen c.args.ty.now c.in-Struct.vars c.as_slice.result.now c.in-Struct.is c.as_slice.ensures.value)) e)
    c.add_names_of.ensures

pub add_names-returns-in_ok-push-in-Named : goal.add_names-returns-in_ok-push-in-Named
add_names-returns-in_ok-push-in-Named t c =
    name_named c.args.tasks.now.items c.push.new.self.items c.args.ty.now _ _ _ c.in-Named.is c.in_ok-push-in-Named.ensures.items refl

pub add_names-returns-in-Plain : goal.add_names-returns-in-Plain
add_names-returns-in-Plain t c = plain_named (visits_of c.args.tasks.now.items) c.args.ty.now _ c.in-Plain.is

pub add_names-returns-in-Unread : goal.add_names-returns-in-Unread
add_names-returns-in-Unread t c = unread_named (visits_of c.args.tasks.now.items) c.args.ty.now c.in-Unread.is

pub add_shared-returns-then-is_empty : goal.add_shared-returns-then-is_empty
add_shared-returns-then-is_empty t c = unnamed_entered (visits_of c.args.tasks.now.items) c.args.of.now
    (nameless c.args.of.now c.is_empty.result c.is_empty.ensures c.if-is_empty.true)

pub add_shared-returns : goal.add_shared-returns
add_shared-returns t c =
    on_ok_weaker c.add_names.result
    (λ e. shared_entered (visits_of c.args.tasks.now.items) (visits_of c.add_names.new.tasks.items) c.args.of.now
    (has_names c.args.of.now c.is_empty.result c.is_empty.ensures c.if-is_empty.false) e)
    c.add_names.ensures

pub add_names_of-loop-of-init : goal.add_names_of-loop-of-init
add_names_of-loop-of-init t c = nothing_entered (visits_of c.args.tasks.now.items)

pub add_names_of-loop-of-preserved : goal.add_names_of-loop-of-preserved
add_names_of-loop-of-preserved t c =
    declared_entered _ _ _ c.args.vars.now c.loop-of.of-index c.of-item.result c.loop-of-test.true c.of-item.is c.loop-of.invariant
    c.in_ok-add_shared.ensures

pub add_names_of-returns : goal.add_names_of-returns
add_names_of-returns t c =
    all_entered (visits_of c.args.tasks.now.items) (visits_of c.loop-of.tasks.items) c.args.vars.now c.loop-of.of-index c.loop-of-test.false
    c.loop-of.invariant
