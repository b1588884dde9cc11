use Rattle.std.proofs.Common.{List, length, map, ap, ◌∙◌}
use Rattle.pv_bool.specs.declared.program.Assignment.{Assignment}
use Rattle.pv_bool.specs.Tree.{term_tree, assignment_tree}
use Rattle.pv_bool.specs.Programs.{program_tree}
use Rattle.pv_bool.specs.Scans.{Bits, state_of, value_in}
use Rattle.pv_bool.specs.Machine.{bits_of}
use Rattle.pv_bool_judged.proofs.Terms.{over-all}
use Rattle.pv_bool_judged.proofs.Begun.{scan-ends}
use Rattle.pv_bool_judged.proofs.scans.scan.Goals as goal

pub assign_all-requires : goal.assign_all-requires
assign_all-requires c =
    over-all (length c.args.program.now.bits.items) _ c.deref-2.result.now c.args.program.now.body.items (c.put.ensures.long ∙ c.requires)
    c.deref-2.ensures.value c.args.program.now.own.body

pub returns-clause-holds : goal.returns-clause-holds
returns-clause-holds c =
    let ends = scan-ends (program_tree c.args.program.now) (bits_of c.args.input.now) c.args.frame.now c.put.new.frame c.assign_all.new.frame
    c.deref.result.now (map assignment_tree c.deref-2.result.now) c.deref.ensures.value
    (ap (λ (body : List Assignment). map assignment_tree body) c.deref-2.ensures.value) c.put.ensures.placed c.assign_all.ensures.end in
    c.term_value.ensures ∙ ap (λ (f : Bits). value_in f (term_tree c.args.program.now.holds)) ends

pub returns-clause-state : goal.returns-clause-state
returns-clause-state c =
    let ends = scan-ends (program_tree c.args.program.now) (bits_of c.args.input.now) c.args.frame.now c.put.new.frame c.assign_all.new.frame
    c.deref.result.now (map assignment_tree c.deref-2.result.now) c.deref.ensures.value
    (ap (λ (body : List Assignment). map assignment_tree body) c.deref-2.ensures.value) c.put.ensures.placed c.assign_all.ensures.end in
    ap (λ (f : Bits). state_of c.args.program.now.bits.items f) ends
