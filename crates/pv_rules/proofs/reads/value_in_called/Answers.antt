use Rattle.std.proofs.Common.{ap, ◌∙◌, sym}
use Rattle.std.specs.Prelude.{option_map}
use Rattle.pv_tree.specs.View.{call_tree, instr_tree}
use Rattle.pv_names.specs.Callees.{how_tree}
use Rattle.pv_names.specs.InScope.{scope_of}
use Rattle.pv_rules.specs.Codes.{calls_of_code}
use Rattle.pv_rules.specs.Reads.{reads_of_call}
use Rattle.pv_rules.specs.Values.{value_at}
use Rattle.pv_rules.proofs.CallsAmong.{of_instruction}
use Rattle.pv_rules.proofs.Walks.{near_each, near_nothing}
use Rattle.pv_rules.proofs.reads.value_in_called.Goals as goal

pub value_in_call-requires : goal.value_in_call-requires
value_in_call-requires c =
    of_instruction (calls_of_code c.args.code) (how_tree c.how_of.result) (instr_tree c.args.instr.now) (call_tree c.in-Some.call.now) c.how_of.ensures
    (sym c.call.ensures ∙ ap (option_map (λ x. call_tree x.now)) c.in-Some.is) c.requires

pub returns-in-Some : goal.returns-in-Some
returns-in-Some c =
    near_each (λ x. call_tree x.now) c.call.result (instr_tree c.args.instr.now).call c.call.ensures
    (value_at (scope_of c.args.scope.now) (calls_of_code c.args.code)) reads_of_call c.in-Some.call c.args.nearest c.value_in_call.result c.in-Some.is
    c.value_in_call.ensures

pub returns-in-None : goal.returns-in-None
returns-in-None c =
    near_nothing (λ x. call_tree x.now) c.call.result (instr_tree c.args.instr.now).call c.call.ensures
    (value_at (scope_of c.args.scope.now) (calls_of_code c.args.code)) reads_of_call c.args.nearest c.in-None.is
