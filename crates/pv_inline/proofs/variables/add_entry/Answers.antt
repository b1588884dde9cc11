use Rattle.std.proofs.Common.{ℕ, List, ◌++◌, map, ap, ◌∙◌}
use Rattle.pv_flow.specs.declared.parts.Variable.{Variable}
use Rattle.pv_flow.specs.View.{variable_of, call_edge_of}
use Rattle.pv_call_copies.specs.Inlined.{added_by_calls}
use Rattle.pv_inline.specs.Blocks.{blocks_in, codes_in}
use Rattle.pv_inline.specs.Variables.{added_below}
use Rattle.pv_inline.proofs.Coded.{ok_by}
use Rattle.pv_inline.proofs.Added.{entry_adds}
use Rattle.pv_inline.proofs.variables.add_entry.Goals as goal

pub returns : goal.returns
returns c =
    ok_by c.add_calls.result (λ u is. entry_adds (codes_in c.args.blocks.now) c.args.entry.now c.as_slice-calls.result.now (map variable_of c.args.vars.now.items)
    (map variable_of c.add_all.new.vars.items) (map variable_of c.add_calls.new.vars.items) c.as_slice-calls.ensures.value
    (c.in_ok-add_all.ensures
    ∙ ap (λ (vs : List Variable). map variable_of c.args.vars.now.items ++ map variable_of vs) c.as_slice-own.ensures.value)
    (is ∙ ap (λ (n : ℕ). map variable_of c.add_all.new.vars.items
    ++ added_by_calls (added_below (blocks_in (codes_in c.args.blocks.now)) n) (map call_edge_of c.as_slice-calls.result.now)) c.count.ensures))
    c.add_calls.ensures
