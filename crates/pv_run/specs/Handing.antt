-- What a call hands in and out: keys of parameters with their spots, by the first cell of the called block's instance.
use Rattle.std.specs.Prelude.{ℕ, List, ◌++◌, map, filter, find, Bool as Truth, true, ◌||◌, Option}
use Rattle.pv_tree.specs.Tree.{ArgTree, BlockTree}
use Rattle.pv_tree.specs.Callees.{How, CallSite, is_input, is_output, is_in_out, Param, params_of_vars, value_param}
use Rattle.pv_types.specs.declared.declaration.Section.{Section}
use Rattle.pv_mean.specs.Sources.{Source}
use Rattle.pv_mean.specs.Activations.{word_begins, spot_of}
use Rattle.pv_mean.specs.Spots.{Spot}
use Rattle.pv_mean.specs.Calls.{Passed, is_for, value_spot}
use Rattle.pv_eval.specs.Means.{activation}

pub record Handed : Type 0 where
  pub param : Param
  pub spot : ℕ → Spot

abbrev pub handed_in_sections : Source → BlockTree → (Section → Truth) → List Handed
handed_in_sections source callee test =
    map (λ p. record {
      param = p;
      spot = λ first. spot_of (word_begins source (activation callee first) p.key true);
    })
    (filter (λ p. test p.section) (params_of_vars callee.vars))

abbrev pub handed_in : Source → BlockTree → List Handed
handed_in source callee = handed_in_sections source callee (λ s. is_input s || is_in_out s)

abbrev pub handed_out : Source → How → BlockTree → List Handed
handed_out source how callee =
    handed_in_sections source callee (λ s. is_output s || is_in_out s)
    ++ map (λ p. record { param = p; spot = λ first. value_spot source callee })
    (value_param how callee)

-- with the first cell of the instance
abbrev pub passed_from : ℕ → Handed → Passed
passed_from first h = record { param = h.param; spot = h.spot first }

abbrev pub argument_of : CallSite → BlockTree → Handed → Option ArgTree
argument_of site callee h = find (is_for site.how callee h.param.key) site.call.args
