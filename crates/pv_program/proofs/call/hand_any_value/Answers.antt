use Rattle.std.proofs.Common.{◌∙◌, sym, refl}
use Rattle.std.proofs.lemmas.Result.{on_ok_weaker}
use Rattle.pv_tree.specs.View.{arg_tree, call_tree}
use Rattle.pv_tree.specs.Scopes.{value_key}
use Rattle.pv_tree.specs.Parts.{site}
use Rattle.pv_names.specs.Callees.{how_tree}
use Rattle.pv_mean.specs.Calls.{is_for}
use Rattle.pv_resolve.specs.Contexts.{block_in}
use Rattle.pv_program.proofs.Growing.{extends-same}
use Rattle.pv_program.proofs.Parameters.{argument_fits}
use Rattle.pv_program.proofs.Passing.{values-handed-one, values-handed-none, values-of-scl, values-passed}
use Rattle.pv_program.proofs.Seeking.{found-passes}
use Rattle.pv_program.proofs.call.hand_any_value.Goals as goal

pub returns-then-not-is_by_stl : goal.returns-then-not-is_by_stl
returns-then-not-is_by_stl c = record {
  grows = extends-same c.args.program.now;
  taken = λ source hs is inner before.
      values-of-scl (how_tree c.args.how) c.args.made.now.items hs (sym c.is_by_stl.ensures ∙ c.if-not-is_by_stl.true) before;
  calls = refl;
  room = λ source is inner h k fits. tt;
}

pub value_out-requires-clause-named : goal.value_out-requires-clause-named
value_out-requires-clause-named c =
    found-passes (is_for (how_tree c.args.how) (block_in c.args.inner.now) value_key) (call_tree c.args.call.now).args
    (arg_tree c.in-Some.arg.now) c.in-Some.ensures

pub returns-in-Some-value_out : goal.returns-in-Some-value_out
returns-in-Some-value_out c = record {
  grows = c.hand_value_out.ensures.grows;
  taken = λ source hs is inner before.
      on_ok_weaker c.hand_value_out.result
      (λ are. values-handed-one (how_tree c.args.how) c.in-Some-value_out.ty c.hand_value_out.new.made.items hs c.in-Some-value_out.ensures.params are)
      (c.hand_value_out.ensures.taken source (site (how_tree c.args.how) (call_tree c.args.call.now)) hs is inner c.in-Some-value_out.ensures.is
      (sym c.in-Some.ensures) before);
  calls = c.hand_value_out.ensures.calls;
  room = λ source is inner h k fits.
      c.hand_value_out.ensures.room source is inner h k
      (argument_fits _ (call_tree c.args.call.now).args (arg_tree c.in-Some.arg.now) c.in-Some.ensures fits);
}

pub returns-in-None-value_out : goal.returns-in-None-value_out
returns-in-None-value_out c = record {
  grows = extends-same c.args.program.now;
  taken = λ source hs is inner before. values-handed-none (how_tree c.args.how) c.args.made.now.items hs c.in-None-value_out.ensures.params before;
  calls = refl;
  room = λ source is inner h k fits. tt;
}

pub returns-in-None : goal.returns-in-None
returns-in-None c = record {
  grows = extends-same c.args.program.now;
  taken = λ source hs is inner before. values-passed (how_tree c.args.how) c.args.made.now.items hs c.in-None.ensures before;
  calls = refl;
  room = λ source is inner h k fits. tt;
}
