use Rattle.std.proofs.Common.{◌∙◌, sym, refl}
use Rattle.std.proofs.lemmas.Result.{on_ok_weaker}
use Rattle.pv_types.specs.View.{var_tree}
use Rattle.pv_tree.specs.View.{arg_tree, call_tree}
use Rattle.pv_tree.specs.Parts.{site}
use Rattle.pv_names.specs.Callees.{how_tree}
use Rattle.pv_resolve.specs.Contexts.{block_in}
use Rattle.pv_program.specs.Handed.{goes_out, handed_one}
use Rattle.pv_program.proofs.Growing.{extends-same}
use Rattle.pv_program.proofs.Parameters.{argument_fits, parameter_declared, out_varies}
use Rattle.pv_program.proofs.Passing.{taken-none, taken-passed, taken-handed, argument-seen, spot-seen}
use Rattle.pv_program.proofs.handing.hand_out.Goals as goal

pub returns-then-not-goes_out : goal.returns-then-not-goes_out
returns-then-not-goes_out c = record {
  grows = extends-same c.args.program.now;
  taken = λ source hs is inner before.
      taken-none goes_out c.args.var c.args.made.now.items hs (sym c.goes_out.ensures ∙ c.if-not-goes_out.true) before;
  calls = refl;
  room = λ source is inner h k fits among. tt;
}

pub returns-in-Some : goal.returns-in-Some
returns-in-Some c = record {
  grows = c.take.ensures.grows;
  taken = λ source hs is inner before.
      let callee = block_in c.args.inner.now in
      let at = site (how_tree c.args.how) (call_tree c.args.call.now) in
      on_ok_weaker c.take.result
      (λ are. taken-handed goes_out c.args.var c.take.new.made.items hs (sym c.goes_out.ensures ∙ c.if-not-goes_out.false) are)
      (c.take.ensures.taken source at (handed_one source callee (var_tree c.args.var)) hs (arg_tree c.in-Some.arg.now) is inner
      (argument-seen source at callee c.args.var _ c.in-Some.ensures) refl (spot-seen source callee c.args.var) before);
  calls = c.take.ensures.calls;
  room = λ source is inner h k fits among.
      c.take.ensures.room source is inner h k
      (argument_fits _ (call_tree c.args.call.now).args (arg_tree c.in-Some.arg.now) c.in-Some.ensures fits) (
        var_tree c.args.var,
        parameter_declared goes_out out_varies source (block_in c.args.inner.now) k c.args.var
            (sym c.goes_out.ensures ∙ c.if-not-goes_out.false) among,
      );
}

pub returns-in-None : goal.returns-in-None
returns-in-None c = record {
  grows = extends-same c.args.program.now;
  taken = λ source hs is inner before.
      taken-passed goes_out c.args.var c.args.made.now.items hs (sym c.goes_out.ensures ∙ c.if-not-goes_out.false) c.in-None.ensures
      before;
  calls = refl;
  room = λ source is inner h k fits among. tt;
}
