use Rattle.std.proofs.Common.{◌∙◌, sym, refl}
use Rattle.std.proofs.lemmas.Result.{on_ok_weaker}
use Rattle.pv_types.specs.View.{var_tree}
use Rattle.pv_tree.specs.View.{arg_tree, call_tree}
use Rattle.pv_tree.specs.Parts.{site}
use Rattle.pv_names.specs.Callees.{how_tree}
use Rattle.pv_resolve.specs.Contexts.{block_in}
use Rattle.pv_program.specs.Handed.{goes_in, handed_one}
use Rattle.pv_program.proofs.Growing.{extends-same}
use Rattle.pv_program.proofs.Parameters.{argument_fits, parameter_declared, in_varies}
use Rattle.pv_program.proofs.Passing.{given-none, given-passed, given-handed, argument-seen, spot-seen}
use Rattle.pv_program.proofs.handing.hand_in.Goals as goal

pub returns-then-not-goes_in : goal.returns-then-not-goes_in
returns-then-not-goes_in c = record {
  grows = extends-same c.args.program.now;
  given = λ source hs is inner before.
      given-none goes_in c.args.var c.args.made.now.items hs (sym c.goes_in.ensures ∙ c.if-not-goes_in.true) before;
  calls = refl;
  room = λ source is inner h k fits among. tt;
}

pub returns-in-Some : goal.returns-in-Some
returns-in-Some c = record {
  grows = c.give.ensures.grows;
  given = λ source hs is inner before.
      let callee = block_in c.args.inner.now in
      let at = site (how_tree c.args.how) (call_tree c.args.call.now) in
      on_ok_weaker c.give.result
      (λ are. given-handed goes_in c.args.var c.give.new.made.items hs (sym c.goes_in.ensures ∙ c.if-not-goes_in.false) are)
      (c.give.ensures.given source at (handed_one source callee (var_tree c.args.var)) hs (arg_tree c.in-Some.arg.now) is inner
      (argument-seen source at callee c.args.var _ c.in-Some.ensures) refl (spot-seen source callee c.args.var) before);
  calls = c.give.ensures.calls;
  room = λ source is inner h k fits among.
      c.give.ensures.room source is inner h k
      (argument_fits _ (call_tree c.args.call.now).args (arg_tree c.in-Some.arg.now) c.in-Some.ensures fits) (
        var_tree c.args.var,
        parameter_declared goes_in in_varies source (block_in c.args.inner.now) k c.args.var
            (sym c.goes_in.ensures ∙ c.if-not-goes_in.false) among,
      );
}

pub returns-in-None : goal.returns-in-None
returns-in-None c = record {
  grows = extends-same c.args.program.now;
  given = λ source hs is inner before.
      given-passed goes_in c.args.var c.args.made.now.items hs (sym c.goes_in.ensures ∙ c.if-not-goes_in.false) c.in-None.ensures
      before;
  calls = refl;
  room = λ source is inner h k fits among. tt;
}
