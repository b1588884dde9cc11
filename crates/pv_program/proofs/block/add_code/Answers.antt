use Rattle.std.proofs.Common.{sym, subst}
use Rattle.std.proofs.lemmas.Bool.{false≢true}
use Rattle.pv_resolve.specs.Contexts.{block_in}
use Rattle.pv_tree.specs.Tree.{BlockTree}
use Rattle.pv_tree.specs.View.{block_tree}
use Rattle.pv_program.specs.Ready.{FitsCode}
use Rattle.pv_program.proofs.Failing.{passed}
use Rattle.pv_program.proofs.Leading.{led_same}
use Rattle.pv_program.proofs.Growing.{extends-then}
use Rattle.pv_program.proofs.Making.{code-made}
use Rattle.pv_program.proofs.block.add_code.Goals as goal

pub returns : goal.returns
returns c = record {
  grows = extends-then _ _ _ c.in_ok-body.ensures.grows c.widen.ensures.grows;
  is = λ source is.
      code-made (block_in c.args.context.now) (block_tree c.block-block.result.now) _ c.widen.ensures.grows c.block-block.ensures
      (c.in_ok-value.ensures.is source is) (c.brief_count-brief.ensures source) c.widen.ensures.room (c.in_ok-body.ensures.within source is)
      (c.in_ok-body.ensures.runs source is);
  room = λ source is h fits. tt;
  led = λ source is fits before. led_same c.widen.ensures.calls (c.in_ok-body.ensures.led source is
      (subst (λ (b : BlockTree). FitsCode source (block_in c.args.context.now) b.body) (sym c.block-block.ensures) fits) before);
}

pub returns-in_err-value-clause-room : goal.returns-in_err-value-clause-room
returns-in_err-value-clause-room c = λ source is h fits. absurd (false≢true (c.in_err-value.ensures.room source is h.own))

pub returns-in_err-body-clause-room : goal.returns-in_err-body-clause-room
returns-in_err-body-clause-room c = λ source is h fits.
    passed _ _ c.from_residual-in_err-body.ensures.1 (c.in_err-body.ensures.room source is h
    (subst (λ (b : BlockTree). FitsCode source (block_in c.args.context.now) b.body) (sym c.block-block.ensures) fits))
