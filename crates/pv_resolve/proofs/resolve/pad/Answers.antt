use Rattle.std.proofs.Common.{subst, sym, arith, rules}
use Rattle.pv_resolve.proofs.Loops.{IsPadded, padded_none, padded_more}
use Rattle.pv_resolve.proofs.Fits.{failed}
use Rattle.pv_resolve.proofs.resolve.pad.Goals as goal

pub push-requires-clause-follows : goal.push-requires-clause-follows
push-requires-clause-follows c =
    record { below = tt; most = tt }

pub loop-k-init : goal.loop-k-init
loop-k-init c =
    record { padded = padded_none c.args.nodes.now.items c.args.numbers.now.items c.requires.nodes c.requires.numbers; count = search rules }

pub loop-k-preserved : goal.loop-k-preserved
loop-k-preserved c =
    record {
      padded = subst (λ ns. IsPadded c.args.nodes.now.items c.push.new.nodes.items c.args.numbers.now.items ns) (sym c.in_ok-push.ensures.items)
          (padded_more _ _ _ _ _ c.in_ok-n.n c.loop-k.invariant.padded c.in_ok-n.ensures.adds);
      count = search rules;
    }

pub returns : goal.returns
returns c =
    record {
      grows = c.loop-k.invariant.padded.grows;
      within = c.loop-k.invariant.padded.within;
      enough = omega arith;
      memory = tt;
      args = λ source block base es a. c.loop-k.invariant.padded.args source block base es a;
    }

pub returns-in_err-n-clause-memory : goal.returns-in_err-n-clause-memory
returns-in_err-n-clause-memory c =
    failed _ _ c.from_residual.ensures.1 c.in_err-n.ensures.memory
