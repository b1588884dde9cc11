use Rattle.std.proofs.Common.{arith, Ok}
use Rattle.pv_lex.proofs.Cuts.{answer-at, found-fits, stepped, refused, left-fits}
use Rattle.pv_lex.proofs.lex.tokens.Goals as goal

pub returns-in-Err-clause-refused : goal.returns-in-Err-clause-refused
returns-in-Err-clause-refused c =
    refused c.args.language c.args.file c.args.text.now c.loop-at.at c.loop-at.context c.loop-at.tokens.items c.in-Err.kind
    c.place_at.result c.split_at.result.1.now
    c.loop-at-test.true c.loop-at.invariant.cut c.in-Err.ensures c.split_at.ensures.back c.place_at.ensures

pub push_token-requires : goal.push_token-requires
push_token-requires c =
    let x = answer-at c.args.language c.loop-at.context c.args.text.now c.loop-at.at c.split_at.result.1.now (Ok c.in-Ok.next)
    c.in-Ok.ensures c.split_at.ensures.back in
    let f = found-fits c.args.language c.loop-at.context c.args.text.now c.loop-at.at c.in-Ok.next c.loop-at.invariant.within x in
    omega (arith, f.0, c.loop-at.invariant.small)

pub split_at-requires-in-loop-at : goal.split_at-requires-in-loop-at
split_at-requires-in-loop-at c =
    let x = answer-at c.args.language c.loop-at.context c.args.text.now c.loop-at.at c.split_at.result.1.now (Ok c.in-Ok.next)
    c.in-Ok.ensures c.split_at.ensures.back in
    let f = found-fits c.args.language c.loop-at.context c.args.text.now c.loop-at.at c.in-Ok.next c.loop-at.invariant.within x in
    left-fits c.args.text.now c.loop-at.at c.in-Ok.next.len c.split_at.result.1.now f.0 c.split_at.ensures.back

pub loop-at-smaller : goal.loop-at-smaller
loop-at-smaller c =
    let x = answer-at c.args.language c.loop-at.context c.args.text.now c.loop-at.at c.split_at.result.1.now (Ok c.in-Ok.next)
    c.in-Ok.ensures c.split_at.ensures.back in
    let f = found-fits c.args.language c.loop-at.context c.args.text.now c.loop-at.at c.in-Ok.next c.loop-at.invariant.within x in
    omega (arith, f.0, f.1)

pub loop-at-preserved : goal.loop-at-preserved
loop-at-preserved c =
    let x = answer-at c.args.language c.loop-at.context c.args.text.now c.loop-at.at c.split_at.result.1.now (Ok c.in-Ok.next)
    c.in-Ok.ensures c.split_at.ensures.back in
    let f = found-fits c.args.language c.loop-at.context c.args.text.now c.loop-at.at c.in-Ok.next c.loop-at.invariant.within x in
    record {
      within = f.0;
      small = c.loop-at.invariant.small;
      cut = stepped c.args.language c.args.file c.args.text.now c.loop-at.at c.loop-at.context c.loop-at.tokens.items c.in-Ok.next
          c.behind-context.result
          c.split_at-in-loop-at.result.0.now c.split_at.result.1.now c.push_token.new.tokens.items c.loop-at.invariant.cut x
          c.behind-context.ensures
          c.split_at-in-loop-at.ensures.front c.split_at.ensures.back c.in_ok-push_token.ensures.pushed;
    }
