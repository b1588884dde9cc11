use Rattle.std.proofs.Common.{◌∙◌, arith}
use Rattle.std.specs.Prelude.{nat_lt}
use Rattle.pv_kind.proofs.Rounds.{fewer}
use Rattle.pv_kind.proofs.Going.{once_more}
use Rattle.pv_kind.proofs.Widening.{within, put_back, reply_of}
use Rattle.pv_kind.proofs.ask.ask.Goals as goal

pub rounds-smaller-in-PutBack : goal.rounds-smaller-in-PutBack
rounds-smaller-in-PutBack g c =
    let f = g.O.Oracle.fixed c.rounds.oracle in
    let s = g.O.Oracle.stage c.rounds.oracle in
    let t = g.O.Oracle.stage c.ask_once.new.oracle in
    let h = put_back (g.O.Source.Machine.machine (g.O.Oracle.source f)) (g.O.Oracle.encoding f) (within c.args.limits c.rounds.words)
    (nat_lt c.rounds.words c.args.limits.words) c.args.q s t c.rounds.proofs c.ask_once.new.proofs c.in_ok-reply.field-0
    c.in-PutBack.is c.in_ok-reply.ensures.goes_on in
    omega (arith, fewer (g.O.Oracle.encoding f) c.args.q s t h.0)

pub rounds-preserved-in-PutBack : goal.rounds-preserved-in-PutBack
rounds-preserved-in-PutBack g c =
    let f = g.O.Oracle.fixed c.rounds.oracle in
    let s = g.O.Oracle.stage c.rounds.oracle in
    let t = g.O.Oracle.stage c.ask_once.new.oracle in
    let h = put_back (g.O.Source.Machine.machine (g.O.Oracle.source f)) (g.O.Oracle.encoding f) (within c.args.limits c.rounds.words)
    (nat_lt c.rounds.words c.args.limits.words) c.args.q s t c.rounds.proofs c.ask_once.new.proofs c.in_ok-reply.field-0
    c.in-PutBack.is c.in_ok-reply.ensures.goes_on in
    record {
      fixed = c.in_ok-reply.ensures.fixed_kept ∙ c.rounds.invariant.fixed;
      refined = once_more g.O.Oracle.Fixed (λ x. g.O.Oracle.encoding x) (g.O.Oracle.fixed c.args.oracle.now) f c.rounds.invariant.fixed
          (g.O.Oracle.stage c.args.oracle.now) s t c.args.q c.rounds.invariant.refined h.0;
      proofs = h.1 ∙ c.rounds.invariant.proofs;
      words = c.rounds.invariant.words;
    }

pub returns-in-Replied-clause-replies : goal.returns-in-Replied-clause-replies
returns-in-Replied-clause-replies g c =
    reply_of g.O.Oracle.Fixed (λ x. g.O.Source.Machine.machine (g.O.Oracle.source x)) (λ x. g.O.Oracle.encoding x)
    (g.O.Oracle.fixed c.args.oracle.now) (g.O.Oracle.fixed c.rounds.oracle) c.rounds.invariant.fixed c.args.limits c.rounds.words
    c.rounds.invariant.words c.args.q (g.O.Oracle.stage c.rounds.oracle) (g.O.Oracle.stage c.ask_once.new.oracle) c.args.proofs.now
    c.rounds.proofs c.ask_once.new.proofs c.rounds.invariant.proofs c.in_ok-reply.field-0 c.in-Replied.reply c.in-Replied.is
    c.in_ok-reply.ensures.goes_on
