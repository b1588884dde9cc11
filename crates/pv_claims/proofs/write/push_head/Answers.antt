use Rattle.pv_claims.proofs.HeadLaws.{head-written}
use Rattle.pv_claims.proofs.write.push_head.Goals as goal

pub returns-clause-text : goal.returns-clause-text
returns-clause-text c = head-written c.args.text.now.items c.extend_from_slice.new.self.items c.push_claim.new.text.items c.push.new.self.items c.args.claim c.in_ok-extend_from_slice.ensures.items c.in_ok-push_claim.ensures.text c.in_ok-push.ensures.items
