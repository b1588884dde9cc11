use Rattle.pv_rules_code.proofs.Meeting.{near_word, met_word}
use Rattle.pv_rules_code.proofs.given.meet_word.Goals as goal

pub returns-in_ok-meet-in-Some-clause-near : goal.returns-in_ok-meet-in-Some-clause-near
returns-in_ok-meet-in-Some-clause-near c =
    λ words h. near_word c.args.table.now words (c.in-Some.name, c.in-Some.place) c.args.arg.now.name c.args.nearest c.where_is-found.result
    c.nearer_of.result c.has.result c.in-Some.is c.has.ensures c.where_is-found.ensures c.nearer_of.ensures h

pub returns-in_ok-meet-in-Some-clause-met : goal.returns-in_ok-meet-in-Some-clause-met
returns-in_ok-meet-in-Some-clause-met c =
    λ words h. met_word c.args.table.now c.meet.new.table words (c.in-Some.name, c.in-Some.place) c.args.arg.now.name c.in-Some.is
    c.in_ok-meet-in-Some.ensures h
