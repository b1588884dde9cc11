use Rattle.std.proofs.Common.{◌≡◌, suc, drop, rules, arith, sym, subst}
use Rattle.pv_stl_run.specs.declared.instr.Goal.TheVariants.{Ahead, Back}
use Rattle.pv_stl_run.specs.declared.steps.Next.TheVariants as next
use Rattle.pv_stl_run.specs.Going.{entered_of, resumed, Went, left_of}
use Rattle.pv_stl_run.proofs.TurnLaws.{falls_on, falls_further}
use Rattle.pv_stl_run.proofs.Moves.{nested_on}
use Rattle.pv_stl_run.proofs.Goes.{goes_ahead, goes_back_to, goes_nowhere, fell_more}
use Rattle.pv_stl_run.proofs.go.Going.follows.Goals as goal

pub returns-in-Onward-clause-most : goal.returns-in-Onward-clause-most
returns-in-Onward-clause-most c = λ lt.
    fell_more c.goes_on.result _ _ _ c.goes_on.ensures.most
    (omega (arith, falls_on c.args.bound c.args.code.now c.args.self.now.at lt))

pub returns-then-at-self-clause-same : goal.returns-then-at-self-clause-same
returns-then-at-self-clause-same c = λ source calls act all i w b h nested room goes.
    let is : c.args.next ≡ next.To (Ahead c.in-To-Ahead.at) = search rules in
    subst (λ x. Went c.goes_to.result (left_of source calls act all c.goes_to.new.turns c.goes_to.new.self.entered c.goes_to.new.self.at w) w.frame
    (resumed source calls act all (entered_of c.args.turns.now c.args.self.now.entered) x))
    (sym (goes_ahead source calls act all c.args.self.now.at c.in-To-Ahead.at i c.args.next w is goes))
    (c.goes_to.ensures.same source calls act all w b h
    (nested_on c.args.code.now c.args.turns.now c.args.self.now.entered (suc c.args.self.now.at) c.in-To-Ahead.at nested (omega arith)) room)

pub returns-then-at-self-clause-most : goal.returns-then-at-self-clause-most
returns-then-at-self-clause-most c = λ lt.
    fell_more c.goes_to.result _ _ _ c.goes_to.ensures.most
    (omega (arith, falls_further c.args.bound c.args.code.now c.args.self.now.at c.in-To-Ahead.at lt (omega arith)))

pub returns-then-at-self-clause-nested : goal.returns-then-at-self-clause-nested
returns-then-at-self-clause-nested c = λ nested.
    c.goes_to.ensures.nested
    (nested_on c.args.code.now c.args.turns.now c.args.self.now.entered (suc c.args.self.now.at) c.in-To-Ahead.at nested (omega arith))

pub returns-in-To-Back-clause-same : goal.returns-in-To-Back-clause-same
returns-in-To-Back-clause-same c = λ source calls act all i w b h nested room goes.
    let is : c.args.next ≡ next.To (Back c.in-To-Back.at) = search rules in
    let r = goes_back_to source calls act all c.args.self.now.at c.in-To-Back.at i c.args.next w is goes in
    subst (λ x. Went c.goes_back.result (left_of source calls act all c.goes_back.new.turns c.goes_back.new.self.entered c.goes_back.new.self.at w) w.frame
    (resumed source calls act all (entered_of c.args.turns.now c.args.self.now.entered) x)) (sym r.2)
    (c.goes_back.ensures.same source calls act all c.args.self.now.at (suc c.args.self.now.at) r.0.0.key w h nested r.1)

pub returns-in-To-Back-clause-most : goal.returns-in-To-Back-clause-most
returns-in-To-Back-clause-most c = λ lt.
    fell_more c.goes_back.result _ _ _ (c.goes_back.ensures.most c.args.bound)
    (omega (arith, falls_on c.args.bound c.args.code.now c.args.self.now.at lt))

pub returns-in-To-Back-clause-nested : goal.returns-in-To-Back-clause-nested
returns-in-To-Back-clause-nested c = λ nested. c.goes_back.ensures.nested (suc c.args.self.now.at) nested

pub returns-in-Left-clause-same : goal.returns-in-Left-clause-same
returns-in-Left-clause-same c = λ source calls act all i w b h nested room goes.
    goes_nowhere source calls act all (entered_of c.args.turns.now c.args.self.now.entered) (drop (suc c.args.self.now.at) all) i c.args.next w c.in-Left.is
