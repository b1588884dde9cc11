use Rattle.std.proofs.Common.{◌≡◌, ℕ, ◌+◌, ◌*◌, suc, List, Option, Some, ap, sym, subst, ◌∙◌}
use Rattle.pv_cnf.specs.Clause.{Cnf}
use Rattle.pv_log.specs.declared.line.Line.{Line}
use Rattle.pv_valid.specs.declared.fault.Kind.{Kind}
use Rattle.pv_valid.specs.declared.fault.Kind.TheVariants as kind
use Rattle.pv_valid.specs.declared.fault.Fault.TheVariants.{Line as FaultLine}
use Rattle.pv_valid.specs.Validity.{with_next, first_sum_past}
use Rattle.pv_valid.specs.Walk.{lines_fault, wrong_lemma, need_fault, is_same}
use Rattle.pv_judge.specs.Steps.{placed, is_in_log}
use Rattle.pv_judge.proofs.Finds.{finds-at, finds-as}
use Rattle.pv_judge.proofs.Spending.{spend-within, spend-sum, spend-next}
use Rattle.pv_judge.proofs.lemmas.spend_words.Goals as goal

Told : Cnf → List Line → Option (ℕ × Kind) → Type 0
Told f lines w = (at : ℕ) → lines_fault (wrong_lemma f.variables) f.clauses (suc at) lines ≡ placed at w

pub returns-then-is_in_log : goal.returns-then-is_in_log
unfolding Told
returns-then-is_in_log c =
    let f = c.args.formula.now in
    let log = c.args.log.now in
    let next = c.args.next.now in
    let w = c.in_ok-wrong.wrong in
    let told : Told f (with_next log next) w = subst (λ (ls : List Line). Told f ls w) c.in-Some.ensures.some c.in_ok-wrong.ensures.wrong in
    let within = ap (is_in_log w) (sym c.lines-own.ensures) ∙ (sym c.is_in_log.ensures ∙ c.if-is_in_log.true) in
    finds-as (need_fault c.args.limit c.args.need next f c.args.at log) (placed c.args.at w) c.placed.result
    (spend-within f log c.args.at c.args.limit c.args.need next w within (told c.args.at)) c.placed.ensures

pub returns-then-not-is_same : goal.returns-then-not-is_same
unfolding Told
returns-then-not-is_same c =
    let f = c.args.formula.now in
    let log = c.args.log.now in
    let next = c.args.next.now in
    let w = c.in_ok-wrong.wrong in
    let told : Told f (with_next log next) w = subst (λ (ls : List Line). Told f ls w) c.in-Some.ensures.some c.in_ok-wrong.ensures.wrong in
    let out = ap (is_in_log w) (sym c.lines-own.ensures) ∙ (sym c.is_in_log.ensures ∙ c.if-is_in_log.false) in
    let sum : c.first_sum_past.result ≡ first_sum_past c.args.limit f (with_next log next) (2 * f.variables) =
    c.first_sum_past.ensures ∙ ap (λ (ls : List Line). first_sum_past c.args.limit f ls (2 * f.variables)) c.in-Some.ensures.some in
    let differs = ap (λ (o : Option ℕ). is_same o c.args.need) (sym sum) ∙ (sym c.is_same.ensures ∙ c.if-not-is_same.true) in
    finds-at (need_fault c.args.limit c.args.need next f c.args.at log) c.fault_at.result (c.args.at + 1 + c.lines-own.result) kind.WrongNeed
    c.fault_at.ensures
    (spend-sum f log c.args.at c.args.limit c.args.need next w out (told c.args.at) differs
    ∙ ap (λ (n : ℕ). Some (FaultLine (c.args.at + 1 + n) kind.WrongNeed)) (sym c.lines-own.ensures))

pub returns : goal.returns
unfolding Told
returns c =
    let f = c.args.formula.now in
    let log = c.args.log.now in
    let next = c.args.next.now in
    let w = c.in_ok-wrong.wrong in
    let told : Told f (with_next log next) w = subst (λ (ls : List Line). Told f ls w) c.in-Some.ensures.some c.in_ok-wrong.ensures.wrong in
    let out = ap (is_in_log w) (sym c.lines-own.ensures) ∙ (sym c.is_in_log.ensures ∙ c.if-is_in_log.false) in
    let sum : c.first_sum_past.result ≡ first_sum_past c.args.limit f (with_next log next) (2 * f.variables) =
    c.first_sum_past.ensures ∙ ap (λ (ls : List Line). first_sum_past c.args.limit f ls (2 * f.variables)) c.in-Some.ensures.some in
    let same = ap (λ (o : Option ℕ). is_same o c.args.need) (sym sum) ∙ (sym c.is_same.ensures ∙ c.if-not-is_same.false) in
    finds-as (need_fault c.args.limit c.args.need next f c.args.at log) (placed (c.args.at + 1) w) c.placed-2.result
    (spend-next f log c.args.at c.args.limit c.args.need next w out told same) c.placed-2.ensures

pub returns-in_default : goal.returns-in_default
returns-in_default c = c.spend_full.ensures c.args.limit c.args.need c.args.next.now
