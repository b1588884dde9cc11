use Rattle.std.proofs.Common.{◌≡◌, ℕ, ◌+◌, Bool, length, drop, None, Err, ap, sym, subst, ◌∙◌, arith}
use Rattle.std.specs.Prelude.{slice_get}
use Rattle.std.proofs.lemmas.Option.{slice_get_within}
use Rattle.pv_valid.specs.declared.fault.Kind.TheVariants as kind
use Rattle.pv_valid.specs.Cases.{Case}
use Rattle.pv_valid.specs.Claims.{is_query}
use Rattle.pv_valid.specs.Walk.{refuting_fault, proof_fault, behind_proof, proofs_fault}
use Rattle.pv_judge.specs.Steps.{Finds, queries_of}
use Rattle.pv_judge.proofs.Finds.{finds-at, finds-first, behind-none, expected-asked, one-more, one-step, one-missing, none-left}
use Rattle.pv_judge.proofs.proofs.judge_proofs.Goals as goal

pub returns-in_default-clause-finds : goal.returns-in_default-clause-finds
returns-in_default-clause-finds g c =
    let case = g.J.Judged.case c.args.case.now in
    let qs = queries_of c.args.expected in
    let ps = c.args.proofs.now in
    finds-at (proofs_fault case qs c.args.first ps) c.fault_at.result c.loop-n.at kind.WrongQuery c.fault_at.ensures
    (sym c.loop-n.invariant.left
    ∙ one-more case qs ps c.loop-n.n c.loop-n.at c.index-proofs-n.result (omega arith) c.index-proofs-n.is (sym c.query.ensures ∙ c.in_default.is))

pub judge_proof-requires-clause-asked : goal.judge_proof-requires-clause-asked
judge_proof-requires-clause-asked g c = λ e.
    expected-asked (queries_of c.args.expected) c.loop-n.n c.in-Some.query c.index-proofs-n.result.query c.requires.asked
    (sym c.query.ensures ∙ c.in-Some.is) (sym c.is_query-is_expected.ensures ∙ e)

pub returns-in-Err-clause-finds : goal.returns-in-Err-clause-finds
returns-in-Err-clause-finds g c =
    let case = g.J.Judged.case c.args.case.now in
    let qs = queries_of c.args.expected in
    let ps = c.args.proofs.now in
    let n = c.loop-n.n in
    let at = c.loop-n.at in
    let p = c.index-proofs-n.result in
    let q = c.in-Some.query in
    let here = subst (λ (b : Bool). Finds (proof_fault (g.J.Judged.case c.loop-n.case) b refuting_fault at p) (Err c.in-Err.fault))
    c.is_query-is_expected.ensures c.in-Err.ensures.finds in
    let told = subst (λ (k : Case). Finds (proof_fault k (is_query q p.query) refuting_fault at p) (Err c.in-Err.fault)) c.loop-n.invariant.kept here in
    let one = proof_fault case (is_query q p.query) refuting_fault at p in
    let rest = proofs_fault case (drop (n + 1) qs) (behind_proof at p) (drop (n + 1) ps) in
    subst (λ o. Finds o (Err c.in-Err.fault))
    (sym (one-step case qs ps n at p q (omega arith) c.index-proofs-n.is (sym c.query.ensures ∙ c.in-Some.is)) ∙ c.loop-n.invariant.left)
    (finds-first one rest c.in-Err.fault told)

pub loop-n-preserved : goal.loop-n-preserved
loop-n-preserved g c =
    let case = g.J.Judged.case c.args.case.now in
    let qs = queries_of c.args.expected in
    let ps = c.args.proofs.now in
    let n = c.loop-n.n in
    let at = c.loop-n.at in
    let p = c.index-proofs-n.result in
    let q = c.in-Some.query in
    let some = sym c.query.ensures ∙ c.in-Some.is in
    let less = slice_get_within qs n q some in
    let here = subst (λ (b : Bool). proof_fault (g.J.Judged.case c.loop-n.case) b refuting_fault at p ≡ None) c.is_query-is_expected.ensures
    c.in_default-judge_proof.ensures.finds in
    let none = subst (λ (k : Case). proof_fault k (is_query q p.query) refuting_fault at p ≡ None) c.loop-n.invariant.kept here in
    let one = proof_fault case (is_query q p.query) refuting_fault at p in
    let rest = proofs_fault case (drop (n + 1) qs) (behind_proof at p) (drop (n + 1) ps) in
    record {
      kept = c.judge_proof.ensures.kept ∙ c.loop-n.invariant.kept;
      few = omega (arith, less);
      line = (let most = c.behind-at.ensures.bounded in let so = c.loop-n.invariant.line in omega (arith, most, so));
      left = ap (λ (k : ℕ). proofs_fault case (drop (n + 1) qs) k (drop (n + 1) ps)) c.behind-at.ensures.behind
          ∙ (sym (behind-none one rest none)
          ∙ (sym (one-step case qs ps n at p q (omega arith) c.index-proofs-n.is some) ∙ c.loop-n.invariant.left));
    }

pub returns-in-Some-query-clause-finds : goal.returns-in-Some-query-clause-finds
returns-in-Some-query-clause-finds g c =
    let case = g.J.Judged.case c.args.case.now in
    let qs = queries_of c.args.expected in
    let ps = c.args.proofs.now in
    let n = c.loop-n.n in
    let is : n ≡ length ps = omega arith in
    let some = ap (slice_get qs) is ∙ (sym c.query-2.ensures ∙ c.in-Some-query.is) in
    finds-at (proofs_fault case qs c.args.first ps) c.fault_at-in-Some-query.result c.loop-n.at kind.WrongQuery c.fault_at-in-Some-query.ensures
    (sym c.loop-n.invariant.left ∙ one-missing case qs ps n c.loop-n.at c.in-Some-query.field-0 (omega (arith, is)) some)

pub returns-in-None-clause-finds : goal.returns-in-None-clause-finds
returns-in-None-clause-finds g c =
    let case = g.J.Judged.case c.args.case.now in
    let qs = queries_of c.args.expected in
    let ps = c.args.proofs.now in
    let n = c.loop-n.n in
    let is : n ≡ length ps = omega arith in
    let none = ap (slice_get qs) is ∙ (sym c.query-2.ensures ∙ c.in-None.is) in
    sym c.loop-n.invariant.left ∙ none-left case qs ps n c.loop-n.at (omega (arith, is)) none
