-- Limits that suffice: new lines are few, and each is short.
use Rattle.std.proofs.Common.{◌≡◌, ℕ, zero, suc, ◌+◌, ◌*◌, ◌^◌, ◌<◌, ◌≤◌, List, [], ◌∷◌, ◌++◌, length, map, subst, ◌∙◌, arith, Some}
use Rattle.std.specs.Prelude.{sum_by}
use Rattle.std.proofs.lemmas.List.Sums.{sum_by-cons, sum_by_push}
use Rattle.std.proofs.lemmas.Option.{slice_get_within}
use Rattle.pv_cnf.specs.Clause.{IsClause, AreClauses}
use Rattle.pv_log.specs.declared.line.Line.{Line}
use Rattle.pv_log.specs.Propagation.{named, LeadsToFalse}
use Rattle.pv_log.specs.Follows.{Follows as FollowsLog, EachFollows}
use Rattle.pv_log.specs.Newness.{FollowsNew, NoneEmpty}
use Rattle.pv_log.proofs.ForCallers.{new-lines-few, few-lits, few-hints, slice_get-left}
use Rattle.pv_solver.specs.Costs.{line_cost, words_of}
use Rattle.pv_solver.specs.Answers.{Problem, HasSpentLemmas, HasSpentRegion}
use Rattle.pv_solver.proofs.Lines.{lemmas-push}

pub few-lemmas : (p : Problem) (lines : List Line) → HasSpentLemmas p lines → p.lemmas < 3 ^ p.variables
few-lemmas p lines h =
    subst (λ (n : ℕ). n < 3 ^ p.variables) h.all
    (new-lines-few p.variables p.clauses lines h.spent.lemmas.each h.spent.lemmas.none_empty)

-- ---- each line is short

more-clauses : (v : ℕ) (clauses : List (List ℕ)) (lits : List ℕ) → AreClauses v clauses → IsClause v lits → AreClauses v (clauses ++ lits ∷ [])
more-clauses v [] lits all one = (one, tt)
more-clauses v (c ∷ clauses) lits all one = (all.0, more-clauses v clauses lits all.1 one)

line-clause : (v : ℕ) (clauses : List (List ℕ)) (line : Line) → FollowsLog v clauses line → 0 < length line.lits → IsClause v line.lits
line-clause v clauses line f some = record { inside = f.inside; distinct = f.distinct; nonempty = some }

short : (v : ℕ) (clauses : List (List ℕ)) (line : Line) → AreClauses v clauses → FollowsLog v clauses line → line_cost line ≤ 2 * v + 5
short v clauses line all f =
    let lits = few-lits v clauses line f in let hints = few-hints v clauses line all f in omega (arith, lits, hints)

-- the words of so many short lines
costs-most : (v : ℕ) (clauses : List (List ℕ)) (lines : List Line) → AreClauses v clauses → EachFollows (FollowsNew v) clauses lines
    → NoneEmpty lines → sum_by line_cost lines ≤ length lines * (2 * v + 5)
costs-most v clauses [] all each some = omega arith
costs-most v clauses (line ∷ lines) all each some =
    let one = short v clauses line all each.0.follows in
    let rest = costs-most v (clauses ++ line.lits ∷ []) lines
    (more-clauses v clauses line.lits all (line-clause v clauses line each.0.follows some.0)) each.1 some.1 in
    add-one (2 * v + 5) (length lines) (line_cost line) (sum_by line_cost lines) (sum_by line_cost (line ∷ lines)) one rest
    (sum_by-cons line_cost line lines)
  where
    add-one : (c n x y z : ℕ) → x ≤ c → y ≤ n * c → z ≡ x + y → z ≤ suc n * c
    add-one c n x y z one rest e = omega (arith, one, rest, e)

times-most : (c m n : ℕ) → m ≤ n → m * c ≤ n * c
times-most c zero n le = omega arith
times-most c (suc m) zero le = absurd (omega (arith, le))
times-most c (suc m) (suc n) le = let rest = times-most c m n (omega (arith, le)) in omega (arith, rest)

pub few-words : (p : Problem) (lines : List Line) (next : Line) (need : ℕ) → AreClauses p.variables p.clauses → HasSpentRegion p lines next need
    → p.words < words_of p.variables p.clauses + 3 ^ p.variables * (2 * p.variables + 5)
few-words p lines next need valid h =
    let c = 2 * p.variables + 5 in
    let more = lemmas-push p.variables p.clauses lines next h.spent.lemmas h.next_is in
    let few = new-lines-few p.variables p.clauses (lines ++ next ∷ []) more.each more.none_empty in
    let costs = costs-most p.variables p.clauses (lines ++ next ∷ []) valid more.each more.none_empty in
    let most = times-most c (length (lines ++ next ∷ [])) (3 ^ p.variables) (omega (arith, few)) in
    let sum = sum_by_push line_cost lines next in
    omega (arith, h.past, h.sum, costs, most, sum)

-- ---- where the clauses alone are made false

named-more : (clauses more : List (List ℕ)) (id : ℕ) (clause : List ℕ) → named clauses id ≡ Some clause → named (clauses ++ more) id ≡ Some clause
named-more clauses more zero clause e = absurd cc
named-more clauses more (suc n) clause e = slice_get-left clauses more n (slice_get_within clauses n clause e) ∙ e

leads-more : (clauses more : List (List ℕ)) (hints falses : List ℕ) → LeadsToFalse clauses falses hints → LeadsToFalse (clauses ++ more) falses hints
leads-more clauses more [] falses l = l
leads-more clauses more (h ∷ []) falses (clause, at, is) = (clause, named-more clauses more h clause at, is)
leads-more clauses more (h ∷ next ∷ hints) falses (clause, lit, at, unit, rest) =
    (clause, lit, named-more clauses more h clause at, unit, leads-more clauses more (next ∷ hints) _ rest)

pub false-lemmas : (p : Problem) (lines : List Line) (hints : List ℕ) → LeadsToFalse p.clauses [] hints → HasSpentLemmas p lines → ⊥
false-lemmas p lines hints l h =
    h.spent.none_false hints (leads-more p.clauses (map (λ (line : Line). line.lits) lines) hints [] l)

pub false-words : (p : Problem) (lines : List Line) (next : Line) (need : ℕ) (hints : List ℕ) → LeadsToFalse p.clauses [] hints
    → HasSpentRegion p lines next need → ⊥
false-words p lines next need hints l h =
    h.spent.none_false hints (leads-more p.clauses (map (λ (line : Line). line.lits) lines) hints [] l)
