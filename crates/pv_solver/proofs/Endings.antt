-- How a search begins, how it ends, and what is found.
use Rattle.std.proofs.Common.{◌≡◌, ℕ, ◌+◌, ◌*◌, ◌<◌, ◌≤◌, List, [], length, refl, sym, ap, subst, ◌∙◌, arith, Some, Result, Err}
use Rattle.std.specs.Prelude.{replicate, vec_capacity}
use Rattle.pv_cnf.specs.Clause.{AreClauses, Cnf}
use Rattle.pv_log.specs.declared.line.Line.{Line}
use Rattle.pv_region.specs.Stored.{Stored, Hinted, used_of, count_of, all_lits}
use Rattle.pv_watch.specs.Propagating.{Propagating}
use Rattle.pv_solver.specs.declared.answer.Answer.{Answer}
use Rattle.pv_solver.specs.declared.search.Search.{Search}
use Rattle.pv_solver.specs.declared.search.End.{End}
use Rattle.pv_solver.specs.declared.search.End.TheVariants.{Settled, Refuted, NoLemma, NoRoom}
use Rattle.pv_solver.specs.Lemmas.{AreLemmas}
use Rattle.pv_solver.specs.Logged.{lines_from, lines_in, log_as, values_to, values_as}
use Rattle.pv_solver.specs.Answers.{Problem, Says, truth_of}
use Rattle.pv_learn.specs.declared.draft.Draft.{Draft}
use Rattle.pv_learn.specs.Learning.{HasRoom, line_of}
use Rattle.pv_solver.specs.States.{problem_in, line_in, IsOf, IsFresh, IsUnderWay, HasEnded, answer_as, IsKept}
use Rattle.pv_solver.proofs.Steps.{satisfied}
use Rattle.pv_solver.proofs.Visits.{values-size, values-at}

-- ---- a fresh search

no-lines : (s : Stored) → s.lemmas ≡ [] → lines_in s ≡ []
no-lines s none = ap (lines_from (length s.clauses + 1)) none

pub begun : (s : Search) → IsFresh s → IsUnderWay (problem_in s) s
begun s f = record {
  is_of = record { variables = refl; clauses = refl; words = refl; lemmas = refl };
  path = f.variables;
  checker = f.checker;
  room = f.room;
  lines = subst (AreLemmas s.propagator.stored.variables s.propagator.stored.clauses) (sym (no-lines s.propagator.stored f.lemmas))
      (record { each = tt; none_empty = tt });
  few = (let none : length s.propagator.stored.lemmas ≡ 0 = ap (λ (ls : List Hinted). length ls) f.lemmas in omega (arith, none));
}

-- what was made
pub small-made : (s : Search) (variables words lemmas : ℕ) → problem_in s ≡ record { variables = variables; clauses = []; words = words; lemmas = lemmas }
    → variables < 2147483648 → s.propagator.stored.variables < 2147483648
small-made s variables words lemmas is small = subst (λ (n : ℕ). n < 2147483648) (sym (ap (λ (p : Problem). p.variables) is)) small

pub blank-made : (s : Search) (variables words lemmas : ℕ) → problem_in s ≡ record { variables = variables; clauses = []; words = words; lemmas = lemmas }
    → (f : Cnf) → f ≡ record { variables = variables; clauses = [] } → f.variables ≡ s.propagator.stored.variables
blank-made s variables words lemmas is f blank = ap (λ (c : Cnf). c.variables) blank ∙ sym (ap (λ (p : Problem). p.variables) is)

pub fresh-made : (s : Search) (variables words lemmas : ℕ)
    → s.propagator.stored ≡ record { variables = variables; capacity = words; clauses = []; lemmas = []; lists = replicate (2 * variables) [] }
    → s.propagator.path.falses ≡ [] → s.propagator.path.starts ≡ [] → s.propagator.stored.variables ≡ s.propagator.path.variables
    → s.checker ≡ s.propagator.path.variables → HasRoom s.propagator.path.variables (vec_capacity s.draft.lits) (vec_capacity s.draft.hints)
    → IsFresh s
fresh-made s variables words lemmas stored falses starts same checker room = record {
  lemmas = ap (λ (x : Stored). x.lemmas) stored;
  falses = falses;
  starts = starts;
  variables = sym same;
  checker = checker ∙ sym same;
  room = subst (λ (v : ℕ). HasRoom v (vec_capacity s.draft.lits) (vec_capacity s.draft.hints)) (sym same) room;
}

abbrev problem-with : ℕ → Stored → Problem
problem-with lemmas s = record { variables = s.variables; clauses = s.clauses; words = s.capacity; lemmas = lemmas }

pub problem-made : (s : Stored) (variables words lemmas : ℕ)
    → s ≡ record { variables = variables; capacity = words; clauses = []; lemmas = []; lists = replicate (2 * variables) [] }
    → ◌≡◌ {A = Problem} (record { variables = s.variables; clauses = s.clauses; words = s.capacity; lemmas = lemmas })
    (record { variables = variables; clauses = []; words = words; lemmas = lemmas })
problem-made s variables words lemmas stored = ap (problem-with lemmas) stored

-- the variables' words are there
pub words-made : (s : Stored) (variables words : ℕ)
    → s ≡ record { variables = variables; capacity = words; clauses = []; lemmas = []; lists = replicate (2 * variables) [] }
    → used_of s ≤ s.capacity → 2 * variables ≤ words
words-made s variables words is fits =
    let used : used_of s ≡ 2 * variables + 0 + 0 = ap used_of is in let all = ap (λ (x : Stored). x.capacity) is in omega (arith, used, all, fits)

pub variables-made : (s : Stored) (variables words : ℕ)
    → s ≡ record { variables = variables; capacity = words; clauses = []; lemmas = []; lists = replicate (2 * variables) [] }
    → (count : ℕ) → count ≡ s.variables → count < 2147483648 → variables < 2147483648
variables-made s variables words is count same small = (let all = ap (λ (x : Stored). x.variables) is in omega (arith, all, same, small))

-- a fault in a call's answer is the same in another's
err-one : {A E : Type 0} (e f : E) → ◌≡◌ {A = Result A E} (Err e) (Err f) → e ≡ f
err-one e f p = cc

pub err-as : {A B E : Type 0} (e f : E) → ◌≡◌ {A = Result A E} (Err e) (Err f) → ◌≡◌ {A = Result B E} (Err e) (Err f)
err-as {E = E} e f p = ap (λ (x : E). Err x) (err-one e f p)

-- ---- an end

-- a problem by its parts
same-problem : (p q : Problem) → p.variables ≡ q.variables → p.clauses ≡ q.clauses → p.words ≡ q.words → p.lemmas ≡ q.lemmas → p ≡ q
same-problem p q v c w l =
    ap (λ (x : ℕ). record { variables = x; clauses = p.clauses; words = p.words; lemmas = p.lemmas }) v
    ∙ ap (λ (x : List (List ℕ)). record { variables = q.variables; clauses = x; words = p.words; lemmas = p.lemmas }) c
    ∙ ap (λ (x : ℕ). record { variables = q.variables; clauses = q.clauses; words = x; lemmas = p.lemmas }) w
    ∙ ap (λ (x : ℕ). record { variables = q.variables; clauses = q.clauses; words = q.words; lemmas = x }) l

pub problem-kept : (p : Problem) (s : Search) → IsOf p s → problem_in s ≡ p
problem-kept p s is = same-problem (problem_in s) p is.variables is.clauses is.words is.lemmas

-- what the answer of an end says, with the line at hand as the last one
says-end : (p : Problem) (s : Search) (end : End) → HasEnded p s end → AreClauses s.propagator.stored.variables (all_lits s.propagator.stored)
    → Says p (log_as s.propagator.stored (line_in s) (answer_as end)) (values_as s.propagator.path (answer_as end)) (line_in s) (answer_as end)
says-end p s Settled h valid = (
  satisfied p s (truth_of (values_to s.propagator.path.falses (s.propagator.path.variables + 1))) h.says.searching h.says.quiet h.says.set valid
      (λ x le. values-at s.propagator.path.falses (s.propagator.path.variables + 1) x (omega (arith, le))),
  values-size s.propagator.path.falses (s.propagator.path.variables + 1) ∙ ap (λ (n : ℕ). n + 1) h.says.searching.under_way.path,
)
says-end p s Refuted h valid = h.says
says-end p s NoLemma h valid = h.says
says-end p s (NoRoom need) h valid = h.says

-- the solver keeps it, once the line at hand is its last one
pub kept-end : (p : Problem) (s t : Search) (last : Line) (end : End) → HasEnded p s end
    → AreClauses s.propagator.stored.variables (all_lits s.propagator.stored) → last ≡ line_in s → t.propagator ≡ s.propagator → t.lemmas ≡ s.lemmas
    → IsKept t last (Some (answer_as end))
kept-end p s t last end h valid is propagator lemmas =
    let a = answer_as end in
    let here = subst (λ (q : Problem). Says q (log_as s.propagator.stored (line_in s) a) (values_as s.propagator.path a) (line_in s) a)
    (sym (problem-kept p s h.is_of)) (says-end p s end h valid) in
    subst (λ (n : ℕ). Says (record {
      variables = t.propagator.stored.variables;
      clauses = t.propagator.stored.clauses;
      words = t.propagator.stored.capacity;
      lemmas = n;
    }) (log_as t.propagator.stored last a) (values_as t.propagator.path a) last a) (sym lemmas)
    (subst (λ (x : Propagating). Says (record {
      variables = x.stored.variables;
      clauses = x.stored.clauses;
      words = x.stored.capacity;
      lemmas = s.lemmas;
    }) (log_as x.stored last a) (values_as x.path a) last a) (sym propagator)
    (subst (λ (line : Line). Says (problem_in s) (log_as s.propagator.stored line a) (values_as s.propagator.path a) line a) (sym is) here))

pub problem-end : (p : Problem) (s t : Search) (end : End) → HasEnded p s end → t.propagator ≡ s.propagator → t.lemmas ≡ s.lemmas → problem_in t ≡ p
problem-end p s t end h propagator lemmas =
    ap (λ (n : ℕ). record {
      variables = t.propagator.stored.variables;
      clauses = t.propagator.stored.clauses;
      words = t.propagator.stored.capacity;
      lemmas = n;
    }) lemmas
    ∙ ap (λ (x : Propagating). record { variables = x.stored.variables; clauses = x.stored.clauses; words = x.stored.capacity; lemmas = s.lemmas }) propagator
    ∙ problem-kept p s h.is_of

-- ---- once it has answered

abbrev pub with_draft : Search → Draft → Search
with_draft s d = record s { draft = d }

pub problem-solved : (old s : Search) (d : Draft) (end : End) → HasEnded (problem_in old) s end → problem_in (with_draft s d) ≡ problem_in old
problem-solved old s d end h = problem-end (problem_in old) s (with_draft s d) end h refl refl

pub kept-solved : (old s : Search) (d : Draft) (end : End) (id : ℕ) (line : Line) (a : Answer) → HasEnded (problem_in old) s end
    → AreClauses s.propagator.stored.variables (all_lits s.propagator.stored) → id ≡ count_of s.propagator.stored + 1
    → line ≡ line_of id s.draft.lits.items s.draft.hints.items → a ≡ answer_as end → IsKept (with_draft s d) line (Some a)
kept-solved old s d end id line a h valid next is answer =
    subst (λ (b : Answer). IsKept (with_draft s d) line (Some b)) (sym answer)
    (kept-end (problem_in old) s (with_draft s d) line end h valid
    (is ∙ ap (λ (n : ℕ). line_of n s.draft.lits.items s.draft.hints.items) next) refl refl)
