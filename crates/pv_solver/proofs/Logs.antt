-- The log as it lies in a region.
use Rattle.std.proofs.Common.{◌≡◌, ℕ, zero, suc, ◌+◌, ◌-◌, ◌*◌, ◌<◌, ◌≤◌, false, All, List, [], ◌∷◌, ◌++◌, length, map, refl, sym, ap, ◌∙◌, arith, Option, Some, None, slice_get}
use Rattle.std.specs.Prelude.{sum_by, IsSome}
use Rattle.std.specs.List.{AllByRecursion}
use Rattle.std.proofs.lemmas.List.{length_push, length-map, length-append}
use Rattle.std.proofs.lemmas.List.Sums.{sum_by-cons}
use Rattle.std.proofs.lemmas.Bool.{or_parts}
use Rattle.std.proofs.lemmas.List.Elements.{All-nil, All-cons}
use Rattle.pv_cnf.specs.Literal.{variable_of, is_outside}
use Rattle.pv_cnf.specs.Clause.{has_outside, IsClause, AreClauses}
use Rattle.pv_log.specs.declared.line.Line.{Line}
use Rattle.pv_log.proofs.ForCallers.{inside-bounds, slice_get-left}
use Rattle.pv_region.specs.Stored.{Stored, Hinted, lemma_cost, clause_cost, used_of, count_of, all_lits, all_hints}
use Rattle.pv_watch.specs.Turns.{SameText}
use Rattle.pv_solver.specs.declared.answer.Answer.{Answer}
use Rattle.pv_solver.specs.declared.answer.Answer.TheVariants.{Sat, Unsat, SpentLemmas, SpentRegion}
use Rattle.pv_solver.specs.declared.search.Search.{Search}
use Rattle.pv_solver.specs.Costs.{line_cost, words_of, words_with}
use Rattle.pv_solver.specs.Quiet.{with_lines}
use Rattle.pv_solver.specs.Logged.{lines_from, lines_in, extra_as}
use Rattle.pv_solver.specs.Answers.{lines_of, next_of}
use Rattle.pv_learn.specs.Learning.{line_of}
use Rattle.pv_solver.specs.States.{outcome_in}

-- ---- lemmas as lines

pub lits-same : (id : ℕ) (hs : List Hinted) → map (λ (line : Line). line.lits) (lines_from id hs) ≡ map (λ (l : Hinted). l.lits) hs
lits-same id [] = refl
lits-same id (h ∷ hs) = ap (λ (xs : List (List ℕ)). h.lits ∷ xs) (lits-same (id + 1) hs)

pub hints-same : (id : ℕ) (hs : List Hinted) → map (λ (line : Line). line.hints) (lines_from id hs) ≡ map (λ (l : Hinted). l.hints) hs
hints-same id [] = refl
hints-same id (h ∷ hs) = ap (λ (xs : List (List ℕ)). h.hints ∷ xs) (hints-same (id + 1) hs)

pub size-same : (id : ℕ) (hs : List Hinted) → length (lines_from id hs) ≡ length hs
size-same id [] = refl
size-same id (h ∷ hs) = omega (arith, size-same (id + 1) hs)

costs-same : (id : ℕ) (hs : List Hinted) → sum_by line_cost (lines_from id hs) ≡ sum_by lemma_cost hs
costs-same id [] = refl
costs-same id (h ∷ hs) = omega (
  arith,
  costs-same (id + 1) hs,
  sum_by-cons line_cost (line_of id h.lits h.hints) (lines_from (id + 1) hs),
  sum_by-cons lemma_cost h hs,
)

id-at : (id : ℕ) (hs : List Hinted) (n : ℕ) → n < length hs → slice_get (map (λ (line : Line). line.id) (lines_from id hs)) n ≡ Some (id + n)
id-at id [] n lt = absurd (omega arith)
id-at id (h ∷ hs) zero lt = ap (λ (k : ℕ). Some k) (omega arith)
id-at id (h ∷ hs) (suc n) lt = id-at (id + 1) hs n (omega arith) ∙ ap (λ (k : ℕ). Some k) (omega arith)

-- one more lemma
from-push : (id : ℕ) (hs : List Hinted) (h : Hinted) → lines_from id (hs ++ h ∷ []) ≡ lines_from id hs ++ line_of (id + length hs) h.lits h.hints ∷ []
from-push id [] h = ap (λ (n : ℕ). line_of n h.lits h.hints ∷ []) (omega arith)
from-push id (x ∷ hs) h =
    let next : id + 1 + length hs ≡ id + suc (length hs) = omega arith in
    ap (λ (lines : List Line). line_of id x.lits x.hints ∷ lines) (from-push (id + 1) hs h
    ∙ ap (λ (n : ℕ). lines_from (id + 1) hs ++ line_of n h.lits h.hints ∷ []) next)

-- ---- the lines of a region

pub all-lines : (s : Stored) → with_lines s.clauses (lines_in s) ≡ all_lits s
all-lines s = ap (λ (cs : List (List ℕ)). s.clauses ++ cs) (lits-same (length s.clauses + 1) s.lemmas)

pub few-lines : (s : Stored) → length (lines_in s) ≡ length s.lemmas
few-lines s = size-same (length s.clauses + 1) s.lemmas

-- the words in use are those of the clauses and the lines
pub words-same : (s : Stored) → words_with s.variables s.clauses (lines_in s) ≡ used_of s
words-same s = ap (λ (n : ℕ). words_of s.variables s.clauses + n) (costs-same (length s.clauses + 1) s.lemmas)

-- the lines where the clauses and lemmas stay
pub same-lines : (s t : Stored) → SameText s t → lines_in t ≡ lines_in s
same-lines s t e =
    ap (λ (cs : List (List ℕ)). lines_from (length cs + 1) t.lemmas) e.clauses ∙ ap (lines_from (length s.clauses + 1)) e.lemmas

pub same-lits : (s t : Stored) → SameText s t → all_lits t ≡ all_lits s
same-lits s t e =
    ap (λ (cs : List (List ℕ)). cs ++ map (λ (l : Hinted). l.lits) t.lemmas) e.clauses
    ∙ ap (λ (ls : List Hinted). s.clauses ++ map (λ (l : Hinted). l.lits) ls) e.lemmas

-- the line at hand is the next one
pub lines-push : (s : Stored) (h : Hinted)
    → lines_from (length s.clauses + 1) (s.lemmas ++ h ∷ []) ≡ lines_in s ++ line_of (count_of s + 1) h.lits h.hints ∷ []
lines-push s h =
    let next : length s.clauses + 1 + length s.lemmas ≡ count_of s + 1 = omega arith in
    from-push (length s.clauses + 1) s.lemmas h
    ∙ ap (λ (n : ℕ). lines_in s ++ line_of n h.lits h.hints ∷ []) next

-- ---- the log of a solver

unsat-last : {A : Type 0} (f : Line → A) (lines : List Line) (last : Line) (n : ℕ) → n ≡ length lines
    → slice_get (map f (lines ++ last ∷ [])) n ≡ Some (f last)
unsat-last f [] last zero e = refl
unsat-last f [] last (suc n) e = absurd (omega arith)
unsat-last f (x ∷ lines) last zero e = absurd (omega arith)
unsat-last f (x ∷ lines) last (suc n) e = unsat-last f lines last n (omega arith)

unsat-front : {A : Type 0} (f : Line → A) (lines : List Line) (last : Line) (n : ℕ) → n < length lines
    → slice_get (map f (lines ++ last ∷ [])) n ≡ slice_get (map f lines) n
unsat-front f [] last n lt = absurd (omega arith)
unsat-front f (x ∷ lines) last zero lt = refl
unsat-front f (x ∷ lines) last (suc n) lt = unsat-front f lines last n (omega arith)

pub log-size : (s : Search) (last : Line) (a : Answer)
    → length (lines_of (outcome_in s last (Some a))) ≡ length s.propagator.stored.lemmas + extra_as a
log-size s last Sat = let few = few-lines s.propagator.stored in omega (arith, few)
log-size s last Unsat =
    let few = few-lines s.propagator.stored in omega (arith, few, length_push (lines_in s.propagator.stored) last)
log-size s last SpentLemmas = let few = few-lines s.propagator.stored in omega (arith, few)
log-size s last (SpentRegion need) = let few = few-lines s.propagator.stored in omega (arith, few)

-- behind the lemmas stands the empty line
pub last-line : {A : Type 0} (f : Line → A) (s : Search) (last : Line) (found : Option Answer) (n : ℕ)
    → length s.propagator.stored.lemmas < n → n ≤ length (lines_of (outcome_in s last found))
    → slice_get (map f (lines_of (outcome_in s last found))) (n - 1) ≡ Some (f last)
last-line f s last None n low high = absurd (omega (arith, low, high))
last-line f s last (Some Sat) n low high = absurd (let e = log-size s last Sat in omega (arith, low, high, e))
last-line f s last (Some Unsat) n low high =
    let e = log-size s last Unsat in let few = few-lines s.propagator.stored in
    unsat-last f (lines_in s.propagator.stored) last (n - 1) (omega (arith, low, high, e, few))
last-line f s last (Some SpentLemmas) n low high = absurd (let e = log-size s last SpentLemmas in omega (arith, low, high, e))
last-line f s last (Some (SpentRegion need)) n low high =
    absurd (let e = log-size s last (SpentRegion need) in omega (arith, low, high, e))

pub lemma-line : {A : Type 0} (f : Line → A) (s : Search) (last : Line) (found : Option Answer) (n : ℕ) → 0 < n
    → n ≤ length s.propagator.stored.lemmas → n ≤ length (lines_of (outcome_in s last found))
    → slice_get (map f (lines_of (outcome_in s last found))) (n - 1) ≡ slice_get (map f (lines_in s.propagator.stored)) (n - 1)
lemma-line f s last None n some low high = absurd (omega (arith, some, high))
lemma-line f s last (Some Sat) n some low high = refl
lemma-line f s last (Some Unsat) n some low high =
    let few = few-lines s.propagator.stored in
    unsat-front f (lines_in s.propagator.stored) last (n - 1) (omega (arith, some, low, few))
lemma-line f s last (Some SpentLemmas) n some low high = refl
lemma-line f s last (Some (SpentRegion need)) n some low high = refl

right-of : {A : Type 0} (xs ys : List A) (k n : ℕ) → k ≡ length xs + n → slice_get (xs ++ ys) k ≡ slice_get ys n
right-of [] ys k n e = ap (slice_get ys) (omega arith)
right-of (x ∷ xs) ys zero n e = absurd (omega arith)
right-of (x ∷ xs) ys (suc k) n e = right-of xs ys k n (omega arith)

pub line-id : (s : Stored) (n : ℕ) → 0 < n → n ≤ length s.lemmas
    → slice_get (map (λ (line : Line). line.id) (lines_in s)) (n - 1) ≡ Some (length s.clauses + n)
line-id s n some few =
    id-at (length s.clauses + 1) s.lemmas (n - 1) (omega (arith, some, few)) ∙ ap (λ (k : ℕ). Some k) (omega (arith, some))

pub line-lits : (s : Stored) (n : ℕ) (lits : List ℕ) → 0 < n → slice_get (all_lits s) (length s.clauses + n - 1) ≡ Some lits
    → slice_get (map (λ (line : Line). line.lits) (lines_in s)) (n - 1) ≡ Some lits
line-lits s n lits some at =
    ap (λ (xs : List (List ℕ)). slice_get xs (n - 1)) (lits-same (length s.clauses + 1) s.lemmas)
    ∙ sym (right-of s.clauses (map (λ (l : Hinted). l.lits) s.lemmas) (length s.clauses + n - 1) (n - 1) (omega (arith, some)))
    ∙ at

behind-none : (f : List ℕ → List ℕ) (clauses ys : List (List ℕ)) (k n : ℕ) → k ≡ length clauses + n
    → slice_get (map f clauses ++ ys) k ≡ slice_get ys n
behind-none f clauses ys k n e = let same = length-map clauses f in right-of (map f clauses) ys k n (omega (arith, same, e))

pub line-hints : (s : Stored) (n : ℕ) (hints : List ℕ) → 0 < n → slice_get (all_hints s) (length s.clauses + n - 1) ≡ Some hints
    → slice_get (map (λ (line : Line). line.hints) (lines_in s)) (n - 1) ≡ Some hints
line-hints s n hints some at =
    ap (λ (xs : List (List ℕ)). slice_get xs (n - 1)) (hints-same (length s.clauses + 1) s.lemmas)
    ∙ sym (behind-none (λ _. []) s.clauses (map (λ (l : Hinted). l.hints) s.lemmas) (length s.clauses + n - 1) (n - 1) (omega (arith, some)))
    ∙ at

-- the lemma for which there was no room
pub next-last : (s : Search) (last : Line) (found : Option Answer) → IsSome (next_of (outcome_in s last found))
    → next_of (outcome_in s last found) ≡ Some last
next-last s last None some = absurd cc
next-last s last (Some Sat) some = absurd cc
next-last s last (Some Unsat) some = absurd cc
next-last s last (Some SpentLemmas) some = absurd cc
next-last s last (Some (SpentRegion need)) some = refl

-- ---- the clauses

all-front : (P : List ℕ → Type 0) (xs ys : List (List ℕ)) → AllByRecursion P (xs ++ ys) → AllByRecursion P xs
all-front P [] ys all = tt
all-front P (x ∷ xs) ys all = (all.0, all-front P xs ys all.1)

-- the clauses are those before the lemmas
pub front-valid : (s : Stored) → AreClauses s.variables (all_lits s) → AreClauses s.variables s.clauses
front-valid s valid = all-front (IsClause s.variables) s.clauses (map (λ (l : Hinted). l.lits) s.lemmas) valid

pub clause-at : (s : Stored) (n : ℕ) (lits : List ℕ) → 0 < n → n ≤ length s.clauses → slice_get (all_lits s) (n - 1) ≡ Some lits
    → slice_get s.clauses (n - 1) ≡ Some lits
clause-at s n lits some few at =
    sym (slice_get-left s.clauses (map (λ (l : Hinted). l.lits) s.lemmas) (n - 1) (omega (arith, some, few))) ∙ at
