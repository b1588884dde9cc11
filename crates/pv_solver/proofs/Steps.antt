-- The steps of a search.
use Rattle.std.proofs.Common.{◌≡◌, false, eqb, ℕ, ◌+◌, ◌*◌, ◌<◌, ◌≤◌, List, [], ◌∷◌, ◌++◌, length, get_or, take, map, Bool, refl, sym, ap, subst, ◌∙◌, arith}
use Rattle.std.specs.Prelude.{vec_capacity}
use Rattle.std.specs.List.{list_all, AllByRecursion}
use Rattle.std.proofs.lemmas.Bool.{eqb-false}
use Rattle.std.proofs.lemmas.List.{length_push, length-append}
use Rattle.pv_cnf.specs.Clause.{Holds, IsClause, AreClauses, clause_value}
use Rattle.pv_log.specs.declared.line.Line.{Line}
use Rattle.pv_log.specs.Propagation.{is_false}
use Rattle.pv_region.specs.Stored.{Stored, Hinted, Passes, lemma_cost, used_of, count_of, all_lits, with_lemma}
use Rattle.pv_watch.specs.Trail.{Path, IsSound, Extends}
use Rattle.pv_watch.specs.Quiet.{IsQuiet, AreQuiet}
use Rattle.pv_watch.specs.Watched.{IsReady}
use Rattle.pv_watch.specs.Turns.{SameText, HasUnset}
use Rattle.pv_watch.specs.Propagating.{Propagating}
use Rattle.pv_learn.specs.declared.draft.Draft.{Draft}
use Rattle.pv_solver.specs.declared.search.Search.{Search}
use Rattle.pv_solver.specs.declared.search.End.TheVariants.{Refuted, NoLemma, NoRoom}
use Rattle.pv_solver.specs.Costs.{line_cost, words_with}
use Rattle.pv_solver.specs.Lemmas.{IsLemma, AreLemmas}
use Rattle.pv_solver.specs.Quiet.{with_lines, NoneFalse}
use Rattle.pv_solver.specs.Logged.{lines_in}
use Rattle.pv_learn.specs.Learning.{HasRoom, KeepsRoom, IsNext, IsLast}
use Rattle.pv_solver.specs.Search.{GoesBack, AllSet}
use Rattle.pv_solver.specs.States.{line_in, IsOf, IsUnderWay, IsSearching, HasLearned, HasEnded}
use Rattle.pv_solver.specs.Answers.{Problem, IsSpent, HasSpentRegion}
use Rattle.pv_learn.proofs.ForCallers.{room-self, room-kept}
use Rattle.pv_solver.proofs.Ends.{none-false, all-true, all-front}
use Rattle.pv_solver.proofs.Wholes.{next-lemma}
use Rattle.pv_solver.proofs.Backs.{first-quiet, few-kept, unset-back}
use Rattle.pv_solver.proofs.Lines.{lemmas-push, accepted-last}
use Rattle.pv_solver.proofs.Logs.{all-lines, few-lines, words-same, same-lines, lines-push}

-- ---- what stays

pub text-self : (s : Stored) → SameText s s
text-self s = record { variables = refl; capacity = refl; clauses = refl; lemmas = refl }

pub text-is : (s t : Stored) → t ≡ s → SameText s t
text-is s t e = subst (SameText s) (sym e) (text-self s)

pub text-on : (s t u : Stored) → SameText s t → SameText t u → SameText s u
text-on s t u f g = record {
  variables = g.variables ∙ f.variables;
  capacity = g.capacity ∙ f.capacity;
  clauses = g.clauses ∙ f.clauses;
  lemmas = g.lemmas ∙ f.lemmas;
}

-- a decision makes the trail longer
pub extended-longer : (old mid new : Path) (lit : ℕ) → Extends old mid → new.falses ≡ mid.falses ++ lit ∷ [] → length old.falses < length new.falses
extended-longer old mid new lit e falses = omega (
  arith,
  ap (λ (f : List ℕ). length f) falses,
  length_push mid.falses lit,
  ap (λ (f : List ℕ). length f) e.falses,
  length-append old.falses e.more,
)

-- a search is under way still, where its clauses, lemmas and limits stay
pub under-way : (p : Problem) (old new : Search) → IsUnderWay p old → SameText old.propagator.stored new.propagator.stored
    → new.propagator.path.variables ≡ old.propagator.path.variables → new.checker ≡ old.checker → new.lemmas ≡ old.lemmas
    → KeepsRoom old.draft new.draft → IsUnderWay p new
under-way p old new u text path checker lemmas room = record {
  is_of = record {
    variables = text.variables ∙ u.is_of.variables;
    clauses = text.clauses ∙ u.is_of.clauses;
    words = text.capacity ∙ u.is_of.words;
    lemmas = lemmas ∙ u.is_of.lemmas;
  };
  path = path ∙ u.path;
  checker = checker ∙ u.checker;
  room = room-kept p.variables old.draft new.draft u.room room;
  lines = subst (AreLemmas p.variables p.clauses) (sym (same-lines old.propagator.stored new.propagator.stored text)) u.lines;
  few = (let e : length new.propagator.stored.lemmas ≡ length old.propagator.stored.lemmas = ap (λ (ls : List Hinted). length ls) text.lemmas in
      omega (arith, e, u.few));
}

-- the clauses and lemmas are the problem's clauses with the lines
pub known-lines : (p : Problem) (s : Search) → IsOf p s → all_lits s.propagator.stored ≡ with_lines p.clauses (lines_in s.propagator.stored)
known-lines p s is =
    sym (all-lines s.propagator.stored) ∙ ap (λ (cs : List (List ℕ)). with_lines cs (lines_in s.propagator.stored)) is.clauses

words-are : (p : Problem) (s : Search) → IsOf p s → words_with p.variables p.clauses (lines_in s.propagator.stored) ≡ used_of s.propagator.stored
words-are p s is =
    ap (λ (cs : List (List ℕ)). words_with p.variables cs (lines_in s.propagator.stored)) (sym is.clauses)
    ∙ ap (λ (v : ℕ). words_with v s.propagator.stored.clauses (lines_in s.propagator.stored)) (sym is.variables)
    ∙ words-same s.propagator.stored

-- ---- a lemma

-- the line at hand may be learned
pub lemma-in : (p : Problem) (s : Search) → IsSearching p s → IsNext s.propagator.stored.variables (all_lits s.propagator.stored) s.propagator.path (line_in s)
    → AreClauses s.propagator.stored.variables (all_lits s.propagator.stored)
    → IsLemma p.variables (with_lines p.clauses (lines_in s.propagator.stored)) (line_in s)
lemma-in p s is next valid =
    let l = next-lemma s.propagator.stored.variables (all_lits s.propagator.stored) s.propagator.path (line_in s) next is.ready.sound valid in
    subst (λ (v : ℕ). IsLemma v (with_lines p.clauses (lines_in s.propagator.stored)) (line_in s)) is.under_way.is_of.variables
    (subst (λ (cs : List (List ℕ)). IsLemma s.propagator.stored.variables cs (line_in s)) (known-lines p s is.under_way.is_of) l)

-- its literals are a clause
pub next-clause : (v : ℕ) (clauses : List (List ℕ)) (path : Path) (line : Line) → IsNext v clauses path line → IsSound clauses path
    → AreClauses v clauses → IsClause v line.lits
next-clause v clauses path line n sound valid = record {
  inside = n.asserting.follows.inside;
  distinct = n.asserting.follows.distinct;
  nonempty = (next-lemma v clauses path line n sound valid).nonempty;
}

-- the decisions that a call was given
pub some-starts : (xs ys : List ℕ) → xs ≡ ys → eqb (length xs) 0 ≡ false → 0 < length ys
some-starts xs ys e ne = subst (λ (zs : List ℕ). 0 < length zs) e (let some = eqb-false (length xs) 0 ne in omega (arith, some))

pub kept-quiet : (path q : Path) (ls ms : List ℕ) (keep : ℕ) → q ≡ path → ls ≡ ms
    → AllByRecursion (λ (t : ℕ). IsQuiet (take t q.falses) ls) (take keep q.starts)
    → AllByRecursion (λ (t : ℕ). IsQuiet (take t path.falses) ms) (take keep path.starts)
kept-quiet path q ls ms keep e f quiet =
    subst (λ (r : Path). AllByRecursion (λ (t : ℕ). IsQuiet (take t r.falses) ms) (take keep r.starts)) e
    (subst (λ (xs : List ℕ). AllByRecursion (λ (t : ℕ). IsQuiet (take t q.falses) xs) (take keep q.starts)) f quiet)

-- there was a decision
pub decided : {v : ℕ} {clauses : List (List ℕ)} {path : Path} (line : Line) → IsNext v clauses path line → 0 < length path.starts
decided line n = (let some = ap (λ (ss : List ℕ). length ss) n.last.1 in omega (arith, some, length_push n.last.0 n.start))

-- a decision is taken back before it enters
pub next-few : (v : ℕ) (clauses : List (List ℕ)) (path : Path) (line : Line) (keep : ℕ) → IsNext v clauses path line
    → AllByRecursion (λ (t : ℕ). IsQuiet (take t path.falses) line.lits) (take keep path.starts) → keep < length path.starts
next-few v clauses path line keep n quiet = few-kept path line.lits n.start keep n.asserting.lit n.last n.asserting.unit quiet

pub next-unset : (v : ℕ) (clauses : List (List ℕ)) (old new : Path) (line : Line) (keep : ℕ) → IsNext v clauses old line → GoesBack keep old new
    → keep < length old.starts → HasUnset new.falses line.lits
next-unset v clauses old new line keep n back few =
    unset-back old new line.lits n.start n.asserting.lit n.asserting.unit back.falses (back.low few n.start n.last)

-- it is learned
pub learned : (p : Problem) (old new : Search) → IsSearching p old
    → IsLemma p.variables (with_lines p.clauses (lines_in old.propagator.stored)) (line_in old)
    → length old.propagator.stored.lemmas < old.lemmas
    → SameText (with_lemma old.propagator.stored (record { lits = old.draft.lits.items; hints = old.draft.hints.items })) new.propagator.stored
    → new.propagator.path.variables ≡ old.propagator.path.variables → new.checker ≡ old.checker → new.lemmas ≡ old.lemmas
    → new.draft ≡ old.draft → IsReady (all_lits new.propagator.stored) new.propagator.path → HasLearned p old new
learned p old new is lemma left text path checker lemmas draft ready =
    let u = is.under_way in
    let hinted : Hinted = record { lits = old.draft.lits.items; hints = old.draft.hints.items } in
    let one : length new.propagator.stored.lemmas ≡ length old.propagator.stored.lemmas + 1 =
    ap (λ (ls : List Hinted). length ls) text.lemmas ∙ length_push old.propagator.stored.lemmas hinted in
    let lines : lines_in new.propagator.stored ≡ lines_in old.propagator.stored ++ line_in old ∷ [] =
    same-lines (with_lemma old.propagator.stored hinted) new.propagator.stored text ∙ lines-push old.propagator.stored hinted in
    record {
      searching = record {
        under_way = record {
          is_of = record {
            variables = text.variables ∙ u.is_of.variables;
            clauses = text.clauses ∙ u.is_of.clauses;
            words = text.capacity ∙ u.is_of.words;
            lemmas = lemmas ∙ u.is_of.lemmas;
          };
          path = path ∙ u.path;
          checker = checker ∙ u.checker;
          room = subst (λ (d : Draft). HasRoom p.variables (vec_capacity d.lits) (vec_capacity d.hints)) (sym draft) u.room;
          lines = subst (AreLemmas p.variables p.clauses) (sym lines)
              (lemmas-push p.variables p.clauses (lines_in old.propagator.stored) (line_in old) u.lines lemma);
          few = omega (arith, one, left, u.is_of.lemmas);
        };
        ready = ready;
      };
      one_more = one;
    }

-- the line at hand is another one
pub after-lemma : (p : Problem) (old new : Search) → IsSearching p old → new.propagator ≡ old.propagator → new.checker ≡ old.checker
    → new.lemmas ≡ old.lemmas → KeepsRoom old.draft new.draft → IsSearching p new
after-lemma p old new is propagator checker lemmas room = record {
  under_way = under-way p old new is.under_way
      (text-is old.propagator.stored new.propagator.stored (ap (λ (x : Propagating). x.stored) propagator))
      (ap (λ (x : Propagating). x.path.variables) propagator) checker lemmas room;
  ready = subst (λ (x : Propagating). IsReady (all_lits x.stored) x.path) (sym propagator) is.ready;
}

-- ---- the ends

-- the empty line
pub refuted : (p : Problem) (old new : Search) → IsUnderWay p old → SameText old.propagator.stored new.propagator.stored → new.lemmas ≡ old.lemmas
    → IsLast new.propagator.stored.variables (all_lits new.propagator.stored) (line_in new) → HasEnded p new Refuted
refuted p old new u text lemmas last =
    let is : IsOf p new = record {
      variables = text.variables ∙ u.is_of.variables;
      clauses = text.clauses ∙ u.is_of.clauses;
      words = text.capacity ∙ u.is_of.words;
      lemmas = lemmas ∙ u.is_of.lemmas;
    } in
    let here = subst (λ (v : ℕ). IsLast v (with_lines p.clauses (lines_in new.propagator.stored)) (line_in new)) is.variables
    (subst (λ (cs : List (List ℕ)). IsLast new.propagator.stored.variables cs (line_in new)) (known-lines p new is) last) in
    let lines = subst (AreLemmas p.variables p.clauses) (sym (same-lines old.propagator.stored new.propagator.stored text)) u.lines in
    record {
      is_of = is;
      says = accepted-last p.variables p.clauses (lines_in new.propagator.stored) (line_in new) lines here.follows here.empty;
    }

-- unit propagation makes no clause false where there was a decision
spent : (p : Problem) (s : Search) → IsSearching p s → 0 < length s.propagator.path.starts → IsSpent p (lines_in s.propagator.stored)
spent p s is lt = record {
  lemmas = is.under_way.lines;
  none_false = subst NoneFalse (known-lines p s is.under_way.is_of)
      (none-false (take (get_or s.propagator.path.starts 0 0) s.propagator.path.falses) (all_lits s.propagator.stored)
      (first-quiet (all_lits s.propagator.stored) s.propagator.path is.ready.sound lt));
}

pub spent-lemmas : (p : Problem) (s : Search) → IsSearching p s → 0 < length s.propagator.path.starts
    → length s.propagator.stored.lemmas ≡ s.lemmas → HasEnded p s NoLemma
spent-lemmas p s is lt all = record {
  is_of = is.under_way.is_of;
  says = record { spent = spent p s is lt; all = few-lines s.propagator.stored ∙ all ∙ is.under_way.is_of.lemmas };
}

-- there is no room for the line at hand: the decisions that were taken back meanwhile change neither clauses nor lemmas
pub spent-region : (p : Problem) (old new : Search) (need : ℕ) → IsSearching p old → 0 < length old.propagator.path.starts
    → length old.propagator.stored.lemmas < old.lemmas
    → IsLemma p.variables (with_lines p.clauses (lines_in old.propagator.stored)) (line_in old)
    → used_of old.propagator.stored ≤ old.propagator.stored.capacity
    → Passes old.propagator.stored (lemma_cost (record { lits = old.draft.lits.items; hints = old.draft.hints.items })) need
    → new.propagator.stored ≡ old.propagator.stored → new.draft ≡ old.draft → new.lemmas ≡ old.lemmas → HasEnded p new (NoRoom need)
spent-region p old new need is lt left lemma fits passes stored draft lemmas =
    let u = is.under_way in
    let words = words-are p old u.is_of in
    let says : HasSpentRegion p (lines_in old.propagator.stored) (line_in old) need = record {
      spent = spent p old is lt;
      left = (let few = few-lines old.propagator.stored in omega (arith, few, left, u.is_of.lemmas));
      fits = omega (arith, words, fits, u.is_of.words);
      next_is = lemma;
      sum = passes.sum ∙ ap (λ (n : ℕ). n + line_cost (line_in old)) (sym words);
      past = omega (arith, passes.past, u.is_of.words);
    } in
    record {
      is_of = record {
        variables = ap (λ (s : Stored). s.variables) stored ∙ u.is_of.variables;
        clauses = ap (λ (s : Stored). s.clauses) stored ∙ u.is_of.clauses;
        words = ap (λ (s : Stored). s.capacity) stored ∙ u.is_of.words;
        lemmas = lemmas ∙ u.is_of.lemmas;
      };
      says = subst (λ (d : Draft). HasSpentRegion p (lines_in new.propagator.stored)
          (record { id = count_of new.propagator.stored + 1; lits = d.lits.items; hints = d.hints.items }) need) (sym draft)
          (subst (λ (s : Stored). HasSpentRegion p (lines_in s)
          (record { id = count_of s + 1; lits = old.draft.lits.items; hints = old.draft.hints.items }) need) (sym stored) says);
    }

-- propagated further, and decided
pub descended : (p : Problem) (old new : Search) → IsSearching p old → SameText old.propagator.stored new.propagator.stored
    → new.propagator.path.variables ≡ old.propagator.path.variables → new.checker ≡ old.checker → new.lemmas ≡ old.lemmas → new.draft ≡ old.draft
    → IsReady (all_lits new.propagator.stored) new.propagator.path → IsSearching p new
descended p old new is text path checker lemmas draft ready = record {
  under_way = under-way p old new is.under_way text path checker lemmas (subst (KeepsRoom old.draft) (sym draft) (room-self old.draft));
  ready = ready;
}

-- the values make the clauses hold
pub satisfied : (p : Problem) (s : Search) (truth : ℕ → Bool) → IsSearching p s → AreQuiet s.propagator.path.falses (all_lits s.propagator.stored)
    → AllSet s.propagator.path.variables s.propagator.path.falses → AreClauses s.propagator.stored.variables (all_lits s.propagator.stored)
    → ((x : ℕ) → x ≤ s.propagator.path.variables → truth x ≡ is_false s.propagator.path.falses (2 * x + 1)) → Holds truth p.clauses
satisfied p s truth is quiet set valid values =
    let u = is.under_way in
    let same : s.propagator.stored.variables ≡ s.propagator.path.variables = u.is_of.variables ∙ sym u.path in
    let all = all-true s.propagator.path.variables s.propagator.path.falses truth (all_lits s.propagator.stored) set quiet
    (subst (λ (v : ℕ). AreClauses v (all_lits s.propagator.stored)) same valid) values in
    all-front truth p.clauses (map (λ (line : Line). line.lits) (lines_in s.propagator.stored))
    (ap (list_all (clause_value truth)) (sym (known-lines p s u.is_of)) ∙ all)
