-- Logs that grow by a line.
use Rattle.std.proofs.Common.{◌≡◌, ℕ, ◌<◌, true, List, [], ◌∷◌, ◌++◌, length, map, refl, sym, ap, subst, append_assoc, arith}
use Rattle.std.proofs.lemmas.Bool.{eq-eqb}
use Rattle.std.proofs.lemmas.List.{append-nil}
use Rattle.pv_log.specs.declared.line.Line.{Line}
use Rattle.pv_log.specs.Follows.{Follows as FollowsLog, EachFollows, IsAccepted, ends_empty}
use Rattle.pv_solver.specs.Quiet.{with_lines}
use Rattle.pv_log.specs.Newness.{FollowsNew, NoneEmpty}
use Rattle.pv_solver.specs.Lemmas.{IsLemma, AreLemmas}

-- one more line
each-push : (R : List (List ℕ) → Line → Type 0) (clauses : List (List ℕ)) (lines : List Line) (line : Line) → EachFollows R clauses lines
    → R (with_lines clauses lines) line → EachFollows R clauses (lines ++ line ∷ [])
each-push R clauses [] line e r = (subst (λ (cs : List (List ℕ)). R cs line) (append-nil clauses) r, tt)
each-push R clauses (l ∷ lines) line e r = (
  e.0,
  each-push R (clauses ++ l.lits ∷ []) lines line e.1 (subst (λ (cs : List (List ℕ)). R cs line)
      (sym (append_assoc clauses (l.lits ∷ []) (map (λ (x : Line). x.lits) lines))) r),
)

each-weaker : (v : ℕ) (clauses : List (List ℕ)) (lines : List Line) → EachFollows (FollowsNew v) clauses lines
    → EachFollows (FollowsLog v) clauses lines
each-weaker v clauses [] e = tt
each-weaker v clauses (l ∷ lines) e = (e.0.follows, each-weaker v (clauses ++ l.lits ∷ []) lines e.1)

none-push : (lines : List Line) (line : Line) → NoneEmpty lines → 0 < length line.lits → NoneEmpty (lines ++ line ∷ [])
none-push [] line n lt = (lt, tt)
none-push (l ∷ lines) line n lt = (n.0, none-push lines line n.1 lt)

pub lemmas-push : (v : ℕ) (clauses : List (List ℕ)) (lines : List Line) (line : Line) → AreLemmas v clauses lines
    → IsLemma v (with_lines clauses lines) line → AreLemmas v clauses (lines ++ line ∷ [])
lemmas-push v clauses lines line a l = record {
  each = each-push (FollowsNew v) clauses lines line a.each l.new;
  none_empty = none-push lines line a.none_empty l.nonempty;
}

-- ---- the empty line

ends-last : (lines : List Line) (line : Line) → line.lits ≡ [] → ends_empty (lines ++ line ∷ []) ≡ true
ends-last [] line e = eq-eqb (length line.lits) 0 (ap (λ (ls : List ℕ). length ls) e)
ends-last (l ∷ []) line e = eq-eqb (length line.lits) 0 (ap (λ (ls : List ℕ). length ls) e)
ends-last (l ∷ m ∷ lines) line e = ends-last (m ∷ lines) line e

pub accepted-last : (v : ℕ) (clauses : List (List ℕ)) (lines : List Line) (line : Line) → AreLemmas v clauses lines
    → FollowsLog v (with_lines clauses lines) line → line.lits ≡ [] → IsAccepted (FollowsLog v) clauses (lines ++ line ∷ [])
accepted-last v clauses lines line a f e = record {
  each = each-push (FollowsLog v) clauses lines line (each-weaker v clauses lines a.each) f;
  ends = ends-last lines line e;
}
