-- Lines that are tried one by one, whatever is asked of a line: `follows` says it, and `fault` is what is wrong first.
use Rattle.std.proofs.Common.{◌≡◌, ℕ, zero, suc, ◌+◌, ◌<◌, ◌≤◌, List, [], ◌∷◌, ◌++◌, length, take, map, refl, sym, ap, subst, arith, Option, Some, None, append_assoc}
use Rattle.std.specs.Prelude.{slice_get}
use Rattle.std.proofs.lemmas.List.{take_all, append-nil}
use Rattle.pv_log.specs.declared.line.Line.{Line}
use Rattle.pv_log.specs.declared.fault.LineFault.{LineFault}
use Rattle.pv_log.specs.Follows.{EachFollows, FailsFirst}
use Rattle.pv_log.specs.Checking.{known}

pub line-at : (lines : List Line) (n : ℕ) → n < length lines → (line : Line) × (slice_get lines n ≡ Some line)
line-at [] n lt = absurd (omega arith)
line-at (l ∷ lines) zero lt = (l, refl)
line-at (l ∷ lines) (suc n) lt = line-at lines n (omega arith)

regroup : (clauses : List (List ℕ)) (line : Line) (lines : List Line) (n : ℕ) → known clauses (line ∷ lines) (suc n) ≡ known (clauses ++ line.lits ∷ []) lines n
regroup clauses line lines n = sym (append_assoc clauses (line.lits ∷ []) (map (λ (l : Line). l.lits) (take n lines)))

module _ (follows : List (List ℕ) → Line → Type 0) where
  follows-more : (clauses : List (List ℕ)) (lines : List Line) (n : ℕ) (line : Line) → EachFollows follows clauses (take n lines) → slice_get lines n ≡ Some line → follows (known clauses lines n) line → EachFollows follows clauses (take (suc n) lines)
  follows-more clauses [] n line e at f = absurd cc
  follows-more clauses (l ∷ lines) zero line e at f =
      let same : line ≡ l = cc in
      (subst (λ (x : Line). follows clauses x) same (subst (λ (cs : List (List ℕ)). follows cs line) (append-nil clauses) f), tt)
  follows-more clauses (l ∷ lines) (suc n) line e at f =
      (e.0, follows-more (clauses ++ l.lits ∷ []) lines n line e.1 at (subst (λ (cs : List (List ℕ)). follows cs line) (regroup clauses l lines n) f))

  pub all-follow : (clauses : List (List ℕ)) (lines : List Line) (n : ℕ) → length lines ≤ n → EachFollows follows clauses (take n lines) → EachFollows follows clauses lines
  all-follow clauses lines n all e = subst (λ (ls : List Line). EachFollows follows clauses ls) (take_all n lines all) e

module _ (fault : List (List ℕ) → Line → Option LineFault) where
  pub first-once : (clauses : List (List ℕ)) (lines : List Line) (n m : ℕ) (kind other : LineFault) → FailsFirst fault clauses lines n kind → FailsFirst fault clauses lines m other → (n ≡ m) × (kind ≡ other)
  first-once clauses [] n m kind other f g = absurd f
  first-once clauses (l ∷ lines) zero m kind other f g = absurd f
  first-once clauses (l ∷ lines) (suc n) zero kind other f g = absurd g
  first-once clauses (l ∷ lines) (suc zero) (suc zero) kind other f g = (refl, cc)
  first-once clauses (l ∷ lines) (suc zero) (suc (suc m)) kind other f g = absurd (cc (f, g.0))
  first-once clauses (l ∷ lines) (suc (suc n)) (suc zero) kind other f g = absurd (cc (f.0, g))
  first-once clauses (l ∷ lines) (suc (suc n)) (suc (suc m)) kind other f g =
      let same = first-once (clauses ++ l.lits ∷ []) lines (suc n) (suc m) kind other f.1 g.1 in
      (ap suc same.0, same.1)

-- what follows has no fault, and what has no fault follows
pub record Decides (follows : List (List ℕ) → Line → Type 0) (fault : List (List ℕ) → Line → Option LineFault) : Type 0 where
  pub none : (clauses : List (List ℕ)) (line : Line) → follows clauses line → fault clauses line ≡ None
  pub all : (clauses : List (List ℕ)) (line : Line) → fault clauses line ≡ None → follows clauses line

module _ (follows : List (List ℕ) → Line → Type 0) (fault : List (List ℕ) → Line → Option LineFault) (decides : Decides follows fault) where
  fails-first : (clauses : List (List ℕ)) (lines : List Line) (n : ℕ) (line : Line) (kind : LineFault) → EachFollows follows clauses (take n lines) → slice_get lines n ≡ Some line → fault (known clauses lines n) line ≡ Some kind → FailsFirst fault clauses lines (suc n) kind
  fails-first clauses [] n line kind e at f = absurd cc
  fails-first clauses (l ∷ lines) zero line kind e at f =
      let same : line ≡ l = cc in
      subst (λ (x : Line). fault clauses x ≡ Some kind) same (subst (λ (cs : List (List ℕ)). fault cs line ≡ Some kind) (append-nil clauses) f)
  fails-first clauses (l ∷ lines) (suc n) line kind e at f =
      (decides.none clauses l e.0, fails-first (clauses ++ l.lits ∷ []) lines n line kind e.1 at (subst (λ (cs : List (List ℕ)). fault cs line ≡ Some kind) (regroup clauses l lines n) f))

  -- the answers exclude one another
  pub all-not-first : (clauses : List (List ℕ)) (lines : List Line) (n : ℕ) (kind : LineFault) → EachFollows follows clauses lines → FailsFirst fault clauses lines n kind → ⊥
  all-not-first clauses [] n kind e f = f
  all-not-first clauses (l ∷ lines) zero kind e f = f
  all-not-first clauses (l ∷ lines) (suc zero) kind e f = absurd (let none = decides.none clauses l e.0 in cc)
  all-not-first clauses (l ∷ lines) (suc (suc n)) kind e f = all-not-first (clauses ++ l.lits ∷ []) lines (suc n) kind e.1 f.1

  -- the turns of the loop
  pub follows-next : (clauses : List (List ℕ)) (lines : List Line) (n : ℕ) → EachFollows follows clauses (take n lines) → n < length lines → ((line : Line) → slice_get lines n ≡ Some line → fault (known clauses lines n) line ≡ None) → EachFollows follows clauses (take (n + 1) lines)
  follows-next clauses lines n e lt f =
      let here = line-at lines n lt in
      let next : suc n ≡ n + 1 = omega arith in
      subst (λ (k : ℕ). EachFollows follows clauses (take k lines)) next (follows-more follows clauses lines n here.0 e here.1 (decides.all (known clauses lines n) here.0 (f here.0 here.1)))

  pub fails-next : (clauses : List (List ℕ)) (lines : List Line) (n : ℕ) (kind : LineFault) → EachFollows follows clauses (take n lines) → n < length lines → ((line : Line) → slice_get lines n ≡ Some line → fault (known clauses lines n) line ≡ Some kind) → FailsFirst fault clauses lines (n + 1) kind
  fails-next clauses lines n kind e lt f =
      let here = line-at lines n lt in
      let next : suc n ≡ n + 1 = omega arith in
      subst (λ (k : ℕ). FailsFirst fault clauses lines k kind) next (fails-first clauses lines n here.0 kind e here.1 (f here.0 here.1))
