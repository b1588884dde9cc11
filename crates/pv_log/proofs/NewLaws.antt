-- What is asked of a line that has to be new.
use Rattle.std.proofs.Common.{◌≡◌, ℕ, zero, suc, ◌+◌, ◌-◌, ◌*◌, ◌<◌, ◌||◌, Bool, true, false, cond, List, [], ◌∷◌, ◌++◌, length, take, map, refl, sym, ap, subst, ◌∙◌, arith, Option, Some, None, Result, Ok, Err, append_assoc}
use Rattle.std.specs.Prelude.{slice_get, All, IfErr}
use Rattle.std.specs.Result.{is_ok}
use Rattle.std.specs.List.{AllByRecursion}
use Rattle.std.proofs.lemmas.Bool.{or_parts, or_from, both_ways}
use Rattle.std.proofs.lemmas.List.{take-map}
use Rattle.std.proofs.lemmas.List.Elements.{All-from_recursion}
use Rattle.pv_cnf.specs.Literal.{is_outside}
use Rattle.pv_cnf.specs.Clause.{has_outside, has_double}
use Rattle.pv_log.specs.declared.line.Line.{Line}
use Rattle.pv_log.specs.declared.fault.LineFault.{LineFault}
use Rattle.pv_log.specs.declared.fault.LineFault.TheVariants.{NotNew, Tautology}
use Rattle.pv_log.specs.Follows.{Follows, fault_of, EachFollows}
use Rattle.pv_log.specs.Newness.{is_subsumed, FollowsNew, new_fault_of}
use Rattle.pv_log.specs.Checking.{lemmas, known}
use Rattle.pv_log.proofs.Literals.{inside-bounds}
use Rattle.pv_log.proofs.FindLaws.{lemma-inside}
use Rattle.pv_log.proofs.FollowLaws.{faultless-follows, follows-faultless, inside-lines, field-at}
use Rattle.pv_log.proofs.LineByLine.{Decides, line-at}

-- what is wrong first, after another fault
abbrev with_newness : Bool → Option LineFault → Option LineFault
with_newness old (Some fault) = Some fault
with_newness old None = cond old (Some NotNew) None

as-newness : (old : Bool) (fault : Option LineFault) → (elim fault as (λ _. Option LineFault) [ Some kind ↦ Some kind | None ↦ cond old (Some NotNew) None ]) ≡ with_newness old fault
as-newness old (Some kind) = refl
as-newness old None = refl

module _ (v : ℕ) (clauses : List (List ℕ)) (line : Line) where
  pub new-fault-is : (fault : Option LineFault) (old : Bool) → fault_of v clauses line ≡ fault → is_subsumed clauses line.lits ≡ old → new_fault_of v clauses line ≡ with_newness old fault
  new-fault-is fault old e o = as-newness (is_subsumed clauses line.lits) (fault_of v clauses line) ∙ ap (with_newness (is_subsumed clauses line.lits)) e ∙ ap (λ (b : Bool). with_newness b fault) o

  -- another fault comes first
  pub new-fault-first : (kind : LineFault) → fault_of v clauses line ≡ Some kind → new_fault_of v clauses line ≡ Some kind
  new-fault-first kind e = new-fault-is (Some kind) (is_subsumed clauses line.lits) e refl

  pub new-fault-last : fault_of v clauses line ≡ None → is_subsumed clauses line.lits ≡ true → new_fault_of v clauses line ≡ Some NotNew
  new-fault-last e o = new-fault-is None true e o

  pub new-fault-none : fault_of v clauses line ≡ None → is_subsumed clauses line.lits ≡ false → new_fault_of v clauses line ≡ None
  new-fault-none e o = new-fault-is None false e o

  none-parts : (old : Bool) (fault : Option LineFault) → with_newness old fault ≡ None → (fault ≡ None) × (old ≡ false)
  none-parts old (Some kind) e = absurd cc
  none-parts true None e = absurd cc
  none-parts false None e = (refl, refl)

  pub faultless-new : new_fault_of v clauses line ≡ None → FollowsNew v clauses line
  faultless-new e =
      let parts = none-parts (is_subsumed clauses line.lits) (fault_of v clauses line) (sym (as-newness (is_subsumed clauses line.lits) (fault_of v clauses line)) ∙ e) in
      record { follows = faultless-follows v clauses line parts.0; fresh = parts.1 }

  pub new-faultless : FollowsNew v clauses line → new_fault_of v clauses line ≡ None
  new-faultless f = new-fault-none (follows-faultless v clauses line f.follows) f.fresh

-- what `check_new` asks of a line
pub new-decides : (v : ℕ) → Decides (FollowsNew v) (new_fault_of v)
new-decides v = record { none = new-faultless v; all = faultless-new v }

pub each-follows : (v : ℕ) (clauses : List (List ℕ)) (lines : List Line) → EachFollows (FollowsNew v) clauses lines → EachFollows (Follows v) clauses lines
each-follows v clauses [] e = tt
each-follows v clauses (line ∷ lines) e = (e.0.follows, each-follows v (clauses ++ line.lits ∷ []) lines e.1)

-- ---- one more line

take-get : {X : Type 0} (xs : List X) (n : ℕ) (x : X) → slice_get xs n ≡ Some x → take n xs ++ x ∷ [] ≡ take (suc n) xs
take-get [] n x e = absurd cc
take-get (y ∷ xs) zero x e = (let same : x ≡ y = cc in ap (λ z. z ∷ []) same)
take-get (y ∷ xs) (suc n) x e = ap (λ ys. y ∷ ys) (take-get xs n x e)

take-at : {X : Type 0} (xs : List X) (n m : ℕ) (x : X) → m ≡ n + 1 → slice_get xs (m - 1) ≡ Some x → take n xs ++ x ∷ [] ≡ take m xs
take-at xs n m x next e =
    let here : m - 1 ≡ n = omega arith in
    let more : suc n ≡ m = omega arith in
    take-get xs n x (ap (slice_get xs) (sym here) ∙ e) ∙ ap (λ (k : ℕ). take k xs) more

pub formula-next : (clauses : List (List ℕ)) (n m : ℕ) (c : List ℕ) → m ≡ n + 1 → slice_get clauses (m - 1) ≡ Some c → take n clauses ++ c ∷ [] ≡ take m clauses
formula-next clauses n m c next at = take-at clauses n m c next at

pub known-next : (clauses : List (List ℕ)) (lines : List Line) (n m : ℕ) (lits : List ℕ) → m ≡ n + 1 → slice_get (map (λ (l : Line). l.lits) lines) (m - 1) ≡ Some lits → known clauses lines n ++ lits ∷ [] ≡ known clauses lines m
known-next clauses lines n m lits next at =
    append_assoc clauses (lemmas lines n) (lits ∷ [])
    ∙ ap (λ (xs : List (List ℕ)). clauses ++ xs) (ap (λ (xs : List (List ℕ)). xs ++ lits ∷ []) (sym (take-map (λ (l : Line). l.lits) n lines)) ∙ take-at (map (λ (l : Line). l.lits) lines) n m lits next at ∙ take-map (λ (l : Line). l.lits) m lines)

-- the literals of a clause have a place among those of all variables
all-below : (v h : ℕ) (lits : List ℕ) → h ≡ 2 * v + 2 → has_outside v lits ≡ false → AllByRecursion (λ lit. lit < h) lits
all-below v h [] e inside = tt
all-below v h (x ∷ xs) e inside =
    let parts = or_parts (is_outside v x) (has_outside v xs) inside in
    let b = inside-bounds v x parts.0 in
    (omega arith, all-below v h xs e parts.1)

pub literals-below : (v h : ℕ) (lits : List ℕ) → h ≡ 2 * v + 2 → has_outside v lits ≡ false → All (λ lit. lit < h) lits
literals-below v h lits e inside = All-from_recursion (λ (lit : ℕ). lit < h) lits (all-below v h lits e inside)

pub line-inside : (v : ℕ) (clauses : List (List ℕ)) (lines : List Line) (m : ℕ) (lits : List ℕ) → EachFollows (FollowsNew v) clauses (take m lines) → 0 < m → slice_get (map (λ (l : Line). l.lits) lines) (m - 1) ≡ Some lits → has_outside v lits ≡ false
line-inside v clauses lines m lits e some at =
    lemma-inside (λ (xs : List ℕ). has_outside v xs ≡ false) lines m m lits (inside-lines v clauses lines m (each-follows v clauses (take m lines) e)) some (omega arith) at

-- ---- the exits of a try

module _ (v : ℕ) (clauses : List (List ℕ)) (lines : List Line) (n m : ℕ) (next : m ≡ n + 1) (lits : List ℕ) (lits-at : slice_get (map (λ (l : Line). l.lits) lines) (m - 1) ≡ Some lits) where
  pub lits-follow : n < length lines → ((line : Line) → slice_get lines n ≡ Some line → fault_of v (known clauses lines n) line ≡ None) → (has_outside v lits || has_double lits) ≡ false
  lits-follow lt none =
      let here = line-at lines n lt in
      let f = faultless-follows v (known clauses lines n) here.0 (none here.0 here.1) in
      let is : lits ≡ here.0.lits = field-at (λ (l : Line). l.lits) lines n m here.0 lits next here.1 lits-at in
      subst (λ (xs : List ℕ). (has_outside v xs || has_double xs) ≡ false) (sym is) (or_from (has_outside v here.0.lits) (has_double here.0.lits) f.inside f.distinct)

  pub exit-new : (line : Line) (old : Bool) → slice_get lines n ≡ Some line → fault_of v (known clauses lines n) line ≡ None → is_subsumed (known clauses lines n) lits ≡ old → new_fault_of v (known clauses lines n) line ≡ cond old (Some NotNew) None
  exit-new line old at none is =
      let same : lits ≡ line.lits = field-at (λ (l : Line). l.lits) lines n m line lits next at lits-at in
      new-fault-is v (known clauses lines n) line None old none (ap (is_subsumed (known clauses lines n)) (sym same) ∙ is)

pub not-refused : {T : Type 0} (r : Result T LineFault) (bad : Bool) → IfErr r (λ fault. (fault ≡ Tautology) × (bad ≡ true)) → bad ≡ false → is_ok r ≡ false → ⊥
not-refused (Ok x) bad i e k = both_ways true k refl
not-refused (Err f) bad i e k = both_ways bad e i.1
