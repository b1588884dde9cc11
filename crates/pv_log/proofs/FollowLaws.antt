-- Hints that are followed one by one, and what is asked of a line.
-- A recursion that looks one element ahead (hints: the last differs) is followed by an index loop with the invariant "the function
-- of what is left is the function of all"; `drop_more` and one lemma for each of the two cases. `elim` inside a definition: state
-- a lemma for each with the scrutinee as a variable (`hints-two`), give `as (λ _. T)`, and pass the recursive call as a function.
-- A parameter `Option<&[T]>` in an `ensures` has two moments; take the slice, and match in the caller.
use Rattle.std.proofs.Common.{◌≡◌, ℕ, zero, suc, ◌+◌, ◌-◌, ◌/◌, ◌<◌, ◌≤◌, ◌||◌, Bool, true, false, not, cond, eqb, List, [], ◌∷◌, ◌++◌, length, get_or, take, drop, map, refl, sym, ap, subst, ◌∙◌, arith, Option, Some, None, Result, Ok, Err}
use Rattle.std.specs.Prelude.{slice_get}
use Rattle.std.specs.Option.{option_map}
use Rattle.std.specs.Result.{result_err}
use Rattle.std.proofs.lemmas.Bool.{eqb-true, eq-eqb, ne_eqb, or_parts, or_from, le-ltb}
use Rattle.std.proofs.lemmas.List.{drop_more, drop_all, length-drop}
use Rattle.pv_cnf.specs.Literal.{complement, is_outside}
use Rattle.pv_cnf.specs.Clause.{has_outside, has_double}
use Rattle.pv_log.specs.declared.line.Line.{Line}
use Rattle.pv_log.specs.declared.fault.LineFault.{LineFault}
use Rattle.pv_log.specs.declared.fault.LineFault.TheVariants.{BadId, NotUnit, LastNotFalse, Tautology}
use Rattle.pv_log.specs.Propagation.{named, unit_of, is_falsified, last_step, unit_step, hints_fault, LeadsToFalse}
use Rattle.pv_log.specs.Follows.{Follows, fault_of, EachFollows, FailsFirst, ends_empty}
use Rattle.pv_log.specs.Checking.{lemmas, known, AreInside}
use Rattle.pv_log.proofs.Literals.{inside-bounds}
use Rattle.pv_log.proofs.LineByLine.{Decides, all-not-first, first-once}
use Rattle.pv_log.proofs.FindLaws.{slice_get-map, length-known}

-- ---- hints

-- what the hints show after a step
abbrev pub after_step : List (List ℕ) → Result (List ℕ) LineFault → List ℕ → Option LineFault
after_step clauses (Err fault) hints = Some fault
after_step clauses (Ok falses) hints = hints_fault clauses falses hints

hints-two : (clauses : List (List ℕ)) (falses : List ℕ) (h next : ℕ) (hints : List ℕ) (step : Result (List ℕ) LineFault) → (elim step as (λ _. Option LineFault) [ Err fault ↦ Some fault | Ok more ↦ hints_fault clauses more (next ∷ hints) ]) ≡ after_step clauses step (next ∷ hints)
hints-two clauses falses h next hints (Err fault) = refl
hints-two clauses falses h next hints (Ok more) = refl

hints-front : (clauses : List (List ℕ)) (falses : List ℕ) (h : ℕ) (rest : List ℕ) → 0 < length rest → hints_fault clauses falses (h ∷ rest) ≡ after_step clauses (unit_step falses (named clauses h)) rest
hints-front clauses falses h [] lt = absurd (omega arith)
hints-front clauses falses h (next ∷ hints) lt = hints-two clauses falses h next hints (unit_step falses (named clauses h))

module _ (clauses : List (List ℕ)) (falses hints : List ℕ) (i : ℕ) (lt : i < length hints) where
  pub hints-last : i + 1 ≡ length hints → hints_fault clauses falses (drop i hints) ≡ result_err (last_step falses (named clauses (get_or hints i 0)))
  hints-last last = ap (hints_fault clauses falses) (drop_more hints i 0 lt ∙ ap (λ (hs : List ℕ). get_or hints i 0 ∷ hs) (drop_all (i + 1) hints (omega arith)))

  pub hints-step : i + 1 < length hints → hints_fault clauses falses (drop i hints) ≡ after_step clauses (unit_step falses (named clauses (get_or hints i 0))) (drop (i + 1) hints)
  hints-step more = ap (hints_fault clauses falses) (drop_more hints i 0 lt) ∙ hints-front clauses falses (get_or hints i 0) (drop (i + 1) hints) (omega (arith, length-drop (i + 1) hints))

-- ---- wider ranges of variables

pub outside-wider : (v w : ℕ) (lits : List ℕ) → v ≤ w → has_outside v lits ≡ false → has_outside w lits ≡ false
outside-wider v w [] le h = refl
outside-wider v w (x ∷ xs) le h =
    let parts = or_parts (is_outside v x) (has_outside v xs) h in
    let b = inside-bounds v x parts.0 in
    let zero-not = (or_parts (eqb (x / 2) 0) _ parts.0).0 in
    or_from _ _ (or_from _ _ zero-not (le-ltb w (x / 2) (omega arith))) (outside-wider v w xs le parts.1)

pub inside-lines : (v : ℕ) (clauses : List (List ℕ)) (lines : List Line) (n : ℕ) → EachFollows (Follows v) clauses (take n lines) → AreInside v (lemmas lines n)
inside-lines v clauses lines zero e = tt
inside-lines v clauses [] (suc n) e = tt
inside-lines v clauses (line ∷ lines) (suc n) e = (e.0.inside, inside-lines v (clauses ++ line.lits ∷ []) lines n e.1)

-- ---- a line without a fault follows

falsified-of : (falses clause : List ℕ) (b : Bool) → result_err (cond b (Ok falses) (Err LastNotFalse)) ≡ None → b ≡ true
falsified-of falses clause true e = refl
falsified-of falses clause false e = absurd cc

last-follows : (clauses : List (List ℕ)) (falses : List ℕ) (h : ℕ) (found : Option (List ℕ)) → named clauses h ≡ found → result_err (last_step falses found) ≡ None → LeadsToFalse clauses falses (h ∷ [])
last-follows clauses falses h None at e = absurd cc
last-follows clauses falses h (Some clause) at e = (clause, at, falsified-of falses clause (is_falsified falses clause) e)

unit-follows : (clauses : List (List ℕ)) (falses : List ℕ) (h next : ℕ) (hints clause : List ℕ) (unit : Option ℕ) → named clauses h ≡ Some clause → unit_of falses clause ≡ unit
    → after_step clauses (elim unit as (λ _. Result (List ℕ) LineFault) [ None ↦ Err NotUnit | Some lit ↦ Ok (falses ++ complement lit ∷ []) ]) (next ∷ hints) ≡ None
    → ((more : List ℕ) → hints_fault clauses more (next ∷ hints) ≡ None → LeadsToFalse clauses more (next ∷ hints))
    → LeadsToFalse clauses falses (h ∷ next ∷ hints)
unit-follows clauses falses h next hints clause None at is e go = absurd cc
unit-follows clauses falses h next hints clause (Some lit) at is e go = (clause, lit, at, is, go (falses ++ complement lit ∷ []) e)

step-follows : (clauses : List (List ℕ)) (falses : List ℕ) (h next : ℕ) (hints : List ℕ) (found : Option (List ℕ)) → named clauses h ≡ found → after_step clauses (unit_step falses found) (next ∷ hints) ≡ None
    → ((more : List ℕ) → hints_fault clauses more (next ∷ hints) ≡ None → LeadsToFalse clauses more (next ∷ hints))
    → LeadsToFalse clauses falses (h ∷ next ∷ hints)
step-follows clauses falses h next hints None at e go = absurd cc
step-follows clauses falses h next hints (Some clause) at e go = unit-follows clauses falses h next hints clause (unit_of falses clause) at refl e go

pub hints-follow : (clauses : List (List ℕ)) (hints falses : List ℕ) → hints_fault clauses falses hints ≡ None → LeadsToFalse clauses falses hints
hints-follow clauses [] falses e = absurd cc
hints-follow clauses (h ∷ []) falses e = last-follows clauses falses h (named clauses h) refl e
hints-follow clauses (h ∷ next ∷ hints) falses e =
    step-follows clauses falses h next hints (named clauses h) refl (sym (hints-two clauses falses h next hints (unit_step falses (named clauses h))) ∙ e) (λ more. hints-follow clauses (next ∷ hints) more)

pub hints-faultless : (clauses : List (List ℕ)) (hints falses : List ℕ) → LeadsToFalse clauses falses hints → hints_fault clauses falses hints ≡ None
hints-faultless clauses [] falses f = absurd f
hints-faultless clauses (h ∷ []) falses (clause, at, is) = ap (λ (o : Option (List ℕ)). result_err (last_step falses o)) at ∙ ap (λ (b : Bool). result_err (cond b (Ok falses) (Err LastNotFalse))) is
hints-faultless clauses (h ∷ next ∷ hints) falses (clause, lit, at, is, more) =
    let step : unit_step falses (named clauses h) ≡ Ok (falses ++ complement lit ∷ []) =
    ap (unit_step falses) at ∙ ap (λ (o : Option ℕ). elim o as (λ _. Result (List ℕ) LineFault) [ None ↦ Err NotUnit | Some lit ↦ Ok (falses ++ complement lit ∷ []) ]) is in
    hints-two clauses falses h next hints (unit_step falses (named clauses h)) ∙ ap (λ (r : Result (List ℕ) LineFault). after_step clauses r (next ∷ hints)) step ∙ hints-faultless clauses (next ∷ hints) (falses ++ complement lit ∷ []) more

fault-parts : (id lemma : Bool) (rest : Option LineFault) → cond (not id) (Some BadId) (cond lemma (Some Tautology) rest) ≡ None → (id ≡ true) × (lemma ≡ false) × (rest ≡ None)
fault-parts true false rest e = (refl, refl, e)
fault-parts true true rest e = absurd cc
fault-parts false lemma rest e = absurd cc

pub faultless-follows : (v : ℕ) (clauses : List (List ℕ)) (line : Line) → fault_of v clauses line ≡ None → Follows v clauses line
faultless-follows v clauses line e =
    let parts = fault-parts (eqb line.id (length clauses + 1)) (has_outside v line.lits || has_double line.lits) (hints_fault clauses line.lits line.hints) e in
    let lemma = or_parts (has_outside v line.lits) (has_double line.lits) parts.1 in
    record {
      next = eqb-true line.id (length clauses + 1) parts.0;
      inside = lemma.0;
      distinct = lemma.1;
      refutes = hints-follow clauses line.hints line.lits parts.2;
    }

pub follows-faultless : (v : ℕ) (clauses : List (List ℕ)) (line : Line) → Follows v clauses line → fault_of v clauses line ≡ None
follows-faultless v clauses line f =
    ap (λ (b : Bool). cond (not b) (Some BadId) (cond (has_outside v line.lits || has_double line.lits) (Some Tautology) (hints_fault clauses line.lits line.hints))) (eq-eqb line.id (length clauses + 1) f.next)
    ∙ ap (λ (b : Bool). cond b (Some Tautology) (hints_fault clauses line.lits line.hints)) (or_from (has_outside v line.lits) (has_double line.lits) f.inside f.distinct)
    ∙ hints-faultless clauses line.hints line.lits f.refutes

-- what `check` asks of a line
pub follow-decides : (v : ℕ) → Decides (Follows v) (fault_of v)
follow-decides v = record { none = follows-faultless v; all = faultless-follows v }

pub follows-not-fails : (v : ℕ) (clauses : List (List ℕ)) (lines : List Line) (n : ℕ) (kind : LineFault) → EachFollows (Follows v) clauses lines → FailsFirst (fault_of v) clauses lines n kind → ⊥
follows-not-fails v clauses lines n kind e f = all-not-first (Follows v) (fault_of v) (follow-decides v) clauses lines n kind e f

pub fails-once : (v : ℕ) (clauses : List (List ℕ)) (lines : List Line) (n m : ℕ) (kind other : LineFault) → FailsFirst (fault_of v) clauses lines n kind → FailsFirst (fault_of v) clauses lines m other → (n ≡ m) × (kind ≡ other)
fails-once v clauses lines n m kind other f g = first-once (fault_of v) clauses lines n m kind other f g

-- ---- the last line

ends-at : (lines : List Line) (n : ℕ) (lits : List ℕ) → length lines ≡ suc n → slice_get (map (λ (line : Line). line.lits) lines) n ≡ Some lits → ends_empty lines ≡ eqb (length lits) 0
ends-at [] n lits len at = absurd cc
ends-at (l ∷ []) zero lits len at = (let same : lits ≡ l.lits = cc in ap (λ (xs : List ℕ). eqb (length xs) 0) (sym same))
ends-at (l ∷ []) (suc n) lits len at = absurd (omega arith)
ends-at (l ∷ next ∷ lines) zero lits len at = absurd (omega arith)
ends-at (l ∷ next ∷ lines) (suc n) lits len at = ends-at (next ∷ lines) n lits (omega arith) at

pub ends-empty : (lines : List Line) (count : ℕ) (lits : List ℕ) → count ≡ length lines → 0 < count → slice_get (map (λ (line : Line). line.lits) lines) (count - 1) ≡ Some lits → ends_empty lines ≡ eqb (length lits) 0
ends-empty lines count lits is some at = ends-at lines (count - 1) lits (omega arith) at

pub ends-nowhere : (lines : List Line) → length lines ≡ 0 → ends_empty lines ≡ false
ends-nowhere [] none = refl
ends-nowhere (l ∷ lines) none = absurd (omega arith)

-- ---- the exits of a try

pub field-at : {X Y : Type 0} (f : X → Y) (xs : List X) (n m : ℕ) (x : X) (y : Y) → m ≡ n + 1 → slice_get xs n ≡ Some x → slice_get (map f xs) (m - 1) ≡ Some y → y ≡ f x
field-at f xs n m x y next at found =
    let here : m - 1 ≡ n = omega arith in
    let both : Some y ≡ option_map f (Some x) = sym found ∙ ap (slice_get (map f xs)) here ∙ slice_get-map f xs n ∙ ap (option_map f) at in
    cc

module _ (v : ℕ) (clauses : List (List ℕ)) (lines : List Line) (n m : ℕ) (line : Line) (next : m ≡ n + 1) (few : n < length lines) (at : slice_get lines n ≡ Some line) (id : ℕ) (id-at : slice_get (map (λ (l : Line). l.id) lines) (m - 1) ≡ Some id) where
  count-is : length (known clauses lines n) ≡ length clauses + n
  count-is = length-known clauses lines n 0 (omega arith)

  pub exit-id : (id ≡ length clauses + m → ⊥) → Some BadId ≡ fault_of v (known clauses lines n) line
  exit-id ne =
      let id-is : id ≡ line.id = field-at (λ (l : Line). l.id) lines n m line id next at id-at in
      let wrong : eqb line.id (length (known clauses lines n) + 1) ≡ false = ne_eqb line.id (length (known clauses lines n) + 1) (λ e. ne (omega (arith, count-is))) in
      sym (ap (λ (b : Bool). cond (not b) (Some BadId) (cond (has_outside v line.lits || has_double line.lits) (Some Tautology) (hints_fault (known clauses lines n) line.lits line.hints))) wrong)

  right-id : id ≡ length clauses + m → fault_of v (known clauses lines n) line ≡ cond (has_outside v line.lits || has_double line.lits) (Some Tautology) (hints_fault (known clauses lines n) line.lits line.hints)
  right-id e =
      let id-is : id ≡ line.id = field-at (λ (l : Line). l.id) lines n m line id next at id-at in
      let right : eqb line.id (length (known clauses lines n) + 1) ≡ true = eq-eqb line.id (length (known clauses lines n) + 1) (omega (arith, count-is)) in
      ap (λ (b : Bool). cond (not b) (Some BadId) (cond (has_outside v line.lits || has_double line.lits) (Some Tautology) (hints_fault (known clauses lines n) line.lits line.hints))) right

  pub exit-lemma : id ≡ length clauses + m → (lits : List ℕ) → slice_get (map (λ (l : Line). l.lits) lines) (m - 1) ≡ Some lits → (has_outside v lits || has_double lits) ≡ true → Some Tautology ≡ fault_of v (known clauses lines n) line
  exit-lemma e lits lits-at bad =
      let lits-is : lits ≡ line.lits = field-at (λ (l : Line). l.lits) lines n m line lits next at lits-at in
      sym (right-id e ∙ ap (λ (b : Bool). cond b (Some Tautology) (hints_fault (known clauses lines n) line.lits line.hints)) (subst (λ (xs : List ℕ). (has_outside v xs || has_double xs) ≡ true) lits-is bad))

  pub exit-hints : id ≡ length clauses + m → (lits hints : List ℕ) → slice_get (map (λ (l : Line). l.lits) lines) (m - 1) ≡ Some lits → slice_get (map (λ (l : Line). l.hints) lines) (m - 1) ≡ Some hints → (has_outside v lits || has_double lits) ≡ false → hints_fault (known clauses lines n) lits hints ≡ fault_of v (known clauses lines n) line
  exit-hints e lits hints lits-at hints-at good =
      let lits-is : lits ≡ line.lits = field-at (λ (l : Line). l.lits) lines n m line lits next at lits-at in
      let hints-is : hints ≡ line.hints = field-at (λ (l : Line). l.hints) lines n m line hints next at hints-at in
      ap (λ (xs : List ℕ). hints_fault (known clauses lines n) xs hints) lits-is
      ∙ ap (hints_fault (known clauses lines n) line.lits) hints-is
      ∙ sym (right-id e ∙ ap (λ (b : Bool). cond b (Some Tautology) (hints_fault (known clauses lines n) line.lits line.hints)) (subst (λ (xs : List ℕ). (has_outside v xs || has_double xs) ≡ false) lits-is good))
