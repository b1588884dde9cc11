-- What is lifted of what files hold of the form: the circuits of its Boolean program, with its source and its pattern.
use Rattle.std.proofs.Common.{◌≡◌, ℕ, zero, suc, Bool, not, ◌+◌, ◌≤◌, List, length, replicate, filter, Result, Ok, Err, refl, ap, sym, subst, ◌∙◌, arith}
use Rattle.std.specs.Prelude.{IfOk, OnOk}
use Rattle.std.proofs.lemmas.List.Filters.{length-filter_both}
use Rattle.pv_word.specs.declared.types.Ty.TheVariants as types
use Rattle.pv_types.specs.declared.layout.TheConstants.{MAX_LEAVES}
use Rattle.pv_machine.specs.Same.{IsSame}
use Rattle.pv_mean.specs.Sources.{Source}
use Rattle.pv_mean.specs.declared.cell.Cell.{Cell}
use Rattle.pv_pattern.specs.Patterns as patterns
use Rattle.pv_pattern.specs.declared.pattern.Pattern.{Pattern}
use Rattle.pv_pattern.specs.Found.{IsPatternOf}
use Rattle.pv_pattern.specs.Patterns.{asks_for_goal}
use Rattle.pv_pattern.specs.Sources.{looks_back, machine_of}
use Rattle.pv_replay.specs.declared.replay.Replay.{Replay}
use Rattle.pv_replay.specs.Replays.{IsReplayOf}
use Rattle.pv_case.specs.declared.case.Limits.{Limits as A_limits}
use Rattle.pv_bool.specs.Roles.{is_input, is_kept}
use Rattle.pv_bool.specs.Tree.{ProgramTree}
use Rattle.pv_bool.specs.Machine.{machine_of as program_machine}
use Rattle.pv_bool.specs.Scans.{state_len, input_len}
use Rattle.pv_circuit.specs.Steps.{widths}
use Rattle.pv_step.specs.Circuits.{circuit_of}
use Rattle.pv_kind.specs.declared.decision.Limits.{Limits}
use Rattle.pv_kind.specs.Refinements.{Stage}
use Rattle.pv_valid.specs.declared.facts.Facts.{Facts}
use Rattle.pv_valid.specs.Cases.{Case}
use Rattle.pv_valid.specs.Deciding.{IsOracleFor}
use Rattle.pv_lift.specs.Facts.{facts_of}
use Rattle.pv_lift.specs.Cases.{case_of}
use Rattle.pv_lift.specs.Stages.{encoding_of}
use Rattle.pv_step.specs.Steps.{form_of, starts_of}
use Rattle.pv_queries.specs.declared.built.TheConstants.{MAX_BUILT_BITS}
use Rattle.pv_lift.specs.Lifts.{IsLifted}
use Rattle.pv_bool_load.specs.Handed.{SubjectData, source_in}
use Rattle.pv_bool_load.specs.Forms.{program_of}
use Rattle.pv_command_verdict.specs.Cases.{limits_by, facts_in, case_in}
use Rattle.pv_command_verdict.specs.Made.{IsLiftOf}

pub is_lifted : (source : Source) (said : patterns.Pattern) (tree own : ProgramTree) (replay : Replay) (pattern : Pattern)
    → tree ≡ own → IsReplayOf source replay → IsPatternOf source pattern said → IsSame (machine_of source said) (program_machine own)
    → IsLifted (program_machine tree) replay pattern
is_lifted source said tree own replay pattern is of found same = record {
  source = source;
  said = said;
  is_replay = of;
  is_pattern = found;
  same = subst (λ (t : ProgramTree). IsSame (machine_of source said) (program_machine t)) (sym is) same;
}

-- ---- its bits are few

bool_widths : (n : ℕ) → widths (replicate n types.Bool) ≡ n
bool_widths zero = refl
bool_widths (suc n) = (let rest = bool_widths n in omega (arith, rest))

passed_few : {X : Type 0} (p : X → Bool) (xs : List X) → length (filter p xs) ≤ length xs
passed_few p xs = (let both = length-filter_both p (λ x. not (p x)) (λ x. refl) xs in omega (arith, both))

pub few_bits : (tree : ProgramTree) → length tree.bits ≤ MAX_LEAVES
    → widths (form_of tree).state + widths (form_of tree).input ≤ MAX_BUILT_BITS
few_bits tree few =
    let kept = bool_widths (state_len tree.bits) in
    let taken = bool_widths (input_len tree.bits) in
    let at_most = passed_few (λ b. is_kept b.role) tree.bits in
    let also = passed_few (λ b. is_input b.role) tree.bits in
    omega (arith, few, kept, taken, at_most, also)

-- ---- the limits

pub limits_are : (l : Limits) (said limits : A_limits) → l.depth ≡ said.depth → l.lemmas ≡ said.lemmas → l.words ≡ said.region_words
    → said ≡ limits → l ≡ limits_by limits
limits_are l said limits depth lemmas words is =
    ap (λ (n : ℕ). record { depth = n; lemmas = l.lemmas; words = l.words }) depth
    ∙ (ap (λ (n : ℕ). record { depth = said.depth; lemmas = n; words = l.words }) lemmas
    ∙ (ap (λ (n : ℕ). record { depth = said.depth; lemmas = said.lemmas; words = n }) words
    ∙ ap limits_by is))

-- ---- the lift, by parts that are the same

abbrev pub OracleBy : ProgramTree → Facts → List Cell → Bool → Stage → Limits → Type 0
OracleBy tree facts cells back stage limits =
    IsOracleFor (case_of (program_machine tree) (circuit_of tree) (starts_of tree) facts)
    (encoding_of (program_machine tree) (circuit_of tree) (starts_of tree) cells back) stage limits

oracle_moved : (tree t : ProgramTree) (facts : Facts) (cells cs : List Cell) (back b : Bool) (stage : Stage) (limits l : Limits)
    → tree ≡ t → cells ≡ cs → back ≡ b → limits ≡ l → OracleBy tree facts cells back stage limits → OracleBy t facts cs b stage l
oracle_moved tree t facts cells cs back b stage limits l trees cell_lists backs within oracle =
    subst (λ (x : Limits). OracleBy t facts cs b stage x) within
    (subst (λ (x : Bool). OracleBy t facts cs x stage limits) backs
    (subst (λ (x : List Cell). OracleBy t facts x back stage limits) cell_lists
    (subst (λ (x : ProgramTree). OracleBy x facts cells back stage limits) trees oracle)))

known_by : (s : SubjectData) (cells : List Cell) (goal back : Bool) (limits : Limits) (facts : Facts)
    → cells ≡ (source_in s).cells → goal ≡ asks_for_goal s.pattern → back ≡ looks_back s.pattern → limits ≡ limits_by s.given.case.limits
    → facts ≡ facts_of cells goal back limits → facts ≡ facts_in s
known_by s cells goal back limits facts of_cells asks looks within is =
    let own = (source_in s).cells in
    is
    ∙ (ap (λ (cs : List Cell). facts_of cs goal back limits) of_cells
    ∙ (ap (λ (b : Bool). facts_of own b back limits) asks
    ∙ (ap (λ (b : Bool). facts_of own (asks_for_goal s.pattern) b limits) looks
    ∙ ap (λ (l : Limits). facts_of own (asks_for_goal s.pattern) (looks_back s.pattern) l) within)))

-- what is made of the parts of what files hold, with parts that are those that were given
pub lift_is : (s : SubjectData) (tree t : ProgramTree) (cells cs : List Cell) (goal back b : Bool) (limits : Limits) (facts : Facts) (stage : Stage)
    → tree ≡ program_of s → cells ≡ (source_in s).cells → goal ≡ asks_for_goal s.pattern → back ≡ looks_back s.pattern
    → limits ≡ limits_by s.given.case.limits → t ≡ tree → cs ≡ cells → b ≡ back → facts ≡ facts_of cells goal back limits
    → OracleBy tree facts cells back stage limits → IsLiftOf s t facts cs b stage
lift_is s tree t cells cs goal back b limits facts stage program of_cells asks looks within trees cell_lists backs is oracle = record {
  program = trees ∙ program;
  known = known_by s cells goal back limits facts of_cells asks looks within is;
  of_cells = cell_lists ∙ of_cells;
  looks = backs ∙ looks;
  oracle = oracle_moved tree t facts cells cs back b stage limits (limits_by s.given.case.limits) (sym trees) (sym cell_lists) (sym backs) within
      oracle;
}

-- its case is that of what files hold
pub case_is : (s : SubjectData) (tree : ProgramTree) (facts : Facts) → tree ≡ program_of s → facts ≡ facts_in s
    → ◌≡◌ {A = Case} (case_of (program_machine tree) (circuit_of tree) (starts_of tree) facts) (case_in s)
case_is s tree facts program known =
    ap (λ (t : ProgramTree). case_of (program_machine t) (circuit_of t) (starts_of t) facts) program
    ∙ ap (λ (f : Facts). case_of (program_machine (program_of s)) (circuit_of (program_of s)) (starts_of (program_of s)) f) known

-- ---- answers

-- `ap` whose equation comes first, and with it the type of what the function takes
pub along : {A B : Type 0} (x y : A) → x ≡ y → (f : A → B) → f x ≡ f y
along x y e f = ap f e

pub ok_both : {A E : Type 0} (P : A → Type 0) (Q : Type 0) (R : A → Type 0) (r : Result A E) → IfOk r P → OnOk r Q
    → ((x : A) → P x → Q → R x) → IfOk r R
ok_both P Q R (Ok x) p q f = f x p q
ok_both P Q R (Err e) p q f = tt

pub ok_five : {A E : Type 0} (P Q R S T U : A → Type 0) (r : Result A E) → IfOk r P → IfOk r Q → IfOk r R → IfOk r S → IfOk r T
    → ((x : A) → P x → Q x → R x → S x → T x → U x) → IfOk r U
ok_five P Q R S T U (Ok x) p q r s t f = f x p q r s t
ok_five P Q R S T U (Err e) p q r s t f = tt
