-- In a project that keeps the rules an expression that says something of a scan has a term.
use Prim.Native.String.{String}
use Rattle.std.proofs.Common.{◌≡◌, inl, inr, ℕ, zero, suc, List, [], ◌∷◌, ◌++◌, length, Bool, true, false, not, ◌||◌, Option, Some, None, IsTrue, Contains, refl, sym, ap, subst, ◌∙◌, arith}
use Rattle.std.specs.Prelude.{⊤, ◌⊎◌, FitsSigned, is_some, drop, if◌then◌else◌}
use Rattle.std.specs.Int.{w64}
use Rattle.std.specs.List.{AllByRecursion, list_any}
use Rattle.std.proofs.lemmas.Bool.{true≢false}
use Rattle.std.proofs.lemmas.Option.{none-some}
use Rattle.std.proofs.lemmas.List.Folds.{list_any-append}
use Rattle.pv_place.specs.declared.place.Place.{Place}
use Rattle.pv_lex.specs.declared.class.Class.TheVariants.{Either}
use Rattle.pv_lex.specs.Shapes.{begins}
use Rattle.pv_tree.specs.declared.expr.Root.{Root}
use Rattle.pv_tree.specs.declared.expr.Root.TheVariants.{Local, Named, Area}
use Rattle.pv_tree.specs.declared.expr.BinaryOp.{BinaryOp}
use Rattle.pv_tree.specs.declared.expr.BinaryOp.TheVariants as op
use Rattle.pv_tree.specs.declared.expr.StdFunction.{StdFunction}
use Rattle.pv_tree.specs.declared.expr.StdFunction.TheVariants.{Convert, Abs, Min, Max, Limit, Sel, Shl, Shr}
use Rattle.pv_tree.specs.Tree.{ExprTree, lit, read, unary, binary, std, paren, ExprTrees, no_exprs, exprs, OperandTree, operand, field, index, StepTrees, no_steps, steps}
use Rattle.pv_tree.specs.Lexemes.{Lexeme}
use Rattle.pv_tree.specs.Literals.{bare_address, address_bits}
use Rattle.pv_tree.specs.Expressions.{parameters_of, SpellsRoot, SpellsExpr, SpellsArguments}
use Rattle.pv_tree.specs.LiteralTypes.{Want, nothing}
use Rattle.pv_tree.specs.Operands.{operands_in, operands_in_args, operands_in_steps}
use Rattle.pv_tree.specs.Scopes.{Scope}
use Rattle.pv_tree.specs.Things.{Thing, dated, thing_at, thing_of_root, root_place, first_place, place_of_operand}
use Rattle.pv_tree.specs.Types.{Written, signed, literal_of, sort_of, sorts_of, type_of}
use Rattle.pv_tree.specs.Sorts.{wanted_beside, wants_of}
use Rattle.pv_tree.specs.RuleLaws.{HasType}
use Rattle.pv_tree.specs.Parts.{Part, parts_of, parts_of_args, parts_of_steps, reads_of_parts, IndexAt, indexes_behind}
use Rattle.pv_tree.specs.Rules.{Rule, BreaksInPattern, out_of_range, wrong_address, no_pattern}
use Rattle.pv_tree.specs.Rules.PatternRule.{divides, DividesAt}
use Rattle.pv_tree.specs.Rules.Addresses.{is_wrong_operand}
use Rattle.pv_mean.specs.Sources.{Source}
use Rattle.pv_mean.specs.Scans.{entry_activation}
use Rattle.pv_mean.specs.Activations.{scope_in}
use Rattle.pv_pattern.specs.Reads.{bare, AreFixedSteps, IsFixedOperand}
use Rattle.pv_pattern.specs.Texts.{is_brief_operand}
use Rattle.pv_resolve.specs.Functions.{arity}
use Rattle.pv_resolve.specs.Rooms.{FitsSymbol, FitsWhere, FitsSteps, HasRoom}
use Rattle.pv_laws_types.specs.Typed.{HasTable, IsAtWork, SymbolsSuit}
use Rattle.pv_laws_types.proofs.ForCallers.{Shows}
use Rattle.pv_laws_room.specs.Reached.{IsShortRoot, IsShortOperand}
use Rattle.pv_laws_room.proofs.ForCallers.{contains_more, contains_front, contains_behind, literal_fits, written_fits, root_fits, read_of_parts}
use Rattle.pv_pattern_read.specs.Making.{kept_two}
use Rattle.pv_pattern_read.specs.Readable.{args_count, HasTerm, HaveTerms}
use Rattle.pv_pattern_read.proofs.Spots.{NamesSpot, names_spot, some_of}

-- ---- what is known of each part

abbrev HasKept : ExprTree → Type 0
HasKept (lit ty value place) = ⊤
HasKept (read o) = ⊤
HasKept (unary op place arg) = ⊤
HasKept (binary op place left right) = IsTrue (is_some (kept_two op))
HasKept (std function place args) = ⊤
HasKept (paren place inner) = ⊤

record FixedSpot (source : Source) (o : OperandTree) : Type 0 where
  root : FitsSymbol o
  literal : IsFixedOperand o
  spot : NamesSpot source bare o

abbrev HasSpotOf : Source → Scope → ExprTree → Type 0
HasSpotOf source scope (read o) = IsShortOperand o → is_brief_operand scope o ≡ false → FixedSpot source o
HasSpotOf source scope (lit ty value place) = ⊤
HasSpotOf source scope (unary op place arg) = ⊤
HasSpotOf source scope (binary op place left right) = ⊤
HasSpotOf source scope (std function place args) = ⊤
HasSpotOf source scope (paren place inner) = ⊤

record PartHas (source : Source) (scope : Scope) (p : Part) : Type 0 where
  literal : (w : Written) → literal_of p.expr ≡ Some w → FitsSigned w64 w.value
  kept : HasKept p.expr
  spot : HasSpotOf source scope p.expr

abbrev AllHave : Source → Scope → List Part → Type 0
AllHave source scope ps = (p : Part) → Contains ps p → PartHas source scope p

-- ---- lists

or_false : (a b : Bool) → a || b ≡ false → (a ≡ false) × (b ≡ false)
or_false false b e = (refl, e)
or_false true b e = absurd (true≢false e)

none_of : (scope : Scope) (xs ys : List OperandTree) → list_any (is_brief_operand scope) (xs ++ ys) ≡ false
    → (list_any (is_brief_operand scope) xs ≡ false) × (list_any (is_brief_operand scope) ys ≡ false)
none_of scope xs ys e =
    or_false (list_any (is_brief_operand scope) xs) (list_any (is_brief_operand scope) ys)
    (sym (list_any-append (is_brief_operand scope) xs ys) ∙ e)

first_part : (scope : Scope) (want : Want) (e : ExprTree) → Contains (parts_of scope want e) (record { want = want; expr = e })
first_part scope want (lit ty value place) = (0, omega arith, refl)
first_part scope want (read o) = (0, omega arith, refl)
first_part scope want (unary op place arg) = (0, omega arith, refl)
first_part scope want (binary op place left right) = (0, omega arith, refl)
first_part scope want (std function place args) = (0, omega arith, refl)
first_part scope want (paren place inner) = (0, omega arith, refl)

-- ---- addresses and functions, as they are spelled

abbrev IsWidth : ℕ → Type 0
IsWidth bits = (bits ≡ 1) ⊎ ((bits ≡ 8) ⊎ ((bits ≡ 16) ⊎ (bits ≡ 32)))

address_width : (text : List ℕ) → IsWidth (address_bits text)
address_width text = lead (begins (Either 66 98) (drop 1 text)) (begins (Either 87 119) (drop 1 text)) (begins (Either 68 100) (drop 1 text))
  where
    lead : (b w d : Bool) → IsWidth (if b then 8 else (if w then 16 else (if d then 32 else 1)))
    lead true w d = inr (inl refl)
    lead false true d = inr (inr (inl refl))
    lead false false true = inr (inr (inr refl))
    lead false false false = inl refl

root_short : (root : Root) (place : Place) (ts : List Lexeme) → SpellsRoot root place ts → IsShortRoot root
root_short (Local name hash at) place ts d = tt
root_short (Named name) place ts d = tt
root_short (Area area bits byte bit) place ts d =
    subst IsWidth (sym d.is.is.of_bits) (address_width (bare_address d.token.bytes))

args_counted : (first : Bool) (parameters : List (Option String)) (args : ExprTrees) (ts : List Lexeme) → SpellsArguments first parameters args ts
    → args_count args ≡ length parameters
args_counted first [] no_exprs ts d = refl
args_counted first [] (exprs arg args) ts d = absurd d
args_counted first (parameter ∷ parameters) no_exprs ts d = absurd d
args_counted first (parameter ∷ parameters) (exprs arg args) ts d =
    ap suc (args_counted false parameters args d.behind.behind.back d.behind.behind.behind)

as_many : (function : StdFunction) → length (parameters_of function) ≡ arity function
as_many (Convert from to) = refl
as_many Abs = refl
as_many Min = refl
as_many Max = refl
as_many Limit = refl
as_many Sel = refl
as_many Shl = refl
as_many Shr = refl

-- ---- literals

literal_has : (source : Source) (e : ExprTree) (w : Written) → literal_of e ≡ Some w → FitsSigned w64 w.value → HasTerm source e
literal_has source (lit ty value place) w is h =
    let same : (record { ty = ty; value = value }) ≡ w = cc in subst (λ (x : Written). FitsSigned w64 x.value) (sym same) h
literal_has source (read o) w is h = absurd (none-some w is)
literal_has source (unary op place arg) w is h = subst (λ o. FitsWhere o (HasTerm source arg)) (sym is) h
literal_has source (binary op place left right) w is h = absurd (none-some w is)
literal_has source (std function place args) w is h = absurd (none-some w is)
literal_has source (paren place inner) w is h = literal_has source inner w is h

fixed_fit : (scope : Scope) (more : StepTrees) → AreFixedSteps more
    → ((p : Part) → Contains (parts_of_steps scope more) p → (w : Written) → literal_of p.expr ≡ Some w → FitsSigned w64 w.value) → FitsSteps more
fixed_fit scope no_steps known f = tt
fixed_fit scope (steps (field name place) more) known f = (tt, fixed_fit scope more known.1 f)
fixed_fit scope (steps (index e place) more) known f =
    let w = some_of (literal_of e) known.0 in (
      literal_fits e w.0 w.1 (f (record { want = nothing; expr = e })
          (contains_front (record { want = nothing; expr = e }) (parts_of scope nothing e) (parts_of_steps scope more) (first_part scope nothing e)) w.0 w.1),
      fixed_fit scope more known.1 (λ p c. f p (contains_behind p (parts_of scope nothing e) (parts_of_steps scope more) c)),
    )

-- ---- expressions

unary_has : (source : Source) (scope : Scope) (want : Want) (e arg : ExprTree) (o : Option Written) → literal_of e ≡ o
    → AllHave source scope (record { want = want; expr = e } ∷ (if is_some o then [] else parts_of scope nothing arg))
    → (AllHave source scope (parts_of scope nothing arg) → HasTerm source arg) → FitsWhere o (HasTerm source arg)
unary_has source scope want e arg None is f below = below (λ p c. f p (contains_more _ p (parts_of scope nothing arg) c))
unary_has source scope want e arg (Some w) is f below = (f (record { want = want; expr = e }) (0, omega arith, refl)).literal w is

paren_has : (source : Source) (scope : Scope) (want : Want) (e inner : ExprTree) (o : Option Written) → literal_of e ≡ literal_of inner
    → literal_of inner ≡ o → AllHave source scope (record { want = want; expr = e } ∷ (if is_some o then [] else parts_of scope want inner))
    → (AllHave source scope (parts_of scope want inner) → HasTerm source inner) → HasTerm source inner
paren_has source scope want e inner None same is f below = below (λ p c. f p (contains_more _ p (parts_of scope want inner) c))
paren_has source scope want e inner (Some w) same is f below =
    literal_has source inner w is ((f (record { want = want; expr = e }) (0, omega arith, refl)).literal w (same ∙ is))

mutual
  has_term : (source : Source) (scope : Scope) (want : Want) (e : ExprTree) (ts : List Lexeme) → SpellsExpr e ts
      → list_any (is_brief_operand scope) (operands_in e) ≡ false → AllHave source scope (parts_of scope want e) → HasTerm source e
  has_term source scope want (lit ty value place) ts d b f =
      (f (record { want = want; expr = lit ty value place }) (0, omega arith, refl)).literal (record { ty = ty; value = value }) refl
  has_term source scope want (read (operand root more place)) ts d b f =
      let p = f (record { want = want; expr = read (operand root more place) }) (0, omega arith, refl) in
      let none = or_false (is_brief_operand scope (operand root more place)) (list_any (is_brief_operand scope) (operands_in_steps more)) b in
      let s = p.spot (root_short root place d.front d.in_front) none.0 in
      record {
        fits = (s.root, fixed_fit scope more s.literal (λ q c. (f q (contains_more _ q (parts_of_steps scope more) c)).literal));
        literal = s.literal;
        spot = s.spot.spot;
        named = s.spot.named;
        readable = s.spot.readable;
      }
  has_term source scope want (unary op place arg) ts d b f =
      unary_has source scope want (unary op place arg) arg (signed op (literal_of arg)) refl f
      (λ g. has_term source scope nothing arg d.back d.behind b g)
  has_term source scope want (binary op place left right) ts d b f =
      let w = wanted_beside (sort_of scope left ∷ sort_of scope right ∷ []) in
      let none = none_of scope (operands_in left) (operands_in right) b in (
        (f (record { want = want; expr = binary op place left right }) (0, omega arith, refl)).kept,
        (
          has_term source scope w left d.front d.in_front none.0
              (λ p c. f p (contains_more _ p (parts_of scope w left ++ parts_of scope w right)
              (contains_front p (parts_of scope w left) (parts_of scope w right) c))),
          has_term source scope w right d.behind.back d.behind.behind none.1
              (λ p c. f p (contains_more _ p (parts_of scope w left ++ parts_of scope w right)
              (contains_behind p (parts_of scope w left) (parts_of scope w right) c))),
        ),
      )
  has_term source scope want (std function place args) ts d b f = (
    args_counted true (parameters_of function) args d.behind.behind.front d.behind.behind.in_front ∙ as_many function,
    have_terms source scope (wants_of function (sorts_of scope args)) true (parameters_of function) args d.behind.behind.front
        d.behind.behind.in_front b
        (λ p c. f p (contains_more _ p (parts_of_args scope (wants_of function (sorts_of scope args)) args) c)),
  )
  has_term source scope want (paren place inner) ts d b f =
      paren_has source scope want (paren place inner) inner (literal_of inner) refl refl f
      (λ g. has_term source scope want inner d.behind.front d.behind.in_front b g)

  have_terms : (source : Source) (scope : Scope) (wants : List Want) (first : Bool) (parameters : List (Option String)) (args : ExprTrees)
      (ts : List Lexeme) → SpellsArguments first parameters args ts → list_any (is_brief_operand scope) (operands_in_args args) ≡ false
      → AllHave source scope (parts_of_args scope wants args) → HaveTerms source args
  have_terms source scope wants first parameters no_exprs ts d b f = tt
  have_terms source scope wants first [] (exprs arg args) ts d b f = absurd d
  have_terms source scope [] first (parameter ∷ parameters) (exprs arg args) ts d b f =
      let none = none_of scope (operands_in arg) (operands_in_args args) b in (
        has_term source scope nothing arg d.behind.behind.front d.behind.behind.in_front none.0
            (λ p c. f p (contains_front p (parts_of scope nothing arg) (parts_of_args scope [] args) c)),
        have_terms source scope [] false parameters args d.behind.behind.back d.behind.behind.behind none.1
            (λ p c. f p (contains_behind p (parts_of scope nothing arg) (parts_of_args scope [] args) c)),
      )
  have_terms source scope (want ∷ wants) first (parameter ∷ parameters) (exprs arg args) ts d b f =
      let none = none_of scope (operands_in arg) (operands_in_args args) b in (
        has_term source scope want arg d.behind.behind.front d.behind.behind.in_front none.0
            (λ p c. f p (contains_front p (parts_of scope want arg) (parts_of_args scope wants args) c)),
        have_terms source scope wants false parameters args d.behind.behind.back d.behind.behind.behind none.1
            (λ p c. f p (contains_behind p (parts_of scope want arg) (parts_of_args scope wants args) c)),
      )

-- ---- by the rules

is_not : (b : Bool) → (IsTrue (not b) → ⊥) → b ≡ true
is_not true f = refl
is_not false f = absurd (f refl)

isnt : (b : Bool) → (IsTrue b → ⊥) → b ≡ false
isnt true f = absurd (f refl)
isnt false f = refl

is_kept : (o : BinaryOp) → (IsTrue (divides o) → ⊥) → IsTrue (is_some (kept_two o))
is_kept op.Mul f = refl
is_kept op.Div f = absurd (f refl)
is_kept op.Mod f = absurd (f refl)
is_kept op.Add f = refl
is_kept op.Sub f = refl
is_kept op.Less f = refl
is_kept op.Greater f = refl
is_kept op.LessEqual f = refl
is_kept op.GreaterEqual f = refl
is_kept op.Equal f = refl
is_kept op.NotEqual f = refl
is_kept op.And f = refl
is_kept op.Xor f = refl
is_kept op.Or f = refl

kept_of : (e : ExprTree) → ((at : Place) → DividesAt at e → ⊥) → HasKept e
kept_of (lit ty value place) f = tt
kept_of (read o) f = tt
kept_of (unary op place arg) f = tt
kept_of (binary o place left right) f = is_kept o (λ t. f place (refl, t))
kept_of (std function place args) f = tt
kept_of (paren place inner) f = tt

fixed_steps : (scope : Scope) (last : Place) (t : Thing) (more : StepTrees)
    → ((i : IndexAt) → Contains (indexes_behind scope last t more) i → is_some (literal_of i.index) ≡ true) → AreFixedSteps more
fixed_steps scope last t no_steps f = tt
fixed_steps scope last t (steps (field name place) more) f =
    (tt, fixed_steps scope place (thing_at scope (dated last t) (field name place)) more f)
fixed_steps scope last t (steps (index e place) more) f = (
  f (record { within = dated last t; index = e }) (0, omega arith, refl),
  fixed_steps scope last (thing_at scope (dated last t) (index e place)) more
      (λ i c. f i (contains_more _ i (indexes_behind scope last (thing_at scope (dated last t) (index e place)) more) c)),
)

all_at : {X : Type 0} (P : X → Type 0) (xs : List X) (x : X) → AllByRecursion P xs → Contains xs x → P x
all_at P [] x a (k, lt, e) = absurd (omega (arith, lt))
all_at P (y ∷ ys) x a (zero, lt, e) = subst P e a.0
all_at P (y ∷ ys) x a (suc k, lt, e) = all_at P ys x a.1 (k, omega (arith, lt), e)

module _ (shows : Shows) (source : Source) (room : HasRoom source source.entry) (table : HasTable source) (suits : SymbolsSuit source.project)
    (work : IsAtWork source (entry_activation source)) (none : source.entry.value ≡ None) (e : ExprTree)
    (unbroken : (rule : Rule) (at : Place) → BreaksInPattern rule (scope_in source (entry_activation source)) e at → ⊥)
    (typed : AllByRecursion (HasType (scope_in source (entry_activation source))) (parts_of (scope_in source (entry_activation source)) nothing e)) where
  abbrev scope : Scope
  scope = scope_in source (entry_activation source)

  abbrev parts : List Part
  parts = parts_of scope nothing e

  fixed_operand : (o : OperandTree) → Contains (reads_of_parts parts) o → IsFixedOperand o
  fixed_operand (operand root more place) c =
      fixed_steps scope (root_place root place) (thing_of_root scope root place) more
      (λ i d. is_not (is_some (literal_of i.index)) (λ moving. unbroken no_pattern (first_place i.index)
      (inr (c.0, operand root more place, c.1, c.2, (d.0, i, d.1, d.2, (refl, moving))))))

  spot_of_part : (want : Want) (x : ExprTree) → Contains parts (record { want = want; expr = x }) → HasSpotOf source scope x
  spot_of_part want (read o) c = λ short visible_only.
      let k = read_of_parts parts (record { want = want; expr = read o }) o c refl in
      let right = isnt (is_wrong_operand o) (λ wrong. unbroken wrong_address (place_of_operand o) (k.0, o, k.1, k.2, (refl, wrong))) in
      let ty = some_of (type_of scope want (read o)) (all_at (HasType scope) parts (record { want = want; expr = read o }) typed c) in
      let literal = fixed_operand o k in
      record {
        root = root_fits o right short;
        literal = literal;
        spot = names_spot shows source bare room table suits work none want o ty.0 ty.1 right literal short visible_only;
      }
  spot_of_part want (lit ty value place) c = tt
  spot_of_part want (unary op place arg) c = tt
  spot_of_part want (binary op place left right) c = tt
  spot_of_part want (std function place args) c = tt
  spot_of_part want (paren place inner) c = tt

  part_has : AllHave source scope parts
  part_has p c = record {
    literal = written_fits p.want (literal_of p.expr)
        (λ out. unbroken out_of_range (first_place p.expr) (c.0, p, c.1, c.2, (refl, out)));
    kept = kept_of p.expr (λ at divided. unbroken no_pattern at (inl (c.0, p, c.1, c.2, divided)));
    spot = spot_of_part p.want p.expr c;
  }

  pub pattern_has_term : (ts : List Lexeme) → SpellsExpr e ts → list_any (is_brief_operand scope) (operands_in e) ≡ false → HasTerm source e
  pattern_has_term ts d b = has_term source scope nothing e ts d b part_has
