-- Patterns: expressions that read no brief cell have the values of their terms by visible cells alone, and those that break no rule make no
-- check.
use Rattle.std.proofs.Common.{◌≡◌, ℕ, zero, suc, ◌+◌, ◌-◌, ℤ, List, [], ◌∷◌, length, map, filter, Bool as Truth, true, false, ◌||◌, ◌&&◌, cond, Option, Some, None, IsTrue, Contains, refl, sym, ap, subst, ◌∙◌, inl, inr, arith}
use Rattle.std.specs.Prelude.{is_some, is_none, slice_index_or, if◌then◌else◌}
use Rattle.std.specs.List.{AllByRecursion, list_any}
use Rattle.std.proofs.lemmas.Bool.{false≢true, true≢false}
use Rattle.std.proofs.lemmas.List.Elements.{recursion_from_All}
use Rattle.std.proofs.lemmas.Slice.Eq.{bytes_eq-Decides}
use Rattle.std.proofs.lemmas.Option.{none-some}
use Rattle.pv_word.specs.declared.types.Ty.{Ty}
use Rattle.pv_place.specs.declared.place.Place.{Place}
use Rattle.pv_place.specs.Ranges.{AreWithin}
use Rattle.pv_types.specs.Tree.{VarTree}
use Rattle.pv_tree.specs.declared.expr.Area.TheVariants.{I, Q, M}
use Rattle.pv_tree.specs.declared.expr.Root.TheVariants.{Local, Named, Area as InArea}
use Rattle.pv_tree.specs.declared.expr.BinaryOp.{BinaryOp}
use Rattle.pv_tree.specs.declared.expr.BinaryOp.TheVariants as two
use Rattle.pv_tree.specs.Tree.{ExprTree, lit, read, unary, binary, std, paren, ExprTrees, no_exprs, exprs, OperandTree, operand, field, index, StepTrees, no_steps, steps, BlockTree}
use Rattle.pv_tree.specs.LiteralTypes.{Want, nothing}
use Rattle.pv_tree.specs.Operands.{operands_in}
use Rattle.pv_tree.specs.Parts.{Part, IndexAt, parts_of, parts_of_args, indexes_behind, operands_read, reads_of_parts, path_of, indexes_of}
use Rattle.pv_tree.specs.Rules.{no_pattern, out_of_range}
use Rattle.pv_tree.specs.Rules.PatternRule.{divides as divides_there, DividesAt}
use Rattle.pv_tree.specs.Scopes.{Scope, first_var, is_stl, own_value}
use Rattle.pv_tree.specs.Sorts.{wanted_beside, wants_of}
use Rattle.pv_tree.specs.Things.{Thing, is_address, last_byte, quoted_value, first_place, root_place, thing_of_root}
use Rattle.pv_tree.specs.Types.{Written, signed, literal_of, sort_of, sorts_of}
use Rattle.pv_mean.specs.AreaBytes.{Bytes, from_on, is_same_area}
use Rattle.pv_mean.specs.Sources.{Source}
use Rattle.pv_mean.specs.Frames.{Image, Input, visible_ranges, image_ranges, input_ranges}
use Rattle.pv_mean.specs.Endings.{ended}
use Rattle.pv_mean.specs.Correct.{BindsInRange}
use Rattle.pv_mean.specs.Scans.{Visible, scan, entry_activation, pattern_value}
use Rattle.pv_mean.proofs.ForCallers.{within-begin}
use Rattle.pv_sizes.specs.Checks.{one_if, is_brief, is_brief_variable, divides, checks_of, checks_of_each, checks_of_steps, checks_of_step}
use Rattle.pv_flow.specs.Terms.{Valuation, value_of}
use Rattle.pv_variables.specs.Variables.{is_entry, value_count}
use Rattle.pv_access.specs.Accesses.{Check}
use Rattle.pv_access.specs.Correct.{checked}
use Rattle.pv_pattern.specs.Patterns.{is_true_value}
use Rattle.pv_pattern.specs.Texts.{is_brief_var, is_brief_operand, reads_brief, KeepsRules, Says, is_address_operand, alone, addresses_in, HasCells}
use Rattle.pv_lower.specs.Lowered.{scope_of}
use Rattle.pv_laws_types.specs.Typed.{IsAtWork}
use Rattle.pv_laws_lower.specs.Below.{BelowLaws}
use Rattle.pv_laws_lower.specs.Fit.{HasBytes, IsWide, IsAddressed, IsLaidOut, LiteralLies}
use Rattle.pv_laws_lower.specs.Agrees.{outcome}
use Rattle.pv_laws_lower.specs.Correct.{ChecksAreCounted, EntryLies}
use Rattle.pv_laws_lower.specs.Patterns.{HasVisible, IsOfVisible, pattern_lowered, PatternsHold, ScansAreSeen, SaidAreFit}
use Rattle.pv_laws_lower.proofs.Fitting.{is_not, written_lies}
use Rattle.pv_laws_lower.proofs.Lists.{all_front, all_back, all_of, all_both, all_more}
use Rattle.pv_laws_lower.proofs.Operands.{Asks, AskEach, values_seen}
use Rattle.pv_laws_lower.proofs.Parts.{OfPart, together, parted, read_in}
use Rattle.pv_laws_lower.proofs.Shown.{Sees}

-- ---- no operand is brief

neither : (a b : Truth) → a || b ≡ false → (a ≡ false) × (b ≡ false)
neither true b e = absurd (true≢false e)
neither false b e = (refl, e)

none_any : {X : Type 0} (test : X → Truth) (xs : List X) → list_any test xs ≡ false → AllByRecursion (λ x. test x ≡ false) xs
none_any test [] e = tt
none_any test (x ∷ xs) e = let b = neither (test x) (list_any test xs) e in (b.0, none_any test xs b.1)

valueless : (block : BlockTree) → value_count block ≡ 0 → block.value ≡ None
valueless block e = lead block.value e
  where
    lead : (o : Option Ty) → ◌≡◌ {A = ℕ} (if is_some o then 1 else 0) 0 → o ≡ None
    lead None f = refl
    lead (Some ty) f = absurd (omega (arith, f))

module _ (source : Source) (block : BlockTree) (none : block.value ≡ None) where
  unowned : (key : List ℕ) (hash : Truth) → is_some (own_value block key hash) ≡ false
  unowned key hash = lead (is_stl block.body) hash _ _ block.value none
    where
      lead : (t h a b : Truth) (o : Option Ty) → o ≡ None
          → is_some (if t then (if a then o else None) else (if h then None else (if b then o else None))) ≡ false
      lead true h true b o e = ap is_some e
      lead true h false b o e = refl
      lead false true a b o e = refl
      lead false false a true o e = ap is_some e
      lead false false a false o e = refl

  unquoted : (key : List ℕ) → is_some (quoted_value block key) ≡ false
  unquoted key = lead (is_stl block.body)
    where
      lead : (t : Truth) → is_some (if t then None else own_value block key false) ≡ false
      lead true = refl
      lead false = unowned key false

  -- what has no value of its own has brief variables alone
  not_brief : (o : OperandTree) → is_brief_operand (scope_of source block) o ≡ false → is_brief (scope_of source block) o ≡ false
  not_brief (operand (Local name hash at) more place) e = lead (first_var block.vars name.key) e
    where
      lead : (v : Option VarTree) → is_brief_var block v ≡ false → is_brief_variable block v (is_some (own_value block name.key hash)) ≡ false
      lead None f = unowned name.key hash
      lead (Some v) f = f
  not_brief (operand (Named name) more place) e = unquoted name.key
  not_brief (operand (InArea area bits byte n) more place) e = refl

  none_asked : (e : ExprTree) → reads_brief (scope_of source block) e ≡ false
      → AskEach ⊥ (scope_of source block) (parts_of (scope_of source block) nothing e)
  none_asked e none =
      read_in (Asks ⊥ (scope_of source block)) (scope_of source block) nothing e
      (all_more (λ o. is_brief_operand (scope_of source block) o ≡ false) (Asks ⊥ (scope_of source block)) (operands_in e)
      (λ o f t. false≢true (sym (not_brief o f) ∙ t)) (none_any (is_brief_operand (scope_of source block)) (operands_in e) none))

-- ---- no check is made

sum_none : (a b : ℕ) → a ≡ 0 → b ≡ 0 → a + b ≡ 0
sum_none a b p q = omega (arith, p, q)

undivided : (op : BinaryOp) → (IsTrue (divides_there op) → ⊥) → one_if (divides op) ≡ 0
undivided two.Mul f = refl
undivided two.Div f = absurd (f refl)
undivided two.Mod f = absurd (f refl)
undivided two.Add f = refl
undivided two.Sub f = refl
undivided two.Less f = refl
undivided two.Greater f = refl
undivided two.LessEqual f = refl
undivided two.GreaterEqual f = refl
undivided two.Equal f = refl
undivided two.NotEqual f = refl
undivided two.And f = refl
undivided two.Xor f = refl
undivided two.Or f = refl

module _ (scope : Scope) where
  literal_unchecked : (e : ExprTree) (x : Written) → literal_of e ≡ Some x → checks_of scope e ≡ 0
  literal_unchecked (lit ty n place) x is = refl
  literal_unchecked (read o) x is = absurd (none-some x is)
  literal_unchecked (unary op place arg) x is = lead (literal_of arg) refl is (λ y j. literal_unchecked arg y j)
    where
      lead : (o : Option Written) → literal_of arg ≡ o → signed op o ≡ Some x
          → ((y : Written) → literal_of arg ≡ Some y → checks_of scope arg ≡ 0) → checks_of scope arg ≡ 0
      lead None j f below = absurd (none-some x f)
      lead (Some y) j f below = below y j
  literal_unchecked (binary op place left right) x is = absurd (none-some x is)
  literal_unchecked (std function place args) x is = absurd (none-some x is)
  literal_unchecked (paren place inner) x is = literal_unchecked inner x is

  abbrev IsFixed : IndexAt → Type 0
  IsFixed i = is_some (literal_of i.index) ≡ true

  -- an operand that is no brief cell, each of whose indexes is a literal
  abbrev IsStill : OperandTree → Type 0
  IsStill o = (is_brief scope o ≡ false) × AllByRecursion IsFixed (indexes_of scope (path_of scope o))

  -- a part that divides nothing
  abbrev IsCalm : Part → Type 0
  IsCalm p = ((at : Place) → DividesAt at p.expr → ⊥) × AllByRecursion IsStill (operands_read p.expr)

  steps_unchecked : (more : StepTrees) (last : Place) (t : Thing) → AllByRecursion IsFixed (indexes_behind scope last t more)
      → checks_of_steps scope more ≡ 0
  steps_unchecked no_steps last t a = refl
  steps_unchecked (steps (field name place) more) last t a = sum_none 0 (checks_of_steps scope more) refl (steps_unchecked more _ _ a)
  steps_unchecked (steps (index e place) more) last t a =
      sum_none (checks_of_step scope (index e place)) (checks_of_steps scope more) (lead (literal_of e) refl a.0) (steps_unchecked more _ _ a.1)
    where
      lead : (o : Option Written) → literal_of e ≡ o → is_some o ≡ true → checks_of scope e + one_if (is_none (literal_of e)) ≡ 0
      lead None j f = absurd (false≢true f)
      lead (Some x) j f = sum_none (checks_of scope e) _ (literal_unchecked e x j) (ap (λ o. one_if (is_none o)) j)

  -- where a literal has no parts of its own
  either_unchecked : (want : Want) (e : ExprTree) (o : Option Written) → ((x : Written) → o ≡ Some x → checks_of scope e ≡ 0)
      → AllByRecursion IsCalm (if is_some o then [] else parts_of scope want e)
      → (AllByRecursion IsCalm (parts_of scope want e) → checks_of scope e ≡ 0) → checks_of scope e ≡ 0
  either_unchecked want e (Some x) literal a below = literal x refl
  either_unchecked want e None literal a below = below a

  mutual
    unchecked : (want : Want) (e : ExprTree) → AllByRecursion IsCalm (parts_of scope want e) → checks_of scope e ≡ 0
    unchecked want (lit ty n place) a = refl
    unchecked want (read (operand root more place)) a =
        sum_none (checks_of_steps scope more) (one_if (is_brief scope (operand root more place)))
        (steps_unchecked more (root_place root place) (thing_of_root scope root place) a.0.1.0.1) (ap one_if a.0.1.0.0)
    unchecked want (unary op place arg) a =
        either_unchecked nothing arg (signed op (literal_of arg)) (λ x is. literal_unchecked (unary op place arg) x is) a.1
        (λ b. unchecked nothing arg b)
    unchecked want (binary op place left right) a =
        let w = wanted_beside (sort_of scope left ∷ sort_of scope right ∷ []) in
        sum_none (checks_of scope left + checks_of scope right) (one_if (divides op))
        (sum_none (checks_of scope left) (checks_of scope right)
        (unchecked w left (all_front IsCalm (parts_of scope w left) (parts_of scope w right) a.1))
        (unchecked w right (all_back IsCalm (parts_of scope w left) (parts_of scope w right) a.1)))
        (undivided op (λ t. a.0.0 place (refl, t)))
    unchecked want (std function place args) a = unchecked_each (wants_of function (sorts_of scope args)) args a.1
    unchecked want (paren place inner) a =
        either_unchecked want inner (literal_of inner) (λ x is. literal_unchecked inner x is) a.1 (λ b. unchecked want inner b)

    unchecked_each : (wants : List Want) (args : ExprTrees) → AllByRecursion IsCalm (parts_of_args scope wants args)
        → checks_of_each scope args ≡ 0
    unchecked_each wants no_exprs a = refl
    unchecked_each [] (exprs e more) a =
        sum_none (checks_of scope e) (checks_of_each scope more)
        (unchecked nothing e (all_front IsCalm (parts_of scope nothing e) (parts_of_args scope [] more) a))
        (unchecked_each [] more (all_back IsCalm (parts_of scope nothing e) (parts_of_args scope [] more) a))
    unchecked_each (want ∷ wants) (exprs e more) a =
        sum_none (checks_of scope e) (checks_of_each scope more)
        (unchecked want e (all_front IsCalm (parts_of scope want e) (parts_of_args scope wants more) a))
        (unchecked_each wants more (all_back IsCalm (parts_of scope want e) (parts_of_args scope wants more) a))

  -- the parts of an expression that breaks no rule
  calm : (e : ExprTree) → KeepsRules scope e
      → AllByRecursion (λ (p : Part). AllByRecursion (λ o. is_brief scope o ≡ false) (operands_read p.expr)) (parts_of scope nothing e)
      → AllByRecursion IsCalm (parts_of scope nothing e)
  calm e keeps seen =
      all_both (OfPart IsStill) (λ (p : Part). (at : Place) → DividesAt at p.expr → ⊥) IsCalm (parts_of scope nothing e) (λ p x y. (y, x))
      (parted IsStill (parts_of scope nothing e)
      (all_both (λ o. is_brief scope o ≡ false) (λ o. AllByRecursion IsFixed (indexes_of scope (path_of scope o))) IsStill
      (reads_of_parts (parts_of scope nothing e)) (λ o x y. (x, y))
      (together (λ o. is_brief scope o ≡ false) (parts_of scope nothing e) seen) fixed))
      (all_of _ (parts_of scope nothing e) (λ p c at d. keeps no_pattern at (inl (c.0, p, c.1, c.2, d))))
    where
      fixed : AllByRecursion (λ o. AllByRecursion IsFixed (indexes_of scope (path_of scope o))) (reads_of_parts (parts_of scope nothing e))
      fixed = all_of _ (reads_of_parts (parts_of scope nothing e))
          (λ o c. all_of IsFixed (indexes_of scope (path_of scope o)) (λ i d. is_not (is_some (literal_of i.index))
          (λ t. keeps no_pattern (first_place i.index) (inr (c.0, o, c.1, c.2, (d.0, i, d.1, d.2, (refl, t)))))))

-- ---- the law

no_brief : (n : ℕ) → slice_index_or {A = Option ℤ} [] n None ≡ None
no_brief zero = refl
no_brief (suc n) = refl

none_left : {X : Type 0} (xs : List X) → length xs ≡ 0 → xs ≡ []
none_left [] e = refl
none_left (x ∷ xs) e = absurd (omega (arith, e))

module _ (laws : BelowLaws) (works : (source : Source) → IsLaidOut source source.entry → IsAtWork source (entry_activation source))
    (lies : EntryLies) (counted : ChecksAreCounted) where
  visible_seen : (source : Source) (values : Visible) (w : Valuation) → IsLaidOut source source.entry → HasVisible source values w
      → Sees ⊥ source (entry_activation source) (λ x. x) (record { visible = values; brief = [] }) w
  visible_seen source values w laid has = record {
    laid = laid;
    work = works source laid;
    lie = lies source laid;
    cells = record { visible = has.within; brief = λ n ty x g e. absurd (none-some x (sym (no_brief n) ∙ e)) };
    visible = has.are;
    brief = λ ask. absurd ask;
  }

  no_value : (source : Source) → IsLaidOut source source.entry → source.entry.value ≡ None
  no_value source laid = valueless source.entry (laid.entered itself).2
    where
      itself : is_entry source source.entry ≡ true
      itself = (bytes_eq-Decides source.entry.name.key source.entry.name.key).1 refl

  seen_value : (source : Source) (e : ExprTree) (ty : Ty) (values : Visible) (w : Valuation) → IsOfVisible source e ty
      → HasVisible source values w → pattern_value source values e ≡ outcome w (pattern_lowered source e)
  seen_value source e ty values w of has =
      values_seen laws ⊥ source (entry_activation source) (λ x. x) (record { visible = values; brief = [] }) w
      (visible_seen source values w of.laid has) nothing e ty of.fit
      (none_asked source source.entry (no_value source of.laid) e of.visible)

  seen_unchecked : (source : Source) (e : ExprTree) (ty : Ty) → IsOfVisible source e ty → KeepsRules (scope_of source source.entry) e
      → (pattern_lowered source e).checks ≡ []
  seen_unchecked source e ty of keeps =
      none_left (pattern_lowered source e).checks
      (counted.expr source source.entry nothing e ty of.laid of.fit
      ∙ unchecked (scope_of source source.entry) nothing e
      (calm (scope_of source source.entry) e keeps
      (read_in (λ o. is_brief (scope_of source source.entry) o ≡ false) (scope_of source source.entry) nothing e
      (all_more (λ o. is_brief_operand (scope_of source source.entry) o ≡ false) (λ o. is_brief (scope_of source source.entry) o ≡ false)
      (operands_in e) (not_brief source source.entry (no_value source of.laid))
      (none_any (is_brief_operand (scope_of source source.entry)) (operands_in e) of.visible)))))

  pub patterns_hold : PatternsHold
  patterns_hold = record {
    value = seen_value;
    unchecked = seen_unchecked;
    truth = λ source e ty values w of keeps has.
        ap is_true_value (seen_value source e ty values w of has
        ∙ ap (λ (checks : List Check). checked w checks (value_of w (pattern_lowered source e).term)) (seen_unchecked source e ty of keeps));
  }

-- ---- scans

pub scans_are_seen : ((source : Source) (image : Image) (input : Input) (values : Visible) → AllByRecursion BindsInRange source.cells
    → AreWithin (image_ranges source.cells) image → AreWithin (input_ranges source.cells) input → (scan source image input).end ≡ ended values
    → AreWithin (visible_ranges source.cells) values) → ScansAreSeen
scans_are_seen end_within = record {
  beginning = λ source image input w binds a b are. record { within = within-begin source.cells image input binds a b; are = are };
  end = λ source image input values w binds a b is are. record { within = end_within source image input values binds a b is; are = are };
}

-- ---- what texts say

module _ (bytes : Bytes) where
  cells_have : (o : OperandTree) → HasCells bytes (alone o) → HasBytes bytes o
  cells_have (operand root more place) h I n c = subst (Contains bytes.inputs) c.2 (h I c.0 n c.1)
  cells_have (operand root more place) h Q n c = subst (Contains bytes.outputs) c.2 (h Q c.0 n c.1)
  cells_have (operand root more place) h M n c = subst (Contains bytes.flags) c.2 (h M c.0 n c.1)

  none_there : (n : ℕ) → Contains [] n → ⊥
  none_there n c = let lt = c.1 in omega (arith, lt)

  never_both : (a b : Truth) → b ≡ false → a && b ≡ false
  never_both true b e = e
  never_both false b e = refl

  -- what is no address names no byte
  no_bytes : (o : OperandTree) → is_address_operand o ≡ false → HasBytes bytes o
  no_bytes (operand (Local name hash at) more place) e area n c = absurd (none_there n c)
  no_bytes (operand (Named name) more place) e area n c = absurd (none_there n c)
  no_bytes (operand (InArea other bits byte bit) more place) e area n c =
      absurd (none_there n (subst (λ b. Contains (if b then from_on byte (last_byte bits byte - byte + 1) else []) n)
      (never_both (is_same_area area other) (is_address bits byte bit) e) c))

  have_bytes : (os : List OperandTree) → AllByRecursion (HasCells bytes) (map alone (filter is_address_operand os))
      → AllByRecursion (HasBytes bytes) os
  have_bytes [] a = tt
  have_bytes (o ∷ os) a = lead (is_address_operand o) refl a (λ b. have_bytes os b)
    where
      lead : (t : Truth) → is_address_operand o ≡ t
          → AllByRecursion (HasCells bytes) (map alone (cond t (o ∷ filter is_address_operand os) (filter is_address_operand os)))
          → (AllByRecursion (HasCells bytes) (map alone (filter is_address_operand os)) → AllByRecursion (HasBytes bytes) os)
          → HasBytes bytes o × AllByRecursion (HasBytes bytes) os
      lead true i b rest = (cells_have o b.0, rest b.1)
      lead false i b rest = (no_bytes o i, rest b)

pub said_are_fit : ((scope : Scope) (e : ExprTree) (text : List ℕ) (o : OperandTree) → Says scope text e
    → Contains (reads_of_parts (parts_of scope nothing e)) o → IsWide o) → SaidAreFit
said_are_fit wide source block texts text e have there said = record {
  has_type = said.is_bool;
  parts = record {
    literals = all_of LiteralLies (parts_of scope nothing e) (λ p c. written_lies p.want (literal_of p.expr)
        (λ out. said.keeps out_of_range (first_place p.expr) (c.0, p, c.1, c.2, (refl, out))));
    addresses = all_both (HasBytes source.bytes) IsWide (IsAddressed source.bytes) (reads_of_parts (parts_of scope nothing e))
        (λ o x y. record { cells = x; wide = y }) named
        (all_of IsWide (reads_of_parts (parts_of scope nothing e)) (λ o c. wide scope e text o said c));
  };
}
  where
    scope : Scope
    scope = scope_of source block

    named : AllByRecursion (HasBytes source.bytes) (reads_of_parts (parts_of scope nothing e))
    named = together (HasBytes source.bytes) (parts_of scope nothing e)
        (read_in (HasBytes source.bytes) scope nothing e
        (have_bytes source.bytes (operands_in e) (recursion_from_All (HasCells source.bytes) (addresses_in e) (have text e there said.reads))))
