-- What is run: the project of the one block, of whose cells the case says nothing, and whose requirement names no address.
use Rattle.std.proofs.Common.{◌≡◌, ℕ, zero, suc, ℤ, inl, inr, List, [], ◌∷◌, ◌++◌, map, false, cond, Some, refl, ap, sym, subst, ◌∙◌}
use Rattle.std.specs.Prelude.{filter, slice_get}
use Rattle.std.specs.List.{AllByRecursion}
use Rattle.std.proofs.lemmas.List.Elements.{All-nil, filter-append}
use Rattle.pv_place.specs.declared.place.Place.{Place}
use Rattle.pv_types.specs.Tree.{VarTree}
use Rattle.pv_tree.specs.declared.expr.Root.{Root}
use Rattle.pv_tree.specs.declared.expr.Root.TheVariants.{Local, Named, Area}
use Rattle.pv_tree.specs.Tree.{ExprTree, lit, read, unary, binary, std, paren, OperandTree, operand, StepTrees, no_steps, BlockTree}
use Rattle.pv_tree.specs.Scopes.{SymbolTree, ProjectTree, Scope}
use Rattle.pv_tree.specs.Operands.{operands_in}
use Rattle.pv_mean.specs.Cells.{View}
use Rattle.pv_mean.specs.Sources.{Source, source_of}
use Rattle.pv_pattern.specs.Patterns.{Pattern, invariant, forbidden, implication, within, between, reach, expressions_of}
use Rattle.pv_pattern.specs.Texts as texts
use Rattle.pv_pattern.specs.Texts.{IsTextOf, is_address_operand, addresses_in, AreNamed, Say}
use Rattle.pv_bool_form.specs.FirstForm.{IsFirstExpr, IsFirstPattern, IsFirstRoot, IsFirstBlock}
use Rattle.pv_bool_form.specs.Programs.{alone, first_source}
use Rattle.pv_bool_form.specs.Machines.{IsOfSource}
use Rattle.pv_bool_form.proofs.ForCallers.{of_program}
use Rattle.pv_bool_case.specs.Sources.{IsOneBlock, IsSourceOf}
use Rattle.pv_bool_case.proofs.Scopes.{same_project}

-- ---- a requirement of the form names no address

abbrev found : ExprTree → List OperandTree
found e = filter is_address_operand (operands_in e)

no_address_root : (vars : List VarTree) (root : Root) → IsFirstRoot vars root → texts.is_address_root root ≡ false
no_address_root vars (Local name hash place) is = refl
no_address_root vars (Named name) is = absurd is
no_address_root vars (Area area bits byte bit) is = absurd is

no_address_read : (vars : List VarTree) (root : Root) (path : StepTrees) (place : Place) → IsFirstRoot vars root → path ≡ no_steps
    → found (read (operand root path place)) ≡ []
no_address_read vars root path place is none =
    let P : StepTrees → Type 0 = λ p. found (read (operand root p place)) ≡ [] in
    subst P (sym none) (ap (λ b. cond b (operand root no_steps place ∷ []) []) (no_address_root vars root is))

no_address : (vars : List VarTree) (e : ExprTree) → IsFirstExpr vars e → found e ≡ []
no_address vars (lit ty value place) is = refl
no_address vars (read (operand root path place)) is = no_address_read vars root path place is.0 is.1
no_address vars (unary op place arg) is = no_address vars arg is.1
no_address vars (binary op place left right) is =
    filter-append is_address_operand (operands_in left) (operands_in right)
    ∙ ap (λ xs. xs ++ found right) (no_address vars left is.1)
    ∙ no_address vars right is.2
no_address vars (std function place args) is = absurd is
no_address vars (paren place inner) is = no_address vars inner is

pub no_addresses : (vars : List VarTree) (e : ExprTree) → IsFirstExpr vars e → addresses_in e ≡ []
no_addresses vars e is = ap (λ xs. map texts.alone xs) (no_address vars e is)

-- ---- texts are one expression at most

abbrev pub OneReading : Type 0
OneReading = (text : List ℕ) (a b : ExprTree) → IsTextOf text a → IsTextOf text b → a ≡ b

none_named : (scope : Scope) (all : List (List ℕ)) (es : List ExprTree) (vars : List VarTree) (named : List OperandTree) → OneReading
    → Say scope all es → AllByRecursion (IsFirstExpr vars) es → AreNamed all named → named ≡ []
none_named scope [] es vars named one say is are = are
none_named scope (text ∷ more) [] vars named one say is are = absurd say
none_named scope (text ∷ more) (a ∷ es) vars named one say is (inl (e, others, reads, named_is, rest)) =
    named_is ∙ ap (λ x. addresses_in x ++ others) (one text e a reads (say.0).reads)
    ∙ ap (λ xs. xs ++ others) (no_addresses vars a is.0) ∙ none_named scope more es vars others one say.1 is.1 rest
none_named scope (text ∷ more) (a ∷ es) vars named one say is (inr none) = absurd (none.0 a (say.0).reads)

-- the expressions of a pattern of the form
first_ones : (vars : List VarTree) (p : Pattern) → IsFirstPattern vars p → AllByRecursion (IsFirstExpr vars) (expressions_of p)
first_ones vars (invariant a) is = (is, tt)
first_ones vars (forbidden a) is = (is, tt)
first_ones vars (implication a b) is = (is.0, (is.1, tt))
first_ones vars (within a b) is = absurd is
first_ones vars (between a b c) is = absurd is
first_ones vars (reach a) is = (is, tt)

-- ---- the one block

pub only_entered : (block entered : BlockTree) (n : ℕ) → slice_get (block ∷ []) n ≡ Some entered → block ≡ entered
only_entered block entered zero e = cc
only_entered block entered (suc n) e = absurd cc

alone_is : (project : ProjectTree) (block : BlockTree) → project.blocks ≡ block ∷ [] → project.symbols ≡ [] → project ≡ alone block
alone_is project block only none = same_project project.blocks (block ∷ []) project.symbols [] only none

-- ---- what is run

-- the parts of a source of such a project
same_source : (project : ProjectTree) (block entered : BlockTree) (named : List OperandTree) (params : List ℕ) (bound : List (ℕ × ℤ)) (turns : ℕ)
    → project ≡ alone block → block ≡ entered → named ≡ [] → params ≡ [] → bound ≡ []
    → source_of project entered named (record { params = params; bound = bound }) turns ≡ first_source entered [] turns
same_source project block entered named params bound turns p b n ps bs =
    ap (λ (x : ProjectTree). source_of x entered named (record { params = params; bound = bound }) turns) (p ∙ ap alone b)
    ∙ ap (λ (x : List OperandTree). source_of (alone entered) entered x (record { params = params; bound = bound }) turns) n
    ∙ ap (λ (x : List ℕ). source_of (alone entered) entered [] (record { params = x; bound = bound }) turns) ps
    ∙ ap (λ (x : List (ℕ × ℤ)). source_of (alone entered) entered [] (record { params = []; bound = x }) turns) bs

module _ (project : ProjectTree) (entered : BlockTree) (named : List OperandTree) (view : View) (all : List (List ℕ)) (p : Pattern) (turns : ℕ)
    (one : OneReading) (is : IsOneBlock project entered named view all p) where
  block_is : is.alone.block ≡ entered
  block_is =
      let P : List BlockTree → Type 0 = λ bs. slice_get bs is.number ≡ Some entered in
      only_entered is.alone.block entered is.number (subst P is.alone.only is.is_entered)

  first_entered : IsFirstBlock entered
  first_entered = subst IsFirstBlock block_is is.alone.first

  none : named ≡ []
  none =
      let scope : Scope = record { project = project; block = entered } in
      none_named scope all (expressions_of p) entered.vars named one is.say (first_ones entered.vars p is.pattern) is.are_named

  source_is : source_of project entered named view turns ≡ first_source entered [] turns
  source_is =
      same_source project is.alone.block entered named view.params view.bound turns (alone_is project is.alone.block is.alone.only is.symbols) block_is
      none is.params is.bound

  -- what is said of the source of the one block is so of what is run
  pub of_one_block : IsSourceOf entered turns p (source_of project entered named view turns)
  of_one_block =
      let P : Source → Type 0 = λ source. IsOfSource source p in
      record {
        same = source_is;
        machines = subst P (sym source_is) (of_program entered [] turns p first_entered.form (All-nil _) is.pattern first_entered.few);
      }
