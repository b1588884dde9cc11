-- A block of the code's project by its number, in which names are looked up, as the definitions have it.
use Rattle.std.proofs.Common.{◌≡◌, ℕ, zero, suc, ◌<◌, ap, sym, subst, ◌∙◌, List, [], ◌∷◌, map, length, get_or, slice_get, Some, nat_lt, true, false, arith}
use Rattle.std.specs.Prelude.{Contains, Result, slice_index_or}
use Rattle.std.proofs.lemmas.List.{length-map}
use Rattle.std.proofs.lemmas.Bool.{ltb-true, ltb-false}
use Rattle.pv_word.specs.declared.types.Ty.{Ty}
use Rattle.pv_types.specs.declared.name.Name.{Name}
use Rattle.pv_tree.specs.declared.expr.Operand.{Operand}
use Rattle.pv_tree.specs.declared.block.Block.{Block}
use Rattle.pv_tree.specs.Tree.{BlockTree, ExprTree}
use Rattle.pv_tree.specs.View.{block_tree}
use Rattle.pv_tree.specs.Projects.{symbol_tree, project_tree}
use Rattle.pv_tree.specs.Scopes.{ProjectTree, SymbolTree, Scope}
use Rattle.pv_names.specs.Entries.{block_of}
use Rattle.pv_names.specs.Tables.{blocks_of, symbols_of, project_of}
use Rattle.pv_rules_decl.specs.Patterns.{AnswersPattern}
use Rattle.pv_names.specs.declared.entry.Entry.{Entry}
use Rattle.pv_rules_decl.specs.declared.fault.RuleFault.{RuleFault}
use Rattle.pv_names.specs.declared.tables.Tables.{Tables}

abbrev project_with : List BlockTree → List SymbolTree → ProjectTree
project_with bs ss = record { blocks = bs; symbols = ss }

abbrev scope_with : ProjectTree → BlockTree → Scope
scope_with p b = record { project = p; block = b }

project_same : (t : Tables) (bs : List Block) (ss : List (Name × Operand × Ty)) → blocks_of t ≡ map block_tree bs
    → symbols_of t ≡ map symbol_tree ss
    → project_of t ≡ project_tree bs ss
project_same t bs ss blocks symbols =
    ap (λ l. project_with l (symbols_of t)) blocks ∙ ap (λ l. project_with (map block_tree bs) l) symbols

-- the number is that of a block
pub is_number : (es : List Entry) (bs : List BlockTree) (n : ℕ) → map block_of es ≡ bs → n < length bs → false ≡ nat_lt n (length es) → ⊥
is_number es bs n same inside isnt =
    let long : length es ≡ length bs = sym (length-map es block_of) ∙ ap length same in
    let past = ltb-false n (length es) (sym isnt) in
    absurd (omega (arith, long, inside, past))

pub is_counted : (t : Tables) (es : List Entry) (bs : List Block) (n : ℕ) → blocks_of t ≡ map block_of es → map block_of es ≡ map block_tree bs
    → n < length bs → n < length (blocks_of t)
is_counted t es bs n tables entries inside =
    let long : length (blocks_of t) ≡ length bs = ap length (tables ∙ entries) ∙ length-map bs block_tree in
    omega (arith, long, inside)

-- the block of that number is one of them
named : (es : List Entry) (n : ℕ) (e : Entry) → n < length es → e ≡ get_or es n e → slice_index_or (map block_of es) n (block_of e) ≡ block_of e
named [] n e inside is = absurd (omega (arith, inside))
named (x ∷ es) zero e inside is = ap block_of (sym is)
named (x ∷ es) (suc n) e inside is = named es n e (omega (arith, inside)) is

got : (es : List Entry) (n : ℕ) (e : Entry) → n < length es → e ≡ get_or es n e → slice_get (map block_of es) n ≡ Some (block_of e)
got [] n e inside is = absurd (omega (arith, inside))
got (x ∷ es) zero e inside is = ap (λ y. Some (block_of y)) (sym is)
got (x ∷ es) (suc n) e inside is = got es n e (omega (arith, inside)) is

some_is : (a b : BlockTree) → Some a ≡ Some b → a ≡ b
some_is a b e = cc

pub is_inside : (es : List Entry) (bs : List BlockTree) (n : ℕ) (e : Entry) → bs ≡ map block_of es → true ≡ nat_lt n (length es)
    → e ≡ get_or es n e → Contains bs (block_of e)
is_inside es bs n e same there is =
    let inside : n < length es = ltb-true n (length es) (sym there) in
    let long : length (map block_of es) ≡ length es = length-map es block_of in
    subst (λ l. Contains l (block_of e)) (sym same) (n, omega (arith, inside, long), named es n e inside is)

-- what is answered in that block
pub is_answered : (t : Tables) (es : List Entry) (n : ℕ) (e : Entry) (block : BlockTree) (x : ExprTree) (r : Result Ty RuleFault)
    → map block_of es ≡ blocks_of t → true ≡ nat_lt n (length es) → e ≡ get_or es n e → slice_get (blocks_of t) n ≡ Some block
    → AnswersPattern (scope_with (project_of t) (block_of e)) x r → AnswersPattern (scope_with (project_of t) block) x r
is_answered t es n e block x r same there is found answer =
    let inside : n < length es = ltb-true n (length es) (sym there) in
    let this : block_of e ≡ block = some_is (block_of e) block (sym (got es n e inside is) ∙ ap (λ l. slice_get l n) same ∙ found) in
    subst (λ b. AnswersPattern (scope_with (project_of t) b) x r) this answer

-- and in that block of the project
pub of_project : (t : Tables) (es : List Entry) (bs : List Block) (ss : List (Name × Operand × Ty)) (n : ℕ) (block : BlockTree) (x : ExprTree)
    (r : Result Ty RuleFault) → blocks_of t ≡ map block_of es → map block_of es ≡ map block_tree bs → symbols_of t ≡ map symbol_tree ss
    → slice_get (map block_tree bs) n ≡ Some block
    → (slice_get (blocks_of t) n ≡ Some block → AnswersPattern (scope_with (project_of t) block) x r)
    → AnswersPattern (scope_with (project_tree bs ss) block) x r
of_project t es bs ss n block x r tables entries symbols found answer =
    subst (λ p. AnswersPattern (scope_with p block) x r) (project_same t bs ss (tables ∙ entries) symbols)
    (answer (ap (λ l. slice_get l n) (tables ∙ entries) ∙ found))
