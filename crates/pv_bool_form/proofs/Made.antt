-- The program by the numbers of variables is that of the source.
use Rattle.std.proofs.Common.{◌≡◌, ◌+◌, ℕ, suc, List, [], ◌∷◌, map, Bool, true, false, Option, Some, None, is_some, option_map, bytes_eq, if◌then◌else◌, true≢false, refl, ap, sym, subst, ◌∙◌, arith}
use Rattle.std.specs.Prelude.{unwrap_or}
use Rattle.std.specs.List.{AllByRecursion}
use Rattle.std.proofs.lemmas.List.Elements.{All-nil}
use Rattle.pv_word.specs.declared.types.Ty.TheVariants.{Bool as BoolType}
use Rattle.pv_types.specs.declared.var.Var.{Var}
use Rattle.pv_types.specs.declared.declaration.Section.{Section}
use Rattle.pv_types.specs.Tree.{TypeTree, plain, VarTree, var}
use Rattle.pv_types.specs.View.{var_tree}
use Rattle.pv_tree.specs.declared.expr.Root.{Root}
use Rattle.pv_tree.specs.declared.expr.Root.TheVariants.{Local, Named, Area}
use Rattle.pv_tree.specs.Tree.{ExprTree, lit, read, unary, binary, std, paren, OperandTree, operand, assign, assign_call, if_, case_, for_, while_, repeat_, exit_, continue_, return_, call_, empty_, StmtTrees, no_stmts, stmts, BodyTree, scl, stl, starts, BlockTree}
use Rattle.pv_tree.specs.Scopes.{ProjectTree, is_of_instance}
use Rattle.pv_bool.specs.declared.program.Bit.{Bit}
use Rattle.pv_bool.specs.Tree.{TermTree, load, negation, disjunction, AssignmentTree, ProgramTree, IsProgram}
use Rattle.pv_mean.specs.Layout.{Laid, laid_among}
use Rattle.pv_mean.specs.Sources.{Source}
use Rattle.pv_mean.specs.Activations.{root_begins, spot_of}
use Rattle.pv_mean.specs.Scans.{entry_activation}
use Rattle.pv_pattern.specs.Patterns.{Pattern, invariant, forbidden, implication, within, between, reach}
use Rattle.pv_bool_form.specs.FirstForm.{IsFirstVar, IsFirstRoot, IsFirstOperand, IsFirstExpr, IsFirstPattern, AreFirstStmts, IsFirstBody, IsFirstForm}
use Rattle.pv_bool_form.specs.Programs.{first_source, number_at, number_of, binary_term, term_by, assignments_by, assignments_of, bit_of_cell, pattern_term, pattern_program}
use Rattle.pv_bool_form.specs.Numbering.{place_of_key, place_of_root, place_among, bit_of_var}
use Rattle.pv_bool_form.proofs.Cells.{first_vars, first_cell, by_section}
use Rattle.pv_bool_form.proofs.WordCells.{cell_from, word_number}
use Rattle.pv_bool_form.proofs.FirstLaws.{Words, cells_are, patterns_name_bits}

-- ---- numbers of words are those of variables

laid_by_place : (project : ProjectTree) (vs : List VarTree) (key : List ℕ) (first : ℕ) → AllByRecursion IsFirstVar vs
    → laid_among project is_of_instance vs key first ≡ option_map (λ n. cell_from (first + n)) (place_of_key vs key)
laid_by_place project [] key first all = refl
laid_by_place project ((var name section ty start place) ∷ vs) key first all =
    let x = var name section ty start place in
    let P : TypeTree → Type 0 = λ t. laid_among project is_of_instance (var name section t start place ∷ vs) key first
    ≡ option_map (λ n. cell_from (first + n)) (place_of_key (x ∷ vs) key) in
    let Q : Section → Type 0 = λ s. laid_among project is_of_instance (var name s (plain BoolType) start place ∷ vs) key first
    ≡ option_map (λ n. cell_from (first + n)) (place_of_key (x ∷ vs) key) in
    let here = next (bytes_eq key name.key) (laid_among project is_of_instance vs key (first + 1)) (place_of_key vs key) (laid_by_place project vs key (first + 1) all.1) in
    subst P (sym all.0.1) (by_section Q section all.0.0 here here here)
  where
    moved : (o : Option ℕ) → option_map (λ n. cell_from (first + 1 + n)) o ≡ option_map (λ n. cell_from (first + n)) (option_map (λ n. suc n) o)
    moved None = refl
    moved (Some n) = let e : first + 1 + n ≡ first + suc n = omega arith in ap (λ m. Some (cell_from m)) e

    next : (b : Bool) (laid : Option Laid) (o : Option ℕ) → laid ≡ option_map (λ n. cell_from (first + 1 + n)) o
        → (if b then Some (cell_from first) else laid) ≡ option_map (λ n. cell_from (first + n)) (if b then Some 0 else option_map (λ n. suc n) o)
    next true laid o e = let z : first ≡ first + 0 = omega arith in ap (λ m. Some (cell_from m)) z
    next false laid o e = e ∙ moved o

place_is : (o : Option ℕ) (n : ℕ) → option_map (λ m. cell_from (0 + m)) o ≡ Some (cell_from n) → unwrap_or o 0 ≡ n
place_is None n e = absurd (true≢false (sym (ap (λ (l : Option Laid). is_some l) e)))
place_is (Some m) n e = let h : 0 + m ≡ n = ap (λ (l : Option Laid). from_laid l) e in omega (arith, h)
  where
    from_laid : Option Laid → ℕ
    from_laid None = 0
    from_laid (Some l) = l.first

root_numbered : (source : Source) (root : Root) → IsFirstForm source.entry → IsFirstRoot source.entry.vars root
    → number_at (spot_of (root_begins source (entry_activation source) root)) ≡ unwrap_or (place_of_root source.entry.vars root) 0
root_numbered source (Local name hash place) form is =
    let P : Bool → Type 0 = λ h. number_at (spot_of (root_begins source (entry_activation source) (Local name h place)))
    ≡ unwrap_or (place_of_root source.entry.vars (Local name h place)) 0 in
    let found = word_number source source.entry name.key form is.1 in
    subst P (sym is.0) (found.2 ∙ sym (place_is (place_of_key source.entry.vars name.key) found.0
    (sym (laid_by_place source.project source.entry.vars name.key 0 (first_vars source.entry form)) ∙ found.1)))
root_numbered source (Named name) form is = absurd is
root_numbered source (Area area bits byte bit) form is = absurd is

numbered : (source : Source) (o : OperandTree) → IsFirstForm source.entry → IsFirstOperand source.entry.vars o
    → number_of source o ≡ place_among source.entry.vars o
numbered source (operand root more place) form is = root_numbered source root form is.0

-- ---- terms and assignments

term_numbered : (source : Source) (e : ExprTree) → IsFirstForm source.entry → IsFirstExpr source.entry.vars e
    → term_by (number_of source) e ≡ term_by (place_among source.entry.vars) e
term_numbered source (lit ty v place) form is = refl
term_numbered source (read o) form is = ap (λ n. load n) (numbered source o form is)
term_numbered source (unary op place arg) form is = ap (λ t. negation t) (term_numbered source arg form is.1)
term_numbered source (binary op place left right) form is =
    ap (λ t. binary_term op t (term_by (number_of source) right)) (term_numbered source left form is.1)
    ∙ ap (λ t. binary_term op (term_by (place_among source.entry.vars) left) t) (term_numbered source right form is.2)
term_numbered source (std function place args) form is = absurd is
term_numbered source (paren place inner) form is = term_numbered source inner form is

stmts_numbered : (source : Source) (ss : StmtTrees) → IsFirstForm source.entry → AreFirstStmts source.entry.vars ss
    → assignments_by (number_of source) ss ≡ assignments_by (place_among source.entry.vars) ss
stmts_numbered source no_stmts form are = refl
stmts_numbered source (stmts (assign target place e) more) form are =
    ap (λ n. record { target = n; value = term_by (number_of source) e } ∷ assignments_by (number_of source) more) (numbered source target form are.0.0)
    ∙ ap (λ t. record { target = place_among source.entry.vars target; value = t } ∷ assignments_by (number_of source) more) (term_numbered source e form are.0.1)
    ∙ ap (λ (l : List AssignmentTree). record { target = place_among source.entry.vars target; value = term_by (place_among source.entry.vars) e } ∷ l)
    (stmts_numbered source more form are.1)
stmts_numbered source (stmts (assign_call target place call) more) form are = absurd are.0
stmts_numbered source (stmts (if_ conditions other place) more) form are = absurd are.0
stmts_numbered source (stmts (case_ selector choices other place) more) form are = absurd are.0
stmts_numbered source (stmts (for_ name name_place a b by body place) more) form are = absurd are.0
stmts_numbered source (stmts (while_ condition body place) more) form are = absurd are.0
stmts_numbered source (stmts (repeat_ body condition place) more) form are = absurd are.0
stmts_numbered source (stmts (exit_ place) more) form are = absurd are.0
stmts_numbered source (stmts (continue_ place) more) form are = absurd are.0
stmts_numbered source (stmts (return_ place) more) form are = absurd are.0
stmts_numbered source (stmts (call_ call) more) form are = absurd are.0
stmts_numbered source (stmts (empty_ place) more) form are = absurd are.0

body_numbered : (source : Source) (body : BodyTree) → IsFirstForm source.entry → IsFirstBody source.entry.vars body
    → assignments_of (number_of source) body ≡ assignments_of (place_among source.entry.vars) body
body_numbered source (scl ss) form is = stmts_numbered source ss form is
body_numbered source (stl instructions) form is = absurd is
body_numbered source (starts values) form is = absurd is

pattern_numbered : (source : Source) (p : Pattern) → IsFirstForm source.entry → IsFirstPattern source.entry.vars p
    → pattern_term (number_of source) p ≡ pattern_term (place_among source.entry.vars) p
pattern_numbered source (invariant a) form is = term_numbered source a form is
pattern_numbered source (forbidden a) form is = ap (λ t. negation t) (term_numbered source a form is)
pattern_numbered source (implication a b) form is =
    ap (λ t. disjunction (negation t) (term_by (number_of source) b)) (term_numbered source a form is.0)
    ∙ ap (λ t. disjunction (negation (term_by (place_among source.entry.vars) a)) t) (term_numbered source b form is.1)
pattern_numbered source (within a b) form is = absurd is
pattern_numbered source (between a b c) form is = absurd is
pattern_numbered source (reach a) form is = ap (λ t. negation t) (term_numbered source a form is)

-- ---- bits

bit_seen : (v : VarTree) → bit_of_cell (first_cell v) ≡ bit_of_var v
bit_seen (var name section ty start place) = refl

bits_seen : (vs : List VarTree) → map bit_of_cell (map first_cell vs) ≡ map bit_of_var vs
bits_seen [] = refl
bits_seen (v ∷ vs) = ap (λ b. b ∷ map bit_of_cell (map first_cell vs)) (bit_seen v) ∙ ap (λ bs. bit_of_var v ∷ bs) (bits_seen vs)

bits_of_vars : (vars : List Var) → map (λ v. bit_of_var (var_tree v)) vars ≡ map bit_of_var (map var_tree vars)
bits_of_vars [] = refl
bits_of_vars (v ∷ vars) = ap (λ bs. bit_of_var (var_tree v) ∷ bs) (bits_of_vars vars)

-- ---- programs

-- what is made of a block's variables, its body and the pattern
pub record IsMadeOf (block : BlockTree) (vs : List VarTree) (p : Pattern) (bits : List Bit) (body : List AssignmentTree) (holds : TermTree) : Type 0 where
  pub vars : vs ≡ block.vars
  pub bits_are : bits ≡ map bit_of_var vs
  pub body_is : body ≡ assignments_of (place_among vs) block.body
  pub holds_is : holds ≡ pattern_term (place_among vs) p

pub made_of : (vars items : List Var) (bits : List Bit) → bits ≡ map (λ v. bit_of_var (var_tree v)) vars → vars ≡ items → bits ≡ map bit_of_var (map var_tree items)
made_of vars items bits are same = are ∙ bits_of_vars vars ∙ ap (λ vs. map bit_of_var (map var_tree vs)) same

abbrev program_with : List Bit → List AssignmentTree → TermTree → ProgramTree
program_with bits body holds = record { bits = bits; body = body; holds = holds }

pub made_is : (block : BlockTree) (vs : List VarTree) (p : Pattern) (bits : List Bit) (body : List AssignmentTree) (holds : TermTree)
    → IsMadeOf block vs p bits body holds → IsFirstForm block → IsFirstPattern block.vars p → (patterns : List OperandTree) (bound : ℕ) → Words block patterns
    → program_with bits body holds ≡ pattern_program (first_source block patterns bound) p
made_is block vs p bits body holds is form first patterns bound are =
    let source = first_source block patterns bound in
    ap (λ bs. program_with bs body holds) (is.bits_are ∙ ap (λ ws. map bit_of_var ws) is.vars ∙ sym (bits_seen block.vars) ∙ ap (λ cs. map bit_of_cell cs) (sym (cells_are block patterns bound form are)))
    ∙ ap (λ b. program_with (map bit_of_cell source.cells) b holds)
    (is.body_is ∙ ap (λ ws. assignments_of (place_among ws) block.body) is.vars ∙ sym (body_numbered source block.body form form.body))
    ∙ ap (λ t. program_with (map bit_of_cell source.cells) (assignments_of (number_of source) block.body) t)
    (is.holds_is ∙ ap (λ ws. pattern_term (place_among ws) p) is.vars ∙ sym (pattern_numbered source p form first))

pub made_is_program : (block : BlockTree) (vs : List VarTree) (p : Pattern) (bits : List Bit) (body : List AssignmentTree) (holds : TermTree)
    → IsMadeOf block vs p bits body holds → IsFirstForm block → IsFirstPattern block.vars p → IsProgram (program_with bits body holds)
made_is_program block vs p bits body holds is form first =
    let P : ProgramTree → Type 0 = λ x. IsProgram x in
    subst P (sym (made_is block vs p bits body holds is form first [] 0 (All-nil (IsFirstOperand block.vars))))
    (patterns_name_bits block [] 0 p form (All-nil (IsFirstOperand block.vars)) first)
