-- What is read is a source that is run: its symbols are addresses that there are, as wide as their types, only its functions have a
-- value, and the entered block is none.
use Rattle.std.proofs.Common.{◌≡◌, inl, inr, ℕ, zero, suc, ◌+◌, ◌<◌, ◌≤◌, ◌/◌, List, [], ◌∷◌, ◌++◌, length, map, Bool, true, false, cond, not, ◌&&◌, ◌||◌, Option, Some, None, IsTrue, Contains, refl, sym, ap, subst, ◌∙◌, arith}
use Rattle.std.specs.Prelude.{◌⊎◌, ◌==◌, is_some, bytes_eq, codes, drop, flat_map, nat_le, slice_get, unwrap_or, if◌then◌else◌}
use Rattle.std.specs.List.{AllByRecursion, position_from}
use Rattle.std.proofs.lemmas.Bool.{true≢false, false≢true, leb-true, eqb-true}
use Rattle.std.proofs.lemmas.Option.{none-some}
use Rattle.std.proofs.lemmas.List.{length-map}
use Rattle.pv_edge.specs.Files.{FileMap}
use Rattle.pv_word.specs.declared.types.Ty.{Ty}
use Rattle.pv_word.specs.declared.types.Ty.TheVariants.{Bool as BoolType, Byte, Word, Dword, Int, Dint, Time}
use Rattle.pv_word.specs.Types.{width_of}
use Rattle.pv_types.specs.declared.layout.TheConstants.{MAX_LEAVES}
use Rattle.pv_lex.specs.declared.class.Class.TheVariants.{Either}
use Rattle.pv_lex.specs.Shapes.{begins}
use Rattle.pv_tree.specs.declared.kept.Project.{Project}
use Rattle.pv_tree.specs.declared.block.BlockKind.{BlockKind}
use Rattle.pv_tree.specs.declared.block.BlockKind.TheVariants.{Fb, Fc, Ob, Db, Udt}
use Rattle.pv_tree.specs.Tree.{OperandTree, BlockTree}
use Rattle.pv_tree.specs.Lexemes.{lexeme_of}
use Rattle.pv_tree.specs.Literals.{bare_address, address_bits}
use Rattle.pv_tree.specs.Scopes.{ProjectTree, is_fb, is_fc, is_ob, has_key}
use Rattle.pv_tree.specs.Things.{is_address, last_byte}
use Rattle.pv_mean.specs.declared.cell.Cell.{Cell}
use Rattle.pv_mean.specs.declared.count.TheConstants.{BEYOND}
use Rattle.pv_mean.specs.Cells.{View, with_view}
use Rattle.pv_mean.specs.ProjectSizes.{project_tree}
use Rattle.pv_mean.specs.Sources.{Source}
use Rattle.pv_case.specs.Cases.{CaseData, SymbolData, AreSymbols}
use Rattle.pv_case.specs.Symbols.{type_of_width, ReadsAs}
use Rattle.pv_case_fit.specs.Entries.{may_enter, number_of_entry}
use Rattle.pv_cells.specs.declared.project_table.Table.{Table}
use Rattle.pv_cells.specs.Named.{wide_bytes}
use Rattle.pv_resolve.specs.Rooms.{IsShort, FitsSymbol}
use Rattle.pv_laws_types.specs.Typed.{SuitsAddress, SymbolsSuit, ValuesAreFunctions}
use Rattle.pv_laws_room.specs.Reached.{IsRun}
use Rattle.pv_laws_spelled.proofs.ForCallers.{IsSo, blocks-so}
use Rattle.pv_pattern_read.specs.Readable.{HasSource}
use Rattle.pv_command_load.specs.Sources.{ReadSource, HoldSources}
use Rattle.pv_command_load.specs.Subjects.{Given, blocks_of, symbol_of, project_of, Entered, cells_of}
use Rattle.pv_command_load.specs.Reads.{ReadsTable}
use Rattle.pv_command_load.specs.Made.{IsProjectOf, IsTableOf, source_with}

-- ---- symbols

same_some : {X : Type 0} (x y : X) → Some x ≡ Some y → x ≡ y
same_some x y e = cc

both_true : (a b : Bool) → a && b ≡ true → b ≡ true
both_true true true e = refl
both_true true false e = absurd (false≢true e)
both_true false b e = absurd (false≢true e)

pick : (P : Type 0) (test : Bool) (x ty : Ty) (other : Option Ty) → (if test then Some x else other) ≡ Some ty
    → (test ≡ true → x ≡ ty → P) → (other ≡ Some ty → P) → P
pick P true x ty other e f g = f refl (same_some x ty e)
pick P false x ty other e f g = g e

wide : (named : Bool) (bits width : ℕ) (x ty : Ty) → width ≡ width_of x → named && (bits == width) ≡ true → x ≡ ty → bits ≡ width_of ty
wide named bits width x ty same test is = eqb-true bits width (both_true named (bits == width) test) ∙ same ∙ ap width_of is

width_is : (bits : ℕ) (text : List ℕ) (ty : Ty) → type_of_width bits text ≡ Some ty → bits ≡ width_of ty
unfolding type_of_width
width_is bits text ty e =
    pick _ (bytes_eq text (codes "BOOL") && (bits == 1)) BoolType ty _ e (wide (bytes_eq text (codes "BOOL")) bits 1 BoolType ty refl)
    (λ e. pick _ (bytes_eq text (codes "BYTE") && (bits == 8)) Byte ty _ e (wide (bytes_eq text (codes "BYTE")) bits 8 Byte ty refl)
    (λ e. pick _ (bytes_eq text (codes "WORD") && (bits == 16)) Word ty _ e (wide (bytes_eq text (codes "WORD")) bits 16 Word ty refl)
    (λ e. pick _ (bytes_eq text (codes "INT") && (bits == 16)) Int ty _ e (wide (bytes_eq text (codes "INT")) bits 16 Int ty refl)
    (λ e. pick _ (bytes_eq text (codes "DWORD") && (bits == 32)) Dword ty _ e (wide (bytes_eq text (codes "DWORD")) bits 32 Dword ty refl)
    (λ e. pick _ (bytes_eq text (codes "DINT") && (bits == 32)) Dint ty _ e (wide (bytes_eq text (codes "DINT")) bits 32 Dint ty refl)
    (λ e. pick _ (bytes_eq text (codes "TIME") && (bits == 32)) Time ty _ e (wide (bytes_eq text (codes "TIME")) bits 32 Time ty refl)
    (λ e. absurd (none-some ty e))))))))

few_bits : (text : List ℕ) → address_bits text ≤ 32
few_bits text = lead (begins (Either 66 98) (drop 1 text)) (begins (Either 87 119) (drop 1 text)) (begins (Either 68 100) (drop 1 text))
  where
    lead : (b w d : Bool) → (if b then 8 else (if w then 16 else (if d then 32 else 1))) ≤ 32
    lead true w d = omega arith
    lead false true d = omega arith
    lead false false true = omega arith
    lead false false false = omega arith

few_of : (bits : ℕ) (text : List ℕ) → bits ≡ address_bits text → bits ≤ 32
few_of bits text is = let few = few_bits text in omega (arith, few, is)

first_true : (a b : Bool) → a && b ≡ true → a ≡ true
first_true true b e = refl
first_true false b e = absurd (false≢true e)

short_by : (bits byte bit : ℕ) → bits ≤ 32 → is_address bits byte bit ≡ true → IsShort bits bit
short_by bits byte bit few lies =
    let small = leb-true bit 7 (first_true (nat_le bit 7) (nat_le (last_byte bits byte) 65535) lies) in
    record { one = λ one. omega (arith, small); few = omega (arith, few) }

symbol_suits : (at text : List ℕ) (o : OperandTree) (ty : Ty) → ReadsAs at text o ty → SuitsAddress ty o
symbol_suits at text o ty r = subst (SuitsAddress ty) (sym r.is) (width_is r.bits text ty r.of_type)

symbol_fits : (at text : List ℕ) (o : OperandTree) (ty : Ty) → ReadsAs at text o ty → FitsSymbol o
symbol_fits at text o ty r =
    subst FitsSymbol (sym r.is) (short_by r.bits r.byte r.bit (few_of r.bits (bare_address (lexeme_of at r.address.token).bytes) r.address.reads.of_bits) r.address.lies)

symbols_suit : (pairs : _) (symbols : List SymbolData) → AreSymbols pairs symbols → AllByRecursion (λ s. SuitsAddress s.ty s.at) (map symbol_of symbols)
symbols_suit [] [] h = tt
symbols_suit [] (s ∷ symbols) h = absurd h
symbols_suit (p ∷ pairs) [] h = absurd h
symbols_suit (p ∷ pairs) (s ∷ symbols) h = (symbol_suits _ _ s.at s.ty h.0.reads, symbols_suit pairs symbols h.1)

symbols_fit : (pairs : _) (symbols : List SymbolData) → AreSymbols pairs symbols → AllByRecursion (λ s. FitsSymbol s.at) (map symbol_of symbols)
symbols_fit [] [] h = tt
symbols_fit [] (s ∷ symbols) h = absurd h
symbols_fit (p ∷ pairs) [] h = absurd h
symbols_fit (p ∷ pairs) (s ∷ symbols) h = (symbol_fits _ _ s.at s.ty h.0.reads, symbols_fit pairs symbols h.1)

-- ---- values

all_append : (xs ys : List BlockTree) → AllByRecursion IsSo xs → AllByRecursion IsSo ys → AllByRecursion IsSo (xs ++ ys)
all_append [] ys a b = b
all_append (x ∷ xs) ys a b = (a.0, all_append xs ys a.1 b)

values_so : (told : Option FileMap) (number : ℕ) (sources : _) (reads : List ReadSource) → HoldSources told number sources reads
    → AllByRecursion IsSo (flat_map (λ s. s.blocks) reads)
values_so told number [] [] h = tt
values_so told number [] (read ∷ others) h = absurd h
values_so told number (source ∷ more) [] h = absurd h
values_so told number (source ∷ more) (read ∷ others) h =
    all_append read.blocks (flat_map (λ s. s.blocks) others)
    (blocks-so source.language read.blocks h.0.reads.read.inner h.0.reads.read.read.spelled) (values_so told (number + 1) more others h.1)

-- ---- the entered block

from_start : (test : BlockTree → Bool) (i : ℕ) (xs : List BlockTree) (n : ℕ) → position_from test i xs ≡ Some n → i ≤ n
from_start test i [] n e = absurd (none-some n e)
from_start test i (x ∷ xs) n e = lead (test x) (λ f. from_start test (i + 1) xs n f) e
  where
    lead : (b : Bool) → (position_from test (i + 1) xs ≡ Some n → i + 1 ≤ n) → cond b (Some i) (position_from test (i + 1) xs) ≡ Some n
        → i ≤ n
    lead true next f = let same : i ≡ n = cc in omega (arith, same)
    lead false next f = let later = next f in omega (arith, later)

passes : (test : BlockTree → Bool) (i j : ℕ) (xs : List BlockTree) (n : ℕ) (b : BlockTree) → n ≡ i + j → position_from test i xs ≡ Some n
    → slice_get xs j ≡ Some b → test b ≡ true
passes test i j [] n b at e g = absurd (none-some n e)
passes test i zero (x ∷ xs) n b at e g = lead (test x) refl e
  where
    it : x ≡ b
    it = cc

    lead : (t : Bool) → test x ≡ t → cond t (Some i) (position_from test (i + 1) xs) ≡ Some n → test b ≡ true
    lead true is f = subst (λ y. test y ≡ true) it is
    lead false is f = let later = from_start test (i + 1) xs n f in absurd (omega (arith, later, at))
passes test i (suc j) (x ∷ xs) n b at e g = lead (test x) (λ f. passes test (i + 1) j xs n b (omega (arith, at)) f g) e
  where
    lead : (t : Bool) → (position_from test (i + 1) xs ≡ Some n → test b ≡ true)
        → cond t (Some i) (position_from test (i + 1) xs) ≡ Some n → test b ≡ true
    lead true next f = let same : i ≡ n = cc in absurd (omega (arith, same, at))
    lead false next f = next f

is_none : (value : Option Ty) (kind : BlockKind) → (is_some value ≡ true → is_fc kind ≡ true) → is_fc kind ≡ false → value ≡ None
is_none None kind f other = refl
is_none (Some ty) kind f other = absurd (true≢false (sym (f refl) ∙ other))

no_function : (named : Bool) (kind : BlockKind) → named && (is_fb kind || is_ob kind) ≡ true → is_fc kind ≡ false
no_function named Fb e = refl
no_function named Fc e = absurd (false≢true (both_true named false e))
no_function named Ob e = refl
no_function named (Db of) e = refl
no_function named Udt e = refl

at_number : {X : Type 0} (P : X → Type 0) (xs : List X) (k : ℕ) (x : X) → AllByRecursion P xs → slice_get xs k ≡ Some x → P x
at_number P [] k x a g = absurd (none-some x (by k g))
  where
    by : (i : ℕ) → slice_get [] i ≡ Some x → None ≡ Some x
    by zero e = e
    by (suc i) e = e
at_number P (y ∷ ys) zero x a g = subst P (same_some y x g) a.0
at_number P (y ∷ ys) (suc k) x a g = at_number P ys k x a.1 g

contained : {X : Type 0} (xs : List X) (k : ℕ) (x : X) → slice_get xs k ≡ Some x → Contains xs x
contained [] k x g = absurd (none-some x (by k g))
  where
    by : (i : ℕ) → slice_get [] i ≡ Some x → None ≡ Some x
    by zero e = e
    by (suc i) e = e
contained (y ∷ ys) zero x g = (0, omega arith, same_some y x g)
contained (y ∷ ys) (suc k) x g = let c = contained ys k x g in (suc c.0, omega (arith, c.1), c.2)

-- ---- the source

no_view : View
no_view = record { params = []; bound = [] }

-- the table of what is read, with what a case says of its cells
pub source_runs : ((view : View) (cells : List Cell) → map (λ c. c.ty) (with_view view cells) ≡ map (λ c. c.ty) cells)
    → (told : Option FileMap) (file : List ℕ) (given : Given) (entered : Entered) (view : View) → ReadsTable told file given entered
    → IsRun (source_with given entered view)
source_runs types told file given entered view reads =
    let source : Source = source_with given entered view in
    let held = reads.project.sources in
    let symbols = held.case_held.are.says.symbols in
    let at = reads.table.is_entered in
    let counted : length source.cells ≡ length (cells_of given entered) =
    sym (length-map source.cells (λ (c : Cell). c.ty)) ∙ ap length (types view (cells_of given entered))
    ∙ length-map (cells_of given entered) (λ (c : Cell). c.ty) in
    record {
      rules = reads.project.keeps;
      suits = symbols_suit _ given.case.symbols symbols;
      symbols = symbols_fit _ given.case.symbols symbols;
      functions = values_so told 0 given.case.sources given.sources held.sources_held;
      table = (view, refl);
      few = (let few = reads.table.few in omega (arith, few, counted));
      entry = contained (blocks_of given) at.number entered.block at.is;
    }

pub has_source : ((view : View) (cells : List Cell) → map (λ c. c.ty) (with_view view cells) ≡ map (λ c. c.ty) cells)
    → (told : Option FileMap) (file : List ℕ) (given : Given) (entered : Entered) (entry : ℕ) (table : Table) (project : Project)
    → ReadsTable told file given entered → IsProjectOf given project → IsTableOf given entered entry table
    → HasSource (project_tree project) entry (wide_bytes table.bytes)
has_source types told file given entered entry table project reads is t =
    let so = values_so told 0 given.case.sources given.sources reads.project.sources.sources_held in
    let at = t.has.is_entered in
    let value = at_number IsSo (blocks_of given) entry entered.block so t.is in
    let may = passes (may_enter at.entry.name.key) 0 at.number (blocks_of given) at.number entered.block (omega arith) at.entry.is at.is in
    record {
      source = source_with given entered no_view;
      same = is.same;
      at = t.is;
      bytes_are = t.bytes;
      is = record {
        run = source_runs types told file given entered no_view reads;
        valueless = is_none entered.block.value entered.block.kind value
            (no_function (has_key at.entry.name.key entered.block.name) entered.block.kind may);
      };
    }
