-- A case: what a JSON value says where it keeps all rules of cases, and which rule it breaks first where it doesn't.
use Rattle.std.specs.Prelude.{◌≡◌, ℕ, ℤ, pos, List, [], ◌∷◌, map, filter_map, codes, bytes_eq, string_bytes, IsUtf8, Bool, true, false, if◌then◌else◌, IsTrue, Option, Some, None, unwrap_or, option_map}
use Rattle.std.specs.List.{list_any}
use Rattle.pv_word.specs.declared.types.Ty.{Ty}
use Rattle.pv_types.specs.declared.name.Name.{Name}
use Rattle.pv_lex.specs.declared.token.Language.{Language}
use Rattle.pv_lex.specs.declared.token.Language.TheVariants.{Scl, Stl}
use Rattle.pv_tree.specs.Tree.{OperandTree}
use Rattle.pv_tree.specs.View.{operand_tree}
use Rattle.serde_json.specs.Data.{Data}
use Rattle.serde_json.specs.Find.{get, as_bool}
use Rattle.serde_json.specs.Read.{read}
use Rattle.pv_case.specs.declared.case.Case.{Case}
use Rattle.pv_case.specs.declared.case.Source.{Source}
use Rattle.pv_case.specs.declared.case.Bound.{Bound}
use Rattle.pv_case.specs.declared.case.Symbol.{Symbol}
use Rattle.pv_case.specs.declared.case.PatternKind.{PatternKind}
use Rattle.pv_case.specs.declared.case.Limits.{Limits}
use Rattle.pv_case.specs.declared.case.Reductions.{Reductions}
use Rattle.pv_case.specs.declared.fault.Kind.{Kind}
use Rattle.pv_case.specs.Members.{items_at, pairs_at, text_at, text_in, integer_of, integer_at, is_object}
use Rattle.pv_case.specs.Patterns.{kind_named}
use Rattle.pv_case.specs.Symbols.{symbol_key, ReadsAs}
use Rattle.pv_case.specs.Fields.{text_of, expression_names, case_checks}

-- ---- what a case says, as plain data

pub record SourceData : Type 0 where
  pub file : List ℕ
  pub language : Language

pub record SymbolData : Type 0 where
  pub name : Name
  pub at : OperandTree
  pub ty : Ty

pub record CaseData : Type 0 where
  pub name : List ℕ
  pub sources : List SourceData
  pub entry : List ℕ
  pub params : List (List ℕ)
  pub bind : List (List ℕ × ℤ)
  pub symbols : List SymbolData
  pub kind : PatternKind
  pub expressions : List (List ℕ)
  pub limits : Limits
  pub reductions : Reductions
  pub certificate : Option (List ℕ)

-- ---- what the members say

abbrev pub language_of : List ℕ → Language
language_of text = if bytes_eq text (codes "stl") then Stl else Scl

abbrev pub source_of : Data → SourceData
source_of s = record { file = text_in s (codes "file"); language = language_of (text_in s (codes "language")) }

-- TRUE is 1, and FALSE is 0
abbrev pub truth_of : Option Bool → ℤ
truth_of None = pos 0
truth_of (Some false) = pos 0
truth_of (Some true) = pos 1

abbrev pub value_of : Data → ℤ
value_of d = unwrap_or (integer_of d) (truth_of (as_bool d))

abbrev pub bound_of : List ℕ × Data → List ℕ × ℤ
bound_of p = (p.0, value_of p.1)

-- a symbol's name, as a plain name
abbrev pub IsNamed : List ℕ → Name → Type 0
IsNamed text name =
    (name.key ≡ symbol_key text) × (name.spelled ≡ text) × (name.paired ≡ false)

pub record IsSymbolOf (p : List ℕ × Data) (symbol : SymbolData) : Type 0 where
  pub name : IsNamed p.0 symbol.name
  pub reads : ReadsAs (text_in p.1 (codes "at")) (text_in p.1 (codes "type")) symbol.at symbol.ty

abbrev pub AreSymbols : List (List ℕ × Data) → List SymbolData → Type 0
AreSymbols [] [] = Unit {0}
AreSymbols [] (s ∷ symbols) = ⊥
AreSymbols (p ∷ pairs) [] = ⊥
AreSymbols (p ∷ pairs) (s ∷ symbols) = IsSymbolOf p s × AreSymbols pairs symbols

-- the pattern's texts in the order of a, b and c
abbrev pub expressions_in : Data → List (List ℕ)
expressions_in v = filter_map (text_at v) expression_names

-- the value's pattern is of this kind and has these expressions
pub record IsPatternOf (d : Data) (kind : PatternKind) (expressions : List (List ℕ)) : Type 0 where
  pub value : Data
  pub there : get (codes "pattern") d ≡ Some value
  pub of_kind : kind_named (text_in value (codes "kind")) ≡ Some kind
  pub are : expressions ≡ expressions_in value

-- all three reductions where the case doesn't say, else those that it names
abbrev pub names_reduction : Option (List Data) → List ℕ → Bool
names_reduction None name = true
names_reduction (Some items) name = list_any (λ i. bytes_eq (text_of i) name) items

abbrev pub reductions_in : Data → Reductions
reductions_in d =
    record {
      constants = names_reduction (items_at d (codes "reduce")) (codes "constants");
      abstraction = names_reduction (items_at d (codes "reduce")) (codes "abstract");
      cone = names_reduction (items_at d (codes "reduce")) (codes "cone");
    }

abbrev pub number_in : Data → List ℕ → ℤ
number_in d key = unwrap_or (integer_at d key) (pos 0)

-- the limits that the value has
pub record HasLimits (d : Data) (limits : Limits) : Type 0 where
  pub loop_bound : pos limits.loop_bound ≡ number_in d (codes "loopBound")
  pub depth : pos limits.depth ≡ number_in d (codes "depth")
  pub lemmas : pos limits.lemmas ≡ number_in d (codes "lemmas")
  pub region_words : pos limits.region_words ≡ number_in d (codes "regionWords")

-- what the value says, where it keeps all rules
pub record Says (d : Data) (case : CaseData) : Type 0 where
  pub name : case.name ≡ text_in d (codes "name")
  pub sources : case.sources ≡ map source_of (unwrap_or (items_at d (codes "sources")) [])
  pub entry : case.entry ≡ text_in d (codes "entry")
  pub params : case.params ≡ map text_of (unwrap_or (items_at d (codes "params")) [])
  pub bind : case.bind ≡ map bound_of (unwrap_or (pairs_at d (codes "bind")) [])
  pub symbols : AreSymbols (unwrap_or (pairs_at d (codes "symbols")) []) case.symbols
  pub pattern : IsPatternOf d case.kind case.expressions
  pub limits : HasLimits d case.limits
  pub reductions : case.reductions ≡ reductions_in d
  pub certificate : case.certificate ≡ text_at d (codes "certificate")

-- ---- what bytes are

-- the bytes are a JSON text in UTF-8 of this object
pub record IsObjectText (bytes : List ℕ) (d : Data) : Type 0 where
  pub utf8 : IsUtf8 bytes
  pub reads : read bytes ≡ Some d
  pub object : IsTrue (is_object d)

-- they are the text of this case
pub record IsCaseText (bytes : List ℕ) (case : CaseData) : Type 0 where
  pub value : Data
  pub text : IsObjectText bytes value
  pub keeps : (case_checks value).keeps
  pub says : Says value case

-- they are the text of an object that breaks this rule first, by this member
pub record BreaksFirst (bytes : List ℕ) (kind : Kind) (field : List ℕ) : Type 0 where
  pub value : Data
  pub text : IsObjectText bytes value
  pub breaks : (case_checks value).breaks kind field

abbrev pub IsNoObject : List ℕ → Type 0
IsNoObject bytes = (d : Data) → IsObjectText bytes d → ⊥

-- ---- the code's cases

abbrev pub source_data : Source → SourceData
source_data s = record { file = string_bytes s.file; language = s.language }

abbrev pub bound_data : Bound → List ℕ × ℤ
bound_data b = (string_bytes b.path, b.value)

abbrev pub symbol_data : Symbol → SymbolData
symbol_data s = record { name = s.name; at = operand_tree s.at; ty = s.ty }

abbrev pub data_of : Case → CaseData
data_of case =
    record {
      name = string_bytes case.name;
      sources = map source_data case.sources.items;
      entry = string_bytes case.entry;
      params = map string_bytes case.params.items;
      bind = map bound_data case.bind.items;
      symbols = map symbol_data case.symbols.items;
      kind = case.pattern.kind;
      expressions = map string_bytes case.pattern.expressions.items;
      limits = case.limits;
      reductions = case.reductions;
      certificate = option_map string_bytes case.certificate;
    }
