-- What is asked of a case: of each member in turn whether it is there, then whether its value is of the right JSON type, and then
-- whether it keeps its own rule; each question of an array or an object first of itself and then of all its parts. What no case has
-- comes last.
use Rattle.std.specs.Prelude.{◌≡◌, ℕ, ℤ, pos, int_le, nat_le, List, [], ◌∷◌, ◌++◌, map, length, filter, flat_map, codes, bytes_eq, Bool, true, false, ◌&&◌, ◌||◌, not, is_some, IsTrue, Option, Some, None, unwrap_or}
use Rattle.std.specs.Char.{is_ascii_alphanumeric}
use Rattle.std.specs.List.{list_all, count_by}
use Rattle.std.specs.Ordering.{nat_cmp, is_le}
use Rattle.std.specs.Cmp.Lexicographic.{slice_cmp}
use Rattle.serde_json.specs.Data.{Data}
use Rattle.serde_json.specs.Find.{get, as_bool, as_str}
use Rattle.pv_case.specs.declared.case.TheConstants.{MAX_NAME, MAX_SOURCES, MAX_LOOP_BOUND, MAX_DEPTH, MAX_LEMMAS, MIN_REGION_WORDS, MAX_REGION_WORDS}
use Rattle.pv_case.specs.declared.fault.Kind.TheVariants.{MissingField, WrongKind, UnknownField, OutOfLimit, NoSuchPattern, CountOfExpressions, BadSymbol}
use Rattle.pv_case.specs.Checks.{Checks, passed, must, ask, ◌⨾◌, each, of_any}
use Rattle.pv_case.specs.Members.{items_in, pairs_in, is_list, is_object, is_text, integer_of, has, text_at, text_in, integer_at, items_at, pairs_at, is_short, is_among}
use Rattle.pv_case.specs.Patterns.{kind_named, expressions_of}
use Rattle.pv_case.specs.Symbols.{IsSymbol, symbol_key}

-- ---- members that have to be there

abbrev pub wanted : Data → List ℕ → Checks
wanted d key = ask (has d key) MissingField key

-- a text
abbrev pub text : Data → List ℕ → Checks
text d key = ask (is_some (text_at d key)) WrongKind key

-- an integer in these bounds
abbrev pub lies : ℤ → ℤ → Option ℤ → Bool
lies least most None = false
lies least most (Some n) = int_le least n && int_le n most

abbrev pub integer : List ℕ → ℤ → ℤ → Data → Checks
integer key least most d =
    wanted d key ⨾ ask (is_some (integer_at d key)) WrongKind key
    ⨾ ask (lies least most (integer_at d key)) OutOfLimit key

abbrev pub version : Data → Checks
version d = integer (codes "version") (pos 1) (pos 1) d

-- ---- the name and the entry

-- a letter, a digit, `_` or `-`
abbrev pub is_name_byte : ℕ → Bool
is_name_byte byte = is_ascii_alphanumeric byte || (bytes_eq (byte ∷ []) (codes "_") || bytes_eq (byte ∷ []) (codes "-"))

abbrev pub is_name : List ℕ → Bool
is_name name = nat_le 1 (length name) && (nat_le (length name) MAX_NAME && list_all is_name_byte name)

abbrev pub name : Data → Checks
name d =
    wanted d (codes "name") ⨾ text d (codes "name")
    ⨾ ask (is_name (text_in d (codes "name"))) OutOfLimit (codes "name")

abbrev pub entry : Data → Checks
entry d =
    wanted d (codes "entry") ⨾ text d (codes "entry")
    ⨾ ask (is_short (text_in d (codes "entry"))) OutOfLimit (codes "entry")

-- ---- the sources: objects with a file's name, which isn't empty, and a language

abbrev pub source_has : Data → Checks
source_has s = of_any (λ members. wanted s (codes "file") ⨾ wanted s (codes "language")) (pairs_in s)

abbrev pub source_is : Data → Checks
source_is s =
    ask (is_object s) WrongKind (codes "sources") ⨾ text s (codes "file") ⨾ text s (codes "language")

abbrev pub is_file : List ℕ → Bool
is_file file = nat_le 1 (length file) && is_short file

abbrev pub source_lies : Data → Checks
source_lies s =
    ask (is_file (text_in s (codes "file"))) OutOfLimit (codes "file")
    ⨾ ask (is_among (codes "scl" ∷ codes "stl" ∷ []) (text_in s (codes "language"))) OutOfLimit (codes "language")

-- as many as a case may have
abbrev pub are_few : List Data → Bool
are_few items = nat_le 1 (length items) && nat_le (length items) MAX_SOURCES

abbrev pub source_list : List Data → Checks
source_list items =
    each source_has items ⨾ each source_is items
    ⨾ ask (are_few items) OutOfLimit (codes "sources") ⨾ each source_lies items

abbrev pub sources : Data → Checks
sources d =
    wanted d (codes "sources") ⨾ ask (is_some (items_at d (codes "sources"))) WrongKind (codes "sources")
    ⨾ of_any source_list (items_at d (codes "sources"))

-- ---- params and bind, which may be missing

abbrev pub param_is : Data → Checks
param_is i = ask (is_text i) WrongKind (codes "params")

abbrev pub param_lies : Data → Checks
param_lies i = ask (is_short (unwrap_or (as_str i) [])) OutOfLimit (codes "params")

abbrev pub param_list : List Data → Checks
param_list items = each param_is items ⨾ each param_lies items

abbrev pub params_in : Data → Checks
params_in v = ask (is_list v) WrongKind (codes "params") ⨾ of_any param_list (items_in v)

abbrev pub params : Data → Checks
params d = of_any params_in (get (codes "params") d)

-- an integer, or TRUE or FALSE
abbrev pub is_bound : Data → Bool
is_bound d = is_some (integer_of d) || is_some (as_bool d)

abbrev pub bound_is : List ℕ × Data → Checks
bound_is p = ask (is_bound p.1) WrongKind p.0

abbrev pub bind_in : Data → Checks
bind_in v = ask (is_object v) WrongKind (codes "bind") ⨾ of_any (each bound_is) (pairs_in v)

abbrev pub bind : Data → Checks
bind d = of_any bind_in (get (codes "bind") d)

-- ---- symbols, which may be missing

abbrev pub symbol_has : List ℕ × Data → Checks
symbol_has p = of_any (λ members. wanted p.1 (codes "at") ⨾ wanted p.1 (codes "type")) (pairs_in p.1)

abbrev pub symbol_is : List ℕ × Data → Checks
symbol_is p = ask (is_object p.1) WrongKind p.0 ⨾ text p.1 (codes "at") ⨾ text p.1 (codes "type")

abbrev pub symbol_lies : List ℕ × Data → Checks
symbol_lies p =
    ask (is_short (text_in p.1 (codes "at"))) OutOfLimit (codes "at")
    ⨾ ask (is_short (text_in p.1 (codes "type"))) OutOfLimit (codes "type")

abbrev pub symbol_list : List (List ℕ × Data) → Checks
symbol_list pairs =
    each symbol_has pairs ⨾ each symbol_is pairs ⨾ each symbol_lies pairs

abbrev pub symbols_in : Data → Checks
symbols_in v = ask (is_object v) WrongKind (codes "symbols") ⨾ of_any symbol_list (pairs_in v)

abbrev pub symbols : Data → Checks
symbols d = of_any symbols_in (get (codes "symbols") d)

-- the symbols behind those of these keys
abbrev pub symbols_behind : List (List ℕ) → List (List ℕ × Data) → Checks
symbols_behind earlier [] = passed
symbols_behind earlier (p ∷ more) =
    must (IsSymbol earlier p.0 (text_in p.1 (codes "at")) (text_in p.1 (codes "type"))) BadSymbol p.0
    ⨾ symbols_behind (earlier ++ symbol_key p.0 ∷ []) more

-- each symbol's operand reads and suits its type, and no two have one name
abbrev pub good_symbols : Data → Checks
good_symbols d = of_any (symbols_behind []) (pairs_at d (codes "symbols"))

-- ---- the pattern: its kind, and the expressions a, b and c as far as the kind has them

abbrev pub expression_names : List (List ℕ)
expression_names = codes "a" ∷ codes "b" ∷ codes "c" ∷ []

abbrev pub text_where : Data → List ℕ → Checks
text_where v key = of_any (λ e. ask (is_text e) WrongKind key) (get key v)

abbrev pub agree : Bool → Bool → Bool
agree true b = b
agree false b = not b

-- the expressions that are there are the first ones, as many as the kind has
abbrev pub has_count : Data → ℕ → Bool
has_count v n =
    agree (has v (codes "a")) (nat_le 1 n)
    && (agree (has v (codes "b")) (nat_le 2 n) && agree (has v (codes "c")) (nat_le 3 n))

abbrev pub is_short_in : Data → List ℕ → Checks
is_short_in v key = ask (is_short (text_in v key)) OutOfLimit key

abbrev pub pattern_in : Data → Checks
pattern_in v =
    of_any (λ members. wanted v (codes "kind")) (pairs_in v)
    ⨾ ask (is_object v) WrongKind (codes "pattern") ⨾ text v (codes "kind")
    ⨾ each (text_where v) expression_names ⨾ each (is_short_in v) (codes "kind" ∷ expression_names)
    ⨾ ask (is_some (kind_named (text_in v (codes "kind")))) NoSuchPattern (codes "kind")
    ⨾ ask (has_count v (expressions_of (kind_named (text_in v (codes "kind"))))) CountOfExpressions (codes "pattern")

abbrev pub pattern : Data → Checks
pattern d = wanted d (codes "pattern") ⨾ of_any pattern_in (get (codes "pattern") d)

-- ---- the limits

abbrev pub limits : Data → Checks
limits d =
    integer (codes "loopBound") (pos 1) (pos MAX_LOOP_BOUND) d ⨾ integer (codes "depth") (pos 0) (pos MAX_DEPTH) d
    ⨾ integer (codes "lemmas") (pos 1) (pos MAX_LEMMAS) d
    ⨾ integer (codes "regionWords") (pos MIN_REGION_WORDS) (pos MAX_REGION_WORDS) d

-- ---- what may be missing: the reductions, each named once, and the certificate's file

abbrev pub reduction_names : List (List ℕ)
reduction_names = codes "constants" ∷ codes "abstract" ∷ codes "cone" ∷ []

abbrev pub text_of : Data → List ℕ
text_of d = unwrap_or (as_str d) []

-- at most one of the items is this text
abbrev pub is_once : List Data → List ℕ → Bool
is_once items name = nat_le (count_by (λ i. bytes_eq (text_of i) name) items) 1

unfoldable pub is_reduction : Data → Bool
is_reduction i = is_among reduction_names (text_of i)

abbrev pub reduction_is : Data → Checks
reduction_is i = ask (is_text i) WrongKind (codes "reduce")

abbrev pub reduction_lies : Data → Checks
reduction_lies i = ask (is_reduction i) OutOfLimit (codes "reduce")

-- each is one of the three, and none stands twice
abbrev pub reduction_list : List Data → Checks
reduction_list items =
    each reduction_is items ⨾ each reduction_lies items ⨾ each (λ name. ask (is_once items name) OutOfLimit (codes "reduce")) reduction_names

abbrev pub reduce_in : Data → Checks
reduce_in v = ask (is_list v) WrongKind (codes "reduce") ⨾ of_any reduction_list (items_in v)

abbrev pub reduce : Data → Checks
reduce d = of_any reduce_in (get (codes "reduce") d)

abbrev pub certificate_in : Data → Checks
certificate_in v =
    ask (is_text v) WrongKind (codes "certificate")
    ⨾ ask (is_file (unwrap_or (as_str v) [])) OutOfLimit (codes "certificate")

abbrev pub certificate : Data → Checks
certificate d = of_any certificate_in (get (codes "certificate") d)

-- ---- what no case has, at the top and in sources, symbols and the pattern

abbrev pub field_names : List (List ℕ)
field_names =
    codes "version" ∷ codes "name" ∷ codes "sources" ∷ codes "entry" ∷ codes "params" ∷ codes "bind" ∷ codes "symbols"
    ∷ codes "pattern" ∷ codes "loopBound" ∷ codes "depth" ∷ codes "lemmas" ∷ codes "regionWords" ∷ codes "reduce"
    ∷ codes "certificate" ∷ []

abbrev pub source_names : List (List ℕ)
source_names = codes "file" ∷ codes "language" ∷ []

abbrev pub symbol_names : List (List ℕ)
symbol_names = codes "at" ∷ codes "type" ∷ []

abbrev pub pattern_names : List (List ℕ)
pattern_names = codes "kind" ∷ expression_names

abbrev pub names_in : Data → List (List ℕ)
names_in d = map (λ p. p.0) (unwrap_or (pairs_in d) [])

abbrev pub strays : List (List ℕ) → Data → List (List ℕ)
strays known d = filter (λ n. not (is_among known n)) (names_in d)

abbrev pub strays_where : List (List ℕ) → Option Data → List (List ℕ)
strays_where known None = []
strays_where known (Some d) = strays known d

abbrev pub all_strays : Data → List (List ℕ)
all_strays d =
    strays field_names d
    ++ (flat_map (strays source_names) (unwrap_or (items_at d (codes "sources")) [])
    ++ (flat_map (λ p. strays symbol_names p.1) (unwrap_or (pairs_at d (codes "symbols")) [])
    ++ strays_where pattern_names (get (codes "pattern") d)))

-- the first of the texts in the order of their bytes
pub record IsLeast (texts : List (List ℕ)) (text : List ℕ) : Type 0 where
  pub there : IsTrue (is_among texts text)
  pub least : IsTrue (list_all (λ other. is_le (slice_cmp nat_cmp text other)) texts)

-- no member is unknown, or the least of those that are is reported
abbrev pub known : Data → Checks
known d =
    record {
      keeps = all_strays d ≡ [];
      breaks = λ kind field. (kind ≡ UnknownField) × IsLeast (all_strays d) field;
    }

-- ---- the whole case

abbrev pub first_checks : Data → Checks
first_checks d = version d ⨾ name d ⨾ sources d ⨾ entry d

abbrev pub input_checks : Data → Checks
input_checks d = params d ⨾ bind d ⨾ symbols d

abbrev pub last_checks : Data → Checks
last_checks d = pattern d ⨾ limits d ⨾ reduce d ⨾ certificate d ⨾ known d

abbrev pub case_checks : Data → Checks
case_checks d = first_checks d ⨾ input_checks d ⨾ good_symbols d ⨾ last_checks d
