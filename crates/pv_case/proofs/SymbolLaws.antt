-- Good symbols, one behind the other.
use Rattle.std.proofs.Common.{◌≡◌, ℕ, zero, suc, ◌<◌, List, [], ◌∷◌, ◌++◌, map, length, slice_index_or, Bool, true, false, ◌||◌, not, if◌then◌else◌, true≢false, Contains, bytes_eq, codes, Option, Some, None, IfSome, IfNone, refl, sym, ap, ◌∙◌, subst, arith, append_assoc, String, Bor}
use mathlib.Core.Logic.{inl, inr}
use Rattle.std.specs.List.{list_any}
use Rattle.std.specs.Str.{str_to_ascii_lowercase}
use Rattle.std.specs.Iterator.{Yields}
use Rattle.std.specs.Map.Iter.{TakesFirst, deref_pair}
use Rattle.std.specs.declared.alloc.Global.{Global}
use Rattle.std.proofs.lemmas.List.{append-nil}
use Rattle.std.proofs.lemmas.Slice.Eq.{bytes_eq-Decides}
use Rattle.std.proofs.lemmas.Map.Iter.{rest_more, rest_all, rest_so_far}
use Rattle.indexmap.specs.IndexSet.{insert_key}
use Rattle.pv_word.specs.declared.types.Ty.{Ty}
use Rattle.pv_place.specs.declared.place.Place.{Place}
use Rattle.pv_tree.specs.declared.expr.Area.{Area}
use Rattle.pv_tree.specs.Tree.{OperandTree}
use Rattle.pv_tree.specs.View.{operand_tree}
use Rattle.serde_json.specs.Data.{Data}
use Rattle.serde_json.specs.declared.value.Value.{Value}
use Rattle.pv_case.specs.declared.fault.Kind.{Kind}
use Rattle.pv_case.specs.declared.fault.Kind.TheVariants.{BadSymbol}
use Rattle.pv_case.specs.declared.case.Symbol.{Symbol}
use Rattle.pv_case.specs.declared.address.Address.{Address}
use Rattle.pv_case.specs.declared.symbol_list.Symbols.{Symbols}
use Rattle.pv_case.specs.declared.symbol_list.TypedAt.{TypedAt}
use Rattle.pv_case.specs.Members.{text_in}
use Rattle.pv_case.specs.Symbols.{symbol_key, type_of_width, IsAddressText, ReadsAs}
use Rattle.pv_case.specs.Viewed.{pair_of}
use Rattle.pv_case.specs.Fields.{symbols_behind}
use Rattle.pv_case.specs.Cases.{SymbolData, IsSymbolOf, AreSymbols, symbol_data}
use Rattle.pv_case.specs.SymbolLists.{keys_of, IsGood, Adds, AreRead}
use Rattle.pv_case.proofs.OverMaps.{asked}
use Rattle.pv_case.proofs.AddressLaws.{one_address}

abbrev Pair : Type 0
Pair = List ℕ × Data

abbrev Entry : Type 0
Entry = String Global × Value

abbrev Item : Type 0
Item = Bor (String Global) × Bor Value

-- ---- one more

pushed_key : (xs : List Pair) (x : Pair) → keys_of (xs ++ x ∷ []) ≡ keys_of xs ++ symbol_key x.0 ∷ []
pushed_key [] x = refl
pushed_key (y ∷ ys) x = ap (λ (l : List (List ℕ)). symbol_key y.0 ∷ l) (pushed_key ys x)

-- the keys before the symbols that follow the first
next_keys : (earlier : List (List ℕ)) (y : Pair) (ys : List Pair) → earlier ++ keys_of (y ∷ ys) ≡ (earlier ++ symbol_key y.0 ∷ []) ++ keys_of ys
next_keys earlier y ys = sym (append_assoc earlier (symbol_key y.0 ∷ []) (keys_of ys))

keeps_behind : (earlier : List (List ℕ)) (xs : List Pair) (x : Pair) → (symbols_behind earlier xs).keeps → IsGood (earlier ++ keys_of xs) x
    → (symbols_behind earlier (xs ++ x ∷ [])).keeps
keeps_behind earlier [] x keeps good = (subst (λ (l : List (List ℕ)). IsGood l x) (append-nil earlier) good, tt)
keeps_behind earlier (y ∷ ys) x keeps good =
    (keeps.0, keeps_behind (earlier ++ symbol_key y.0 ∷ []) ys x keeps.1 (subst (λ (l : List (List ℕ)). IsGood l x) (next_keys earlier y ys) good))

breaks_behind : (earlier : List (List ℕ)) (xs : List Pair) (x : Pair) (u : List Pair) (kind : Kind) (field : List ℕ)
    → (symbols_behind earlier xs).keeps → (IsGood (earlier ++ keys_of xs) x → ⊥) → kind ≡ BadSymbol → field ≡ x.0
    → (symbols_behind earlier (xs ++ x ∷ u)).breaks kind field
breaks_behind earlier [] x u kind field keeps bad is named =
    inl ((λ good. bad (subst (λ (l : List (List ℕ)). IsGood l x) (sym (append-nil earlier)) good)), is, named)
breaks_behind earlier (y ∷ ys) x u kind field keeps bad is named =
    inr (
      keeps.0,
      breaks_behind (earlier ++ symbol_key y.0 ∷ []) ys x u kind field keeps.1
          (λ good. bad (subst (λ (l : List (List ℕ)). IsGood l x) (sym (next_keys earlier y ys)) good)) is named,
    )

are_behind : (xs : List Pair) (x : Pair) (ss : List SymbolData) (s : SymbolData) → AreSymbols xs ss → IsSymbolOf x s
    → AreSymbols (xs ++ x ∷ []) (ss ++ s ∷ [])
are_behind [] x [] s are is = (is, tt)
are_behind [] x (t ∷ ss) s are is = absurd are
are_behind (y ∷ ys) x [] s are is = absurd are
are_behind (y ∷ ys) x (t ∷ ss) s are is = (are.0, are_behind ys x ss s are.1 is)

pushed_symbol : (ss : List Symbol) (s : Symbol) → map symbol_data (ss ++ s ∷ []) ≡ map symbol_data ss ++ symbol_data s ∷ []
pushed_symbol [] s = refl
pushed_symbol (t ∷ ss) s = ap (λ (l : List SymbolData). symbol_data t ∷ l) (pushed_symbol ss s)

-- ---- the loop

pub none_read : (symbols : Symbols) → symbols.list.items ≡ [] → symbols.seen.keys ≡ [] → AreRead symbols []
none_read symbols empty none = record {
  keeps = tt;
  seen = none;
  are = subst (λ (l : List Symbol). AreSymbols [] (map symbol_data l)) (sym empty) tt;
}

read_more : (old new : Symbols) (xs : List Pair) (x : Pair) → AreRead old xs → Adds old new x → AreRead new (xs ++ x ∷ [])
read_more old new xs x read adds = record {
  keeps = keeps_behind [] xs x read.keeps (subst (λ (l : List (List ℕ)). IsGood l x) read.seen adds.good);
  seen = adds.seen ∙ ap (λ (l : List (List ℕ)). l ++ symbol_key x.0 ∷ []) read.seen ∙ sym (pushed_key xs x);
  are = subst (AreSymbols (xs ++ x ∷ [])) (sym (ap (map symbol_data) adds.pushed ∙ pushed_symbol old.list.items adds.symbol))
      (are_behind xs x (map symbol_data old.list.items) (symbol_data adds.symbol) read.are adds.says);
}

pushed_asked : (xs : List Item) (x : Item) → asked (xs ++ x ∷ []) ≡ asked xs ++ pair_of (deref_pair x) ∷ []
pushed_asked [] x = refl
pushed_asked (y ∷ ys) x = ap (λ (l : List Pair). pair_of (deref_pair y) ∷ l) (pushed_asked ys x)

-- the loop's next turn
pub read_next : (old new : Symbols) (xs : List Item) (x : Item) → AreRead old (asked xs) → Adds old new (pair_of (deref_pair x))
    → AreRead new (asked (xs ++ x ∷ []))
read_next old new xs x read adds =
    subst (AreRead new) (sym (pushed_asked xs x)) (read_more old new (asked xs) (pair_of (deref_pair x)) read adds)

split_asked : (xs : List Item) (x : Entry) (u : List Entry) → map pair_of (map deref_pair xs ++ x ∷ u) ≡ asked xs ++ pair_of x ∷ map pair_of u
split_asked [] x u = refl
split_asked (y ∷ ys) x u = ap (λ (l : List Pair). pair_of (deref_pair y) ∷ l) (split_asked ys x u)

-- its exit at a symbol that isn't good
pub read_bad : (symbols : Symbols) (all : List Entry) (xs : List Item) (s t u : List Entry) (next : Option Item) (x : Item) (kind : Kind)
    (field : List ℕ) → s ≡ all → Yields (TakesFirst deref_pair) s xs t → next ≡ Some x → TakesFirst deref_pair t next u
    → AreRead symbols (asked xs) → (IsGood symbols.seen.keys (pair_of (deref_pair x)) → ⊥) → kind ≡ BadSymbol
    → field ≡ (pair_of (deref_pair x)).0 → (symbols_behind [] (map pair_of all)).breaks kind field
read_bad symbols all xs s t u next x kind field start y is step read bad of named =
    let whole : all ≡ map deref_pair xs ++ deref_pair x ∷ u =
    sym start ∙ rest_so_far deref_pair xs s t y ∙ ap (λ l. map deref_pair xs ++ l) (rest_more deref_pair t u next x is step) in
    subst (λ (l : List Pair). (symbols_behind [] l).breaks kind field) (sym (ap (map pair_of) whole ∙ split_asked xs (deref_pair x) u))
    (breaks_behind [] (asked xs) (pair_of (deref_pair x)) (map pair_of u) kind field read.keeps
    (λ good. bad (subst (λ (l : List (List ℕ)). IsGood l (pair_of (deref_pair x))) (sym read.seen) good)) of named)

-- its end
pub read_all : (symbols : Symbols) (all : List Entry) (xs : List Item) (s t u : List Entry) (next : Option Item) → s ≡ all
    → Yields (TakesFirst deref_pair) s xs t → next ≡ None → TakesFirst deref_pair t next u → AreRead symbols (asked xs)
    → AreRead symbols (map pair_of all)
read_all symbols all xs s t u next start y is step read =
    subst (λ (l : List Entry). AreRead symbols (map pair_of l))
    (sym (sym start ∙ rest_so_far deref_pair xs s t y ∙ ap (λ l. map deref_pair xs ++ l) (rest_all deref_pair t u next is step) ∙ append-nil (map deref_pair xs)))
    read

-- ---- one symbol

pub none_read_as : (o : Option Address) (at ty_text : List ℕ) (its : OperandTree) (of : Ty) → o ≡ None
    → IfNone o ((area : Area) (bits byte bit : ℕ) (place : Place) → IsAddressText at area bits byte bit place → ⊥)
    → ReadsAs at ty_text its of → ⊥
none_read_as None at ty_text its of e none reads = none reads.area reads.bits reads.byte reads.bit reads.place reads.address
none_read_as (Some s) at ty_text its of e none reads = absurd (cc (e))

some_address : (x y : Address) → Some x ≡ Some y → x ≡ y
some_address x y e = cc

none_type : (w : Option Ty) (ty : Ty) → w ≡ None → w ≡ Some ty → ⊥
none_type w ty e f = cc

pub unsuited : (o : Option Address) (s : Address) (w : Option Ty) (at ty_text : List ℕ) (its : OperandTree) (of : Ty)
    → IfSome o (λ s. IsAddressText at s.area s.bits s.byte s.bit s.place) → o ≡ Some s → w ≡ type_of_width s.bits ty_text → w ≡ None
    → ReadsAs at ty_text its of → ⊥
unsuited None s w at ty_text its of found e is none reads = absurd (cc (e))
unsuited (Some t) s w at ty_text its of found e is none reads =
    let same : t ≡ s = some_address t s e in
    let one = one_address at t.area reads.area t.bits t.byte t.bit reads.bits reads.byte reads.bit t.place reads.place found reads.address in
    none_type w of none
    (is ∙ ap (λ (z : Address). type_of_width z.bits ty_text) (sym same) ∙ ap (λ (n : ℕ). type_of_width n ty_text) one.bits ∙ reads.of_type)

pub none_typed : (o : Option TypedAt) (at ty_text : List ℕ) (earlier : List (List ℕ)) (p : Pair) → o ≡ None
    → IfNone o ((its : OperandTree) (of : Ty) → ReadsAs at ty_text its of → ⊥) → at ≡ text_in p.1 (codes "at")
    → ty_text ≡ text_in p.1 (codes "type") → IsGood earlier p → ⊥
none_typed None at ty_text earlier p e none is of good =
    none good.its_operand good.ty
    (subst (λ (t : List ℕ). ReadsAs at t good.its_operand good.ty) (sym of)
    (subst (λ (t : List ℕ). ReadsAs t (text_in p.1 (codes "type")) good.its_operand good.ty) (sym is) good.reads))
none_typed (Some t) at ty_text earlier p e none is of good = absurd (cc (e))

or_true : (p q : Bool) → q ≡ true → (p || q) ≡ true
or_true true q e = refl
or_true false q e = e

negated : (b : Bool) → not b ≡ false → b ≡ true
negated true e = refl
negated false e = absurd (true≢false e)

unmet : (b : Bool) → not b ≡ true → b ≡ false
unmet true e = absurd (true≢false (sym e))
unmet false e = refl

any_next : (x y : List ℕ) (ys : List (List ℕ)) (b : Bool) → bytes_eq x y ≡ b → list_any (bytes_eq x) (y ∷ ys) ≡ true
    → (list_any (bytes_eq x) ys ≡ true → Contains ys x) → Contains (y ∷ ys) x
any_next x y ys true same e more = (0, omega arith, sym ((bytes_eq-Decides x y).0 same))
any_next x y ys false other e more =
    let rest = more (sym (ap (λ (b : Bool). b || list_any (bytes_eq x) ys) other) ∙ e) in (suc rest.0, omega (arith, rest.1), rest.2)

any_contains : (x : List ℕ) (xs : List (List ℕ)) → list_any (bytes_eq x) xs ≡ true → Contains xs x
any_contains x [] e = absurd (true≢false (sym e))
any_contains x (y ∷ ys) e = any_next x y ys (bytes_eq x y) refl e (λ h. any_contains x ys h)

contains_any : (x : List ℕ) (xs : List (List ℕ)) → Contains xs x → list_any (bytes_eq x) xs ≡ true
contains_any x xs c = walked xs c.0 c.1 c.2
  where
    walked : (ys : List (List ℕ)) (k : ℕ) → k < length ys → slice_index_or ys k x ≡ x → list_any (bytes_eq x) ys ≡ true
    walked [] k lt is = absurd (omega (arith, lt))
    walked (y ∷ ys) zero lt is = ap (λ (b : Bool). b || list_any (bytes_eq x) ys) ((bytes_eq-Decides x y).1 (sym is))
    walked (y ∷ ys) (suc k) lt is = or_true (bytes_eq x y) (list_any (bytes_eq x) ys) (walked ys k (omega (arith, lt)) is)

-- a name that an earlier symbol has
pub met_before : (earlier : List (List ℕ)) (p : Pair) (key : List ℕ) (b : Bool) → key ≡ symbol_key p.0 → b ≡ not (list_any (bytes_eq key) earlier)
    → b ≡ false → IsGood earlier p → ⊥
met_before earlier p key b is e off good =
    good.apart (subst (Contains earlier) is (any_contains key earlier (negated (list_any (bytes_eq key) earlier) (sym e ∙ off))))

pub adds : (old new : Symbols) (p : Pair) (symbol : Symbol) (at ty_text key bytes : List ℕ) (b : Bool)
    → ReadsAs at ty_text (operand_tree symbol.at) symbol.ty → at ≡ text_in p.1 (codes "at") → ty_text ≡ text_in p.1 (codes "type")
    → bytes ≡ p.0 → symbol.name.key ≡ str_to_ascii_lowercase bytes → symbol.name.spelled ≡ bytes → symbol.name.paired ≡ false → key ≡ symbol.name.key
    → b ≡ not (list_any (bytes_eq key) old.seen.keys) → b ≡ true → new.seen.keys ≡ insert_key bytes_eq old.seen.keys key
    → new.list.items ≡ old.list.items ++ symbol ∷ [] → Adds old new p
adds old new p symbol at ty_text key bytes b reads is of named keyed spelled paired same e hit inserted pushed =
    let apart : list_any (bytes_eq key) old.seen.keys ≡ false = unmet (list_any (bytes_eq key) old.seen.keys) (sym e ∙ hit) in
    let its_key : key ≡ symbol_key p.0 = same ∙ keyed ∙ ap symbol_key named in
    let here = subst (λ (t : List ℕ). ReadsAs t (text_in p.1 (codes "type")) (operand_tree symbol.at) symbol.ty) is
    (subst (λ (t : List ℕ). ReadsAs at t (operand_tree symbol.at) symbol.ty) of reads) in
    record {
      symbol = symbol;
      good = record {
        its_operand = operand_tree symbol.at;
        ty = symbol.ty;
        reads = here;
        apart = λ c. true≢false (sym (contains_any key old.seen.keys (subst (Contains old.seen.keys) (sym its_key) c)) ∙ apart);
      };
      says = record { name = (keyed ∙ ap symbol_key named, spelled ∙ named, paired); reads = here };
      seen = inserted ∙ ap (λ (t : Bool). if t then old.seen.keys else old.seen.keys ++ key ∷ []) apart
          ∙ ap (λ (k : List ℕ). old.seen.keys ++ k ∷ []) its_key;
      pushed = pushed;
    }

pub typed_as : (o : Option TypedAt) (t : TypedAt) (at ty_text : List ℕ) → IfSome o (λ t. ReadsAs at ty_text (operand_tree t.at) t.ty) → o ≡ Some t
    → ReadsAs at ty_text (operand_tree t.at) t.ty
typed_as None t at ty_text found e = absurd (cc (e))
typed_as (Some u) t at ty_text found e =
    let same : u ≡ t = some_typed u t e in
    subst (λ (z : TypedAt). ReadsAs at ty_text (operand_tree z.at) z.ty) same found
  where
    some_typed : (x y : TypedAt) → Some x ≡ Some y → x ≡ y
    some_typed x y e = cc
