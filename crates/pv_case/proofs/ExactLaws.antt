-- The first rule that a case breaks is one.
use Rattle.std.proofs.Common.{◌≡◌, ℕ, pos, List, [], ◌∷◌, ◌++◌, Bool, true, false, ◌&&◌, ◌||◌, IsTrue, true≢false, Option, Some, None, unwrap_or, refl, sym, ap, ◌∙◌, subst, bytes_eq, codes, is_some}
use mathlib.Core.Logic.{inl, inr}
use Rattle.std.specs.Prelude.{ℤ}
use Rattle.std.specs.List.{list_all}
use Rattle.std.specs.Ordering.{nat_cmp, is_le, ordering_reverse}
use Rattle.std.specs.declared.cmp.Ordering.{Ordering}
use Rattle.std.specs.declared.cmp.Ordering.TheVariants.{Less, Equal, Greater}
use Rattle.std.specs.Cmp.Lexicographic.{slice_cmp}
use Rattle.std.proofs.lemmas.Cmp.{nat_list_cmp_total}
use Rattle.std.proofs.lemmas.Map.Lookups.{exact_bytes}
use Rattle.std.proofs.lemmas.Slice.Eq.{bytes_eq-Decides}
use Rattle.serde_json.specs.Data.{Data}
use Rattle.serde_json.specs.Find.{get, as_str}
use Rattle.pv_case.specs.declared.fault.Kind.{Kind}
use Rattle.pv_case.specs.declared.fault.Kind.TheVariants.{MissingField, WrongKind, OutOfLimit, NoSuchPattern, CountOfExpressions, BadSymbol}
use Rattle.pv_case.specs.declared.case.TheConstants.{MAX_LOOP_BOUND, MAX_DEPTH, MAX_LEMMAS, MIN_REGION_WORDS, MAX_REGION_WORDS}
use Rattle.pv_case.specs.Checks.{Checks, passed, must, ask, ◌⨾◌, each, of_any}
use Rattle.pv_case.specs.Members.{items_in, pairs_in, is_list, is_object, is_text, is_among, has, text_at, text_in, is_short, integer_at, items_at, pairs_at}
use Rattle.pv_case.specs.Patterns.{kind_named, expressions_of}
use Rattle.pv_case.specs.Symbols.{IsSymbol, symbol_key}
use Rattle.pv_case.specs.Exact.{IsExact}
use Rattle.pv_case.specs.Fields as f
use Rattle.pv_case.specs.Fields.{IsLeast}

-- ---- forms

exact_passed : IsExact passed
exact_passed = record { apart = λ kind field keeps breaks. breaks; one = λ kind other field name breaks also. absurd breaks }

exact_must : (holds : Type 0) (kind : Kind) (field : List ℕ) → IsExact (must holds kind field)
exact_must holds kind field = record {
  apart = λ k g keeps breaks. breaks.0 keeps;
  one = λ k l g h breaks also. (breaks.1 ∙ sym also.1, breaks.2 ∙ sym also.2);
}

exact_ask : (test : Bool) (kind : Kind) (field : List ℕ) → IsExact (ask test kind field)
exact_ask test kind field = exact_must (IsTrue test) kind field

exact_then : (first second : Checks) → IsExact first → IsExact second → IsExact (first ⨾ second)
exact_then first second a b = record {
  apart = λ kind field keeps breaks. elim breaks [
    | inl x ↦ a.apart kind field keeps.0 x
    | inr y ↦ b.apart kind field keeps.1 y.1
  ];
  one = λ kind other field name breaks also. elim breaks [
    | inl x ↦ elim also [
      | inl y ↦ a.one kind other field name x y
      | inr y ↦ absurd (a.apart kind field y.0 x)
    ]
    | inr x ↦ elim also [
      | inl y ↦ absurd (a.apart other name x.0 y)
      | inr y ↦ b.one kind other field name x.1 y.1
    ]
  ];
}

exact_each : {A : Type 0} (checks : A → Checks) (xs : List A) → ((x : A) → IsExact (checks x)) → IsExact (each checks xs)
exact_each checks [] exact = exact_passed
exact_each checks (x ∷ xs) exact = exact_then (checks x) (each checks xs) (exact x) (exact_each checks xs exact)

exact_any : {A : Type 0} (checks : A → Checks) (o : Option A) → ((x : A) → IsExact (checks x)) → IsExact (of_any checks o)
exact_any checks None exact = exact_passed
exact_any checks (Some x) exact = exact x

-- ---- single members

exact_wanted : (d : Data) (key : List ℕ) → IsExact (f.wanted d key)
exact_wanted d key = exact_ask (has d key) MissingField key

exact_text : (d : Data) (key : List ℕ) → IsExact (f.text d key)
exact_text d key = exact_ask (is_some (text_at d key)) WrongKind key

-- one that has to be there, of a JSON type, and with a rule of its own
exact_three : (a b c : Bool) (k l m : Kind) (x y z : List ℕ) → IsExact (ask a k x ⨾ ask b l y ⨾ ask c m z)
exact_three a b c k l m x y z =
    exact_then (ask a k x) (ask b l y ⨾ ask c m z) (exact_ask a k x) (exact_then (ask b l y) (ask c m z) (exact_ask b l y) (exact_ask c m z))

exact_integer : (key : List ℕ) (least most : ℤ) (d : Data) → IsExact (f.integer key least most d)
exact_integer key least most d =
    exact_three (has d key) (is_some (integer_at d key)) (f.lies least most (integer_at d key)) MissingField WrongKind OutOfLimit key key key

exact_name : (d : Data) → IsExact (f.name d)
exact_name d = exact_three _ _ _ MissingField WrongKind OutOfLimit (codes "name") (codes "name") (codes "name")

exact_entry : (d : Data) → IsExact (f.entry d)
exact_entry d = exact_three _ _ _ MissingField WrongKind OutOfLimit (codes "entry") (codes "entry") (codes "entry")

-- ---- sources

exact_two_wanted : (d : Data) (k l : List ℕ) → IsExact (f.wanted d k ⨾ f.wanted d l)
exact_two_wanted d k l = exact_then (f.wanted d k) (f.wanted d l) (exact_wanted d k) (exact_wanted d l)

exact_source_has : (s : Data) → IsExact (f.source_has s)
exact_source_has s =
    exact_any (λ members. f.wanted s (codes "file") ⨾ f.wanted s (codes "language")) (pairs_in s) (λ members. exact_two_wanted s (codes "file") (codes "language"))

exact_source_is : (s : Data) → IsExact (f.source_is s)
exact_source_is s = exact_three _ _ _ WrongKind WrongKind WrongKind (codes "sources") (codes "file") (codes "language")

exact_source_lies : (s : Data) → IsExact (f.source_lies s)
exact_source_lies s = exact_then _ _ (exact_ask _ OutOfLimit (codes "file")) (exact_ask _ OutOfLimit (codes "language"))

exact_source_list : (items : List Data) → IsExact (f.source_list items)
exact_source_list items =
    exact_then (each f.source_has items) (each f.source_is items ⨾ ask (f.are_few items) OutOfLimit (codes "sources") ⨾ each f.source_lies items)
    (exact_each f.source_has items exact_source_has)
    (exact_then (each f.source_is items) (ask (f.are_few items) OutOfLimit (codes "sources") ⨾ each f.source_lies items)
    (exact_each f.source_is items exact_source_is)
    (exact_then (ask (f.are_few items) OutOfLimit (codes "sources")) (each f.source_lies items) (exact_ask _ OutOfLimit (codes "sources"))
    (exact_each f.source_lies items exact_source_lies)))

exact_sources : (d : Data) → IsExact (f.sources d)
exact_sources d =
    exact_then (f.wanted d (codes "sources"))
    (ask (is_some (items_at d (codes "sources"))) WrongKind (codes "sources") ⨾ of_any f.source_list (items_at d (codes "sources")))
    (exact_wanted d (codes "sources"))
    (exact_then (ask (is_some (items_at d (codes "sources"))) WrongKind (codes "sources")) (of_any f.source_list (items_at d (codes "sources")))
    (exact_ask _ WrongKind (codes "sources")) (exact_any f.source_list (items_at d (codes "sources")) exact_source_list))

-- ---- params, bind and symbols

exact_params_in : (v : Data) → IsExact (f.params_in v)
exact_params_in v =
    exact_then (ask (is_list v) WrongKind (codes "params")) (of_any f.param_list (items_in v)) (exact_ask _ WrongKind (codes "params"))
    (exact_any f.param_list (items_in v) (λ items. exact_then (each f.param_is items) (each f.param_lies items)
    (exact_each f.param_is items (λ i. exact_ask (is_text i) WrongKind (codes "params")))
    (exact_each f.param_lies items (λ i. exact_ask (is_short (unwrap_or (as_str i) [])) OutOfLimit (codes "params")))))

exact_bind_in : (v : Data) → IsExact (f.bind_in v)
exact_bind_in v =
    exact_then (ask (is_object v) WrongKind (codes "bind")) (of_any (each f.bound_is) (pairs_in v)) (exact_ask _ WrongKind (codes "bind"))
    (exact_any (each f.bound_is) (pairs_in v) (λ pairs. exact_each f.bound_is pairs (λ p. exact_ask (f.is_bound p.1) WrongKind p.0)))

exact_symbol_has : (p : List ℕ × Data) → IsExact (f.symbol_has p)
exact_symbol_has p =
    exact_any (λ members. f.wanted p.1 (codes "at") ⨾ f.wanted p.1 (codes "type")) (pairs_in p.1) (λ members. exact_two_wanted p.1 (codes "at") (codes "type"))

exact_symbol_is : (p : List ℕ × Data) → IsExact (f.symbol_is p)
exact_symbol_is p = exact_three _ _ _ WrongKind WrongKind WrongKind p.0 (codes "at") (codes "type")

exact_symbol_lies : (p : List ℕ × Data) → IsExact (f.symbol_lies p)
exact_symbol_lies p = exact_then _ _ (exact_ask _ OutOfLimit (codes "at")) (exact_ask _ OutOfLimit (codes "type"))

exact_symbol_list : (pairs : List (List ℕ × Data)) → IsExact (f.symbol_list pairs)
exact_symbol_list pairs =
    exact_then (each f.symbol_has pairs) (each f.symbol_is pairs ⨾ each f.symbol_lies pairs) (exact_each f.symbol_has pairs exact_symbol_has)
    (exact_then (each f.symbol_is pairs) (each f.symbol_lies pairs) (exact_each f.symbol_is pairs exact_symbol_is)
    (exact_each f.symbol_lies pairs exact_symbol_lies))

exact_symbols_in : (v : Data) → IsExact (f.symbols_in v)
exact_symbols_in v =
    exact_then (ask (is_object v) WrongKind (codes "symbols")) (of_any f.symbol_list (pairs_in v)) (exact_ask _ WrongKind (codes "symbols"))
    (exact_any f.symbol_list (pairs_in v) exact_symbol_list)

exact_behind : (earlier : List (List ℕ)) (pairs : List (List ℕ × Data)) → IsExact (f.symbols_behind earlier pairs)
exact_behind earlier [] = exact_passed
exact_behind earlier (p ∷ more) =
    exact_then (must (IsSymbol earlier p.0 (text_in p.1 (codes "at")) (text_in p.1 (codes "type"))) BadSymbol p.0)
    (f.symbols_behind (earlier ++ symbol_key p.0 ∷ []) more) (exact_must _ BadSymbol p.0) (exact_behind (earlier ++ symbol_key p.0 ∷ []) more)

exact_good : (d : Data) → IsExact (f.good_symbols d)
exact_good d = exact_any (f.symbols_behind []) (pairs_at d (codes "symbols")) (exact_behind [])

-- ---- the pattern

exact_text_where : (v : Data) (key : List ℕ) → IsExact (f.text_where v key)
exact_text_where v key = exact_any (λ e. ask (is_text e) WrongKind key) (get key v) (λ e. exact_ask (is_text e) WrongKind key)

exact_short_in : (v : Data) (key : List ℕ) → IsExact (f.is_short_in v key)
exact_short_in v key = exact_ask (is_short (text_in v key)) OutOfLimit key

exact_pattern_in : (v : Data) → IsExact (f.pattern_in v)
exact_pattern_in v =
    exact_then _ _ (exact_any (λ members. f.wanted v (codes "kind")) (pairs_in v) (λ members. exact_wanted v (codes "kind")))
    (exact_then _ _ (exact_ask (is_object v) WrongKind (codes "pattern"))
    (exact_then _ _ (exact_text v (codes "kind"))
    (exact_then _ _ (exact_each (f.text_where v) f.expression_names (exact_text_where v))
    (exact_then _ _ (exact_each (f.is_short_in v) (codes "kind" ∷ f.expression_names) (exact_short_in v))
    (exact_then _ _ (exact_ask (is_some (kind_named (text_in v (codes "kind")))) NoSuchPattern (codes "kind"))
    (exact_ask (f.has_count v (expressions_of (kind_named (text_in v (codes "kind"))))) CountOfExpressions (codes "pattern")))))))

exact_pattern : (d : Data) → IsExact (f.pattern d)
exact_pattern d =
    exact_then (f.wanted d (codes "pattern")) (of_any f.pattern_in (get (codes "pattern") d)) (exact_wanted d (codes "pattern"))
    (exact_any f.pattern_in (get (codes "pattern") d) exact_pattern_in)

-- ---- limits, reductions and the certificate

exact_limits : (d : Data) → IsExact (f.limits d)
exact_limits d =
    exact_then _ _ (exact_integer (codes "loopBound") (pos 1) (pos MAX_LOOP_BOUND) d)
    (exact_then _ _ (exact_integer (codes "depth") (pos 0) (pos MAX_DEPTH) d)
    (exact_then _ _ (exact_integer (codes "lemmas") (pos 1) (pos MAX_LEMMAS) d)
    (exact_integer (codes "regionWords") (pos MIN_REGION_WORDS) (pos MAX_REGION_WORDS) d)))

exact_reduction_list : (items : List Data) → IsExact (f.reduction_list items)
exact_reduction_list items =
    exact_then _ _ (exact_each f.reduction_is items (λ i. exact_ask (is_text i) WrongKind (codes "reduce")))
    (exact_then _ _ (exact_each f.reduction_lies items (λ i. exact_ask (f.is_reduction i) OutOfLimit (codes "reduce")))
    (exact_each (λ name. ask (f.is_once items name) OutOfLimit (codes "reduce")) f.reduction_names
    (λ name. exact_ask (f.is_once items name) OutOfLimit (codes "reduce"))))

exact_reduce_in : (v : Data) → IsExact (f.reduce_in v)
exact_reduce_in v =
    exact_then _ _ (exact_ask (is_list v) WrongKind (codes "reduce")) (exact_any f.reduction_list (items_in v) exact_reduction_list)

exact_certificate_in : (v : Data) → IsExact (f.certificate_in v)
exact_certificate_in v =
    exact_then _ _ (exact_ask (is_text v) WrongKind (codes "certificate"))
    (exact_ask (f.is_file (unwrap_or (as_str v) [])) OutOfLimit (codes "certificate"))

-- ---- members that no case has

among_none : (text : List ℕ) → is_among [] text ≡ true → ⊥
among_none text e = true≢false (sym e)

pass_next : (test : List ℕ → Bool) (y : List ℕ) (ys : List (List ℕ)) (x : List ℕ) (b t : Bool) → bytes_eq x y ≡ b → test y ≡ t
    → is_among (y ∷ ys) x ≡ true → list_all test (y ∷ ys) ≡ true → (is_among ys x ≡ true → list_all test ys ≡ true → test x ≡ true)
    → test x ≡ true
pass_next test y ys x true true same hit there all more = ap test ((bytes_eq-Decides x y).0 same) ∙ hit
pass_next test y ys x true false same off there all more = absurd (true≢false (sym all ∙ ap (λ (b : Bool). b && list_all test ys) off))
pass_next test y ys x false true other hit there all more =
    more (sym (ap (λ (b : Bool). b || is_among ys x) other) ∙ there) (sym (ap (λ (b : Bool). b && list_all test ys) hit) ∙ all)
pass_next test y ys x false false other off there all more = absurd (true≢false (sym all ∙ ap (λ (b : Bool). b && list_all test ys) off))

passes : (test : List ℕ → Bool) (xs : List (List ℕ)) (x : List ℕ) → is_among xs x ≡ true → list_all test xs ≡ true → test x ≡ true
passes test [] x there all = absurd (true≢false (sym there))
passes test (y ∷ ys) x there all = pass_next test y ys x (bytes_eq x y) (test y) refl refl there all (λ p q. passes test ys x p q)

tied : (o r : Ordering) → r ≡ ordering_reverse o → is_le o ≡ true → is_le r ≡ true → o ≡ Equal
tied Less r e a b = absurd (true≢false (sym b ∙ ap is_le e))
tied Equal r e a b = refl
tied Greater r e a b = absurd (true≢false (sym a))

least_one : (texts : List (List ℕ)) (x y : List ℕ) → IsLeast texts x → IsLeast texts y → x ≡ y
least_one texts x y a b =
    exact_bytes x y
    (tied (slice_cmp nat_cmp x y) (slice_cmp nat_cmp y x) (nat_list_cmp_total.antisymm y x)
    (passes (λ other. is_le (slice_cmp nat_cmp x other)) texts y b.there a.least)
    (passes (λ other. is_le (slice_cmp nat_cmp y other)) texts x a.there b.least))

exact_known : (d : Data) → IsExact (f.known d)
exact_known d = record {
  apart = λ kind field keeps breaks. among_none field (subst (λ (texts : List (List ℕ)). is_among texts field ≡ true) keeps breaks.1.there);
  one = λ kind other field name breaks also.
      (breaks.0 ∙ sym also.0, least_one (f.all_strays d) field name breaks.1 also.1);
}

-- ---- the whole case

exact_first : (d : Data) → IsExact (f.first_checks d)
exact_first d =
    exact_then (f.version d) (f.name d ⨾ f.sources d ⨾ f.entry d) (exact_integer (codes "version") (pos 1) (pos 1) d)
    (exact_then (f.name d) (f.sources d ⨾ f.entry d) (exact_name d) (exact_then (f.sources d) (f.entry d) (exact_sources d) (exact_entry d)))

exact_input : (d : Data) → IsExact (f.input_checks d)
exact_input d =
    exact_then (f.params d) (f.bind d ⨾ f.symbols d) (exact_any f.params_in (get (codes "params") d) exact_params_in)
    (exact_then (f.bind d) (f.symbols d) (exact_any f.bind_in (get (codes "bind") d) exact_bind_in)
    (exact_any f.symbols_in (get (codes "symbols") d) exact_symbols_in))

exact_last : (d : Data) → IsExact (f.last_checks d)
exact_last d =
    exact_then (f.pattern d) (f.limits d ⨾ f.reduce d ⨾ f.certificate d ⨾ f.known d) (exact_pattern d)
    (exact_then (f.limits d) (f.reduce d ⨾ f.certificate d ⨾ f.known d) (exact_limits d)
    (exact_then (f.reduce d) (f.certificate d ⨾ f.known d) (exact_any f.reduce_in (get (codes "reduce") d) exact_reduce_in)
    (exact_then (f.certificate d) (f.known d) (exact_any f.certificate_in (get (codes "certificate") d) exact_certificate_in) (exact_known d))))

pub exact_case : (d : Data) → IsExact (f.case_checks d)
exact_case d =
    exact_then (f.first_checks d) (f.input_checks d ⨾ f.good_symbols d ⨾ f.last_checks d) (exact_first d)
    (exact_then (f.input_checks d) (f.good_symbols d ⨾ f.last_checks d) (exact_input d)
    (exact_then (f.good_symbols d) (f.last_checks d) (exact_good d) (exact_last d)))
