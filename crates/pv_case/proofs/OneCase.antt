-- Bytes are of one case at most.
use Rattle.std.proofs.Common.{Bool, ◌≡◌, ℕ, pos, List, [], ◌∷◌, Some, unwrap_or, refl, sym, ap, ◌∙◌, subst}
use Rattle.std.specs.Prelude.{codes}
use Rattle.pv_word.specs.declared.types.Ty.{Ty}
use Rattle.pv_place.specs.declared.place.Place.{Place}
use Rattle.pv_types.specs.declared.name.Name.{Name}
use Rattle.pv_tree.specs.declared.expr.Root.{Root}
use Rattle.pv_tree.specs.declared.expr.Root.TheVariants as root
use Rattle.pv_tree.specs.Tree.{OperandTree, operand, no_steps}
use Rattle.serde_json.specs.Data.{Data}
use Rattle.pv_case.specs.declared.case.Limits.{Limits}
use Rattle.pv_case.specs.declared.case.PatternKind.{PatternKind}
use Rattle.pv_case.specs.declared.fault.Kind.{Kind}
use Rattle.pv_case.specs.Members.{pairs_at, text_in}
use Rattle.pv_case.specs.Patterns.{kind_named}
use Rattle.pv_case.specs.Symbols.{ReadsAs, type_of_width}
use Rattle.pv_case.specs.Fields.{case_checks}
use Rattle.pv_case.specs.Cases.{CaseData, SymbolData, IsNamed, IsSymbolOf, AreSymbols, expressions_in, IsPatternOf, HasLimits, Says, IsObjectText, IsCaseText, BreaksFirst}
use Rattle.pv_case.proofs.AddressLaws.{one_address}
use Rattle.pv_case.proofs.ExactLaws.{exact_case}

some_data : (x y : Data) → Some x ≡ Some y → x ≡ y
some_data x y e = cc

some_type : (x y : Ty) → Some x ≡ Some y → x ≡ y
some_type x y e = cc

some_kind : (x y : PatternKind) → Some x ≡ Some y → x ≡ y
some_kind x y e = cc

same_pos : (m n : ℕ) → pos m ≡ pos n → m ≡ n
same_pos m n e = cc

-- ---- symbols

-- what two readings of a symbol's texts share
record Agree (one other : OperandTree) (ty too : Ty) : Type 0 where
  at : one ≡ other
  of : ty ≡ too

one_reading : (at ty_text : List ℕ) (x y : OperandTree) (s t : Ty) → ReadsAs at ty_text x s → ReadsAs at ty_text y t → Agree x y s t
one_reading at ty_text x y s t a b =
    let one = one_address at a.area b.area a.bits a.byte a.bit b.bits b.byte b.bit a.place b.place a.address b.address in
    record {
      at = a.is ∙ ap (λ (r : Root). operand r no_steps a.place) one.root
          ∙ ap (λ (p : Place). operand (root.Area b.area b.bits b.byte b.bit) no_steps p) one.place ∙ sym b.is;
      of = some_type s t (sym a.of_type ∙ ap (λ (n : ℕ). type_of_width n ty_text) one.bits ∙ b.of_type);
    }

one_name : (text : List ℕ) (x y : Name) → IsNamed text x → IsNamed text y → x ≡ y
one_name text x y a b =
    ap (λ (k : List ℕ). record { key = k; spelled = x.spelled; paired = x.paired }) (a.0 ∙ sym b.0)
    ∙ ap (λ (k : List ℕ). record { key = y.key; spelled = k; paired = x.paired }) (a.1 ∙ sym b.1)
    ∙ ap (λ (p : Bool). record { key = y.key; spelled = y.spelled; paired = p }) (a.2 ∙ sym b.2)

one_symbol : (p : List ℕ × Data) (x y : SymbolData) → IsSymbolOf p x → IsSymbolOf p y → x ≡ y
one_symbol p x y a b =
    let readings = one_reading _ _ x.at y.at x.ty y.ty a.reads b.reads in
    ap (λ (n : Name). record { name = n; at = x.at; ty = x.ty }) (one_name p.0 x.name y.name a.name b.name)
    ∙ ap (λ (o : OperandTree). record { name = y.name; at = o; ty = x.ty }) readings.at
    ∙ ap (λ (t : Ty). record { name = y.name; at = y.at; ty = t }) readings.of

one_symbols : (pairs : List (List ℕ × Data)) (xs ys : List SymbolData) → AreSymbols pairs xs → AreSymbols pairs ys → xs ≡ ys
one_symbols [] [] [] a b = refl
one_symbols [] [] (y ∷ ys) a b = absurd b
one_symbols [] (x ∷ xs) ys a b = absurd a
one_symbols (p ∷ pairs) [] ys a b = absurd a
one_symbols (p ∷ pairs) (x ∷ xs) [] a b = absurd b
one_symbols (p ∷ pairs) (x ∷ xs) (y ∷ ys) a b =
    ap (λ (l : List SymbolData). x ∷ l) (one_symbols pairs xs ys a.1 b.1)
    ∙ ap (λ (z : SymbolData). z ∷ ys) (one_symbol p x y a.0 b.0)

-- ---- limits and the pattern

one_limits : (d : Data) (x y : Limits) → HasLimits d x → HasLimits d y → x ≡ y
one_limits d x y a b =
    ap (λ v. record { loop_bound = v; depth = x.depth; lemmas = x.lemmas; region_words = x.region_words })
    (same_pos x.loop_bound y.loop_bound (a.loop_bound ∙ sym b.loop_bound))
    ∙ ap (λ v. record { loop_bound = y.loop_bound; depth = v; lemmas = x.lemmas; region_words = x.region_words })
    (same_pos x.depth y.depth (a.depth ∙ sym b.depth))
    ∙ ap (λ v. record { loop_bound = y.loop_bound; depth = y.depth; lemmas = v; region_words = x.region_words })
    (same_pos x.lemmas y.lemmas (a.lemmas ∙ sym b.lemmas))
    ∙ ap (λ v. record { loop_bound = y.loop_bound; depth = y.depth; lemmas = y.lemmas; region_words = v })
    (same_pos x.region_words y.region_words (a.region_words ∙ sym b.region_words))

-- a pattern's value, of this kind and with these expressions
record Found (v : Data) (kind : PatternKind) (expressions : List (List ℕ)) : Type 0 where
  of_kind : kind_named (text_in v (codes "kind")) ≡ Some kind
  are : expressions ≡ expressions_in v

record OnePattern (kind other : PatternKind) (texts also : List (List ℕ)) : Type 0 where
  kinds : kind ≡ other
  expressions : texts ≡ also

one_pattern : (d : Data) (k l : PatternKind) (xs ys : List (List ℕ)) → IsPatternOf d k xs → IsPatternOf d l ys → OnePattern k l xs ys
one_pattern d k l xs ys a b =
    let values : a.value ≡ b.value = some_data a.value b.value (sym a.there ∙ b.there) in
    let P : Data → Type 0 = λ v. Found v k xs in
    let moved = subst P values (record { of_kind = a.of_kind; are = a.are }) in
    record { kinds = some_kind k l (sym moved.of_kind ∙ b.of_kind); expressions = moved.are ∙ sym b.are }

-- ---- cases

same_case : (x y : CaseData) → x.name ≡ y.name → x.sources ≡ y.sources → x.entry ≡ y.entry → x.params ≡ y.params → x.bind ≡ y.bind
    → x.symbols ≡ y.symbols → x.kind ≡ y.kind → x.expressions ≡ y.expressions → x.limits ≡ y.limits → x.reductions ≡ y.reductions
    → x.certificate ≡ y.certificate → x ≡ y
same_case x y a b c d e g h i j k l =
    ap (λ v. record x { name = v }) a
    ∙ ap (λ v. record x { name = y.name; sources = v }) b
    ∙ ap (λ v. record x { name = y.name; sources = y.sources; entry = v }) c
    ∙ ap (λ v. record x { name = y.name; sources = y.sources; entry = y.entry; params = v }) d
    ∙ ap (λ v. record x { name = y.name; sources = y.sources; entry = y.entry; params = y.params; bind = v }) e
    ∙ ap (λ v. record x { name = y.name; sources = y.sources; entry = y.entry; params = y.params; bind = y.bind; symbols = v }) g
    ∙ ap (λ v. record y { kind = v; expressions = x.expressions; limits = x.limits; reductions = x.reductions; certificate = x.certificate }) h
    ∙ ap (λ v. record y { expressions = v; limits = x.limits; reductions = x.reductions; certificate = x.certificate }) i
    ∙ ap (λ v. record y { limits = v; reductions = x.reductions; certificate = x.certificate }) j
    ∙ ap (λ v. record y { reductions = v; certificate = x.certificate }) k
    ∙ ap (λ v. record y { certificate = v }) l

one_saying : (d : Data) (x y : CaseData) → Says d x → Says d y → x ≡ y
one_saying d x y a b =
    let patterns = one_pattern d x.kind y.kind x.expressions y.expressions a.pattern b.pattern in
    same_case x y (a.name ∙ sym b.name) (a.sources ∙ sym b.sources) (a.entry ∙ sym b.entry) (a.params ∙ sym b.params) (a.bind ∙ sym b.bind)
    (one_symbols (unwrap_or (pairs_at d (codes "symbols")) []) x.symbols y.symbols a.symbols b.symbols) patterns.kinds patterns.expressions
    (one_limits d x.limits y.limits a.limits b.limits) (a.reductions ∙ sym b.reductions) (a.certificate ∙ sym b.certificate)

-- ---- bytes

one_value : (bytes : List ℕ) (x y : Data) → IsObjectText bytes x → IsObjectText bytes y → x ≡ y
one_value bytes x y a b = some_data x y (sym a.reads ∙ b.reads)

pub one_case : (bytes : List ℕ) (x y : CaseData) → IsCaseText bytes x → IsCaseText bytes y → x ≡ y
one_case bytes x y a b =
    let values : a.value ≡ b.value = one_value bytes a.value b.value a.text b.text in
    let P : Data → Type 0 = λ d. Says d x in
    one_saying b.value x y (subst P values a.says) b.says

pub one_breach : (bytes : List ℕ) (kind other : Kind) (field name : List ℕ) → BreaksFirst bytes kind field → BreaksFirst bytes other name
    → (kind ≡ other) × (field ≡ name)
one_breach bytes kind other field name a b =
    let values : a.value ≡ b.value = one_value bytes a.value b.value a.text b.text in
    let P : Data → Type 0 = λ d. (case_checks d).breaks kind field in
    (exact_case b.value).one kind other field name (subst P values a.breaks) b.breaks

pub case_unbroken : (bytes : List ℕ) (x : CaseData) (kind : Kind) (field : List ℕ) → IsCaseText bytes x → BreaksFirst bytes kind field → ⊥
case_unbroken bytes x kind field a b =
    let values : a.value ≡ b.value = one_value bytes a.value b.value a.text b.text in
    let P : Data → Type 0 = λ d. (case_checks d).keeps in
    (exact_case b.value).apart kind field (subst P values a.keeps) b.breaks
