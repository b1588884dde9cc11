-- Leaves have different paths where no name is declared twice at one level.
--
-- Each leaf's path is its variable's path followed by a tail that is empty or begins with a dot or a bracket. Words hold
-- neither, so the paths of two variables at one level part within their names; those of two elements part within their indexes.
use Rattle.std.specs.Prelude.{
  ◌≡◌,
  ⊤,
  ℕ,
  zero,
  suc,
  ℤ,
  pos,
  negsuc,
  ◌+ℤ◌,
  ◌-ℤ◌,
  ◌≤ℤ◌,
  ◌<ℤ◌,
  List,
  [],
  ◌∷◌,
  ◌++◌,
  Option,
  Some,
  None,
  true,
  false,
  cond,
  length,
  unwrap_or,
  bytes_eq,
  refl,
}
use Rattle.std.specs.Str.{str_to_ascii_lowercase}
use Rattle.std.specs.Char.{to_ascii_lowercase}
use Rattle.std.specs.List.{AllByRecursion}
use Rattle.std.specs.Fmt.{signed_decimal}
use Rattle.std.proofs.Common.{ap, subst, sym, ◌∙◌, append_assoc, inl, inr, arith}
use Rattle.std.proofs.lemmas.List.{append_cancel_left, append-nil, length-append, map-append}
use Rattle.std.proofs.lemmas.Int.{ints}
use Rattle.pv_types.specs.declared.name.Name.{Name}
use Rattle.pv_types.specs.declared.declaration.Section.{Section}
use Rattle.pv_types.specs.declared.leaf.Leaf.{Leaf}
use Rattle.pv_types.specs.Tree.{TypeTree, plain, array, structure, named, unread, VarTree, var, VarTrees, no_vars, _then_}
use Rattle.pv_types.specs.View.{listed}
use Rattle.pv_types.specs.Named.{NamedType, look_up}
use Rattle.pv_types.specs.Leaves.{
  Around,
  block,
  instance,
  fields,
  section_within,
  field_path,
  element_path,
  start_value,
  count_of,
  count_between,
  leaves_where,
  leaves_of_elements,
  leaves_of_type,
  leaves_of_vars,
  leaves_of_named,
  leaves_beneath,
}
use Rattle.pv_types.specs.Paths.{
  PathsDiffer,
  AllPathsDiffer,
  IsStop,
  IsWord,
  IsShort,
  IsNew,
  NamesDiffer,
  NamesDifferIn,
  NamesDifferInTypes,
}
use Rattle.pv_types.proofs.Indexes.{index_kept, index_open, index_tells, short_between}

-- ---- lists of leaves

all_to : (P Q : Leaf → Type 0) → ((l : Leaf) → P l → Q l) → (ls : List Leaf) → AllByRecursion P ls → AllByRecursion Q ls
all_to P Q to [] all = tt
all_to P Q to (l ∷ ls) all = (to l all.0, all_to P Q to ls all.1)

all_append : (P : Leaf → Type 0) (xs ys : List Leaf) → AllByRecursion P xs → AllByRecursion P ys → AllByRecursion P (xs ++ ys)
all_append P [] ys a b = b
all_append P (x ∷ xs) ys a b = (a.0, all_append P xs ys a.1 b)

all_where : (P : Leaf → Type 0) (o : Option Section) (leaves : Section → List Leaf) → ((s : Section) → AllByRecursion P (leaves s))
    → AllByRecursion P (leaves_where o leaves)
all_where P None leaves each = tt
all_where P (Some s) leaves each = each s

differ_where : (o : Option Section) (leaves : Section → List Leaf) → ((s : Section) → AllPathsDiffer (leaves s))
    → AllPathsDiffer (leaves_where o leaves)
differ_where None leaves each = tt
differ_where (Some s) leaves each = each s

differ_append : (P Q : Leaf → Type 0) → ((a b : Leaf) → P a → Q b → PathsDiffer a b) → (xs ys : List Leaf)
    → AllByRecursion P xs → AllByRecursion Q ys → AllPathsDiffer xs → AllPathsDiffer ys → AllPathsDiffer (xs ++ ys)
differ_append P Q apart [] ys p q dx dy = dy
differ_append P Q apart (x ∷ xs) ys p q dx dy = (
  all_append (PathsDiffer x) xs ys dx.0 (all_to Q (PathsDiffer x) (λ b. apart x b p.0) ys q),
  differ_append P Q apart xs ys p.1 q dx.1
      dy,
)

-- ---- where names and indexes end

-- a list begins with such a byte, or is empty
abbrev Begins : (ℕ → Type 0) → List ℕ → Type 0
Begins P [] = ⊤
Begins P (c ∷ cs) = P c

abbrev head_or : List ℕ → ℕ
head_or [] = 0
head_or (c ∷ cs) = c

abbrev tail_or : List ℕ → List ℕ
tail_or [] = []
tail_or (c ∷ cs) = cs

ends_alike : (P : ℕ → Type 0) (a b t u : List ℕ) → AllByRecursion (λ c. P c → ⊥) a → AllByRecursion (λ c. P c → ⊥) b → Begins P t
    → Begins P u
    → a ++ t ≡ b ++ u → a ≡ b
ends_alike P [] [] t u na nb bt bu e = refl
ends_alike P [] (d ∷ b) t u na nb bt bu e = absurd (nb.0 (subst (Begins P) e bt))
ends_alike P (c ∷ a) [] t u na nb bt bu e = absurd (na.0 (subst (Begins P) (sym e) bu))
ends_alike P (c ∷ a) (d ∷ b) t u na nb bt bu e =
    ap (λ h. h ∷ a) (ap head_or e) ∙ ap (λ l. d ∷ l) (ends_alike P a b t u na.1 nb.1 bt bu (ap tail_or e))

-- ---- leaves beneath a path

record Beneath (path : List ℕ) (leaf : Leaf) : Type 0 where
  tail : List ℕ
  is : leaf.path ≡ path ++ tail
  stops : Begins IsStop tail

here : (path : List ℕ) (leaf : Leaf) → leaf.path ≡ path → Beneath path leaf
here path leaf is = record { tail = []; is = is ∙ sym (append-nil path); stops = tt }

through : (path : List ℕ) (c : ℕ) (cs : List ℕ) → IsStop c → (leaf : Leaf) → Beneath (path ++ c ∷ cs) leaf → Beneath path leaf
through path c cs stop leaf b = record { tail = c ∷ (cs ++ b.tail); is = b.is ∙ append_assoc path (c ∷ cs) b.tail; stops = stop }

through_element : (path : List ℕ) (i : ℤ) (leaf : Leaf) → Beneath (element_path path i) leaf → Beneath path leaf
through_element path i = through path 91 (signed_decimal i ++ 93 ∷ []) (inr refl)

through_field : (path : List ℕ) → (path ≡ [] → ⊥) → (name : Name) (leaf : Leaf) → Beneath (field_path path name) leaf → Beneath path leaf
through_field [] some name = absurd (some refl)
through_field (c ∷ path) some name = through (c ∷ path) 46 name.spelled (inl refl)

longer_some : (path : List ℕ) (c : ℕ) (cs : List ℕ) → path ++ c ∷ cs ≡ [] → ⊥
longer_some path c cs e = omega (arith, ap length e, length-append path (c ∷ cs))

field_some : (path : List ℕ) (name : Name) → IsWord name → field_path path name ≡ [] → ⊥
field_some [] name word e = word.some (sym word.spelled ∙ ap str_to_ascii_lowercase e)
field_some (c ∷ path) name word e = longer_some (c ∷ path) 46 name.spelled e

longer_field : (path : List ℕ) → (path ≡ [] → ⊥) → (name : Name) → field_path path name ≡ [] → ⊥
longer_field [] some name e = some refl
longer_field (c ∷ path) some name e = longer_some (c ∷ path) 46 name.spelled e

lower_begins : (t : List ℕ) → Begins IsStop t → Begins IsStop (str_to_ascii_lowercase t)
lower_begins [] stop = tt
lower_begins (c ∷ cs) (inl is) = inl (ap to_ascii_lowercase is)
lower_begins (c ∷ cs) (inr is) = inr (ap to_ascii_lowercase is)

-- ---- two variables, two elements

-- what stands before a name beneath a path, in lower case
abbrev front : List ℕ → List ℕ
front [] = []
front (c ∷ path) = str_to_ascii_lowercase (c ∷ path) ++ 46 ∷ []

word_lower : (name : Name) (t : List ℕ) → IsWord name → str_to_ascii_lowercase (name.spelled ++ t) ≡ name.key ++ str_to_ascii_lowercase t
word_lower name t word = map-append to_ascii_lowercase name.spelled t ∙ ap (λ k. k ++ str_to_ascii_lowercase t) word.spelled

field_lower : (path : List ℕ) (name : Name) (t : List ℕ) → IsWord name
    → str_to_ascii_lowercase (field_path path name ++ t) ≡ front path ++ (name.key ++ str_to_ascii_lowercase t)
field_lower [] name t word = word_lower name t word
field_lower (c ∷ path) name t word =
    ap str_to_ascii_lowercase (append_assoc (c ∷ path) (46 ∷ name.spelled) t)
    ∙ map-append to_ascii_lowercase (c ∷ path) (46 ∷ (name.spelled ++ t))
    ∙ ap (λ l. str_to_ascii_lowercase (c ∷ path) ++ 46 ∷ l) (word_lower name t word)
    ∙ sym (append_assoc (str_to_ascii_lowercase (c ∷ path)) (46 ∷ []) (name.key ++ str_to_ascii_lowercase t))

fields_apart : (path : List ℕ) (x y : Name) → IsWord x → IsWord y → (x.key ≡ y.key → ⊥) → (a b : Leaf)
    → Beneath (field_path path x) a → Beneath (field_path path y) b → PathsDiffer a b
fields_apart path x y wx wy other a b p q = λ same.
    let e = sym (field_lower path x p.tail wx) ∙ ap str_to_ascii_lowercase (sym p.is) ∙ same ∙ ap str_to_ascii_lowercase q.is
    ∙ field_lower path y q.tail wy in
    other (ends_alike IsStop x.key y.key _ _ wx.plain wy.plain (lower_begins p.tail p.stops) (lower_begins q.tail q.stops)
    (append_cancel_left (front path) _ _ e))

element_lower : (path : List ℕ) (i : ℤ) (t : List ℕ) → IsShort i
    → str_to_ascii_lowercase (element_path path i ++ t) ≡ str_to_ascii_lowercase path
    ++ 91 ∷ (signed_decimal i ++ 93 ∷ str_to_ascii_lowercase t)
element_lower path i t short =
    ap str_to_ascii_lowercase (append_assoc path (91 ∷ (signed_decimal i ++ 93 ∷ [])) t
    ∙ ap (λ l. path ++ 91 ∷ l) (append_assoc (signed_decimal i) (93 ∷ []) t))
    ∙ map-append to_ascii_lowercase path (91 ∷ (signed_decimal i ++ 93 ∷ t))
    ∙ ap (λ l. str_to_ascii_lowercase path ++ 91 ∷ l)
    (map-append to_ascii_lowercase (signed_decimal i) (93 ∷ t) ∙ ap (λ l. l ++ 93 ∷ str_to_ascii_lowercase t) (index_kept i short))

elements_apart : (path : List ℕ) (i j : ℤ) → IsShort i → IsShort j → (i ≡ j → ⊥) → (a b : Leaf)
    → Beneath (element_path path i) a → Beneath (element_path path j) b → PathsDiffer a b
elements_apart path i j si sj other a b p q = λ same.
    let e = sym (element_lower path i p.tail si) ∙ ap str_to_ascii_lowercase (sym p.is) ∙ same ∙ ap str_to_ascii_lowercase q.is
    ∙ element_lower path j q.tail sj in
    other (index_tells i j si sj (ends_alike (λ c. c ≡ 93) (signed_decimal i) (signed_decimal j) (93 ∷ str_to_ascii_lowercase p.tail)
    (93 ∷ str_to_ascii_lowercase q.tail)
    (index_open i si) (index_open j sj) refl refl (ap tail_or (append_cancel_left (str_to_ascii_lowercase path) _ _ e))))

-- a leaf of an element from this index on
record AtIndex (path : List ℕ) (from : ℤ) (leaf : Leaf) : Type 0 where
  index : ℤ
  le : from ≤ℤ index
  short : IsShort index
  beneath : Beneath (element_path path index) leaf

-- a leaf of a variable that has another key
record AtOther (path key : List ℕ) (leaf : Leaf) : Type 0 where
  name : Name
  word : IsWord name
  other : key ≡ name.key → ⊥
  beneath : Beneath (field_path path name) leaf

abbrev AllShort : ℤ → ℕ → Type 0
AllShort from count = (i : ℤ) → from ≤ℤ i → i <ℤ (from +ℤ pos count) → IsShort i

module _ (element : ℤ → List Leaf) (path : List ℕ) (beneath : (i : ℤ) → AllByRecursion (Beneath (element_path path i)) (element i)) where
  elements_at : (from : ℤ) (count : ℕ) → AllShort from count → AllByRecursion (AtIndex path from) (leaves_of_elements element from count)
  elements_at from zero short = tt
  elements_at from (suc count) short =
      all_append (AtIndex path from) (element from) (leaves_of_elements element (from +ℤ pos 1) count)
      (all_to (Beneath (element_path path from)) (AtIndex path from)
      (λ l b. record {
        index = from;
        le = omega (arith, ints);
        short = short from (omega (arith, ints)) (omega (arith, ints));
        beneath = b;
      }) (element from) (beneath from))
      (all_to (AtIndex path (from +ℤ pos 1)) (AtIndex path from)
      (λ l a. record { index = a.index; le = let more = a.le in omega (arith, ints, more); short = a.short; beneath = a.beneath }) _
      (elements_at (from +ℤ pos 1) count (λ i ge lt. short i (omega (arith, ints, ge)) (omega (arith, ints, lt)))))

  elements_differ : ((i : ℤ) → AllPathsDiffer (element i)) → (from : ℤ) (count : ℕ) → AllShort from count
      → AllPathsDiffer (leaves_of_elements element from count)
  elements_differ each from zero short = tt
  elements_differ each from (suc count) short =
      let rest_short : AllShort (from +ℤ pos 1) count = λ i ge lt. short i (omega (arith, ints, ge)) (omega (arith, ints, lt)) in
      differ_append (Beneath (element_path path from)) (AtIndex path (from +ℤ pos 1))
      (λ a b p q. elements_apart path from q.index (short from (omega (arith, ints)) (omega (arith, ints))) q.short
      (λ is. let le = q.le in omega (arith, ints, le, is)) a b p q.beneath)
      (element from) (leaves_of_elements element (from +ℤ pos 1) count) (beneath from) (elements_at (from +ℤ pos 1) count rest_short)
      (each from) (elements_differ each (from +ℤ pos 1) count rest_short)

count_below : (z i low : ℤ) → low ≤ℤ i → i <ℤ (low +ℤ pos (count_of z)) → i <ℤ (low +ℤ z)
count_below (pos n) i low ge lt = lt
count_below (negsuc n) i low ge lt = absurd (omega (arith, ints, ge, lt))

all_short : (low high : ℤ) → IsShort low → IsShort high → AllShort low (count_between low high)
all_short low high p q = λ i ge lt.
    let below = count_below ((high +ℤ pos 1) -ℤ low) i low ge lt in
    short_between low i high p q ge (omega (arith, ints, below))

-- ---- declarations

elements_beneath : (path : List ℕ) (element : ℤ → List Leaf) → ((i : ℤ) → AllByRecursion (Beneath path) (element i)) → (i : ℤ) (count : ℕ)
    → AllByRecursion (Beneath path) (leaves_of_elements element i count)
elements_beneath path element each i zero = tt
elements_beneath path element each i (suc count) =
    all_append (Beneath path) (element i) _ (each i) (elements_beneath path element each (i +ℤ pos 1) count)

module _ (expand : List ℕ → List ℕ → Section → List Leaf)
    (named_beneath : (key path : List ℕ) → (path ≡ [] → ⊥) → (s : Section) → AllByRecursion (Beneath path) (expand key path s)) where
  mutual
    type_beneath : (path : List ℕ) → (path ≡ [] → ⊥) → (start : ℤ) (s : Section) (t : TypeTree)
        → AllByRecursion (Beneath path) (leaves_of_type expand path start s t)
    type_beneath path some start s (plain ty) = (here path _ refl, tt)
    type_beneath path some start s (array low high of place) =
        elements_beneath path _ (λ i. all_to (Beneath (element_path path i)) (Beneath path) (through_element path i) _
        (type_beneath (element_path path i) (longer_some path 91 _) (pos 0) s of)) low (count_between low high)
    type_beneath path some start s (structure vars) = vars_beneath (fields s) path some vars
    type_beneath path some start s (named name place) = named_beneath name.key path some s
    type_beneath path some start s unread = tt

    vars_beneath : (around : Around) (path : List ℕ) → (path ≡ [] → ⊥) → (vars : VarTrees)
        → AllByRecursion (Beneath path) (leaves_of_vars expand around path vars)
    vars_beneath around path some no_vars = tt
    vars_beneath around path some (_then_ (var name section ty start place) xs) =
        all_append (Beneath path) (leaves_where (section_within around section)
        (λ s. leaves_of_type expand (field_path path name) (start_value start) s ty)) _
        (all_where (Beneath path) (section_within around section) _
        (λ s. all_to (Beneath (field_path path name)) (Beneath path) (through_field path some name) _
        (type_beneath (field_path path name) (longer_field path some name) (start_value start) s ty)))
        (vars_beneath around path some xs)

  others_at : (around : Around) (path key : List ℕ) (vars : VarTrees) → NamesDifferIn vars → IsNew key vars
      → AllByRecursion (AtOther path key) (leaves_of_vars expand around path vars)
  others_at around path key no_vars words new = tt
  others_at around path key (_then_ (var name section ty start place) xs) words new =
      all_append (AtOther path key) (leaves_where (section_within around section)
      (λ s. leaves_of_type expand (field_path path name) (start_value start) s ty)) _
      (all_where (AtOther path key) (section_within around section) _ (λ s. all_to (Beneath (field_path path name)) (AtOther path key)
      (λ l b. record { name = name; word = words.0; other = new.0; beneath = b }) _
      (type_beneath (field_path path name) (field_some path name words.0) (start_value start) s ty)))
      (others_at around path key xs words.3 new.1)

  module _ (named_differ : (key path : List ℕ) → (path ≡ [] → ⊥) → (s : Section) → AllPathsDiffer (expand key path s)) where
    mutual
      type_differs : (path : List ℕ) → (path ≡ [] → ⊥) → (start : ℤ) (s : Section) (t : TypeTree) → NamesDiffer t
          → AllPathsDiffer (leaves_of_type expand path start s t)
      type_differs path some start s (plain ty) words = (tt, tt)
      type_differs path some start s (array low high of place) words =
          elements_differ _ path (λ i. type_beneath (element_path path i) (longer_some path 91 _) (pos 0) s of)
          (λ i. type_differs (element_path path i) (longer_some path 91 _) (pos 0) s of words.2) low (count_between low high)
          (all_short low high words.0 words.1)
      type_differs path some start s (structure vars) words = vars_differ (fields s) path vars words
      type_differs path some start s (named name place) words = named_differ name.key path some s
      type_differs path some start s unread words = tt

      vars_differ : (around : Around) (path : List ℕ) (vars : VarTrees) → NamesDifferIn vars
          → AllPathsDiffer (leaves_of_vars expand around path vars)
      vars_differ around path no_vars words = tt
      vars_differ around path (_then_ (var name section ty start place) xs) words =
          let some = field_some path name words.0 in
          differ_append (Beneath (field_path path name)) (AtOther path name.key)
          (λ a b p q. fields_apart path name q.name words.0 q.word q.other a b p q.beneath)
          (leaves_where (section_within around section) (λ s. leaves_of_type expand (field_path path name) (start_value start) s ty))
          (leaves_of_vars expand around path xs)
          (all_where (Beneath (field_path path name)) (section_within around section) _
          (λ s. type_beneath (field_path path name) some (start_value start) s ty))
          (others_at around path name.key xs words.3 words.1)
          (differ_where (section_within around section) _ (λ s. type_differs (field_path path name) some (start_value start) s ty words.2))
          (vars_differ around path xs words.3)

-- ---- named types

found_words : (types : List NamedType) (key : List ℕ) → NamesDifferInTypes types → NamesDifferIn (listed (unwrap_or (look_up types key) []))
found_words [] key words = tt
found_words (t ∷ ts) key words =
    elim (bytes_eq key t.key) as (λ b. NamesDifferIn (listed (unwrap_or (cond b (Some t.vars) (look_up ts key)) [])))
    [ true ↦ words.0 | false ↦ found_words ts key words.1 ]

named_lies : (types : List NamedType) (n : ℕ) (key path : List ℕ) → (path ≡ [] → ⊥) → (s : Section)
    → AllByRecursion (Beneath path) (leaves_of_named types n key path s)
named_lies types zero key path some s = tt
named_lies types (suc n) key path some s =
    vars_beneath (leaves_of_named types n) (named_lies types n) (instance s) path some (listed (unwrap_or (look_up types key) []))

named_differs : (types : List NamedType) → NamesDifferInTypes types → (n : ℕ) (key path : List ℕ) → (path ≡ [] → ⊥) → (s : Section)
    → AllPathsDiffer (leaves_of_named types n key path s)
named_differs types words zero key path some s = tt
named_differs types words (suc n) key path some s =
    vars_differ (leaves_of_named types n) (named_lies types n) (named_differs types words n) (instance s) path
    (listed (unwrap_or (look_up types key) []))
    (found_words types key words)

pub paths_differ : (path : List ℕ) (types : List NamedType) (vars : List VarTree) → NamesDifferInTypes types → NamesDifferIn (listed vars)
    → AllPathsDiffer (leaves_beneath path types vars)
paths_differ path types vars named_words words =
    vars_differ (leaves_of_named types (length types)) (named_lies types (length types)) (named_differs types named_words (length types))
    block path (listed vars) words
