-- From kinds to tokens: what a sentence is made of has kinds of the language, each of which some token has; so what is known
-- of sentences is known of texts.
use Rattle.std.proofs.Common.{suc, drop, length, arith, ◌≡◌, ℕ, ◌+◌, ◌<◌, ◌≤◌, List, [], ◌∷◌, ◌++◌, All, take, map, refl, ap, ◌∙◌, sym, subst}
use Rattle.std.specs.List.{AllZip}
use Rattle.std.proofs.lemmas.List.{map-append, take-append-drop, take-append-le, take_all, length-take-le}
use Rattle.std.proofs.lemmas.List.Elements.{All-nil, All-cons, All-head, All-tail, All-append}
use Rattle.pv_ll.specs.declared.table.Symbol.{Symbol}
use Rattle.pv_ll.specs.declared.table.Language.{Language}
use Rattle.pv_ll.specs.Grammar.{Derives, IsSentence, IsFault}
use Rattle.pv_ll.specs.Grammar.Derives.{nothing, token, name}
use Rattle.pv_ll.specs.Table.{grammar_of}
use Rattle.pv_ll.specs.Facts.{IsLL1, IsWithin}
use Rattle.pv_ll.specs.Texts.{OfKinds, Kinding, Served, side_by_side, IsFaultAmong}
use Rattle.pv_ll.proofs.Steps.{served}

-- the kinds that symbols of the language derive are the language's
pub kinds_below : {l : Language} → IsLL1 l → {ss : List Symbol} {w : List ℕ} → Derives (grammar_of l) ss w → IsWithin l.kinds ss
    → All (λ (t : ℕ). t < l.kinds) w
kinds_below {l} fits nothing h = All-nil (λ (t : ℕ). t < l.kinds)
kinds_below {l} fits (token {t = t} {w = w} d) h = All-cons (λ (x : ℕ). x < l.kinds) t w h.0 (kinds_below fits d h.1)
kinds_below {l} fits (name {n = n} {body = body} {u = u} {v = v} k p d e w) h =
    subst (λ (z : List ℕ). All (λ (t : ℕ). t < l.kinds) z) (sym w)
    (All-append (λ (t : ℕ). t < l.kinds) u v (kinds_below fits d (served fits p).within) (kinds_below fits e h))

-- tokens of these kinds
pub witnesses : {T : Type 0} (kind : T → ℕ) (kinds : ℕ) → ((k : ℕ) → k < kinds → (t : T) × (kind t ≡ k)) → (w : List ℕ)
    → All (λ (t : ℕ). t < kinds) w → OfKinds T kind w
witnesses kind kinds has [] h = record { tokens = []; are = refl }
witnesses {T} kind kinds has (k ∷ w) h =
    let t = has k (All-head (λ (t : ℕ). t < kinds) k w h) in
    let x : OfKinds T kind w = witnesses kind kinds has w (All-tail (λ (t : ℕ). t < kinds) k w h) in
    record { tokens = t.0 ∷ x.tokens; are = ap (λ z. z ∷ map kind x.tokens) t.1 ∙ ap (λ z. k ∷ z) x.are }

all_behind : {X : Type 0} (P : X → Type 0) (xs ys : List X) → All P (xs ++ ys) → All P ys
all_behind P [] ys h = h
all_behind P (x ∷ xs) ys h = all_behind P xs ys (All-tail P x (xs ++ ys) h)

-- ---- tokens and kinds, side by side

length_zip : {A B : Type 0} (R : A → B → Type 0) (xs : List A) (ys : List B) → AllZip R xs ys → length xs ≡ length ys
length_zip R [] [] h = refl
length_zip R [] (y ∷ ys) h = absurd h
length_zip R (x ∷ xs) [] h = absurd h
length_zip R (x ∷ xs) (y ∷ ys) h = ap (λ (n : ℕ). suc n) (length_zip R xs ys h.1)

zip_append : {A B : Type 0} (R : A → B → Type 0) (xs : List A) (ys : List B) (us : List A) (vs : List B) → AllZip R xs ys → AllZip R us vs
    → AllZip R (xs ++ us) (ys ++ vs)
zip_append R [] [] us vs h i = i
zip_append R [] (y ∷ ys) us vs h i = absurd h
zip_append R (x ∷ xs) [] us vs h i = absurd h
zip_append R (x ∷ xs) (y ∷ ys) us vs h i = (h.0, zip_append R xs ys us vs h.1 i)

pub tokens_beside : {T : Type 0} (serves : T → ℕ → Type 0) (ts : List T) (w : List ℕ) → (h : AllZip serves ts w)
    → map (λ (t : Served T serves). t.token) (side_by_side serves ts w h) ≡ ts
tokens_beside serves [] [] h = refl
tokens_beside serves [] (k ∷ w) h = absurd h
tokens_beside serves (t ∷ ts) [] h = absurd h
tokens_beside serves (t ∷ ts) (k ∷ w) h = ap (λ z. t ∷ z) (tokens_beside serves ts w h.1)

pub kinds_beside : {T : Type 0} (serves : T → ℕ → Type 0) (ts : List T) (w : List ℕ) → (h : AllZip serves ts w)
    → map (λ (t : Served T serves). t.kind) (side_by_side serves ts w h) ≡ w
kinds_beside serves [] [] h = refl
kinds_beside serves [] (k ∷ w) h = absurd h
kinds_beside serves (t ∷ ts) [] h = absurd h
kinds_beside serves (t ∷ ts) (k ∷ w) h = ap (λ z. k ∷ z) (kinds_beside serves ts w h.1)

record Serving (T : Type 0) (serves : T → ℕ → Type 0) (w : List ℕ) : Type 0 where
  tokens : List T
  serve : AllZip serves tokens w

serving : {T : Type 0} (serves : T → ℕ → Type 0) (kinds : ℕ) → ((k : ℕ) → k < kinds → (t : T) × serves t k) → (w : List ℕ)
    → All (λ (t : ℕ). t < kinds) w → Serving T serves w
serving serves kinds has [] h = record { tokens = []; serve = tt }
serving {T} serves kinds has (k ∷ w) h =
    let t = has k (All-head (λ (t : ℕ). t < kinds) k w h) in
    let x : Serving T serves w = serving serves kinds has w (All-tail (λ (t : ℕ). t < kinds) k w h) in
    record { tokens = t.0 ∷ x.tokens; serve = (t.1, x.serve) }

-- the kinds of a front
front_kinds : {T : Type 0} {kinds : ℕ} (x : Kinding T kinds) (ts : List T) (n : ℕ) → n ≤ length ts → take n (x.kinds_of ts) ≡ x.kinds_of (take n ts)
front_kinds x ts n h =
    let y = x.front (take n ts) (drop n ts) in
    let a : List ℕ = x.kinds_of (take n ts) in
    let whole : x.kinds_of ts ≡ a ++ y.0 = ap (λ z. x.kinds_of z) (sym (take-append-drop n ts)) ∙ y.1 in
    let long : length a ≡ n = sym (length_zip x.serves (take n ts) a (x.each (take n ts))) ∙ length-take-le n ts h in
    ap (λ (z : List ℕ). take n z) whole ∙ take-append-le n a y.0 (omega (arith, long)) ∙ take_all n a (omega (arith, long))

-- ---- faults

-- A fault among the kinds of tokens is one among texts, where tokens that serve as a sentence's kinds are a text, and the
-- kinds of a text are a sentence.
pub fault_by_kinds : {T : Type 0} {l : Language} → IsLL1 l → (x : Kinding T l.kinds) → (IsText : List T → Type 0)
    → ((ts : List T) (w : List ℕ) → AllZip x.serves ts w → IsSentence (grammar_of l) l.start w → IsText ts)
    → ((ts : List T) → IsText ts → IsSentence (grammar_of l) l.start (x.kinds_of ts))
    → (ts : List T) (i : ℕ) → IsFault (grammar_of l) l.start (x.kinds_of ts) i → IsFaultAmong IsText ts i
fault_by_kinds {T} {l} fits x IsText sound complete ts i f =
    let long : length ts ≡ length (x.kinds_of ts) = length_zip x.serves ts (x.kinds_of ts) (x.each ts) in
    let inside : i ≤ length ts = omega (arith, long, f.within) in
    let w : List ℕ = f.viable.0 in
    let below : All (λ (t : ℕ). t < l.kinds) w =
    all_behind (λ (t : ℕ). t < l.kinds) (take i (x.kinds_of ts)) w (kinds_below fits f.viable.1 tt) in
    let y : Serving T x.serves w = serving x.serves l.kinds x.witness w below in
    record {
      within = inside;
      viable = (
        y.tokens,
        sound (take i ts ++ y.tokens) (x.kinds_of (take i ts) ++ w)
            (zip_append x.serves (take i ts) (x.kinds_of (take i ts)) y.tokens w (x.each (take i ts)) y.serve)
            (subst (λ (z : List ℕ). IsSentence (grammar_of l) l.start (z ++ w)) (front_kinds x ts i inside) f.viable.1),
      );
      exact = λ less more t.
          let v = x.front (take (i + 1) ts) more in
          let here : x.kinds_of (take (i + 1) ts ++ more) ≡ take (i + 1) (x.kinds_of ts) ++ v.0 =
          v.1 ∙ ap (λ (z : List ℕ). z ++ v.0) (sym (front_kinds x ts (i + 1) (omega arith))) in
          f.exact (omega (arith, long)) v.0 (subst (λ (z : List ℕ). IsSentence (grammar_of l) l.start z) here (complete (take (i + 1) ts ++ more) t));
      no_text = λ t. f.no_sentence (complete ts t);
    }

-- tokens that have their kinds by themselves
own_kinds : {T : Type 0} (kind : T → ℕ) (ts : List T) → AllZip (λ (t : T) (k : ℕ). kind t ≡ k) ts (map kind ts)
own_kinds kind [] = tt
own_kinds kind (t ∷ ts) = (refl, own_kinds kind ts)

own_kinds_are : {T : Type 0} (kind : T → ℕ) (ts : List T) (w : List ℕ) → AllZip (λ (t : T) (k : ℕ). kind t ≡ k) ts w → map kind ts ≡ w
own_kinds_are kind [] [] h = refl
own_kinds_are kind [] (k ∷ w) h = absurd h
own_kinds_are kind (t ∷ ts) [] h = absurd h
own_kinds_are kind (t ∷ ts) (k ∷ w) h = ap (λ z. z ∷ map kind ts) h.0 ∙ ap (λ z. k ∷ z) (own_kinds_are kind ts w h.1)

by_itself : {T : Type 0} (kind : T → ℕ) (kinds : ℕ) → ((k : ℕ) → k < kinds → (t : T) × (kind t ≡ k)) → Kinding T kinds
by_itself {T} kind kinds has = record {
  serves = λ (t : T) (k : ℕ). kind t ≡ k;
  kinds_of = λ ts. map kind ts;
  each = own_kinds kind;
  front = λ ts more. (map kind more, map-append kind ts more);
  witness = has;
}

-- the same where texts are tokens that have their kinds by themselves
pub fault_among : {T : Type 0} {l : Language} → IsLL1 l → (kind : T → ℕ) → ((k : ℕ) → k < l.kinds → (t : T) × (kind t ≡ k))
    → (IsText : List T → Type 0) → ((ts : List T) → IsSentence (grammar_of l) l.start (map kind ts) → IsText ts)
    → ((ts : List T) → IsText ts → IsSentence (grammar_of l) l.start (map kind ts))
    → (ts : List T) (i : ℕ) → IsFault (grammar_of l) l.start (map kind ts) i → IsFaultAmong IsText ts i
unfolding by_itself
fault_among {T} {l} fits kind has IsText sound complete ts i f =
    fault_by_kinds fits (by_itself kind l.kinds has) IsText
    (λ us w z d. sound us (subst (λ (v : List ℕ). IsSentence (grammar_of l) l.start v) (sym (own_kinds_are kind us w z)) d))
    complete ts i f
