-- A line of a chain is cut into its words in one way.
use Rattle.std.proofs.Common.{◌≡◌, ℕ, ◌+◌, ◌%◌, ◌^◌, ◌<◌, ◌≤◌, ◌==◌, Bool, true, false, List, [], ◌∷◌, ◌++◌, length, get_or, append_assoc, append-nil, refl, ap, subst, ◌∙◌, sym, arith, Option, Some, None, MatchOption}
use Rattle.std.specs.Prelude.{codes}
use Rattle.std.specs.Fmt.{decimal}
use Rattle.std.proofs.lemmas.Bool.{false≢true}
use Rattle.std.proofs.lemmas.Fmt.{decimal_injective, decimal_by_steps}
use Rattle.std.proofs.lemmas.List.{append_cancel_left, append_cancel_right}
use Rattle.pv_cert.specs.declared.proof.Chain.{Chain}
use Rattle.pv_cert.specs.ChainText.{constants_text, cells_text, havoc_text, cone_text, chain_line, RiseFrom, HasChainText}
use Rattle.pv_claims.specs.Words.{NoBlank, EndsWord}
use Rattle.pv_cert.specs.CertificateText.{no_reduction}
use Rattle.pv_claims.proofs.ForCallers.{tail, cut-word, blankless-decimal}

-- ---- cells

ends-cells : (cells : List ℕ) → EndsWord (cells_text cells)
ends-cells [] = tt
ends-cells (cell ∷ cells) = refl

behind-blank : (cell : ℕ) (after us : List ℕ) → codes " " ++ decimal cell ++ after ≡ 32 ∷ us → decimal cell ++ after ≡ us
behind-blank cell after us e = tail 32 32 (decimal cell ++ after) us e

-- a text of a number isn't that of one from this one on, where the number is less
pub other-number : (least n : ℕ) (text : List ℕ) → n < 2 ^ 32 → (least ≤ n → ⊥) → text ≡ decimal n → (m : ℕ) → least ≤ m → m < 2 ^ 32
    → text ≡ decimal m → ⊥
other-number least n text small low e m from fits f =
    let same : m ≡ n = decimal_injective m n (omega arith) (omega arith) (sym f ∙ e) in
    low (omega (arith, from, same))

-- no cell stands where the word is none
pub no-cell : (text word after : List ℕ) (least : ℕ) → NoBlank word → EndsWord after → text ≡ codes " " ++ (word ++ after)
    → ((n : ℕ) → least ≤ n → n < 2 ^ 32 → word ≡ decimal n → ⊥)
    → (cell : ℕ) (behind : List ℕ) → least ≤ cell → cell < 2 ^ 32 → EndsWord behind → text ≡ codes " " ++ decimal cell ++ behind → ⊥
no-cell text word after least plain ends e never cell behind low small ends' f =
    let same = cut-word (decimal cell) word behind after (blankless-decimal cell (omega arith)) plain ends' ends (behind-blank cell behind (word ++ after) (sym f ∙ e)) in
    never cell low small (sym same.0)

-- the cells so far and what is left of the text
pub record SoFar (text rest cells : List ℕ) (least : ℕ) : Type 0 where
  pub split : text ≡ cells_text cells ++ rest
  pub rise : (more : List ℕ) → RiseFrom least more → RiseFrom 0 (cells ++ more)
  pub all : (others : List ℕ) → RiseFrom 0 others → text ≡ cells_text others
      → (more : List ℕ) × RiseFrom least more × (rest ≡ cells_text more)

pub so_far-none : (text : List ℕ) → SoFar text text [] 0
so_far-none text = record { split = refl; rise = λ more h. h; all = λ others h e. (others, h, e) }

cells-push : (cells : List ℕ) (cell : ℕ) → cells_text (cells ++ cell ∷ []) ≡ cells_text cells ++ (codes " " ++ decimal cell)
cells-push [] cell = append-nil (codes " " ++ decimal cell)
cells-push (x ∷ xs) cell = ap (λ t. (codes " " ++ decimal x) ++ t) (cells-push xs cell) ∙ sym (append_assoc (codes " " ++ decimal x) (cells_text xs) (codes " " ++ decimal cell))

-- what is left where a cell was read
left-after : (rest after : List ℕ) (least cell : ℕ) → cell < 2 ^ 32 → EndsWord after → rest ≡ codes " " ++ decimal cell ++ after
    → (more : List ℕ) → RiseFrom least more → rest ≡ cells_text more → (more' : List ℕ) × RiseFrom (cell + 1) more' × (after ≡ cells_text more')
left-after rest after least cell small ends e [] rise f = absurd (cc (e, f))
left-after rest after least cell small ends e (x ∷ xs) rise f =
    let same = cut-word (decimal cell) (decimal x) after (cells_text xs) (blankless-decimal cell (omega arith)) (blankless-decimal x (omega (arith, rise.1))) ends (ends-cells xs)
    (behind-blank cell after (decimal x ++ cells_text xs) (sym e ∙ f)) in
    let number : x ≡ cell = decimal_injective x cell (omega (arith, rise.1)) (omega arith) (sym same.0) in
    (xs, subst (λ (k : ℕ). RiseFrom (k + 1) xs) number rise.2, same.1)

pub so_far-more : (text rest after cells : List ℕ) (least cell : ℕ) → SoFar text rest cells least → least ≤ cell → cell < 2 ^ 32
    → EndsWord after → rest ≡ codes " " ++ decimal cell ++ after
    → SoFar text after (cells ++ cell ∷ []) (cell + 1)
so_far-more text rest after cells least cell s low small ends e = record {
  split = s.split ∙ ap (λ t. cells_text cells ++ t) e ∙ sym (append_assoc (cells_text cells) (codes " " ++ decimal cell) after) ∙ ap (λ t. t ++ after) (sym (cells-push cells cell));
  rise = λ more h. subst (RiseFrom 0) (sym (append_assoc cells (cell ∷ []) more)) (s.rise (cell ∷ more) (low, small, h));
  all = λ others h f. (let left = s.all others h f in left-after rest after least cell small ends e left.0 left.1 left.2);
}

-- no cells are listed where what is left begins with none
pub stops-cells : (text rest cells : List ℕ) (least : ℕ) → SoFar text rest cells least → 0 < length rest
    → ((cell : ℕ) (after : List ℕ) → least ≤ cell → cell < 2 ^ 32 → EndsWord after → rest ≡ codes " " ++ decimal cell ++ after → ⊥)
    → (others : List ℕ) → RiseFrom 0 others → text ≡ cells_text others → ⊥
stops-cells text rest cells least s some never others h e = (let left = s.all others h e in left-never rest least some never left.0 left.1 left.2)
  where
    left-never : (rest : List ℕ) (least : ℕ) → 0 < length rest
        → ((cell : ℕ) (after : List ℕ) → least ≤ cell → cell < 2 ^ 32 → EndsWord after → rest ≡ codes " " ++ decimal cell ++ after → ⊥)
        → (more : List ℕ) → RiseFrom least more → rest ≡ cells_text more → ⊥
    left-never rest least some never [] rise f = (let none : length rest ≡ 0 = ap length f in omega (arith, some, none))
    left-never rest least some never (x ∷ xs) rise f = never x (cells_text xs) rise.0 rise.1 (ends-cells xs) f

pub ends-cells-whole : (text rest cells : List ℕ) (least : ℕ) → SoFar text rest cells least → length rest ≡ 0
    → RiseFrom 0 cells × (text ≡ cells_text cells)
ends-cells-whole text [] cells least s none = (subst (RiseFrom 0) (append-nil cells) (s.rise [] tt), s.split ∙ append-nil (cells_text cells))
ends-cells-whole text (x ∷ rest) cells least s none = absurd (omega (arith, none))

same-cells : (low high : ℕ) (xs ys : List ℕ) → RiseFrom low xs → RiseFrom high ys → cells_text xs ≡ cells_text ys → xs ≡ ys
same-cells low high [] [] a b e = refl
same-cells low high [] (y ∷ ys) a b e = absurd cc
same-cells low high (x ∷ xs) [] a b e = absurd cc
same-cells low high (x ∷ xs) (y ∷ ys) a b e =
    let same = cut-word (decimal x) (decimal y) (cells_text xs) (cells_text ys) (blankless-decimal x (omega (arith, a.1))) (blankless-decimal y (omega (arith, b.1))) (ends-cells xs) (ends-cells ys)
    (behind-blank x (cells_text xs) (decimal y ++ cells_text ys) e) in
    let number : x ≡ y = decimal_injective x y (omega (arith, a.1)) (omega (arith, b.1)) same.0 in
    ap (λ z. z ∷ xs) number ∙ ap (λ zs. y ∷ zs) (same-cells (x + 1) (y + 1) xs ys a.2 b.2 same.1)

-- ---- the word `havoc`

some-cells : (text rest : List ℕ) → text ≡ codes " havoc" ++ rest → 0 < length rest
    → ((others : List ℕ) → RiseFrom 0 others → rest ≡ cells_text others → ⊥)
    → (others : List ℕ) → RiseFrom 0 others → text ≡ havoc_text others → ⊥
some-cells text rest e some never [] h f = absurd (cc (e, f))
some-cells text rest e some never (x ∷ xs) h f = never (x ∷ xs) h (append_cancel_left (codes " havoc") rest (cells_text (x ∷ xs)) (sym e ∙ f))

pub havoc-found : (text rest : List ℕ) (o : Option (List ℕ)) → text ≡ codes " havoc" ++ rest → 0 < length rest
    → MatchOption o ((others : List ℕ) → RiseFrom 0 others → rest ≡ cells_text others → ⊥) (λ cells. RiseFrom 0 cells × (rest ≡ cells_text cells))
    → MatchOption o ((others : List ℕ) → RiseFrom 0 others → text ≡ havoc_text others → ⊥) (λ cells. RiseFrom 0 cells × (text ≡ havoc_text cells))
havoc-found text rest None e some h = some-cells text rest e some h
havoc-found text rest (Some []) e some h = absurd (let none : length rest ≡ 0 = ap length h.1 in omega (arith, some, none))
havoc-found text rest (Some (x ∷ xs)) e some h = (h.0, e ∙ ap (λ t. codes " havoc" ++ t) h.1)

-- nothing behind the word
pub havoc-alone : (text rest : List ℕ) → text ≡ codes " havoc" ++ rest → length rest ≡ 0 → (others : List ℕ) → RiseFrom 0 others
    → text ≡ havoc_text others → ⊥
havoc-alone text rest e none [] h f = absurd (cc (e, f))
havoc-alone text rest e none (x ∷ xs) h f =
    let same = append_cancel_left (codes " havoc") rest (cells_text (x ∷ xs)) (sym e ∙ f) in
    let size : length rest ≡ length (cells_text (x ∷ xs)) = ap length same in
    omega (arith, none, size)

-- another word
pub havoc-absent : (text : List ℕ) → 0 < length text → ((rest : List ℕ) → text ≡ codes " havoc" ++ rest → ⊥) → (others : List ℕ)
    → RiseFrom 0 others → text ≡ havoc_text others → ⊥
havoc-absent text some never [] h f = (let none : length text ≡ 0 = ap length f in omega (arith, some, none))
havoc-absent text some never (x ∷ xs) h f = never (cells_text (x ∷ xs)) f

pub havoc-nothing : (text : List ℕ) → length text ≡ 0 → RiseFrom 0 [] × (text ≡ havoc_text [])
havoc-nothing [] none = (tt, refl)
havoc-nothing (x ∷ xs) none = absurd (omega (arith, none))

same-havoc : (xs ys : List ℕ) → RiseFrom 0 xs → RiseFrom 0 ys → havoc_text xs ≡ havoc_text ys → xs ≡ ys
same-havoc [] [] a b e = refl
same-havoc [] (y ∷ ys) a b e = absurd cc
same-havoc (x ∷ xs) [] a b e = absurd cc
same-havoc (x ∷ xs) (y ∷ ys) a b e = same-cells 0 0 (x ∷ xs) (y ∷ ys) a b (append_cancel_left (codes " havoc") (cells_text (x ∷ xs)) (cells_text (y ∷ ys)) e)

-- ---- the word `constants`

-- cells of any value aren't spelled so
no-constants : (cells rest : List ℕ) → havoc_text cells ≡ codes " constants" ++ rest → ⊥
no-constants [] rest e = absurd cc
no-constants (x ∷ xs) rest e = (let differ : false ≡ true = ap (λ l. get_or l 1 0 == 99) e in false≢true differ)

-- what stands behind the words so far
abbrev behind : Bool → List ℕ → List ℕ
behind is_there rest = codes "chain" ++ constants_text is_there ++ rest

pub constants-cut : (text rest : List ℕ) (found : Bool) (is_there : Bool) (cells : List ℕ)
    → text ≡ codes "chain" ++ constants_text found ++ rest
    → (found ≡ false → (more : List ℕ) → text ≡ codes "chain constants" ++ more → ⊥) → text ≡ codes "chain" ++ constants_text is_there ++ havoc_text cells → (found ≡ is_there) × (rest ≡ havoc_text cells)
constants-cut text rest true true cells e longest f = (refl, append_cancel_left (codes "chain constants") rest (havoc_text cells) (sym e ∙ f))
constants-cut text rest true false cells e longest f = absurd (no-constants cells rest (append_cancel_left (codes "chain") (havoc_text cells) (codes " constants" ++ rest) (sym f ∙ e)))
constants-cut text rest false true cells e longest f = absurd (longest refl (havoc_text cells) f)
constants-cut text rest false false cells e longest f = (refl, append_cancel_left (codes "chain") rest (havoc_text cells) (sym e ∙ f))

pub no-chain : (text : List ℕ) → ((rest : List ℕ) → text ≡ codes "chain constants" ++ rest → ⊥)
    → ((rest : List ℕ) → text ≡ codes "chain" ++ rest → ⊥)
    → (is_there : Bool) (rest : List ℕ) → text ≡ codes "chain" ++ constants_text is_there ++ rest → ⊥
no-chain text long short true rest e = long rest e
no-chain text long short false rest e = short rest e

-- ---- the word `cone`

-- the last byte
abbrev last_of : List ℕ → ℕ
last_of [] = 0
last_of (x ∷ []) = x
last_of (x ∷ y ∷ ys) = last_of (y ∷ ys)

last-append : (xs : List ℕ) (y : ℕ) (ys : List ℕ) → last_of (xs ++ y ∷ ys) ≡ last_of (y ∷ ys)
last-append [] y ys = refl
last-append (x ∷ []) y ys = refl
last-append (x ∷ z ∷ zs) y ys = last-append (z ∷ zs) y ys

last-decimal : (n : ℕ) → n < 2 ^ 64 → (front : List ℕ) → last_of (front ++ decimal n) < 58
last-decimal n h = decimal_by_steps (λ _ ds. (front : List ℕ) → last_of (front ++ ds) < 58) (λ n small front. rw (last-append front (48 + n) []) (omega arith)) more n h
  where
    more : (n : ℕ) (ds : List ℕ) → 10 ≤ n → ((front : List ℕ) → last_of (front ++ ds) < 58) → (front : List ℕ)
        → last_of (front ++ (ds ++ (48 + n % 10) ∷ [])) < 58
    more n ds large rest front =
        let end : last_of (front ++ (ds ++ (48 + n % 10) ∷ [])) ≡ 48 + n % 10 = ap last_of (sym (append_assoc front ds ((48 + n % 10) ∷ []))) ∙ last-append (front ++ ds) (48 + n % 10) [] in
        omega (arith, end)

last-cells : (front : List ℕ) (least x : ℕ) (xs : List ℕ) → RiseFrom least (x ∷ xs) → last_of (front ++ cells_text (x ∷ xs)) < 58
last-cells front least x [] h =
    let whole : front ++ cells_text (x ∷ []) ≡ (front ++ codes " ") ++ decimal x = ap (λ t. front ++ t) (append-nil (codes " " ++ decimal x)) ∙ sym (append_assoc front (codes " ") (decimal x)) in
    let end : last_of (front ++ cells_text (x ∷ [])) ≡ last_of ((front ++ codes " ") ++ decimal x) = ap last_of whole in
    omega (arith, end, last-decimal x (omega (arith, h.1)) (front ++ codes " "))
last-cells front least x (y ∷ ys) h =
    let whole : front ++ cells_text (x ∷ y ∷ ys) ≡ (front ++ (codes " " ++ decimal x)) ++ cells_text (y ∷ ys) = sym (append_assoc front (codes " " ++ decimal x) (cells_text (y ∷ ys))) in
    let end : last_of (front ++ cells_text (x ∷ y ∷ ys)) ≡ last_of ((front ++ (codes " " ++ decimal x)) ++ cells_text (y ∷ ys)) = ap last_of whole in
    omega (arith, end, last-cells (front ++ (codes " " ++ decimal x)) (x + 1) y ys h.2)

-- nothing before `cone` ends so
no-cone : (is_there : Bool) (cells front : List ℕ) → RiseFrom 0 cells
    → codes "chain" ++ constants_text is_there ++ havoc_text cells ≡ front ++ codes " cone" → ⊥
no-cone true [] front h e = (let end : 115 ≡ 101 = ap last_of e ∙ last-append front 32 (codes "cone") in absurd (omega (arith, end)))
no-cone false [] front h e = (let end : 110 ≡ 101 = ap last_of e ∙ last-append front 32 (codes "cone") in absurd (omega (arith, end)))
no-cone is_there (x ∷ xs) front h e =
    let before = codes "chain" ++ constants_text is_there in
    let whole : before ++ havoc_text (x ∷ xs) ≡ (before ++ codes " havoc") ++ cells_text (x ∷ xs) = sym (append_assoc before (codes " havoc") (cells_text (x ∷ xs))) in
    let low = last-cells (before ++ codes " havoc") 0 x xs h in
    let end : last_of ((before ++ codes " havoc") ++ cells_text (x ∷ xs)) ≡ 101 = ap last_of (sym whole ∙ e) ∙ last-append front 32 (codes "cone") in
    absurd (omega (arith, low, end))

-- the line before the word `cone`
abbrev front_of : Chain → List ℕ
front_of chain = codes "chain" ++ constants_text chain.constants ++ havoc_text chain.havoc

pub cone-cut : (text front : List ℕ) (found : Bool) (is_there : Bool) (before : List ℕ)
    → ((front : List ℕ) → before ≡ front ++ codes " cone" → ⊥)
    → text ≡ front ++ cone_text found → (found ≡ false → (more : List ℕ) → text ≡ more ++ codes " cone" → ⊥) → text ≡ before ++ cone_text is_there → (found ≡ is_there) × (front ≡ before)
cone-cut text front true true before never e longest f = (refl, append_cancel_right front before (codes " cone") (sym e ∙ f))
cone-cut text front true false before never e longest f = absurd (never front (sym (append-nil before) ∙ sym f ∙ e))
cone-cut text front false true before never e longest f = absurd (longest refl before f)
cone-cut text front false false before never e longest f = (refl, sym (append-nil front) ∙ sym e ∙ f ∙ append-nil before)

pub chain-cut : (text front : List ℕ) (found : Bool) (chain : Chain) → HasChainText chain → text ≡ front ++ cone_text found
    → (found ≡ false → (more : List ℕ) → text ≡ more ++ codes " cone" → ⊥) → text ≡ chain_line chain
    → (found ≡ chain.cone) × (front ≡ codes "chain" ++ constants_text chain.constants ++ havoc_text chain.havoc)
chain-cut text front found chain h e longest f = cone-cut text front found chain.cone (front_of chain) (λ other g. no-cone chain.constants chain.havoc other h g) e longest f

-- ---- a line is that of one chain

no-suffix : (chain : Chain) → HasChainText chain → (is_there : Bool) → chain.cone ≡ is_there → is_there ≡ false → (more : List ℕ)
    → chain_line chain ≡ more ++ codes " cone" → ⊥
no-suffix chain h true e none more f = absurd (false≢true (sym none))
no-suffix chain h false e none more f = no-cone chain.constants chain.havoc more h (sym (append-nil (front_of chain)) ∙ ap (λ b. front_of chain ++ cone_text b) (sym e) ∙ f)

no-longer : (found : Bool) (cells : List ℕ) → found ≡ false → (more : List ℕ)
    → codes "chain" ++ constants_text found ++ havoc_text cells ≡ codes "chain constants" ++ more → ⊥
no-longer true cells none more f = absurd (false≢true (sym none))
no-longer false cells none more f = no-constants cells more (append_cancel_left (codes "chain") (havoc_text cells) (codes " constants" ++ more) f)

made-of : (a b : Chain) → a.constants ≡ b.constants → a.havoc ≡ b.havoc → a.cone ≡ b.cone → a ≡ b
made-of a b c h k =
    ap (λ x. record a { constants = x }) c ∙ ap (λ x. record a { constants = b.constants; havoc = x }) h ∙ ap (λ x. record b { cone = x }) k

pub same-chain : (a b : Chain) → HasChainText a → HasChainText b → chain_line a ≡ chain_line b → a ≡ b
same-chain a b h k e =
    let cone = chain-cut (chain_line a) (front_of a) a.cone b k refl (λ none. no-suffix a h a.cone refl none) e in
    let constants = constants-cut (front_of a) (havoc_text a.havoc) a.constants b.constants b.havoc refl (no-longer a.constants a.havoc) cone.1 in
    made-of a b constants.0 (same-havoc a.havoc b.havoc h k constants.1) cone.0

plain-words : (c : Bool) (h : List ℕ) (k : Bool)
    → ((rest : List ℕ) → codes "chain" ++ constants_text c ++ havoc_text h ++ cone_text k ≡ codes "chain " ++ rest → ⊥)
    → (c ≡ false) × (h ≡ []) × (k ≡ false)
plain-words true h k never = absurd (never (codes "constants" ++ havoc_text h ++ cone_text k) refl)
plain-words false (x ∷ xs) k never = absurd (never (codes "havoc" ++ cells_text (x ∷ xs) ++ cone_text k) refl)
plain-words false [] true never = absurd (never (codes "cone") refl)
plain-words false [] false never = (refl, refl, refl)

-- a line with nothing behind the first word is that of the chain without words
pub without-words : (chain : Chain) → ((rest : List ℕ) → chain_line chain ≡ codes "chain " ++ rest → ⊥) → chain ≡ no_reduction
without-words chain never = (let plain = plain-words chain.constants chain.havoc chain.cone never in made-of chain no_reduction plain.0 plain.1 plain.2)
