-- The values of a line.
use Rattle.std.proofs.Common.{◌≡◌, ℕ, ◌<◌, ℤ, List, [], ◌∷◌, ◌++◌, length, append_assoc, append-nil, refl, ap, subst, ◌∙◌, sym, arith, Option, Some, None, MatchOption}
use Rattle.std.specs.Prelude.{codes, FitsSigned}
use Rattle.std.specs.Int.{w128}
use Rattle.std.specs.Fmt.{signed_decimal}
use Rattle.pv_claims.specs.Words.{NoBlank, EndsWord}
use Rattle.pv_claims.specs.Lines.{NoFeed}
use Rattle.pv_claims.specs.TracePart.{AllFit, values_text}
use Rattle.pv_claims.proofs.LineLaws.{feedless-append, tail, cut-one, no-feed}
use Rattle.pv_claims.proofs.WordLaws.{cut-word}
use Rattle.pv_claims.proofs.NumberLaws.{cancel, value-blankless, value-plain, value-one}

ends-values : (values : List ℤ) → EndsWord (values_text values)
ends-values [] = tt
ends-values (v ∷ values) = refl

behind-blank : (v : ℤ) (after us : List ℕ) → codes " " ++ signed_decimal v ++ after ≡ 32 ∷ us → signed_decimal v ++ after ≡ us
behind-blank v after us e = tail 32 32 (signed_decimal v ++ after) us e

-- no value stands where the word is none
pub no-value : (text word after : List ℕ) → NoBlank word → EndsWord after → text ≡ codes " " ++ (word ++ after)
    → ((v : ℤ) → FitsSigned w128 v → word ≡ signed_decimal v → ⊥)
    → (v : ℤ) (behind : List ℕ) → FitsSigned w128 v → EndsWord behind → text ≡ codes " " ++ signed_decimal v ++ behind → ⊥
no-value text word after plain ends e never v behind fits ends' f =
    let same = cut-word (signed_decimal v) word behind after (value-blankless v fits) plain ends' ends (behind-blank v behind (word ++ after) (sym f ∙ e)) in
    never v fits (sym same.0)

-- the values so far and what is left of the text
pub record SoFar (text rest : List ℕ) (values : List ℤ) : Type 0 where
  pub split : text ≡ values_text values ++ rest
  pub fit : (more : List ℤ) → AllFit more → AllFit (values ++ more)
  pub all : (others : List ℤ) → AllFit others → text ≡ values_text others → (more : List ℤ) × AllFit more × (rest ≡ values_text more)

pub so_far-none : (text : List ℕ) → SoFar text text []
so_far-none text = record { split = refl; fit = λ more h. h; all = λ others h e. (others, h, e) }

values-push : (values : List ℤ) (v : ℤ) → values_text (values ++ v ∷ []) ≡ values_text values ++ (codes " " ++ signed_decimal v)
values-push [] v = append-nil (codes " " ++ signed_decimal v)
values-push (x ∷ xs) v = ap (λ t. (codes " " ++ signed_decimal x) ++ t) (values-push xs v) ∙ sym (append_assoc (codes " " ++ signed_decimal x) (values_text xs) (codes " " ++ signed_decimal v))

-- what is left where a value was read
left-after : (rest after : List ℕ) (v : ℤ) → FitsSigned w128 v → EndsWord after → rest ≡ codes " " ++ signed_decimal v ++ after
    → (more : List ℤ) → AllFit more → rest ≡ values_text more → (more' : List ℤ) × AllFit more' × (after ≡ values_text more')
left-after rest after v fits ends e [] all f = absurd (cc (e, f))
left-after rest after v fits ends e (x ∷ xs) all f =
    let same = cut-word (signed_decimal v) (signed_decimal x) after (values_text xs) (value-blankless v fits) (value-blankless x all.0) ends (ends-values xs)
    (behind-blank v after (signed_decimal x ++ values_text xs) (sym e ∙ f)) in
    (xs, all.1, same.1)

pub so_far-more : (text rest after : List ℕ) (values : List ℤ) (v : ℤ) → SoFar text rest values → FitsSigned w128 v
    → EndsWord after → rest ≡ codes " " ++ signed_decimal v ++ after → SoFar text after (values ++ v ∷ [])
so_far-more text rest after values v s fits ends e = record {
  split = s.split ∙ ap (λ t. values_text values ++ t) e ∙ sym (append_assoc (values_text values) (codes " " ++ signed_decimal v) after) ∙ ap (λ t. t ++ after) (sym (values-push values v));
  fit = λ more h. subst AllFit (sym (append_assoc values (v ∷ []) more)) (s.fit (v ∷ more) (fits, h));
  all = λ others h f. (let left = s.all others h f in left-after rest after v fits ends e left.0 left.1 left.2);
}

-- no values are listed where what is left begins with none
pub stops-values : (text rest : List ℕ) (values : List ℤ) → SoFar text rest values → 0 < length rest
    → ((v : ℤ) (after : List ℕ) → FitsSigned w128 v → EndsWord after → rest ≡ codes " " ++ signed_decimal v ++ after → ⊥)
    → (others : List ℤ) → AllFit others → text ≡ values_text others → ⊥
stops-values text rest values s some never others h e = (let left = s.all others h e in left-never rest some never left.0 left.1 left.2)
  where
    left-never : (rest : List ℕ) → 0 < length rest
        → ((v : ℤ) (after : List ℕ) → FitsSigned w128 v → EndsWord after → rest ≡ codes " " ++ signed_decimal v ++ after → ⊥)
        → (more : List ℤ) → AllFit more → rest ≡ values_text more → ⊥
    left-never rest some never [] all f = (let none : length rest ≡ 0 = ap length f in omega (arith, some, none))
    left-never rest some never (x ∷ xs) all f = never x (values_text xs) all.0 (ends-values xs) f

pub ends-whole : (text rest : List ℕ) (values : List ℤ) → SoFar text rest values → length rest ≡ 0 → AllFit values × (text ≡ values_text values)
ends-whole text [] values s none = (subst AllFit (append-nil values) (s.fit [] tt), s.split ∙ append-nil (values_text values))
ends-whole text (x ∷ rest) values s none = absurd (omega (arith, none))

-- values behind a word
pub behind : (line word rest : List ℕ) (found : Option (List ℤ)) → line ≡ word ++ rest
    → MatchOption found ((values : List ℤ) → AllFit values → rest ≡ values_text values → ⊥) (λ values. AllFit values × (rest ≡ values_text values))
    → MatchOption found ((values : List ℤ) → AllFit values → line ≡ word ++ values_text values → ⊥) (λ values. AllFit values × (line ≡ word ++ values_text values))
behind line word rest None e none = λ values are is. none values are (cancel word rest (values_text values) (sym e ∙ is))
behind line word rest (Some values) e some = (some.0, e ∙ ap (λ t. word ++ t) some.1)

-- ---- lines of values

pub values-plain : (values : List ℤ) → AllFit values → NoFeed (values_text values)
values-plain [] h = tt
values-plain (v ∷ values) h = feedless-append (codes " " ++ signed_decimal v) (values_text values) ((λ e. omega (arith, e)), value-plain v h.0) (values-plain values h.1)

pub values-one : (us vs : List ℤ) → AllFit us → AllFit vs → values_text us ≡ values_text vs → us ≡ vs
values-one [] [] a b e = refl
values-one [] (v ∷ vs) a b e = absurd cc
values-one (u ∷ us) [] a b e = absurd cc
values-one (u ∷ us) (v ∷ vs) a b e =
    let same = cut-word (signed_decimal u) (signed_decimal v) (values_text us) (values_text vs) (value-blankless u a.0) (value-blankless v b.0) (ends-values us) (ends-values vs)
    (behind-blank u (values_text us) (signed_decimal v ++ values_text vs) e) in
    ap (λ z. z ∷ us) (value-one u v a.0 b.0 same.0) ∙ ap (λ zs. v ∷ zs) (values-one us vs a.1 b.1 same.1)

-- no line of values where there is no line, or another one
pub no-line : (text word : List ℕ) → NoFeed text → (others : List ℤ) (after : List ℕ) → AllFit others → text ≡ (word ++ values_text others) ++ 10 ∷ after → ⊥
no-line text word plain others after h e = no-feed text (word ++ values_text others) after plain e

pub other-line : (text word line behind : List ℕ) → NoFeed word → NoFeed line → text ≡ line ++ 10 ∷ behind
    → ((others : List ℤ) → AllFit others → line ≡ word ++ values_text others → ⊥)
    → (others : List ℤ) (after : List ℕ) → AllFit others → text ≡ (word ++ values_text others) ++ 10 ∷ after → ⊥
other-line text word line behind clean plain e never others after h f =
    never others h (cut-one line (word ++ values_text others) behind after plain (feedless-append word (values_text others) clean (values-plain others h)) (sym e ∙ f)).0

pub that-line : (text word line behind : List ℕ) (values : List ℤ) → text ≡ line ++ 10 ∷ behind → AllFit values × (line ≡ word ++ values_text values)
    → AllFit values × (text ≡ (word ++ values_text values) ++ 10 ∷ behind)
that-line text word line behind values e h = (h.0, e ∙ ap (λ l. l ++ 10 ∷ behind) h.1)
