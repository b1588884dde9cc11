-- Lines without line feeds, and the texts that they make.
use Rattle.std.proofs.Common.{◌≡◌, ℕ, zero, suc, ◌+◌, ◌%◌, ◌^◌, ◌<◌, ◌≤◌, false, eqb, List, [], ◌∷◌, ◌++◌, length, get_or, take, drop, append_assoc, append-nil, refl, ap, subst, ◌∙◌, sym, arith, Option, Some, None, MatchOption, Bor, ◌≢◌}
use Rattle.std.specs.Prelude.{codes, IfSome, IfNone}
use Rattle.std.specs.List.{list_any, AllByRecursion}
use Rattle.std.specs.Fmt.{decimal}
use Rattle.std.proofs.lemmas.Bool.{or_parts, eqb-false}
use Rattle.std.proofs.lemmas.Fmt.{decimal_by_steps}
use Rattle.std.proofs.lemmas.Grind.{flat_map-append}
use Rattle.pv_claims.specs.Lines.{text_of_lines, NoFeed}

-- ---- what a prefix that was sought says, by the outcome

pub prefix_found : (s p : List ℕ) (r : Option (Bor (List ℕ))) → MatchOption r ((rest : List ℕ) → s ≢ p ++ rest) (λ x. s ≡ p ++ x.now) → IfSome r (λ x. s ≡ p ++ x.now)
prefix_found s p None h = tt
prefix_found s p (Some x) h = h

pub prefix_missed : (s p : List ℕ) (r : Option (Bor (List ℕ))) → MatchOption r ((rest : List ℕ) → s ≢ p ++ rest) (λ x. s ≡ p ++ x.now) → IfNone r ((rest : List ℕ) → s ≡ p ++ rest → ⊥)
prefix_missed s p None h = h
prefix_missed s p (Some x) h = tt

-- ---- the first line

-- a text around one of its bytes
around : (at byte : ℕ) (text : List ℕ) → at < length text → get_or text at 0 ≡ byte → text ≡ take at text ++ byte ∷ drop (suc at) text
around at byte [] lt e = absurd (omega arith)
around zero byte (x ∷ xs) lt e = ap (λ z. z ∷ xs) e
around (suc at) byte (x ∷ xs) lt e = ap (λ zs. x ∷ zs) (around at byte xs (omega arith) e)

pub cut-at : (at : ℕ) (text front back : List ℕ) → at < length text → get_or text at 0 ≡ 10 → front ≡ take at text → back ≡ drop (at + 1) text → text ≡ front ++ 10 ∷ back
cut-at at text front back lt e f b =
    let next : at + 1 ≡ suc at = omega arith in
    around at 10 text lt e ∙ ap (λ t. t ++ 10 ∷ drop (suc at) text) (sym f) ∙ ap (λ t. front ++ 10 ∷ t) (ap (λ n. drop n text) (sym next) ∙ sym b)

-- ---- lists of which something holds

pub all-append : {X : Type 0} (P : X → Type 0) (xs ys : List X) → AllByRecursion P xs → AllByRecursion P ys → AllByRecursion P (xs ++ ys)
all-append P [] ys a b = b
all-append P (x ∷ xs) ys a b = (a.0, all-append P xs ys a.1 b)

pub all-behind : {X : Type 0} (P : X → Type 0) (xs ys : List X) → AllByRecursion P (xs ++ ys) → AllByRecursion P ys
all-behind P [] ys a = a
all-behind P (x ∷ xs) ys a = all-behind P xs ys a.1

-- ---- lines without line feeds

pub plain : (xs : List ℕ) → list_any (λ byte. eqb byte 10) xs ≡ false → NoFeed xs
plain [] h = tt
plain (x ∷ xs) h =
    let parts = or_parts (eqb x 10) (list_any (λ byte. eqb byte 10) xs) h in
    (eqb-false x 10 parts.0, plain xs parts.1)

pub feedless-append : (xs ys : List ℕ) → NoFeed xs → NoFeed ys → NoFeed (xs ++ ys)
feedless-append xs ys a b = all-append (λ byte. byte ≡ 10 → ⊥) xs ys a b

pub feedless-decimal : (n : ℕ) → n < 2 ^ 64 → NoFeed (decimal n)
feedless-decimal n h = decimal_by_steps (λ _ ds. NoFeed ds) (λ n small. (λ e. omega arith, tt)) (λ n ds large rest. feedless-append ds ((48 + n % 10) ∷ []) rest (λ e. omega arith, tt)) n h

-- ---- a text has one way to be cut into lines

pub tail : {A : Type 0} (x y : A) (xs ys : List A) → x ∷ xs ≡ y ∷ ys → xs ≡ ys
tail x y xs ys e = ap (drop 1) e

pub head : {A : Type 0} (x y : A) (xs ys : List A) → x ∷ xs ≡ y ∷ ys → x ≡ y
head x y xs ys e = ap (λ zs. get_or zs 0 x) e

pub cut-one : (xs ys us vs : List ℕ) → NoFeed xs → NoFeed ys → xs ++ 10 ∷ us ≡ ys ++ 10 ∷ vs → (xs ≡ ys) × (us ≡ vs)
cut-one [] [] us vs a b e = (refl, tail 10 10 us vs e)
cut-one [] (y ∷ ys) us vs a b e = absurd (b.0 (sym (head 10 y us (ys ++ 10 ∷ vs) e)))
cut-one (x ∷ xs) [] us vs a b e = absurd (a.0 (head x 10 (xs ++ 10 ∷ us) vs e))
cut-one (x ∷ xs) (y ∷ ys) us vs a b e =
    let rest : (xs ≡ ys) × (us ≡ vs) = cut-one xs ys us vs a.1 b.1 (tail x y (xs ++ 10 ∷ us) (ys ++ 10 ∷ vs) e) in
    let same : x ≡ y = head x y (xs ++ 10 ∷ us) (ys ++ 10 ∷ vs) e in
    (ap (λ z. z ∷ xs) same ∙ ap (λ zs. y ∷ zs) rest.0, rest.1)

pub onto : (line text rest : List ℕ) → ((line ++ 10 ∷ []) ++ text) ++ rest ≡ line ++ 10 ∷ (text ++ rest)
onto line text rest = append_assoc (line ++ 10 ∷ []) text rest ∙ append_assoc line (10 ∷ []) (text ++ rest)

pub not-empty : {A : Type 0} (front : List A) (x : A) (rest : List A) → front ++ x ∷ rest ≡ [] → ⊥
not-empty [] x rest e = cc
not-empty (y ∷ ys) x rest e = cc

pub no-feed : (rest line after : List ℕ) → NoFeed rest → rest ≡ line ++ 10 ∷ after → ⊥
no-feed rest line after plain e = (all-behind (λ byte. byte ≡ 10 → ⊥) line (10 ∷ after) (subst NoFeed e plain)).0 refl

-- the lines of a text begin with those of a front
pub record IsCut (ls ms : List (List ℕ)) (x y : List ℕ) : Type 0 where
  pub more : List (List ℕ)
  pub lines : ms ≡ ls ++ more
  pub rest : x ≡ text_of_lines more ++ y

cut-more : (l m : List ℕ) (ls ms : List (List ℕ)) (x y : List ℕ) → NoFeed l → NoFeed m → text_of_lines (l ∷ ls) ++ x ≡ text_of_lines (m ∷ ms) ++ y → (text_of_lines ls ++ x ≡ text_of_lines ms ++ y → IsCut ls ms x y) → IsCut (l ∷ ls) (m ∷ ms) x y
cut-more l m ls ms x y a b e go =
    let both = cut-one l m (text_of_lines ls ++ x) (text_of_lines ms ++ y) a b (sym (onto l (text_of_lines ls) x) ∙ e ∙ onto m (text_of_lines ms) y) in
    let r = go both.1 in
    record {
      more = r.more;
      lines = ap (λ k. k ∷ ms) (sym both.0) ∙ ap (λ k. l ∷ k) r.lines;
      rest = r.rest;
    }

pub cut-short : (ls ms : List (List ℕ)) (x y : List ℕ) → AllByRecursion NoFeed ls → AllByRecursion NoFeed ms → length ls ≤ length ms → text_of_lines ls ++ x ≡ text_of_lines ms ++ y → IsCut ls ms x y
cut-short [] ms x y a b le e = record { more = ms; lines = refl; rest = e }
cut-short (l ∷ ls) [] x y a b le e = absurd (omega (arith, le))
cut-short (l ∷ ls) (m ∷ ms) x y a b le e = cut-more l m ls ms x y a.0 b.0 e (cut-short ls ms x y a.1 b.1 (omega (arith, le)))

pub cut-lines : (ls ms : List (List ℕ)) (x : List ℕ) → AllByRecursion NoFeed ls → AllByRecursion NoFeed ms → text_of_lines ls ++ x ≡ text_of_lines ms ++ [] → IsCut ls ms x []
cut-lines [] ms x a b e = record { more = ms; lines = refl; rest = e }
cut-lines (l ∷ ls) [] x a b e = absurd (not-empty l 10 (text_of_lines ls ++ x) (sym (onto l (text_of_lines ls) x) ∙ e))
cut-lines (l ∷ ls) (m ∷ ms) x a b e = cut-more l m ls ms x [] a.0 b.0 e (cut-lines ls ms x a.1 b.1)

-- ---- texts of lists of lines

pub text-append : (xs ys : List (List ℕ)) → text_of_lines (xs ++ ys) ≡ text_of_lines xs ++ text_of_lines ys
text-append xs ys = flat_map-append (λ line. line ++ codes "\n") xs ys

pub text-push : (xs : List (List ℕ)) (line : List ℕ) → text_of_lines (xs ++ line ∷ []) ≡ text_of_lines xs ++ (line ++ 10 ∷ [])
text-push xs line = text-append xs (line ∷ []) ∙ ap (λ t. text_of_lines xs ++ t) (append-nil (line ++ 10 ∷ []))

pub no-lines : (xs : List (List ℕ)) → [] ≡ text_of_lines xs ++ [] → xs ≡ []
no-lines [] e = refl
no-lines (x ∷ xs) e = absurd (not-empty x 10 (text_of_lines xs ++ []) (sym (onto x (text_of_lines xs) []) ∙ sym e))

-- one more line behind lines
pub text-more : (text rest line after : List ℕ) (front : List (List ℕ)) → text ≡ text_of_lines front ++ rest → rest ≡ line ++ 10 ∷ after → text ≡ text_of_lines (front ++ line ∷ []) ++ after
text-more text rest line after front split e =
    split ∙ ap (λ t. text_of_lines front ++ t) (e ∙ sym (append_assoc line (10 ∷ []) after)) ∙ sym (append_assoc (text_of_lines front) (line ++ 10 ∷ []) after)
    ∙ ap (λ t. t ++ after) (sym (text-push front line))

-- the first of some lines
pub text-first : (line after : List ℕ) → line ++ 10 ∷ after ≡ text_of_lines (line ∷ []) ++ after
text-first line after = sym (append_assoc line (10 ∷ []) after) ∙ ap (λ t. t ++ after) (sym (append-nil (line ++ 10 ∷ [])))
