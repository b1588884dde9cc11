-- The head of a certificate. A claim is told by its word and its number (`made_of`), so that no two claims are compared case by case.
use Rattle.std.proofs.Common.{◌≡◌, ℕ, ◌^◌, ◌<◌, ◌==◌, cond, List, [], ◌∷◌, ◌++◌, length, get_or, append_assoc, append-nil, refl, ap, subst, ◌∙◌, sym, arith, Option, Some, None}
use Rattle.std.specs.Prelude.{codes, IfNone}
use Rattle.std.specs.List.{AllByRecursion}
use Rattle.std.specs.Fmt.{decimal}
use Rattle.std.proofs.lemmas.Fmt.{decimal_injective, decimal_digit}
use Rattle.pv_claims.specs.declared.claim.Claim.{Claim}
use Rattle.pv_claims.specs.declared.claim.Claim.TheVariants.{Satisfied, Unreachable, Violated, Trapped, Reached, Depth, Loop, Lemmas, Region}
use Rattle.pv_claims.specs.Words.{NoBlank}
use Rattle.pv_claims.specs.Lines.{text_of_lines, NoFeed, StuckAt}
use Rattle.pv_claims.specs.Heads.{claim_text, verdict_line, head_lines, ClaimFits}
use Rattle.pv_claims.proofs.LineLaws.{plain, feedless-append, feedless-decimal, head, tail, cut-one, no-feed, text-first}
use Rattle.pv_claims.proofs.WordLaws.{cut-word}
use Rattle.pv_claims.proofs.NumberLaws.{cancel}
use Rattle.pv_claims.proofs.PartLaws.{IsOne, one-then}

-- ---- a claim by its word and its number

abbrev word_of : Claim → List ℕ
word_of (Satisfied k) = codes "satisfied"
word_of (Unreachable k) = codes "unreachable"
word_of (Violated n) = codes "violated"
word_of (Trapped n) = codes "trapped"
word_of (Reached n) = codes "reached"
word_of (Depth k) = codes "depth"
word_of (Loop n) = codes "loop"
word_of (Lemmas b) = codes "lemmas"
word_of (Region x) = codes "region"

abbrev number_of : Claim → ℕ
number_of (Satisfied k) = k
number_of (Unreachable k) = k
number_of (Violated n) = n
number_of (Trapped n) = n
number_of (Reached n) = n
number_of (Depth k) = k
number_of (Loop n) = n
number_of (Lemmas b) = b
number_of (Region x) = x

-- by the first letter, then by the second or the third
abbrev made_of : List ℕ → ℕ → Claim
made_of word n =
    cond (get_or word 0 0 == 115) (Satisfied n)
    (cond (get_or word 0 0 == 117) (Unreachable n)
    (cond (get_or word 0 0 == 118) (Violated n)
    (cond (get_or word 0 0 == 116) (Trapped n)
    (cond (get_or word 0 0 == 100) (Depth n)
    (cond (get_or word 0 0 == 108) (cond (get_or word 1 0 == 111) (Loop n) (Lemmas n))
    (cond (get_or word 2 0 == 97) (Reached n) (Region n)))))))

made-again : (c : Claim) → made_of (word_of c) (number_of c) ≡ c
made-again (Satisfied k) = refl
made-again (Unreachable k) = refl
made-again (Violated n) = refl
made-again (Trapped n) = refl
made-again (Reached n) = refl
made-again (Depth k) = refl
made-again (Loop n) = refl
made-again (Lemmas b) = refl
made-again (Region x) = refl

in-words : (c : Claim) → claim_text c ≡ word_of c ++ 32 ∷ decimal (number_of c)
in-words (Satisfied k) = refl
in-words (Unreachable k) = refl
in-words (Violated n) = refl
in-words (Trapped n) = refl
in-words (Reached n) = refl
in-words (Depth k) = refl
in-words (Loop n) = refl
in-words (Lemmas b) = refl
in-words (Region x) = refl

blankless : (c : Claim) → NoBlank (word_of c)
blankless (Satisfied k) = search arith
blankless (Unreachable k) = search arith
blankless (Violated n) = search arith
blankless (Trapped n) = search arith
blankless (Reached n) = search arith
blankless (Depth k) = search arith
blankless (Loop n) = search arith
blankless (Lemmas b) = search arith
blankless (Region x) = search arith

word-plain : (c : Claim) → NoFeed (word_of c)
word-plain (Satisfied k) = plain (codes "satisfied") refl
word-plain (Unreachable k) = plain (codes "unreachable") refl
word-plain (Violated n) = plain (codes "violated") refl
word-plain (Trapped n) = plain (codes "trapped") refl
word-plain (Reached n) = plain (codes "reached") refl
word-plain (Depth k) = plain (codes "depth") refl
word-plain (Loop n) = plain (codes "loop") refl
word-plain (Lemmas b) = plain (codes "lemmas") refl
word-plain (Region x) = plain (codes "region") refl

number-fits : (c : Claim) → ClaimFits c → number_of c < 2 ^ 64
number-fits (Satisfied k) h = omega (arith, h)
number-fits (Unreachable k) h = omega (arith, h)
number-fits (Violated n) h = omega (arith, h)
number-fits (Trapped n) h = omega (arith, h)
number-fits (Reached n) h = omega (arith, h)
number-fits (Depth k) h = omega (arith, h)
number-fits (Loop n) h = omega (arith, h)
number-fits (Lemmas b) h = omega (arith, h)
number-fits (Region x) h = h

-- words are those of one claim
pub one-claim : (c d : Claim) → ClaimFits c → ClaimFits d → verdict_line c ≡ verdict_line d → c ≡ d
one-claim c d hc hd e =
    let words : word_of c ++ 32 ∷ decimal (number_of c) ≡ word_of d ++ 32 ∷ decimal (number_of d) = sym (in-words c) ∙ cancel (codes "verdict ") (claim_text c) (claim_text d) e ∙ in-words d in
    let cut = cut-word (word_of c) (word_of d) (32 ∷ decimal (number_of c)) (32 ∷ decimal (number_of d)) (blankless c) (blankless d) refl refl words in
    let number = decimal_injective (number_of c) (number_of d) (number-fits c hc) (number-fits d hd) (tail 32 32 (decimal (number_of c)) (decimal (number_of d)) cut.1) in
    sym (made-again c) ∙ ap (λ w. made_of w (number_of c)) cut.0 ∙ ap (made_of (word_of d)) number ∙ made-again d

pub verdict-plain : (c : Claim) → ClaimFits c → NoFeed (verdict_line c)
verdict-plain c h =
    let words = feedless-append (word_of c) (32 ∷ decimal (number_of c)) (word-plain c) ((λ e. omega (arith, e)), feedless-decimal (number_of c) (number-fits c h)) in
    feedless-append (codes "verdict ") (claim_text c) (plain (codes "verdict ") refl) (subst NoFeed (sym (in-words c)) words)

-- ---- what the readers of lines answer

pub no-claim : (words : List ℕ)
    → ((n : ℕ) → n < 2 ^ 32 → words ≡ codes "satisfied " ++ decimal n → ⊥)
    → ((n : ℕ) → n < 2 ^ 32 → words ≡ codes "unreachable " ++ decimal n → ⊥)
    → ((n : ℕ) → n < 2 ^ 32 → words ≡ codes "violated " ++ decimal n → ⊥)
    → ((n : ℕ) → n < 2 ^ 32 → words ≡ codes "trapped " ++ decimal n → ⊥)
    → ((n : ℕ) → n < 2 ^ 32 → words ≡ codes "reached " ++ decimal n → ⊥)
    → ((n : ℕ) → n < 2 ^ 32 → words ≡ codes "loop " ++ decimal n → ⊥)
    → ((n : ℕ) → n < 2 ^ 32 → words ≡ codes "depth " ++ decimal n → ⊥)
    → ((n : ℕ) → n < 2 ^ 32 → words ≡ codes "lemmas " ++ decimal n → ⊥)
    → ((n : ℕ) → n < 2 ^ 64 → words ≡ codes "region " ++ decimal n → ⊥)
    → (c : Claim) → ClaimFits c → words ≡ claim_text c → ⊥
no-claim words s u v t r l d m x (Satisfied k) fits e = s k fits e
no-claim words s u v t r l d m x (Unreachable k) fits e = u k fits e
no-claim words s u v t r l d m x (Violated n) fits e = v n fits e
no-claim words s u v t r l d m x (Trapped n) fits e = t n fits e
no-claim words s u v t r l d m x (Reached n) fits e = r n fits e
no-claim words s u v t r l d m x (Depth k) fits e = d k fits e
no-claim words s u v t r l d m x (Loop n) fits e = l n fits e
no-claim words s u v t r l d m x (Lemmas b) fits e = m b fits e
no-claim words s u v t r l d m x (Region y) fits e = x y fits e

pub verdict-none : (line words : List ℕ) (o : Option Claim) → line ≡ codes "verdict " ++ words → IfNone o ((c : Claim) → ClaimFits c → words ≡ claim_text c → ⊥) → IfNone o ((c : Claim) → ClaimFits c → line ≡ verdict_line c → ⊥)
verdict-none line words None e never = λ c fits f. never c fits (cancel (codes "verdict ") words (claim_text c) (sym e ∙ f))
verdict-none line words (Some c) e never = tt

pub no-verdict-line : (text : List ℕ) → NoFeed text → (c : Claim) (after : List ℕ) → ClaimFits c → text ≡ verdict_line c ++ 10 ∷ after → ⊥
no-verdict-line text plain c after fits e = no-feed text (verdict_line c) after plain e

pub other-verdict : (text line behind : List ℕ) → NoFeed line → text ≡ line ++ 10 ∷ behind → ((c : Claim) → ClaimFits c → line ≡ verdict_line c → ⊥) → (c : Claim) (after : List ℕ) → ClaimFits c → text ≡ verdict_line c ++ 10 ∷ after → ⊥
other-verdict text line behind plain e never c after fits f = never c fits (cut-one line (verdict_line c) behind after plain (verdict-plain c fits) (sym e ∙ f)).0

-- ---- the head

pub head-plain : (c : Claim) → ClaimFits c → AllByRecursion NoFeed (head_lines c)
head-plain c h = (plain (codes "PLCVCERT 1") refl, (verdict-plain c h, tt))

pub head-read : (text rest after : List ℕ) (c : Claim) → text ≡ codes "PLCVCERT 1\n" ++ rest → rest ≡ verdict_line c ++ 10 ∷ after → text ≡ text_of_lines (head_lines c) ++ after
head-read text rest after c e f = e ∙ ap (λ t. codes "PLCVCERT 1\n" ++ t) (f ∙ text-first (verdict_line c) after)

-- line 1 isn't the format's
pub head-stuck-first : (text : List ℕ) → ((rest : List ℕ) → text ≡ codes "PLCVCERT 1\n" ++ rest → ⊥) → StuckAt Claim ClaimFits head_lines text (length text)
head-stuck-first text never =
    record {
      before = [];
      rest = text;
      split = refl;
      whole = tt;
      size = refl;
      some = Satisfied 0;
      has = omega arith;
      next = codes "PLCVCERT 1";
      more = verdict_line (Satisfied 0) ∷ [];
      goes_on = refl;
      stuck = λ line after plain e c others has is. never after (e ∙ ap (λ l. l ++ 10 ∷ after) (sym (head (codes "PLCVCERT 1") line (verdict_line c ∷ []) others is)));
    }

-- line 2 is no verdict
pub head-stuck-second : (text rest : List ℕ) → text ≡ codes "PLCVCERT 1\n" ++ rest → ((c : Claim) (after : List ℕ) → ClaimFits c → rest ≡ verdict_line c ++ 10 ∷ after → ⊥)
    → StuckAt Claim ClaimFits head_lines text (length rest)
head-stuck-second text rest e never =
    record {
      before = codes "PLCVCERT 1" ∷ [];
      rest = rest;
      split = e;
      whole = (plain (codes "PLCVCERT 1") refl, tt);
      size = refl;
      some = Satisfied 0;
      has = omega arith;
      next = verdict_line (Satisfied 0);
      more = [];
      goes_on = refl;
      stuck = λ line after clean f c others has is.
          never c after has (f ∙ ap (λ l. l ++ 10 ∷ after) (sym (head (verdict_line c) line [] others (tail (codes "PLCVCERT 1") (codes "PLCVCERT 1") (verdict_line c ∷ []) (line ∷ others) is))));
    }

pub head-one : IsOne Claim ClaimFits head_lines
head-one c d ls ms hc hd e =
    let rest = tail (codes "PLCVCERT 1") (codes "PLCVCERT 1") (verdict_line c ∷ ls) (verdict_line d ∷ ms) e in
    one-then Claim head_lines c d ls ms (one-claim c d hc hd (head (verdict_line c) (verdict_line d) ls ms rest)) e

-- ---- writing

pub head-written : (old front words new : List ℕ) (c : Claim) → front ≡ old ++ codes "PLCVCERT 1\nverdict " → words ≡ front ++ claim_text c → new ≡ words ++ 10 ∷ [] → new ≡ old ++ text_of_lines (head_lines c)
head-written old front words new c e f g =
    g ∙ ap (λ t. t ++ 10 ∷ []) (f ∙ ap (λ t. t ++ claim_text c) e) ∙ ap (λ t. t ++ 10 ∷ []) (append_assoc old (codes "PLCVCERT 1\nverdict ") (claim_text c))
    ∙ append_assoc old (codes "PLCVCERT 1\nverdict " ++ claim_text c) (10 ∷ []) ∙ ap (λ t. old ++ (codes "PLCVCERT 1\nverdict " ++ t)) (sym (append-nil (claim_text c ++ 10 ∷ [])))

pub verdict-zero : verdict_line (Satisfied 0) ≡ codes "verdict satisfied 0"
verdict-zero = ap (λ t. codes "verdict satisfied " ++ t) (decimal_digit 0 (omega arith))
