-- What the readers of single lines answer, and that each line says one thing.
use Rattle.std.proofs.Common.{◌≡◌, ℕ, ◌^◌, ◌<◌, ◌==◌, true, false, List, ◌∷◌, ◌++◌, get_or, drop, refl, ap, ◌∙◌, sym, arith}
use Rattle.std.specs.Prelude.{codes}
use Rattle.std.specs.Fmt.{decimal}
use Rattle.std.proofs.lemmas.Bool.{false≢true}
use Rattle.std.proofs.lemmas.Fmt.{decimal_injective}
use Rattle.pv_log.specs.declared.line.Line.{Line}
use Rattle.pv_log.specs.LineText.{line_text, HasText, Spells}
use Rattle.pv_log.proofs.ForCallers.{one-line}
use Rattle.pv_claims.specs.Lines.{NoFeed}
use Rattle.pv_claims.proofs.ForCallers.{cut-one, no-feed}
use Rattle.pv_cert.specs.declared.proof.Query.{Query}
use Rattle.pv_cert.specs.declared.proof.Query.TheVariants.{Base, Step}
use Rattle.pv_cert.specs.CertificateText.{query_line, QueryFits}

-- ---- lines of any kind

-- there is no line
pub no-line : {X : Type 0} (Has : X → Type 0) (line_of : X → List ℕ) (text : List ℕ) → NoFeed text → (x : X) (after : List ℕ) → Has x → text ≡ line_of x ++ 10 ∷ after → ⊥
no-line Has line_of text plain x after h e = no-feed text (line_of x) after plain e

-- the line is another one
pub other-line : {X : Type 0} (Has : X → Type 0) (line_of : X → List ℕ) → ((x : X) → Has x → NoFeed (line_of x)) → (text line behind : List ℕ) → NoFeed line → text ≡ line ++ 10 ∷ behind
    → ((x : X) → Has x → line ≡ line_of x → ⊥) → (x : X) (after : List ℕ) → Has x → text ≡ line_of x ++ 10 ∷ after → ⊥
other-line Has line_of feedless text line behind plain e never x after h f = never x h (cut-one line (line_of x) behind after plain (feedless x h) (sym e ∙ f)).0

pub that-line : {X : Type 0} (Has : X → Type 0) (line_of : X → List ℕ) (text line behind : List ℕ) (x : X) → text ≡ line ++ 10 ∷ behind → Has x × (line ≡ line_of x) → Has x × (text ≡ line_of x ++ 10 ∷ behind)
that-line Has line_of text line behind x e h = (h.0, e ∙ ap (λ l. l ++ 10 ∷ behind) h.1)

-- ---- queries

pub no-query : (text : List ℕ) → ((n : ℕ) → n < 2 ^ 32 → text ≡ codes "query base " ++ decimal n → ⊥) → ((n : ℕ) → n < 2 ^ 32 → text ≡ codes "query step " ++ decimal n → ⊥)
    → (query : Query) → QueryFits query → text ≡ query_line query → ⊥
no-query text base step (Base k) fits e = base k fits e
no-query text base step (Step k) fits e = step k fits e

pub same-number : (m n : ℕ) → m < 2 ^ 32 → n < 2 ^ 32 → decimal m ≡ decimal n → m ≡ n
same-number m n a b e = decimal_injective m n (omega (arith, a)) (omega (arith, b)) e

base-or-step : (x y : List ℕ) → codes "query base " ++ x ≡ codes "query step " ++ y → ⊥
base-or-step x y e = (let differ : true ≡ false = ap (λ l. get_or l 6 0 == 98) e in false≢true (sym differ))

pub same-query : (p q : Query) → QueryFits p → QueryFits q → query_line p ≡ query_line q → p ≡ q
same-query (Base m) (Base n) a b e = ap (λ k. Base k) (same-number m n a b (ap (drop 11) e))
same-query (Base m) (Step n) a b e = absurd (base-or-step (decimal m) (decimal n) e)
same-query (Step m) (Base n) a b e = absurd (base-or-step (decimal n) (decimal m) (sym e))
same-query (Step m) (Step n) a b e = ap (λ k. Step k) (same-number m n a b (ap (drop 11) e))

-- a line that doesn't begin as a query's is none
pub begins-not : (line : List ℕ) (q : Query) → (get_or line 0 0 == 113) ≡ false → line ≡ query_line q → ⊥
begins-not line (Base n) other e = false≢true (sym other ∙ ap (λ l. get_or l 0 0 == 113) e)
begins-not line (Step n) other e = false≢true (sym other ∙ ap (λ l. get_or l 0 0 == 113) e)

-- ---- lines of a log

pub same-lemma : (a b : Line) → HasText a → HasText b → line_text a ≡ line_text b → a ≡ b
same-lemma a b h k e = one-line (line_text a) a b (record { valid = h; text = refl }) (record { valid = k; text = e })

pub lemma-never : (text : List ℕ) → ((l : Line) → Spells text l → ⊥) → (l : Line) → HasText l → text ≡ line_text l → ⊥
lemma-never text never l h e = never l (record { valid = h; text = e })

pub spelled : (text : List ℕ) (l : Line) → Spells text l → HasText l × (text ≡ line_text l)
spelled text l s = (s.valid, s.text)
