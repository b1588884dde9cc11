-- The lines of traces: they have no line feed, and a text has one way to be cut into them.
use Rattle.std.proofs.Common.{◌≡◌, ℕ, ◌≤◌, ℤ, List, [], ◌∷◌, ◌++◌, length, get_or, drop, map, append_assoc, append-nil, refl, ap, sym, ◌∙◌, arith}
use Rattle.std.specs.Prelude.{codes, ◌==◌, true, false}
use Rattle.std.specs.List.{AllByRecursion}
use Rattle.std.proofs.lemmas.Bool.{false≢true}
use Rattle.std.proofs.lemmas.Grind.{flat_map-append}
use Rattle.pv_claims.specs.declared.trace.Trace.{Trace}
use Rattle.pv_claims.specs.Lines.{text_of_lines, NoFeed}
use Rattle.pv_claims.proofs.ForCallers.{cut-one}
use Rattle.pv_trace.specs.TraceText.{value_text, values_text, params_line, scan_line, trace_lines, Bounds, AreBetween, IsRange, IsTrace}
use Rattle.pv_trace.proofs.Words.{short, no-feed}

-- ---- no line feed

all-append : {X : Type 0} (P : X → Type 0) (xs ys : List X) → AllByRecursion P xs → AllByRecursion P ys → AllByRecursion P (xs ++ ys)
all-append P [] ys a b = b
all-append P (x ∷ xs) ys a b = (a.0, all-append P xs ys a.1 b)

values-plain : (ranges : List Bounds) (values : List ℤ) → AllByRecursion IsRange ranges → AreBetween ranges values → NoFeed (values_text values)
values-plain ranges [] are within = tt
values-plain [] (v ∷ values) are within = absurd within
values-plain (r ∷ ranges) (v ∷ values) are within =
    all-append (λ byte. byte ≡ 10 → ⊥) (value_text v) (values_text values) ((λ e. omega (arith, e)), no-feed v (short r v are.0 within.0)) (values-plain ranges values are.1 within.1)

pub head-plain : NoFeed (codes "PLCVTRACE 1")
head-plain = search arith

end-plain : NoFeed (codes "end")
end-plain = search arith

pub params-plain : (ranges : List Bounds) (values : List ℤ) → AllByRecursion IsRange ranges → AreBetween ranges values → NoFeed (params_line values)
params-plain ranges values are within = all-append (λ byte. byte ≡ 10 → ⊥) (codes "params") (values_text values) (search arith) (values-plain ranges values are within)

scan-plain : (ranges : List Bounds) (values : List ℤ) → AllByRecursion IsRange ranges → AreBetween ranges values → NoFeed (scan_line values)
scan-plain ranges values are within = all-append (λ byte. byte ≡ 10 → ⊥) (codes "scan") (values_text values) (search arith) (values-plain ranges values are within)

pub scans-plain : (ranges : List Bounds) (scans : List (List ℤ)) → AllByRecursion IsRange ranges → AllByRecursion (AreBetween ranges) scans → AllByRecursion NoFeed (map scan_line scans)
scans-plain ranges [] are within = tt
scans-plain ranges (s ∷ scans) are within = (scan-plain ranges s are within.0, scans-plain ranges scans are within.1)

pub with-end : (ranges : List Bounds) (scans : List (List ℤ)) → AllByRecursion IsRange ranges → AllByRecursion (AreBetween ranges) scans → AllByRecursion NoFeed (map scan_line scans ++ codes "end" ∷ [])
with-end ranges scans are within = all-append NoFeed (map scan_line scans) (codes "end" ∷ []) (scans-plain ranges scans are within) (end-plain, tt)

pub lines-plain : (params inputs : List Bounds) (t : Trace) → AllByRecursion IsRange params → AllByRecursion IsRange inputs → IsTrace params inputs t → AllByRecursion NoFeed (trace_lines t)
lines-plain params inputs t p i is = (head-plain, (params-plain params t.params p is.params_within, with-end inputs t.inputs i is.inputs_within))

-- ---- a text has one way to be cut into lines

pub onto : (line text rest : List ℕ) → ((line ++ 10 ∷ []) ++ text) ++ rest ≡ line ++ 10 ∷ (text ++ rest)
onto line text rest = append_assoc (line ++ 10 ∷ []) text rest ∙ append_assoc line (10 ∷ []) (text ++ rest)

not-empty : (line rest : List ℕ) → line ++ 10 ∷ rest ≡ [] → ⊥
not-empty [] rest e = cc
not-empty (x ∷ xs) rest e = cc

-- the lines of a text begin with those of a front
pub record IsCut (ls ms : List (List ℕ)) (x y : List ℕ) : Type 0 where
  pub more : List (List ℕ)
  pub lines : ms ≡ ls ++ more
  pub rest : x ≡ text_of_lines more ++ y

cut-more : (l m : List ℕ) (ls ms : List (List ℕ)) (x y : List ℕ) → NoFeed l → NoFeed m → text_of_lines (l ∷ ls) ++ x ≡ text_of_lines (m ∷ ms) ++ y → (text_of_lines ls ++ x ≡ text_of_lines ms ++ y → IsCut ls ms x y) → IsCut (l ∷ ls) (m ∷ ms) x y
cut-more l m ls ms x y a b e go =
    let both = cut-one l m (text_of_lines ls ++ x) (text_of_lines ms ++ y) a b (sym (onto l (text_of_lines ls) x) ∙ e ∙ onto m (text_of_lines ms) y) in
    let r = go both.1 in
    record {
      more = r.more;
      lines = ap (λ k. k ∷ ms) (sym both.0) ∙ ap (λ k. l ∷ k) r.lines;
      rest = r.rest;
    }

pub cut-short : (ls ms : List (List ℕ)) (x y : List ℕ) → AllByRecursion NoFeed ls → AllByRecursion NoFeed ms → length ls ≤ length ms → text_of_lines ls ++ x ≡ text_of_lines ms ++ y → IsCut ls ms x y
cut-short [] ms x y a b le e = record { more = ms; lines = refl; rest = e }
cut-short (l ∷ ls) [] x y a b le e = absurd (omega (arith, le))
cut-short (l ∷ ls) (m ∷ ms) x y a b le e = cut-more l m ls ms x y a.0 b.0 e (cut-short ls ms x y a.1 b.1 (omega (arith, le)))

pub cut-whole : (ls ms : List (List ℕ)) (x : List ℕ) → AllByRecursion NoFeed ls → AllByRecursion NoFeed ms → text_of_lines ls ++ x ≡ text_of_lines ms ++ [] → IsCut ls ms x []
cut-whole [] ms x a b e = record { more = ms; lines = refl; rest = e }
cut-whole (l ∷ ls) [] x a b e = absurd (not-empty l (text_of_lines ls ++ x) (sym (onto l (text_of_lines ls) x) ∙ e))
cut-whole (l ∷ ls) (m ∷ ms) x a b e = cut-more l m ls ms x [] a.0 b.0 e (cut-whole ls ms x a.1 b.1)

pub no-lines : (xs : List (List ℕ)) → [] ≡ text_of_lines xs ++ [] → xs ≡ []
no-lines [] e = refl
no-lines (x ∷ xs) e = absurd (not-empty x (text_of_lines xs ++ []) (sym (onto x (text_of_lines xs) []) ∙ sym e))

pub text-append : (xs ys : List (List ℕ)) → text_of_lines (xs ++ ys) ≡ text_of_lines xs ++ text_of_lines ys
text-append xs ys = flat_map-append (λ line. line ++ codes "\n") xs ys

pub text-push : (xs : List (List ℕ)) (line : List ℕ) → text_of_lines (xs ++ line ∷ []) ≡ text_of_lines xs ++ (line ++ 10 ∷ [])
text-push xs line = text-append xs (line ∷ []) ∙ ap (λ t. text_of_lines xs ++ t) (append-nil (line ++ 10 ∷ []))

-- ---- the lines of scans and the end

pub first-of : {A : Type 0} (d x y : A) (xs ys : List A) → x ∷ xs ≡ y ∷ ys → x ≡ y
first-of d x y xs ys e = ap (λ l. get_or l 0 d) e

pub tail-of : {A : Type 0} (x y : A) (xs ys : List A) → x ∷ xs ≡ y ∷ ys → xs ≡ ys
tail-of x y xs ys e = ap (drop 1) e

pub no-scan : (values : List ℤ) → codes "end" ≡ scan_line values → ⊥
no-scan values e = let differ : true ≡ false = ap (λ l. get_or l 0 0 == 101) e in absurd (false≢true (sym differ))
