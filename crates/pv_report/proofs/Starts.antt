-- Where lines begin, along a text, and the last of some places.
use Rattle.std.proofs.Common.{◌≡◌, ℕ, suc, ◌+◌, ◌<◌, ◌≤◌, ◌==◌, List, [], ◌∷◌, ◌++◌, length, take, drop, get_or, filter, length-append, append-nil, Bool, true, false, cond, refl, sym, ap, ◌∙◌, arith}
use Rattle.std.specs.Prelude.{nat_le}
use Rattle.std.proofs.Math.Seq.{take-suc}
use Rattle.std.proofs.lemmas.List.{drop_more, length-take}
use Rattle.std.proofs.lemmas.List.Elements.{filter-append}
use Rattle.std.proofs.lemmas.Bool.{le-leb, lt-leb, eqb-true}
use Rattle.pv_report.specs.Places.{starts_behind, begun_at, last_of}

-- ---- along the bytes

abbrev by_feed : Bool → ℕ → List ℕ → List ℕ
by_feed feed before more = elim feed [
  | true ↦ (before + 1) ∷ starts_behind (before + 1) more
  | false ↦ starts_behind (before + 1) more
]

starts_more : (bytes : List ℕ) (i d : ℕ) → i < length bytes → (feed : Bool) → (get_or bytes i d == 10) ≡ feed
    → starts_behind i (drop i bytes) ≡ by_feed feed i (drop (i + 1) bytes)
starts_more bytes i d lt feed is =
    ap (λ l. starts_behind i l) (drop_more bytes i d lt) ∙ ap (λ b. by_feed b i (drop (i + 1) bytes)) is

pub starts_yes : (bytes : List ℕ) (i d : ℕ) → i < length bytes → get_or bytes i d ≡ 10
    → starts_behind i (drop i bytes) ≡ (i + 1) ∷ starts_behind (i + 1) (drop (i + 1) bytes)
starts_yes bytes i d lt is = starts_more bytes i d lt true (ap (λ b. b == 10) is)

pub starts_no : (bytes : List ℕ) (i d : ℕ) → i < length bytes → (get_or bytes i d ≡ 10 → ⊥)
    → starts_behind i (drop i bytes) ≡ starts_behind (i + 1) (drop (i + 1) bytes)
starts_no bytes i d lt isnt = lead (get_or bytes i d == 10) refl
  where
    lead : (feed : Bool) → (get_or bytes i d == 10) ≡ feed → starts_behind i (drop i bytes) ≡ starts_behind (i + 1) (drop (i + 1) bytes)
    lead true is = absurd (isnt (eqb-true (get_or bytes i d) 10 is))
    lead false is = starts_more bytes i d lt false is

-- ---- along the starts

take_more : (xs : List ℕ) (i d : ℕ) → i < length xs → take (i + 1) xs ≡ take i xs ++ get_or xs i d ∷ []
take_more xs i d lt =
    let e : i + 1 ≡ suc i = omega arith in
    ap (λ n. take n xs) e ∙ take-suc xs i d lt

abbrev one_by : Bool → ℕ → List ℕ
one_by b x = cond b (x ∷ []) []

begun_more : (offset : ℕ) (starts : List ℕ) (i d : ℕ) → i < length starts
    → begun_at offset (take (i + 1) starts)
    ≡ begun_at offset (take i starts) ++ one_by (nat_le (get_or starts i d) offset) (get_or starts i d)
begun_more offset starts i d lt =
    ap (λ xs. begun_at offset xs) (take_more starts i d lt)
    ∙ filter-append (λ start. nat_le start offset) (take i starts) (get_or starts i d ∷ [])

pub begun_more_yes : (offset : ℕ) (starts : List ℕ) (i d : ℕ) → i < length starts → get_or starts i d ≤ offset
    → begun_at offset (take (i + 1) starts) ≡ begun_at offset (take i starts) ++ get_or starts i d ∷ []
begun_more_yes offset starts i d lt le =
    begun_more offset starts i d lt
    ∙ ap (λ b. begun_at offset (take i starts) ++ one_by b (get_or starts i d)) (le-leb (get_or starts i d) offset le)

pub begun_more_no : (offset : ℕ) (starts : List ℕ) (i d : ℕ) → i < length starts → offset < get_or starts i d
    → begun_at offset (take (i + 1) starts) ≡ begun_at offset (take i starts)
begun_more_no offset starts i d lt gt =
    begun_more offset starts i d lt
    ∙ ap (λ b. begun_at offset (take i starts) ++ one_by b (get_or starts i d)) (lt-leb (get_or starts i d) offset gt)
    ∙ append-nil (begun_at offset (take i starts))

-- ---- lengths and lasts

filter_short : (p : ℕ → Bool) (xs : List ℕ) → length (filter p xs) ≤ length xs
filter_short p [] = omega arith
filter_short p (x ∷ xs) = lead (p x) (filter_short p xs)
  where
    lead : (b : Bool) → length (filter p xs) ≤ length xs → length (cond b (x ∷ filter p xs) (filter p xs)) ≤ suc (length xs)
    lead true le = omega (arith, le)
    lead false le = omega (arith, le)

take_short : (xs : List ℕ) (i : ℕ) → length (take i xs) ≤ length xs
take_short xs i = grind (arith, length-take i xs)

pub begun_short : (offset : ℕ) (starts : List ℕ) (i : ℕ) → length (begun_at offset (take i starts)) ≤ length starts
begun_short offset starts i =
    omega (arith, filter_short (λ start. nat_le start offset) (take i starts), take_short starts i)

pub one_longer : (xs : List ℕ) (x : ℕ) → length xs + 1 ≡ length (xs ++ x ∷ [])
one_longer xs x = sym (length-append xs (x ∷ []))

-- the last of places is the one that comes last
pub last_is : (xs : List ℕ) (x : ℕ) → last_of (xs ++ x ∷ []) ≡ x
last_is [] x = refl
last_is (y ∷ []) x = refl
last_is (y ∷ z ∷ more) x = last_is (z ∷ more) x
