-- Places by where lines begin, and by a file's bytes.
use Rattle.std.proofs.Common.{◌≡◌, ℕ, zero, suc, ◌+◌, ◌-◌, ◌<◌, ◌≤◌, ◌==◌, List, [], ◌∷◌, ◌++◌, length, take, get_or, append-nil, Bool, true, false, not, cond, refl, sym, ap, subst, ◌∙◌, arith}
use Rattle.std.specs.Prelude.{count_by}
use Rattle.std.specs.List.{suffix_len}
use Rattle.std.proofs.lemmas.Bool.{le-leb, lt-leb}
use Rattle.std.proofs.lemmas.List.Sums.{count_by_more_yes, count_by_more_no, suffix_len-take_yes, suffix_len-take_no}
use Rattle.pv_report.specs.Places.{starts_behind, line_starts, begun_at, last_of}
use Rattle.pv_report.proofs.Starts.{one_longer, last_is}

abbrev is_feed : ℕ → Bool
is_feed byte = byte == 10

-- ---- the lines that begin at most one place further on

abbrev first_by : Bool → ℕ → ℕ → List ℕ → List ℕ
first_by b offset start more = cond b (start ∷ begun_at offset more) (begun_at offset more)

begun_first : (offset start : ℕ) (more : List ℕ) → start ≤ offset → begun_at offset (start ∷ more) ≡ start ∷ begun_at offset more
begun_first offset start more le = ap (λ b. first_by b offset start more) (le-leb start offset le)

begun_later : (offset start : ℕ) (more : List ℕ) → offset < start → begun_at offset (start ∷ more) ≡ begun_at offset more
begun_later offset start more gt = ap (λ b. first_by b offset start more) (lt-leb start offset gt)

abbrev behind_by : Bool → ℕ → List ℕ → List ℕ
behind_by feed before more = elim feed [
  | true ↦ (before + 1) ∷ starts_behind (before + 1) more
  | false ↦ starts_behind (before + 1) more
]

-- none begins before the text
none_begun : (offset before : ℕ) (bytes : List ℕ) → offset ≤ before → begun_at offset (starts_behind before bytes) ≡ []
none_begun offset before [] le = refl
none_begun offset before (byte ∷ bytes) le = lead (is_feed byte) (none_begun offset (before + 1) bytes (omega (arith, le)))
  where
    lead : (feed : Bool) → begun_at offset (starts_behind (before + 1) bytes) ≡ [] → begun_at offset (behind_by feed before bytes) ≡ []
    lead true none = begun_later offset (before + 1) (starts_behind (before + 1) bytes) (omega (arith, le)) ∙ none
    lead false none = none

-- one place further on a line begins behind a line feed, and else none does
abbrev one_if : Bool → ℕ → List ℕ
one_if feed start = cond feed (start ∷ []) []

begun_next : (before : ℕ) (bytes : List ℕ) (k d : ℕ) → k < length bytes
    → begun_at (before + k + 1) (starts_behind before bytes)
    ≡ begun_at (before + k) (starts_behind before bytes) ++ one_if (is_feed (get_or bytes k d)) (before + k + 1)
begun_next before [] k d lt = absurd (omega (arith, lt))
begun_next before (byte ∷ bytes) zero d lt = lead (is_feed byte)
  where
    here : before + 0 + 1 ≡ before + 1
    here = omega arith

    lead : (feed : Bool)
        → begun_at (before + 0 + 1) (behind_by feed before bytes) ≡ begun_at (before + 0) (behind_by feed before bytes) ++ one_if feed (before + 0 + 1)
    lead true =
        begun_first (before + 0 + 1) (before + 1) (starts_behind (before + 1) bytes) (omega arith)
        ∙ ap (λ l. (before + 1) ∷ l) (none_begun (before + 0 + 1) (before + 1) bytes (omega arith))
        ∙ ap (λ n. n ∷ []) (sym here)
        ∙ ap (λ l. l ++ (before + 0 + 1) ∷ []) (sym (begun_later (before + 0) (before + 1) (starts_behind (before + 1) bytes) (omega arith)
        ∙ none_begun (before + 0) (before + 1) bytes (omega arith)))
    lead false =
        none_begun (before + 0 + 1) (before + 1) bytes (omega arith)
        ∙ ap (λ l. l ++ []) (sym (none_begun (before + 0) (before + 1) bytes (omega arith)))
begun_next before (byte ∷ bytes) (suc k) d lt =
    lead (is_feed byte)
    (subst (λ n. begun_at (n + 1) (starts_behind (before + 1) bytes)
    ≡ begun_at n (starts_behind (before + 1) bytes) ++ one_if (is_feed (get_or bytes k d)) (n + 1)) same
    (begun_next (before + 1) bytes k d (omega (arith, lt))))
  where
    same : before + 1 + k ≡ before + suc k
    same = omega arith

    lead : (feed : Bool)
        → begun_at (before + suc k + 1) (starts_behind (before + 1) bytes)
        ≡ begun_at (before + suc k) (starts_behind (before + 1) bytes) ++ one_if (is_feed (get_or bytes k d)) (before + suc k + 1)
        → begun_at (before + suc k + 1) (behind_by feed before bytes)
        ≡ begun_at (before + suc k) (behind_by feed before bytes) ++ one_if (is_feed (get_or bytes k d)) (before + suc k + 1)
    lead true later =
        begun_first (before + suc k + 1) (before + 1) (starts_behind (before + 1) bytes) (omega arith)
        ∙ ap (λ l. (before + 1) ∷ l) later
        ∙ ap (λ l. l ++ one_if (is_feed (get_or bytes k d)) (before + suc k + 1))
        (sym (begun_first (before + suc k) (before + 1) (starts_behind (before + 1) bytes) (omega arith)))
    lead false later = later

-- ---- the lines of a whole file

abbrev begun : List ℕ → ℕ → List ℕ
begun bytes k = begun_at k (line_starts bytes)

starts_begun : (bytes : List ℕ) (k : ℕ) → begun bytes k ≡ 0 ∷ begun_at k (starts_behind 0 bytes)
starts_begun bytes k = begun_first k 0 (starts_behind 0 bytes) (omega arith)

begun_none : (bytes : List ℕ) → begun bytes 0 ≡ 0 ∷ []
begun_none bytes = starts_begun bytes 0 ∙ ap (λ l. 0 ∷ l) (none_begun 0 0 bytes (omega arith))

begun_one : (bytes : List ℕ) (k d : ℕ) → k < length bytes
    → begun bytes (k + 1) ≡ begun bytes k ++ one_if (is_feed (get_or bytes k d)) (k + 1)
begun_one bytes k d lt =
    let none : 0 + k ≡ k = omega arith in
    let next : begun_at (k + 1) (starts_behind 0 bytes)
    ≡ begun_at k (starts_behind 0 bytes) ++ one_if (is_feed (get_or bytes k d)) (k + 1) =
    subst (λ n. begun_at (n + 1) (starts_behind 0 bytes) ≡ begun_at n (starts_behind 0 bytes) ++ one_if (is_feed (get_or bytes k d)) (n + 1)) none
    (begun_next 0 bytes k d lt) in
    starts_begun bytes (k + 1) ∙ ap (λ l. 0 ∷ l) next
    ∙ ap (λ l. l ++ one_if (is_feed (get_or bytes k d)) (k + 1)) (sym (starts_begun bytes k))

-- what is so of a place: its line, its column, and that the line doesn't begin behind it
pub record IsAt (bytes : List ℕ) (k : ℕ) : Type 0 where
  pub line : length (begun bytes k) ≡ count_by is_feed (take k bytes) + 1
  pub column : k - last_of (begun bytes k) + 1 ≡ suffix_len (λ byte. not (is_feed byte)) (take k bytes) + 1
  pub begins : last_of (begun bytes k) ≤ k

at_first : (bytes : List ℕ) → IsAt bytes 0
at_first bytes =
    let none = begun_none bytes in
    record {
      line = ap length none;
      column = ap (λ l. 0 - last_of l + 1) none;
      begins = subst (λ l. last_of l ≤ 0) (sym none) (omega arith);
    }

minus_one : (k : ℕ) → k + 1 - 1 ≡ k
minus_one k = omega arith

none_between : (k : ℕ) → k - k + 1 ≡ 1
none_between k = omega arith

at_next : (bytes : List ℕ) (k d : ℕ) → k < length bytes → (feed : Bool) → is_feed (get_or bytes k d) ≡ feed → IsAt bytes k → IsAt bytes (k + 1)
at_next bytes k d lt true is at =
    let next : begun bytes (k + 1) ≡ begun bytes k ++ (k + 1) ∷ [] = begun_one bytes k d lt ∙ ap (λ b. begun bytes k ++ one_if b (k + 1)) is in
    let last : last_of (begun bytes (k + 1)) ≡ k + 1 = ap last_of next ∙ last_is (begun bytes k) (k + 1) in
    let count = count_by_more_yes is_feed bytes k d lt is in
    let column = suffix_len-take_no (λ byte. not (is_feed byte)) bytes (k + 1) d (omega arith) (omega (arith, lt))
    (ap (λ n. not (is_feed (get_or bytes n d))) (minus_one k) ∙ ap not is) in
    record {
      line = ap length next ∙ sym (one_longer (begun bytes k) (k + 1)) ∙ ap (λ n. n + 1) at.line ∙ ap (λ n. n + 1) (sym count);
      column = ap (λ n. k + 1 - n + 1) last ∙ none_between (k + 1) ∙ ap (λ n. n + 1) (sym column);
      begins = omega (arith, last);
    }
at_next bytes k d lt false is at =
    let same : begun bytes (k + 1) ≡ begun bytes k =
    begun_one bytes k d lt ∙ ap (λ b. begun bytes k ++ one_if b (k + 1)) is ∙ append-nil (begun bytes k) in
    let count = count_by_more_no is_feed bytes k d lt is in
    let column = suffix_len-take_yes (λ byte. not (is_feed byte)) bytes (k + 1) d (omega arith) (omega (arith, lt))
    (ap (λ n. not (is_feed (get_or bytes n d))) (minus_one k) ∙ ap not is) in
    let before : suffix_len (λ byte. not (is_feed byte)) (take (k + 1 - 1) bytes) ≡ suffix_len (λ byte. not (is_feed byte)) (take k bytes) =
    ap (λ n. suffix_len (λ byte. not (is_feed byte)) (take n bytes)) (minus_one k) in
    let last = ap last_of same in
    record {
      line = ap length same ∙ at.line ∙ ap (λ n. n + 1) (sym count);
      column = omega (arith, last, at.column, at.begins, column, before);
      begins = omega (arith, last, at.begins);
    }

pub at_offset : (bytes : List ℕ) (k : ℕ) → k ≤ length bytes → IsAt bytes k
at_offset bytes zero le = at_first bytes
at_offset bytes (suc k) le =
    let e : k + 1 ≡ suc k = omega arith in
    subst (λ n. IsAt bytes n) e
    (at_next bytes k 0 (omega (arith, le)) (is_feed (get_or bytes k 0)) refl (at_offset bytes k (omega (arith, le))))
