-- Texts that are equal have equal parts: numbers up to a line feed, values line by line, and places.
use Rattle.std.proofs.Common.{◌≡◌, ◌⊎◌, inl, inr, ℕ, zero, suc, ◌+◌, ◌-◌, ◌<◌, ◌≤◌, ◌^◌, ◌%◌, ℤ, pos, negsuc, List, [], ◌∷◌, ◌++◌, length, get_or, drop, take, append_assoc, Bool, true, false, cond, Some, refl, sym, ap, subst, ◌∙◌, arith}
use Rattle.std.specs.Prelude.{codes, decimal, nat_le, slice_get}
use Rattle.std.specs.List.{AllByRecursion}
use Rattle.std.specs.Fmt.{signed_decimal}
use Rattle.std.specs.Int.Signed.{mag}
use Rattle.std.proofs.lemmas.List.{append_cancel_left}
use Rattle.std.proofs.lemmas.Bool.{lt-leb, true≢false}
use Rattle.std.proofs.lemmas.Bool.Decides.{leb_tells}
use Rattle.std.proofs.lemmas.Option.{same_Some, none-some}
use Rattle.std.proofs.lemmas.Fmt.{decimal_by_steps, decimal_injective, signed_decimal_injective}
use Rattle.pv_place.specs.declared.place.Place.{Place}
use Rattle.pv_mean.specs.declared.cell.Cell.{Cell}
use Rattle.pv_mean.specs.Frames.{input_cells}
use Rattle.pv_claims.specs.Lines.{NoFeed}
use Rattle.pv_claims.proofs.ForCallers.{cut-one}
use Rattle.pv_report.specs.Places.{Lines, begun_at, last_of, printed, place_text, position_where}
use Rattle.pv_report.specs.Reports.{value_line, value_lines, scan_lines, numbered}
use Rattle.pv_report.specs.Correct.{Rise, IsFile, AreFiles, LiesIn, AreValuesOf}

-- ---- bytes that digits don't have

abbrev pub Without : ℕ → List ℕ → Type 0
Without c text = AllByRecursion (λ byte. byte ≡ c → ⊥) text

pub both_without : (c : ℕ) (xs ys : List ℕ) → Without c xs → Without c ys → Without c (xs ++ ys)
both_without c [] ys a b = b
both_without c (x ∷ xs) ys a b = (a.0, both_without c xs ys a.1 b)

-- neither the line feed nor the colon is a digit
pub no_feed : (n : ℕ) → n < 2 ^ 64 → NoFeed (decimal n)
no_feed n h = decimal_by_steps (λ _ ds. Without 10 ds) (λ k small. (λ e. omega (arith, e), tt))
    (λ k ds large rest. both_without 10 ds ((48 + k % 10) ∷ []) rest (λ e. omega (arith, e), tt)) n h

pub no_colon : (n : ℕ) → n < 2 ^ 64 → Without 58 (decimal n)
no_colon n h = decimal_by_steps (λ _ ds. Without 58 ds) (λ k small. (λ e. omega (arith, e, small), tt))
    (λ k ds large rest. both_without 58 ds ((48 + k % 10) ∷ []) rest (λ e. omega (arith, e), tt)) n h

signed_feed : (v : ℤ) → mag v < 2 ^ 63 → NoFeed (signed_decimal v)
signed_feed (pos n) short = no_feed n (omega (arith, short))
signed_feed (negsuc n) short = ((λ e. omega (arith, e)), no_feed (suc n) (omega (arith, short)))

-- ---- numbers up to a line feed

pub number_cut : (n m : ℕ) (x y : List ℕ) → n < 2 ^ 64 → m < 2 ^ 64 → (decimal n ++ codes "\n") ++ x ≡ (decimal m ++ codes "\n") ++ y
    → (n ≡ m) × (x ≡ y)
number_cut n m x y a b e =
    let cut = cut-one (decimal n) (decimal m) x y (no_feed n a) (no_feed m b)
    (sym (append_assoc (decimal n) (codes "\n") x) ∙ e ∙ append_assoc (decimal m) (codes "\n") y) in
    (decimal_injective n m a b cut.0, cut.1)

value_cut : (v w : ℤ) (x y : List ℕ) → mag v < 2 ^ 63 → mag w < 2 ^ 63
    → (signed_decimal v ++ codes "\n") ++ x ≡ (signed_decimal w ++ codes "\n") ++ y → (v ≡ w) × (x ≡ y)
value_cut v w x y a b e =
    let cut = cut-one (signed_decimal v) (signed_decimal w) x y (signed_feed v a) (signed_feed w b)
    (sym (append_assoc (signed_decimal v) (codes "\n") x) ∙ e ∙ append_assoc (signed_decimal w) (codes "\n") y) in
    (signed_decimal_injective v w a b cut.0, cut.1)

-- what stands in front of both
pub cut_front : (p s t x y : List ℕ) → (p ++ s) ++ x ≡ (p ++ t) ++ y → s ++ x ≡ t ++ y
cut_front p s t x y e =
    append_cancel_left p (s ++ x) (t ++ y) (sym (append_assoc p s x) ∙ e ∙ append_assoc p t y)

pub numbered_cut : (front : List ℕ) (n m : ℕ) (x y : List ℕ) → n < 2 ^ 64 → m < 2 ^ 64 → numbered front n ++ x ≡ numbered front m ++ y
    → (n ≡ m) × (x ≡ y)
numbered_cut front n m x y a b e =
    number_cut n m x y a b (cut_front front (decimal n ++ codes "\n") (decimal m ++ codes "\n") x y e)

-- ---- values

line_cut : (front : List ℕ) (c : Cell) (v w : ℤ) (x y : List ℕ) → mag v < 2 ^ 63 → mag w < 2 ^ 63
    → value_line front c v ++ x ≡ value_line front c w ++ y → (v ≡ w) × (x ≡ y)
line_cut front c v w x y a b e =
    value_cut v w x y a b
    (cut_front (codes " = ") (signed_decimal v ++ codes "\n") (signed_decimal w ++ codes "\n") x y
    (cut_front c.path (codes " = " ++ (signed_decimal v ++ codes "\n")) (codes " = " ++ (signed_decimal w ++ codes "\n")) x y
    (cut_front front (c.path ++ (codes " = " ++ (signed_decimal v ++ codes "\n"))) (c.path ++ (codes " = " ++ (signed_decimal w ++ codes "\n"))) x y e)))

pub values_cut : (front : List ℕ) (cells : List Cell) (vs ws : List ℤ) (x y : List ℕ) → AreValuesOf cells vs → AreValuesOf cells ws
    → value_lines front cells vs ++ x ≡ value_lines front cells ws ++ y → (vs ≡ ws) × (x ≡ y)
values_cut front [] [] [] x y a b e = (refl, e)
values_cut front [] (v ∷ vs) ws x y a b e = absurd (omega (arith, a.0))
values_cut front [] [] (w ∷ ws) x y a b e = absurd (omega (arith, b.0))
values_cut front (c ∷ cells) [] ws x y a b e = absurd (omega (arith, a.0))
values_cut front (c ∷ cells) (v ∷ vs) [] x y a b e = absurd (omega (arith, b.0))
values_cut front (c ∷ cells) (v ∷ vs) (w ∷ ws) x y a b e =
    let one = line_cut front c v w (value_lines front cells vs ++ x) (value_lines front cells ws ++ y) a.1.0 b.1.0
    (sym (append_assoc (value_line front c v) (value_lines front cells vs) x) ∙ e ∙ append_assoc (value_line front c w) (value_lines front cells ws) y) in
    let rest = values_cut front cells vs ws x y (omega (arith, a.0), a.1.1) (omega (arith, b.0), b.1.1) one.1 in
    (ap (λ z. z ∷ vs) one.0 ∙ ap (λ l. w ∷ l) rest.0, rest.1)

pub scans_cut : (cells : List Cell) (k : ℕ) (is js : List (List ℤ)) (x y : List ℕ) → AllByRecursion (AreValuesOf (input_cells cells)) is
    → AllByRecursion (AreValuesOf (input_cells cells)) js → length is ≡ length js
    → scan_lines cells k is ++ x ≡ scan_lines cells k js ++ y → (is ≡ js) × (x ≡ y)
scans_cut cells k [] [] x y a b len e = (refl, e)
scans_cut cells k [] (j ∷ js) x y a b len e = absurd (omega (arith, len))
scans_cut cells k (i ∷ is) [] x y a b len e = absurd (omega (arith, len))
scans_cut cells k (i ∷ is) (j ∷ js) x y a b len e =
    let front = codes "in " ++ (decimal k ++ codes " ") in
    let one = values_cut front (input_cells cells) i j (scan_lines cells (k + 1) is ++ x) (scan_lines cells (k + 1) js ++ y) a.0 b.0
    (sym (append_assoc (value_lines front (input_cells cells) i) (scan_lines cells (k + 1) is) x) ∙ e
    ∙ append_assoc (value_lines front (input_cells cells) j) (scan_lines cells (k + 1) js) y) in
    let rest = scans_cut cells (k + 1) is js x y a.1 b.1 (omega (arith, len)) one.1 in
    (ap (λ z. z ∷ is) one.0 ∙ ap (λ l. j ∷ l) rest.0, rest.1)

-- ---- the last colon

has_colon : (xs ys : List ℕ) → Without 58 (xs ++ 58 ∷ ys) → ⊥
has_colon [] ys none = none.0 refl
has_colon (x ∷ xs) ys none = has_colon xs ys none.1

head_of : (x y : ℕ) (xs ys : List ℕ) → x ∷ xs ≡ y ∷ ys → x ≡ y
head_of x y xs ys e = ap (λ l. get_or l 0 0) e

tail_of : (x y : ℕ) (xs ys : List ℕ) → x ∷ xs ≡ y ∷ ys → xs ≡ ys
tail_of x y xs ys e = ap (drop 1) e

last_colon : (a b x y : List ℕ) → Without 58 x → Without 58 y → a ++ 58 ∷ x ≡ b ++ 58 ∷ y → (a ≡ b) × (x ≡ y)
last_colon [] [] x y nx ny e = (refl, tail_of 58 58 x y e)
last_colon [] (b ∷ bs) x y nx ny e =
    absurd (has_colon bs y (subst (Without 58) (tail_of 58 b x (bs ++ 58 ∷ y) e) nx))
last_colon (a ∷ others) [] x y nx ny e =
    absurd (has_colon others x (subst (Without 58) (sym (tail_of a 58 (others ++ 58 ∷ x) y e)) ny))
last_colon (a ∷ others) (b ∷ bs) x y nx ny e =
    let rest = last_colon others bs x y nx ny (tail_of a b (others ++ 58 ∷ x) (bs ++ 58 ∷ y) e) in
    (ap (λ z. z ∷ others) (head_of a b (others ++ 58 ∷ x) (bs ++ 58 ∷ y) e) ∙ ap (λ l. b ∷ l) rest.0, rest.1)

record ArePrinted (f g : List ℕ) (l m c d : ℕ) : Type 0 where
  file : f ≡ g
  line : l ≡ m
  column : c ≡ d

regrouped : (file : List ℕ) (line column : ℕ) → printed file line column ≡ (file ++ 58 ∷ decimal line) ++ 58 ∷ decimal column
regrouped file line column = sym (append_assoc file (58 ∷ decimal line) (58 ∷ decimal column))

printed_cut : (f g : List ℕ) (l m c d : ℕ) → l < 2 ^ 64 → m < 2 ^ 64 → c < 2 ^ 64 → d < 2 ^ 64 → printed f l c ≡ printed g m d
    → ArePrinted f g l m c d
printed_cut f g l m c d hl hm hc hd e =
    let two = last_colon (f ++ 58 ∷ decimal l) (g ++ 58 ∷ decimal m) (decimal c) (decimal d) (no_colon c hc) (no_colon d hd)
    (sym (regrouped f l c) ∙ e ∙ regrouped g m d) in
    let one = last_colon f g (decimal l) (decimal m) (no_colon l hl) (no_colon m hm) two.0 in
    record { file = one.0; line = decimal_injective l m hl hm one.1; column = decimal_injective c d hc hd two.1 }

-- ---- a line and a column give the offset

none_begins : (o : ℕ) (starts : List ℕ) (s : ℕ) → o < s → AllByRecursion (λ next. s < next) starts → begun_at o starts ≡ []
none_begins o [] s gt all = refl
none_begins o (t ∷ ts) s gt all =
    ap (λ b. cond b (t ∷ begun_at o ts) (begun_at o ts)) (lt-leb t o (omega (arith, gt, all.0))) ∙ none_begins o ts s gt all.1

-- those that begin no later are the first ones
abbrev Told : ℕ → ℕ → Type 0
Told s o = ((nat_le s o ≡ true) × (s ≤ o)) ⊎ ((nat_le s o ≡ false) × (o < s))

begun_take : (o : ℕ) (starts : List ℕ) → Rise starts → begun_at o starts ≡ take (length (begun_at o starts)) starts
begun_take o [] rise = refl
begun_take o (s ∷ ss) rise = lead (nat_le s o) (leb_tells s o) refl (begun_take o ss rise.1)
  where
    lead : (b : Bool) → Told s o → nat_le s o ≡ b → begun_at o ss ≡ take (length (begun_at o ss)) ss
        → cond b (s ∷ begun_at o ss) (begun_at o ss) ≡ take (length (cond b (s ∷ begun_at o ss) (begun_at o ss))) (s ∷ ss)
    lead true tells is rest = ap (λ l. s ∷ l) rest
    lead false (inl yes_so) is rest = absurd (true≢false (sym yes_so.0 ∙ is))
    lead false (inr no_so) is rest =
        let none = none_begins o ss s no_so.1 rise.0 in
        none ∙ ap (λ (l : List ℕ). take (length l) (s ∷ ss)) (sym none)

begun_before : (o : ℕ) (starts : List ℕ) → AllByRecursion (λ start. start ≤ o) (begun_at o starts)
begun_before o [] = tt
begun_before o (s ∷ ss) = lead (nat_le s o) (leb_tells s o) refl (begun_before o ss)
  where
    lead : (b : Bool) → Told s o → nat_le s o ≡ b → AllByRecursion (λ start. start ≤ o) (begun_at o ss)
        → AllByRecursion (λ start. start ≤ o) (cond b (s ∷ begun_at o ss) (begun_at o ss))
    lead true (inl yes_so) is rest = (yes_so.1, rest)
    lead true (inr no_so) is rest = absurd (true≢false (sym is ∙ no_so.0))
    lead false tells is rest = rest

last_before : (o : ℕ) (xs : List ℕ) → AllByRecursion (λ start. start ≤ o) xs → last_of xs ≤ o
last_before o [] all = omega arith
last_before o (x ∷ []) all = all.0
last_before o (x ∷ y ∷ more) all = last_before o (y ∷ more) all.1

same_offset : (starts : List ℕ) (o q : ℕ) → Rise starts → length (begun_at o starts) ≡ length (begun_at q starts)
    → o - last_of (begun_at o starts) + 1 ≡ q - last_of (begun_at q starts) + 1 → o ≡ q
same_offset starts o q rise lines columns =
    let begun : begun_at o starts ≡ begun_at q starts =
    begun_take o starts rise ∙ ap (λ n. take n starts) lines ∙ sym (begun_take q starts rise) in
    let last : last_of (begun_at o starts) ≡ last_of (begun_at q starts) = ap last_of begun in
    omega (arith, last, columns, last_before o (begun_at o starts) (begun_before o starts), last_before q (begun_at q starts) (begun_before q starts))

-- ---- places

begun_few : (o : ℕ) (starts : List ℕ) → length (begun_at o starts) ≤ length starts
begun_few o [] = omega arith
begun_few o (s ∷ ss) = lead (nat_le s o) (begun_few o ss)
  where
    lead : (b : Bool) → length (begun_at o ss) ≤ length ss → length (cond b (s ∷ begun_at o ss) (begun_at o ss)) ≤ suc (length ss)
    lead true le = omega (arith, le)
    lead false le = omega (arith, le)

file_there : (files : List Lines) (i : ℕ) (lines : Lines) → AllByRecursion IsFile files → slice_get files i ≡ Some lines → IsFile lines
file_there [] i lines all is = absurd (none-some lines is)
file_there (f ∷ fs) zero lines all is = subst IsFile (same_Some f lines is) all.0
file_there (f ∷ fs) (suc i) lines all is = file_there fs i lines all.1 is

text_there : (files : List Lines) (place : Place) (in_files : LiesIn files place)
    → place_text files place ≡ position_where (Some in_files.lines) place.offset
text_there files place in_files = ap (λ o. position_where o place.offset) in_files.there

-- no line feed in the text of a place
pub place_feed : (files : List Lines) (place : Place) → AreFiles files → LiesIn files place → NoFeed (place_text files place)
place_feed files place are at =
    let f = at.lines in
    let is = file_there files place.file f are.each at.there in
    let few = begun_few place.offset f.starts in
    let line = length (begun_at place.offset f.starts) in
    let column = place.offset - last_of (begun_at place.offset f.starts) + 1 in
    subst NoFeed (sym (text_there files place at))
    (both_without 10 f.file (codes ":" ++ (decimal line ++ (codes ":" ++ decimal column))) is.name (
      (λ e. omega (arith, e)),
      both_without 10 (decimal line) (codes ":" ++ decimal column) (no_feed line (omega (arith, few, is.count)))
          ((λ e. omega (arith, e)), no_feed column (omega (arith, at.near))),
    ))

pub same_place : (files : List Lines) (p q : Place) → AreFiles files → LiesIn files p → LiesIn files q
    → place_text files p ≡ place_text files q → p ≡ q
same_place files p q are at also e =
    let f = at.lines in
    let g = also.lines in
    let is_f = file_there files p.file f are.each at.there in
    let is_g = file_there files q.file g are.each also.there in
    let few = begun_few p.offset f.starts in
    let also_few = begun_few q.offset g.starts in
    let parts = printed_cut f.file g.file (length (begun_at p.offset f.starts)) (length (begun_at q.offset g.starts))
    (p.offset - last_of (begun_at p.offset f.starts) + 1) (q.offset - last_of (begun_at q.offset g.starts) + 1)
    (omega (arith, few, is_f.count)) (omega (arith, also_few, is_g.count)) (omega (arith, at.near)) (omega (arith, also.near))
    (sym (text_there files p at) ∙ e ∙ text_there files q also) in
    let file : p.file ≡ q.file = are.own p.file q.file f g at.there also.there parts.file in
    let same : f ≡ g = same_Some f g (sym at.there ∙ ap (λ n. slice_get files n) file ∙ also.there) in
    let offset : p.offset ≡ q.offset = same_offset f.starts p.offset q.offset is_f.rise
    (parts.line ∙ ap (λ (l : Lines). length (begun_at q.offset l.starts)) (sym same))
    (parts.column ∙ ap (λ (l : Lines). q.offset - last_of (begun_at q.offset l.starts) + 1) (sym same)) in
    ap (λ n. record { file = n; offset = p.offset }) file ∙ ap (λ n. record { file = q.file; offset = n }) offset
