-- Parts of certificates that are read one after the other.
--
-- What stops within a part stops within the whole (`within`): so each part's reading is shown of that part alone, and joined by saying
-- which wholes have such a part behind such a front, and that no part's lines begin those of another.
use Rattle.std.proofs.Common.{◌≡◌, ℕ, zero, suc, ◌+◌, ◌-◌, ◌<◌, List, [], ◌∷◌, ◌++◌, length, map, append_assoc, append-nil, length-append, refl, ap, subst, ◌∙◌, sym, arith, inl, inr, Result, Ok, Err, Option, Some, None, MatchOption}
use Rattle.std.specs.Prelude.{◌⊎◌, IfErr}
use Rattle.std.specs.Result.{IsErrAnd}
use Rattle.std.specs.List.{AllByRecursion}
use Rattle.std.proofs.lemmas.List.{map-append, append_cancel_left}
use Rattle.pv_claims.specs.declared.stop.Stop.{Stop}
use Rattle.pv_claims.specs.declared.stop.Stop.TheVariants.{Left, NoMemory}
use Rattle.pv_claims.specs.Lines.{text_of_lines, NoFeed, StuckAt, StopsAt, HasMany}
use Rattle.pv_claims.proofs.LineLaws.{all-append, head, tail, not-empty, text-append}

-- ---- one part of a whole

-- a whole that has this part behind a front
pub record HasPart (X : Type 0) (Has : X → Type 0) (lines : X → List (List ℕ)) (front part : List (List ℕ)) : Type 0 where
  pub whole : X
  pub has : Has whole
  pub more : List (List ℕ)
  pub lines_are : lines whole ≡ front ++ (part ++ more)

-- a part with which these lines begin
pub record IsPart (Y : Type 0) (Has : Y → Type 0) (lines : Y → List (List ℕ)) (others : List (List ℕ)) : Type 0 where
  pub part : Y
  pub has : Has part
  pub more : List (List ℕ)
  pub lines_are : others ≡ lines part ++ more

-- the lines of no part begin those of another
abbrev pub IsFree : (Y : Type 0) (Has : Y → Type 0) (lines : Y → List (List ℕ)) → Type 0
IsFree Y Has lines = (y z : Y) (more : List (List ℕ)) → Has y → Has z → lines z ≡ lines y ++ more → more ≡ []

-- a line behind a front stands within lines that go on the front, or behind them
side : (front : List (List ℕ)) (line : List ℕ) (others part more : List (List ℕ)) → front ++ line ∷ others ≡ part ++ more
    → ((mid : List (List ℕ)) × (part ≡ front ++ line ∷ mid)) ⊎ ((mid : List (List ℕ)) × (front ≡ part ++ mid))
side front line others [] more e = inr (front, refl)
side [] line others (l ∷ ls) more e = inl (ls, ap (λ k. k ∷ ls) (sym (head line l others (ls ++ more) e)))
side (f ∷ front) line others (l ∷ ls) more e =
    let same : f ≡ l = head f l (front ++ line ∷ others) (ls ++ more) e in
    elim (side front line others ls more (tail f l (front ++ line ∷ others) (ls ++ more) e)) [
      | inl m ↦ inl (m.0, ap (λ ks. l ∷ ks) m.1 ∙ ap (λ k. k ∷ (front ++ line ∷ m.0)) (sym same))
      | inr m ↦ inr (m.0, ap (λ ks. f ∷ ks) m.1 ∙ ap (λ k. k ∷ (ls ++ m.0)) same)
    ]

regroup : (front before : List (List ℕ)) (next : List ℕ) (more others : List (List ℕ)) → front ++ ((before ++ next ∷ more) ++ others) ≡ (front ++ before) ++ next ∷ (more ++ others)
regroup front before next more others = ap (λ ls. front ++ ls) (append_assoc before (next ∷ more) others) ∙ sym (append_assoc front before (next ∷ (more ++ others)))

module _ (X Y : Type 0) (HasX : X → Type 0) (HasY : Y → Type 0) (linesX : X → List (List ℕ)) (linesY : Y → List (List ℕ)) where
  -- what stops within a part stops within the whole
  pub within : (front : List (List ℕ)) (text rest : List ℕ) (left : ℕ) → AllByRecursion NoFeed front → text ≡ text_of_lines front ++ rest
      → ((y : Y) → HasY y → HasPart X HasX linesX front (linesY y))
      → ((x : X) (others : List (List ℕ)) → HasX x → linesX x ≡ front ++ others → IsPart Y HasY linesY others)
      → IsFree Y HasY linesY
      → StuckAt Y HasY linesY rest left → StuckAt X HasX linesX text left
  within front text rest left whole split grow back free s =
      let g = grow s.some s.has in
      record {
        before = front ++ s.before;
        rest = s.rest;
        split = split ∙ ap (λ t. text_of_lines front ++ t) s.split ∙ sym (append_assoc (text_of_lines front) (text_of_lines s.before) s.rest)
            ∙ ap (λ t. t ++ s.rest) (sym (text-append front s.before));
        whole = all-append NoFeed front s.before whole s.whole;
        size = s.size;
        some = g.whole;
        has = g.has;
        next = s.next;
        more = s.more ++ g.more;
        goes_on = g.lines_are ∙ ap (λ ls. front ++ (ls ++ g.more)) s.goes_on ∙ regroup front s.before s.next s.more g.more;
        stuck = λ line after plain e x others has is.
            (let b = back x (s.before ++ line ∷ others) has (is ∙ append_assoc front s.before (line ∷ others)) in
            elim (side s.before line others (linesY b.part) b.more b.lines_are) [
              | inl m ↦ s.stuck line after plain e b.part m.0 b.has m.1
              | inr m ↦ not-empty m.0 s.next s.more (free b.part s.some (m.0 ++ s.next ∷ s.more) b.has s.has
                  (s.goes_on ∙ ap (λ ls. ls ++ s.next ∷ s.more) m.1 ∙ append_assoc (linesY b.part) m.0 (s.next ∷ s.more)))
            ]);
      }

  pub stops-within : (front : List (List ℕ)) (text rest : List ℕ) (stop : Stop) → AllByRecursion NoFeed front → text ≡ text_of_lines front ++ rest
      → ((y : Y) → HasY y → HasPart X HasX linesX front (linesY y))
      → ((x : X) (others : List (List ℕ)) → HasX x → linesX x ≡ front ++ others → IsPart Y HasY linesY others)
      → IsFree Y HasY linesY
      → StopsAt Y HasY linesY rest stop → StopsAt X HasX linesX text stop
  stops-within front text rest (Left left) whole split grow back free s = within front text rest left whole split grow back free s
  stops-within front text rest NoMemory whole split grow back free s = tt

-- parts that are told from one another however they go on
abbrev pub IsOne : (Y : Type 0) (Has : Y → Type 0) (lines : Y → List (List ℕ)) → Type 0
IsOne Y Has lines = (y z : Y) (ls ms : List (List ℕ)) → Has y → Has z → lines y ++ ls ≡ lines z ++ ms → (y ≡ z) × (ls ≡ ms)

pub one-free : (Y : Type 0) (Has : Y → Type 0) (lines : Y → List (List ℕ)) → IsOne Y Has lines → IsFree Y Has lines
one-free Y Has lines one y z more hy hz e = (one y z more [] hy hz (sym e ∙ sym (append-nil (lines z)))).1

-- parts that are one go on as one
pub one-then : (Y : Type 0) (lines : Y → List (List ℕ)) (y z : Y) (ls ms : List (List ℕ)) → y ≡ z → lines y ++ ls ≡ lines z ++ ms → (y ≡ z) × (ls ≡ ms)
one-then Y lines y z ls ms same e = (same, append_cancel_left (lines z) ls ms (ap (λ (w : Y). lines w ++ ls) (sym same) ∙ e))

-- ---- lines of a kind, so many of them

abbrev pub copies : {X : Type 0} → ℕ → X → List X
copies zero x = []
copies (suc n) x = x ∷ copies n x

pub long-copies : {X : Type 0} (n : ℕ) (x : X) → length (copies n x) ≡ n
long-copies zero x = refl
long-copies (suc n) x = ap suc (long-copies n x)

pub all-copies : {X : Type 0} (P : X → Type 0) (n : ℕ) (x : X) → P x → AllByRecursion P (copies n x)
all-copies P zero x p = tt
all-copies P (suc n) x p = (p, all-copies P n x p)

all-plain : {X : Type 0} (Is : X → Type 0) (line_of : X → List ℕ) → ((x : X) → Is x → NoFeed (line_of x)) → (xs : List X) → AllByRecursion Is xs → AllByRecursion NoFeed (map line_of xs)
all-plain Is line_of plain [] a = tt
all-plain Is line_of plain (x ∷ xs) a = (plain x a.0, all-plain Is line_of plain xs a.1)

long-map : {X : Type 0} (line_of : X → List ℕ) (xs : List X) → length (map line_of xs) ≡ length xs
long-map line_of [] = refl
long-map line_of (x ∷ xs) = ap suc (long-map line_of xs)

pub no-length : {A : Type 0} (xs : List A) → length xs ≡ 0 → xs ≡ []
no-length [] e = refl
no-length (x ∷ xs) e = absurd (omega (arith, e))

module _ (X : Type 0) (Is : X → Type 0) (line_of : X → List ℕ) (plain : (x : X) → Is x → NoFeed (line_of x)) where
  -- the line behind some is that of one
  line-behind : (xs ys : List X) (line : List ℕ) (others : List (List ℕ)) → AllByRecursion Is ys → map line_of ys ≡ map line_of xs ++ line ∷ others → (y : X) × Is y × (line ≡ line_of y)
  line-behind [] [] line others a e = absurd cc
  line-behind [] (y ∷ ys) line others a e = (y, a.0, sym (head (line_of y) line (map line_of ys) others e))
  line-behind (x ∷ xs) [] line others a e = absurd cc
  line-behind (x ∷ xs) (y ∷ ys) line others a e = line-behind xs ys line others a.1 (tail (line_of y) (line_of x) (map line_of ys) (map line_of xs ++ line ∷ others) e)

  pub many-plain : (xs : List X) → AllByRecursion Is xs → AllByRecursion NoFeed (map line_of xs)
  many-plain xs a = all-plain Is line_of plain xs a

  -- fewer than there are to be, and no further one
  pub many-stuck : (count : ℕ) (text rest : List ℕ) (xs : List X) (x : X) → Is x → AllByRecursion Is xs → length xs < count → text ≡ text_of_lines (map line_of xs) ++ rest
      → ((y : X) (after : List ℕ) → Is y → rest ≡ line_of y ++ 10 ∷ after → ⊥) → StuckAt (List X) (HasMany X Is count) (map line_of) text (length rest)
  many-stuck count text rest xs x is are few split none =
      let n = count - (length xs + 1) in
      let all = length-append xs (x ∷ copies n x) in
      let size = long-copies n x in
      record {
        before = map line_of xs;
        rest = rest;
        split = split;
        whole = many-plain xs are;
        size = refl;
        some = xs ++ x ∷ copies n x;
        has = record { many = omega (arith, all, size, few); each = all-append Is xs (x ∷ copies n x) are (is, all-copies Is n x is) };
        next = line_of x;
        more = map line_of (copies n x);
        goes_on = map-append line_of xs (x ∷ copies n x);
        stuck = λ line after plain e ys others has is. (let found = line-behind xs ys line others has.each is in none found.0 after found.1 (e ∙ ap (λ l. l ++ 10 ∷ after) found.2));
      }

  pub many-free : (count : ℕ) → IsFree (List X) (HasMany X Is count) (map line_of)
  many-free count ys zs more hy hz e =
      let all = ap length e ∙ length-append (map line_of ys) more in
      let long = long-map line_of ys in
      let long' = long-map line_of zs in
      no-length more (omega (arith, all, long, long', hy.many, hz.many))

  pub many-one : ((x y : X) → Is x → Is y → line_of x ≡ line_of y → x ≡ y) → (count : ℕ) → IsOne (List X) (HasMany X Is count) (map line_of)
  many-one same count xs ys ls ms hx hy e = go xs ys (hx.many ∙ sym hy.many) hx.each hy.each e
    where
      go : (xs ys : List X) → length xs ≡ length ys → AllByRecursion Is xs → AllByRecursion Is ys → map line_of xs ++ ls ≡ map line_of ys ++ ms → (xs ≡ ys) × (ls ≡ ms)
      go [] [] n a b e = (refl, e)
      go [] (y ∷ ys) n a b e = absurd (omega (arith, n))
      go (x ∷ xs) [] n a b e = absurd (omega (arith, n))
      go (x ∷ xs) (y ∷ ys) n a b e =
          let first = same x y a.0 b.0 (head (line_of x) (line_of y) (map line_of xs ++ ls) (map line_of ys ++ ms) e) in
          let rest = go xs ys (omega (arith, n)) a.1 b.1 (tail (line_of x) (line_of y) (map line_of xs ++ ls) (map line_of ys ++ ms) e) in
          (ap (λ z. z ∷ xs) first ∙ ap (λ zs. y ∷ zs) rest.0, rest.1)

-- ---- what calls answer

-- an error is handed on as it is
pub passed : {T E : Type 0} (P : E → Type 0) (r : Result T E) (stop : E) → IsErrAnd r (λ e. e ≡ stop) → P stop → IfErr r P
passed P (Ok x) stop e p = tt
passed P (Err x) stop e p = subst P (sym e) p

pub at-none : {X : Type 0} (A : Type 0) (B : X → Type 0) (o : Option X) → o ≡ None → MatchOption o A B → A
at-none A B None e h = h
at-none A B (Some x) e h = absurd cc

pub at-some : {X : Type 0} (A : Type 0) (B : X → Type 0) (o : Option X) (x : X) → o ≡ Some x → MatchOption o A B → B x
at-some A B None x e h = absurd cc
at-some A B (Some y) x e h = (let same : y ≡ x = cc in subst B same h)
