-- Texts of lines, and the line at which a text stops to be one of some kind.
use Rattle.std.specs.Prelude.{◌≡◌, ℕ, List, ◌∷◌, ◌++◌, length, codes}
use Rattle.std.specs.List.{flat_map, AllByRecursion}
use Rattle.pv_claims.specs.declared.stop.Stop.{Stop}
use Rattle.pv_claims.specs.declared.stop.Stop.TheVariants.{Left, NoMemory}

-- lines, each with a line feed behind it
abbrev pub text_of_lines : List (List ℕ) → List ℕ
text_of_lines lines = flat_map (λ line. line ++ codes "\n") lines

-- the line has no line feed
abbrev pub NoFeed : List ℕ → Type 0
NoFeed line = AllByRecursion (λ byte. byte ≡ 10 → ⊥) line

-- A part of a certificate says something that `Has` holds of, in these lines. With so many bytes left a text goes on as no such part does:
-- the lines before it begin one that has further lines, and with the next whole line, if there is one, they begin none.
pub record StuckAt (X : Type 0) (Has : X → Type 0) (lines : X → List (List ℕ)) (text : List ℕ) (left : ℕ) : Type 0 where
  pub before : List (List ℕ)
  pub rest : List ℕ
  pub split : text ≡ text_of_lines before ++ rest
  pub whole : AllByRecursion NoFeed before
  pub size : left ≡ length rest
  pub some : X
  pub has : Has some
  pub next : List ℕ
  pub more : List (List ℕ)
  pub goes_on : lines some ≡ before ++ next ∷ more
  pub stuck : (line after : List ℕ) → NoFeed line → rest ≡ line ++ 10 ∷ after
      → (x : X) (others : List (List ℕ)) → Has x → lines x ≡ before ++ line ∷ others → ⊥

-- where the reading of such a part stops, unless memory runs out
abbrev pub StopsAt : (X : Type 0) (Has : X → Type 0) (lines : X → List (List ℕ)) → List ℕ → Stop → Type 0
StopsAt X Has lines text (Left left) = StuckAt X Has lines text left
StopsAt X Has lines text NoMemory = Unit {0}

-- so many things, each of which is so
pub record HasMany (X : Type 0) (Is : X → Type 0) (count : ℕ) (xs : List X) : Type 0 where
  pub many : length xs ≡ count
  pub each : AllByRecursion Is xs
