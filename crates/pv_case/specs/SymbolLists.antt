-- The symbols that were read so far. No public clause cites this.
use Rattle.std.specs.Prelude.{◌≡◌, ℕ, List, [], ◌∷◌, ◌++◌, map, codes}
use Rattle.serde_json.specs.Data.{Data}
use Rattle.pv_case.specs.declared.symbol_list.Symbols.{Symbols}
use Rattle.pv_case.specs.declared.case.Symbol.{Symbol}
use Rattle.pv_case.specs.Members.{text_in}
use Rattle.pv_case.specs.Symbols.{symbol_key, IsSymbol}
use Rattle.pv_case.specs.Fields.{symbols_behind}
use Rattle.pv_case.specs.Cases.{IsSymbolOf, AreSymbols, symbol_data}

abbrev pub keys_of : List (List ℕ × Data) → List (List ℕ)
keys_of pairs = map (λ p. symbol_key p.0) pairs

-- the member is a good symbol behind those of these keys
abbrev pub IsGood : List (List ℕ) → List ℕ × Data → Type 0
IsGood earlier p = IsSymbol earlier p.0 (text_in p.1 (codes "at")) (text_in p.1 (codes "type"))

-- one symbol more was read: a good one, and the one that the member says
pub record Adds (old new : Symbols) (p : List ℕ × Data) : Type 0 where
  pub symbol : Symbol
  pub good : IsGood old.seen.keys p
  pub says : IsSymbolOf p (symbol_data symbol)
  pub seen : new.seen.keys ≡ old.seen.keys ++ symbol_key p.0 ∷ []
  pub pushed : new.list.items ≡ old.list.items ++ symbol ∷ []

-- these members were read
pub record AreRead (symbols : Symbols) (pairs : List (List ℕ × Data)) : Type 0 where
  pub keeps : (symbols_behind [] pairs).keeps
  pub seen : symbols.seen.keys ≡ keys_of pairs
  pub are : AreSymbols pairs (map symbol_data symbols.list.items)
