-- A text's tokens as one address. No public clause cites this.
use Rattle.std.specs.Prelude.{◌≡◌, ℕ, List, [], ◌∷◌, take, drop, IsTrue}
use Rattle.pv_place.specs.declared.place.Place.{Place}
use Rattle.pv_lex.specs.declared.token.Kind.TheVariants as kind
use Rattle.pv_lex.specs.declared.token.Token.{Token}
use Rattle.pv_tree.specs.declared.expr.Area.{Area}
use Rattle.pv_tree.specs.declared.expr.Root.TheVariants as root
use Rattle.pv_tree.specs.Things.{is_address}
use Rattle.pv_parse.specs.TokenTexts.{area_of}

abbrev pub bytes_at : List ℕ → Token → List ℕ
bytes_at text token = take token.len (drop token.place.offset text)

-- the token is an address, and there is one of this number
pub record IsAddressAt (text : List ℕ) (token : Token) (area : Area) (bits byte bit : ℕ) (place : Place) : Type 0 where
  pub kind : token.kind ≡ kind.Address
  pub reads : area_of (bytes_at text token) ≡ root.Area area bits byte bit
  pub lies : IsTrue (is_address bits byte bit)
  pub placed : place ≡ token.place

-- there is one token before the end, and it is such an address
pub record IsAddressAmong (text : List ℕ) (tokens : List Token) (area : Area) (bits byte bit : ℕ) (place : Place) : Type 0 where
  pub token : Token
  pub last : Token
  pub are : tokens ≡ token ∷ last ∷ []
  pub address : IsAddressAt text token area bits byte bit place
