-- The code's arrays and objects as lists.
use Rattle.std.proofs.Common.{◌≡◌, List, [], ◌∷◌, map, Some, None, Option, option_map, refl, ap, sym, ◌∙◌, String, Bor, BTreeMap}
use Rattle.std.specs.declared.alloc.Global.{Global}
use Rattle.serde_json.specs.Data.{Data}
use Rattle.serde_json.specs.View.{view, items_view, members_view}
use Rattle.serde_json.specs.declared.value.Value.{Value}
use Rattle.serde_json.specs.Find.{as_array, as_object}
use Rattle.pv_case.specs.Members.{list_of, pairs_of, items_in, pairs_in}
use Rattle.pv_case.specs.Viewed.{pair_of}

pub listed : (vs : List Value) → list_of (items_view vs) ≡ map view vs
listed [] = refl
listed (v ∷ vs) = ap (λ ds. view v ∷ ds) (listed vs)

pub paired : (ms : List (String Global × Value)) → pairs_of (members_view ms) ≡ map pair_of ms
paired [] = refl
paired (m ∷ ms) = ap (λ ps. pair_of m ∷ ps) (paired ms)

-- what is seen of an object, and of an array
pub pairs_seen : (r : Option (Bor (BTreeMap (String Global) Value))) (d : Data)
    → option_map (λ m. members_view m.now.entries) r ≡ as_object d
    → option_map (λ m. map pair_of m.now.entries) r ≡ pairs_in d
pairs_seen None d e = ap (option_map pairs_of) e
pairs_seen (Some m) d e = ap Some (sym (paired m.now.entries)) ∙ ap (option_map pairs_of) e

pub items_seen : (vs : List Value) (d : Data) → Some (items_view vs) ≡ as_array d → Some (map view vs) ≡ items_in d
items_seen vs d e = ap Some (sym (listed vs)) ∙ ap (option_map list_of) e
