-- Numbers of cells as the code has them: exact up to the greatest number of cells that a table may have, and one more for any
-- greater number.
use Rattle.std.specs.Prelude.{ℕ, min, List, bytes_eq, Option, unwrap_or}
use Rattle.indexmap.specs.IndexMap.{get_by}
use Rattle.pv_mean.specs.declared.count.TheConstants.{BEYOND}
use Rattle.pv_mean.specs.declared.known.Known.{Known}

abbrev pub capped : ℕ → ℕ
capped n = min n BEYOND

-- what is known of the type of this key, and the number that counts for it
abbrev pub known_in : Known → List ℕ → Option ℕ
known_in k key = get_by (bytes_eq key) k.sizes

abbrev pub size_known : Known → List ℕ → ℕ
size_known k key = unwrap_or (known_in k key) 0
