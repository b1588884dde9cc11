-- What an error that is passed on leaves.
use Rattle.std.proofs.Common.{◌≡◌, Result, Ok, Err, IfErr, sym, subst}
use Rattle.std.specs.Result.{IsErrAnd}

pub passed : {T E : Type 0} (P : E → Type 0) (r : Result T E) (stop : E) → IsErrAnd r (λ e. e ≡ stop) → P stop → IfErr r P
passed P (Ok value) stop is h = absurd is
passed P (Err e) stop is h = subst P (sym is) h
