-- What `?` gives back where it returns: the error as it was, or what `From` makes of it.
use mathlib.Core.Path.{◌≡◌, ap, ◌∙◌}
use Rattle.std.specs.Prelude.{Result, Err}
use Rattle.std.specs.Result.{IsErr, IsErrAnd}
use Rattle.std.proofs.lemmas.Result.{err_from_is_err_and}

module _ {T E : Type 0} {r : Result T E} where
  pub passed-on : {e : E} → IsErr r × IsErrAnd r (λ y. y ≡ e) → r ≡ Err e
  passed-on h = let p = err_from_is_err_and r h.1 in p.1 ∙ ap Err p.2
