-- A fault of a call that is answered as it is. Assumes nothing.
use mathlib.Core.Path.{◌≡◌}
use Rattle.std.specs.Prelude.{Result, Err, IsErrAnd}
use Rattle.std.proofs.lemmas.Result.{err_from_is_err_and}
use Rattle.cause.specs.declared.Fault.{Fault}

pub handed_on : {A : Type 0} {r : Result A Fault} {fault : Fault} {x : Result A Fault} → IsErrAnd r (λ y. y ≡ fault) → Err fault ≡ x → r ≡ x
handed_on {r} h e = let p = err_from_is_err_and r h in rw (p.1, p.2) e
