-- Checks in order: the first that fails gives its cause and place.
use Rattle.std.specs.Prelude.{ℕ, ◌≡◌, Bool, true, false, List, [], ◌∷◌, Result, Ok, Err, ⊤}
use Rattle.lists.specs.Pick.{pick}
use Rattle.cause.specs.declared.Cause.{Cause}
use Rattle.cause.specs.declared.Fault.{Fault}

-- what a list of checks finds: nothing, or the first fault
abbrev pub Verdict : Type 0
Verdict = Result ⊤ Fault

abbrev pub Accepted : Verdict
Accepted = Ok tt

abbrev pub Refused : Cause → ℕ → Verdict
Refused c p = Err (record { cause = c; place = p })

-- a, or the fault of the verdict
abbrev pub given : {A : Type 0} → Verdict → A → Result A Fault
given (Ok _) a = Ok a
given (Err fault) a = Err fault

-- a either way, beside the fault where the verdict is one
abbrev pub handed : {A : Type 0} → Verdict → A → Result A (A × Fault)
handed (Ok _) a = Ok a
handed (Err fault) a = Err (a, fault)

-- a test, and the cause and place that its failure gives
pub record Check : Type 0 where
  pub passes : Bool
  pub cause : Cause
  pub place : ℕ

abbrev pub check : Bool → Cause → ℕ → Check
check b c p = record { passes = b; cause = c; place = p }

-- a where the verdict is an acceptance, else b
abbrev pub when_accepted : {A : Type 0} → Verdict → A → A → A
when_accepted (Ok _) a b = a
when_accepted (Err fault) a b = b

-- a verdict, and another where it is an acceptance
abbrev pub or_else : Verdict → Verdict → Verdict
or_else (Ok _) v = v
or_else (Err fault) v = Err fault

-- a verdict is an acceptance
abbrev pub passes : Verdict → Bool
passes (Ok _) = true
passes (Err fault) = false

-- the first check that fails
abbrev pub first_fault : List Check → Verdict
first_fault [] = Accepted
first_fault (k ∷ l) = pick k.passes (first_fault l) (Refused k.cause k.place)

-- every check passes
abbrev pub Pass : List Check → Type 0
Pass [] = Unit {0}
Pass (k ∷ l) = (k.passes ≡ true) × Pass l
