-- Lists of calls of any audit whose ledger agrees with the entries that it accepted. Assumes nothing.
use Prim.Native.Nat.{ℕ, zero, suc}
use mathlib.Core.Path.{◌≡◌, refl}
use mathlib.Core.Logic.{◌↔◌}
use mathlib.Core.Bool.{Bool, true, false}
use mathlib.Core.Option.{some}
use Rattle.lists.specs.Pick.{pick}
use Rattle.history.specs.Trace.{Trace, start, ◌▷◌}
use Rattle.history.specs.Link.{Direction, direction0, direction1, number_of, direction_of}
use Rattle.history.specs.History.{Entry}
use Rattle.history.specs.Calls.{Auditor, Call, Admits, note, after, accepted, Exactly}

-- a number is that of a direction exactly when the direction is that of the number
pub direction_is : (n : ℕ) (d : Direction) → number_of d ≡ n → direction_of n ≡ some d
direction_is n direction0 e = rw (← e)
direction_is n direction1 e = rw (← e)

pub number_is : (n : ℕ) (d : Direction) → direction_of n ≡ some d → number_of d ≡ n
number_is zero d e = let q : d ≡ direction0 = cc in rw q
number_is (suc zero) d e = let q : d ≡ direction1 = cc in rw q
number_is (suc (suc n)) d e = cc

-- the ledger agrees with the accepted entries at first and after each call, and then a call accepts exactly when it is to
pub record Faithful {A : Type 0} (U : Auditor A) (Good : Trace (Entry A) → Type 0) (Agrees : Trace (Entry A) → U.Ledger → Type 0) : Type 0 where
  pub at_first : Agrees start U.fresh
  pub decides : (t : Trace (Entry A)) (l : U.Ledger) → Agrees t l → (x : Call A) → (U.audit l x).accepts ≡ true ↔ Admits Good t x
  pub enters : (t : Trace (Entry A)) (l : U.Ledger) → Agrees t l → (x : Call A) (d : Direction) → number_of d ≡ x.number
      → Good (t ▷ record { direction = d; container = x.container })
      → Agrees (t ▷ record { direction = d; container = x.container }) (U.audit l x).ledger
  pub refuses : (t : Trace (Entry A)) (l : U.Ledger) → Agrees t l → (x : Call A) → (U.audit l x).accepts ≡ false → Agrees t (U.audit l x).ledger

module _ {A : Type 0} (U : Auditor A) (Good : Trace (Entry A) → Type 0) (Agrees : Trace (Entry A) → U.Ledger → Type 0) (F : Faithful U Good Agrees) where
  call_agrees : (t : Trace (Entry A)) (l : U.Ledger) → Agrees t l → (x : Call A) (b : Bool) → (U.audit l x).accepts ≡ b
      → Agrees (pick b (note t (direction_of x.number) x.container) t) (U.audit l x).ledger
  call_agrees t l a x true e =
      let w = (F.decides t l a x).0 e in
      rw (direction_is x.number w.0 w.1) (F.enters t l a x w.0 w.1 w.2)
  call_agrees t l a x false e = F.refuses t l a x e

  pub always_agrees : (xs : Trace (Call A)) → Agrees (accepted U xs) (after U xs)
  always_agrees start = F.at_first
  always_agrees (xs ▷ x) = call_agrees (accepted U xs) (after U xs) (always_agrees xs) x (U.audit (after U xs) x).accepts refl

  pub calls_exactly : (xs : Trace (Call A)) → Exactly U Good xs
  calls_exactly xs before x m = F.decides (accepted U before) (after U before) (always_agrees before) x

-- the audit U answers and reports as U' does, as long as their ledgers are related
pub record Simulates {A : Type 0} (U U' : Auditor A) (Related : U.Ledger → U'.Ledger → Type 0) : Type 0 where
  pub related_first : Related U.fresh U'.fresh
  pub same_answer : (l : U.Ledger) (l' : U'.Ledger) → Related l l' → (x : Call A) → (U.audit l x).accepts ≡ (U'.audit l' x).accepts
  pub related_next : (l : U.Ledger) (l' : U'.Ledger) → Related l l' → (x : Call A) → Related (U.audit l x).ledger (U'.audit l' x).ledger
  pub same_held : (l : U.Ledger) (l' : U'.Ledger) → Related l l' → (d : Direction) (p : ℕ) → U.held l d p ≡ U'.held l' d p
  pub same_unfinished : (l : U.Ledger) (l' : U'.Ledger) → Related l l' → (d : Direction) (p : ℕ) → U.unfinished l d p ≡ U'.unfinished l' d p

module _ {A : Type 0} (U U' : Auditor A) (Related : U.Ledger → U'.Ledger → Type 0) (S : Simulates U U' Related) where
  pub always_related : (xs : Trace (Call A)) → Related (after U xs) (after U' xs)
  always_related start = S.related_first
  always_related (xs ▷ x) = S.related_next (after U xs) (after U' xs) (always_related xs) x

  pub same_accepted : (xs : Trace (Call A)) → accepted U xs ≡ accepted U' xs
  same_accepted start = refl
  same_accepted (xs ▷ x) = rw (S.same_answer (after U xs) (after U' xs) (always_related xs) x, same_accepted xs)
