-- Each number of the table is one cause's, and 20 is none's. Assumes nothing.
use Prim.Native.Nat.{ℕ, ◌≤◌, ◌<◌}
use mathlib.Core.Path.{◌≡◌, refl, sym, ap, ◌∙◌}
use mathlib.Core.List.{List, [], ◌∷◌}
use mathlib.Core.Logic.{⊎_elim}
use native.Mathlib.Omega.{arith}
use lib.ListN.{length, get_or, get_or-eq_default}
use Rattle.lists.proofs.Order.{lt_or_le}
use Rattle.cause.specs.Causes.{cause_number}
use Rattle.cause.specs.declared.Cause.{Cause}
use Rattle.cause.specs.declared.Cause.TheVariants.{
  ContainerLength,
  RoomTooSmall,
  ReservedBitSet,
  HeaderGrantForm,
  StartInsideMessage,
  UnknownMessage,
  PlaceNotAllowed,
  HeadWrong,
  UnusedByteNotZero,
  GapInGroup,
  SecondMisc,
  TooManyResponses,
  GrantBesideActivation,
  MissingPool,
  BegunOverGranted,
  GrantedOverCapacity,
  BrokenRecord,
  TooLong,
  InvalidState,
  MissingGrantPool,
}

-- what stands where a number is no cause's
abbrev none : Cause
none = InvalidState

-- the causes by number
causes : List Cause
causes =
    none
    ∷ ContainerLength
    ∷ RoomTooSmall
    ∷ ReservedBitSet
    ∷ HeaderGrantForm
    ∷ StartInsideMessage
    ∷ UnknownMessage
    ∷ PlaceNotAllowed
    ∷ HeadWrong
    ∷ UnusedByteNotZero
    ∷ GapInGroup
    ∷ SecondMisc
    ∷ TooManyResponses
    ∷ GrantBesideActivation
    ∷ MissingPool
    ∷ BegunOverGranted
    ∷ GrantedOverCapacity
    ∷ BrokenRecord
    ∷ TooLong
    ∷ InvalidState
    ∷ none
    ∷ MissingGrantPool
    ∷ []

numbered : ℕ → Cause
numbered n = get_or causes n none

numbered_back : (c : Cause) → numbered (cause_number c) ≡ c
unfolding numbered causes
numbered_back ContainerLength = refl
numbered_back RoomTooSmall = refl
numbered_back ReservedBitSet = refl
numbered_back HeaderGrantForm = refl
numbered_back StartInsideMessage = refl
numbered_back UnknownMessage = refl
numbered_back PlaceNotAllowed = refl
numbered_back HeadWrong = refl
numbered_back UnusedByteNotZero = refl
numbered_back GapInGroup = refl
numbered_back SecondMisc = refl
numbered_back TooManyResponses = refl
numbered_back GrantBesideActivation = refl
numbered_back MissingPool = refl
numbered_back BegunOverGranted = refl
numbered_back GrantedOverCapacity = refl
numbered_back BrokenRecord = refl
numbered_back TooLong = refl
numbered_back InvalidState = refl
numbered_back MissingGrantPool = refl

-- two causes with one number are one
pub same_number : (a b : Cause) → cause_number a ≡ cause_number b → a ≡ b
same_number a b e = sym (numbered_back a) ∙ ap numbered e ∙ numbered_back b

-- a number at which no other cause stands is that of InvalidState
last_only : (c : Cause) → numbered (cause_number c) ≡ none → cause_number c ≡ cause_number none
last_only c e = ap cause_number (sym (numbered_back c) ∙ e)

-- 20 is retired: no cause has it
pub retired : (c : Cause) → cause_number c ≡ 20 → ⊥
unfolding numbered causes
retired c e = let n = last_only c (ap numbered e) in omega arith

-- no number is over 21
pub number_most : (c : Cause) → cause_number c ≤ 21
unfolding numbered causes
number_most c =
    ⊎_elim (λ (h : cause_number c < length causes). omega arith)
    (λ (h : length causes ≤ cause_number c). let n = last_only c (get_or-eq_default causes none h) in omega arith) (lt_or_le (cause_number c) (length causes))

-- and none is 0
pub number_some : (c : Cause) → 0 < cause_number c
unfolding numbered causes
number_some c =
    ⊎_elim (λ (h : 0 < cause_number c). h) (λ (h : cause_number c ≤ 0). let z : cause_number c ≡ 0 = omega arith in let n = last_only c (ap numbered z) in omega arith)
    (lt_or_le 0 (cause_number c))
