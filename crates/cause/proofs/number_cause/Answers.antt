use Rattle.cause.proofs.number_cause.Goals as goal

pub returns-in-ContainerLength : goal.returns-in-ContainerLength
returns-in-ContainerLength c = rw c.in-ContainerLength.is

pub returns-in-RoomTooSmall : goal.returns-in-RoomTooSmall
returns-in-RoomTooSmall c = rw c.in-RoomTooSmall.is

pub returns-in-ReservedBitSet : goal.returns-in-ReservedBitSet
returns-in-ReservedBitSet c = rw c.in-ReservedBitSet.is

pub returns-in-HeaderGrantForm : goal.returns-in-HeaderGrantForm
returns-in-HeaderGrantForm c = rw c.in-HeaderGrantForm.is

pub returns-in-StartInsideMessage : goal.returns-in-StartInsideMessage
returns-in-StartInsideMessage c = rw c.in-StartInsideMessage.is

pub returns-in-UnknownMessage : goal.returns-in-UnknownMessage
returns-in-UnknownMessage c = rw c.in-UnknownMessage.is

pub returns-in-PlaceNotAllowed : goal.returns-in-PlaceNotAllowed
returns-in-PlaceNotAllowed c = rw c.in-PlaceNotAllowed.is

pub returns-in-HeadWrong : goal.returns-in-HeadWrong
returns-in-HeadWrong c = rw c.in-HeadWrong.is

pub returns-in-UnusedByteNotZero : goal.returns-in-UnusedByteNotZero
returns-in-UnusedByteNotZero c = rw c.in-UnusedByteNotZero.is

pub returns-in-GapInGroup : goal.returns-in-GapInGroup
returns-in-GapInGroup c = rw c.in-GapInGroup.is

pub returns-in-SecondMisc : goal.returns-in-SecondMisc
returns-in-SecondMisc c = rw c.in-SecondMisc.is

pub returns-in-TooManyResponses : goal.returns-in-TooManyResponses
returns-in-TooManyResponses c = rw c.in-TooManyResponses.is

pub returns-in-GrantBesideActivation : goal.returns-in-GrantBesideActivation
returns-in-GrantBesideActivation c = rw c.in-GrantBesideActivation.is

pub returns-in-MissingPool : goal.returns-in-MissingPool
returns-in-MissingPool c = rw c.in-MissingPool.is

pub returns-in-BegunOverGranted : goal.returns-in-BegunOverGranted
returns-in-BegunOverGranted c = rw c.in-BegunOverGranted.is

pub returns-in-GrantedOverCapacity : goal.returns-in-GrantedOverCapacity
returns-in-GrantedOverCapacity c = rw c.in-GrantedOverCapacity.is

pub returns-in-BrokenRecord : goal.returns-in-BrokenRecord
returns-in-BrokenRecord c = rw c.in-BrokenRecord.is

pub returns-in-TooLong : goal.returns-in-TooLong
returns-in-TooLong c = rw c.in-TooLong.is

pub returns-in-InvalidState : goal.returns-in-InvalidState
returns-in-InvalidState c = rw c.in-InvalidState.is

pub returns-in-MissingGrantPool : goal.returns-in-MissingGrantPool
returns-in-MissingGrantPool c = rw c.in-MissingGrantPool.is
