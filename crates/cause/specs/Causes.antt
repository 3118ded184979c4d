-- Causes and places (document 01): the number of each cause; 20 is retired (document 02, K11), 21 is new (K1).
use Rattle.std.specs.Prelude.{ℕ}
use Rattle.cause.specs.declared.Cause.{Cause}
use Rattle.cause.specs.declared.Cause.TheVariants.{
  ContainerLength,
  RoomTooSmall,
  ReservedBitSet,
  HeaderGrantForm,
  StartInsideMessage,
  UnknownMessage,
  PlaceNotAllowed,
  HeadWrong,
  UnusedByteNotZero,
  GapInGroup,
  SecondMisc,
  TooManyResponses,
  GrantBesideActivation,
  MissingPool,
  BegunOverGranted,
  GrantedOverCapacity,
  BrokenRecord,
  TooLong,
  InvalidState,
  MissingGrantPool,
}

abbrev pub cause_number : Cause → ℕ
-- container handed in by itself not 256 bytes
cause_number ContainerLength = 1
-- reader's room under 352
cause_number RoomTooSmall = 2
-- reserved header bit set
cause_number ReservedBitSet = 3
-- header grant with ShC 1, RP not 0, or one handed to the writer with RP over 7
cause_number HeaderGrantForm = 4
-- start where a message goes on
cause_number StartInsideMessage = 5
-- type or op unknown
cause_number UnknownMessage = 6
-- place not allowed
cause_number PlaceNotAllowed = 7
-- head bits or bytes wrong
cause_number HeadWrong = 8
-- unused byte not zero
cause_number UnusedByteNotZero = 9
-- gap, second MiscU, over four responses
cause_number GapInGroup = 10
cause_number SecondMisc = 11
cause_number TooManyResponses = 12
-- header grant beside Activation
cause_number GrantBesideActivation = 13
-- of a message: missing pool, or push message without push
cause_number MissingPool = 14
-- begun over granted, granted over capacity + finished
cause_number BegunOverGranted = 15
cause_number GrantedOverCapacity = 16
-- broken record or number, log entry cut short, or record whose size, type or head is wrong
cause_number BrokenRecord = 17
-- list over 4,096 bytes; log over 16,777,215 entries
cause_number TooLong = 18
-- format, direction, configuration or state not valid
cause_number InvalidState = 19
-- of a grant: missing pool
cause_number MissingGrantPool = 21

-- the place of the header where the place is a granule (document 02, K1): "the granule of the CrdtGrant or 12 for the header"
abbrev pub header_place : ℕ
header_place = 12
