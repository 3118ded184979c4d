-- Message heads and places (document 01, "Message heads" and "Placement"; 003, section 3.3.1), sentence by sentence. No test of the
-- checks is named here: the numbers of the papers stand in the sentences.
use Rattle.std.specs.Prelude.{ℕ, ◌/◌, ◌%◌, ◌≤◌, ◌<◌, ◌≡◌, Bool, false, ◌||◌, List, [], ◌∷◌, ◌⊎◌, length, get_or, T, eqb}
use Rattle.lists.specs.Pick.{pick}
use Rattle.container.specs.Layout.{Format}

-- byte i of a message, or of a granule
abbrev pub byte : List ℕ → ℕ → ℕ
byte m i = get_or m i 0

-- "Byte 0 bits 0-3 are the type"
abbrev pub type : List ℕ → ℕ
type m = byte m 0 % 16

-- | type | name | bytes |, and for type 10 the op, "MiscU byte 1 is the op"
pub data Row : ℕ → ℕ → ℕ → Type 0 where
  -- type, op, bytes
  ReqS : (op : ℕ) → Row 1 op 20
  ReqL : (op : ℕ) → Row 2 op 40
  Resp : (op : ℕ) → Row 3 op 10
  Resp2 : (op : ℕ) → Row 4 op 20
  Snoop : (op : ℕ) → Row 5 op 20
  DataS : (op : ℕ) → Row 6 op 80
  DataL : (op : ℕ) → Row 7 op 100
  WrReqDataS : (op : ℕ) → Row 8 op 100
  WrReqDataL : (op : ℕ) → Row 9 op 120
  LinkStatus : Row 10 0 10
  Activation : Row 10 1 10
  CrdtGrant : Row 10 2 16
  Connect : Row 10 3 10
  Property : Row 10 4 20

-- m begins a message of n bytes: a row of the table has its type and op
abbrev pub Bytes : List ℕ → ℕ → Type 0
Bytes m n = Row (type m) (byte m 1) n

-- m is a MiscU with a given op
abbrev pub Misc : List ℕ → ℕ → Type 0
Misc m op = (type m ≡ 10) × (byte m 1 ≡ op)

-- t is one of a list
abbrev pub among : List ℕ → ℕ → Bool
among [] t = false
among (a ∷ l) t = eqb t a || among l t

pub record RightHead (m : List ℕ) : Type 0 where
  -- "Byte 0 bits 0-3 are the type, bit 4 SharedCrdt, bits 5-7 ResPlane": eight bits, and no more
  pub eight : byte m 0 < 256
  -- "Types 3, 4, 5 and 10 need bits 4-7 zero;"
  pub plain : T (among (3 ∷ 4 ∷ 5 ∷ 10 ∷ []) (type m)) → byte m 0 / 16 ≡ 0
  -- "types 6 and 7 need bits 5-7 zero."
  pub planeless : T (among (6 ∷ 7 ∷ []) (type m)) → byte m 0 / 32 ≡ 0
  -- "In types 8 and 9, byte 1 bit 0 says that shared DAT pays, bits 1-7 are zero."
  pub push : T (among (8 ∷ 9 ∷ []) (type m)) → byte m 1 / 2 ≡ 0
  -- "1 Activation (10; byte 2 is 1 to 5)"
  pub activation : Misc m 1 → (1 ≤ byte m 2) × (byte m 2 ≤ 5)
  -- "2 CrdtGrant (16; bytes 2-6 are a grant form,": the high half of the form's first byte is zero, and ShC 1 requires RP 0
  pub form : Misc m 2 → (byte m 2 / 16 ≡ 0) × (byte m 2 % 2 ≡ 1 → byte m 2 / 2 % 8 ≡ 0)
  -- "bytes 7-15 zero)"
  pub behind : Misc m 2 → (i : ℕ) → 7 ≤ i → i ≤ 15 → byte m i ≡ 0

-- a whole message: of as many bytes as its row of the table says, with a right head
pub record Message (m : List ℕ) : Type 0 where
  pub sized : Bytes m (length m)
  pub headed : RightHead m

-- a message m may start in granule g; "In Format X container, a message can be placed in any granule" (003): all have 20 bytes
pub record MayStart (fm : Format) (g : ℕ) (m : List ℕ) : Type 0 where
  -- "In Y, G5 and G11 take only Resp or a MiscU that fits in them; Resp2 counts as 'not Resp' here."
  pub narrow : fm.size g < 20 → (type m ≡ 3) ⊎ ((type m ≡ 10) × ((n : ℕ) → Bytes m n → n ≤ fm.size g))
  -- "LinkStatus goes only in G0."
  pub first : Misc m 0 → g ≡ 0

-- what a message that starts counts among the responses: "at most four responses start, Resp2 counting two"
abbrev pub response_count : List ℕ → ℕ
response_count m = pick (eqb (type m) 3) 1 (pick (eqb (type m) 4) 2 0)
