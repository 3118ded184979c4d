-- The marked examples of document 01, M1 to M10, as one statement about the definitions.
use Rattle.std.specs.Prelude.{ℕ, ◌≡◌, true, List, [], ◌∷◌, ◌++◌, replicate, set, Ok, Err}
use Rattle.cause.specs.Causes.{cause_number}
use Rattle.container.specs.Layout.{format_of, granule}
use Rattle.container.specs.Grants.{grant_of}
use Rattle.container.specs.declared.grant.Grant.{Grant}
use Rattle.record.specs.Number.{number, read_number, Broken, Value}
use Rattle.record.specs.Records.{records_of}
use Rattle.reader.specs.Reading.{reader_with, reading, records}
use Rattle.reader.specs.declared.reader.Answer as reader
use Rattle.reader.specs.declared.reader.Answer.TheVariants as read
use Rattle.writer.specs.Filling.{writer_with, fill_bytes}
use Rattle.ledger.specs.Audit.{fresh_ledger, auditing}
use Rattle.pools.specs.declared.receiver.Receiver.{Receiver}
use Rattle.ledger.specs.declared.ledger.Ledger.{Ledger}
use Rattle.history.specs.Calls.{Call}
use Rattle.cause.specs.Checks.{Verdict}

-- a container of zeros but for some bytes, each given by its place and value
abbrev pub with_bytes : List (ℕ × ℕ) → List ℕ
with_bytes [] = replicate 256 0
with_bytes (b ∷ bs) = set (with_bytes bs) b.0 b.1

-- a receiver with push, two planes, and a capacity for each pool
abbrev pub receiver_with : ℕ → Receiver
receiver_with n = record { planes = 2; push = true; capacities = 0 ∷ 0 ∷ 0 ∷ 0 ∷ 0 ∷ 0 ∷ 0 ∷ 0 ∷ 0 ∷ n ∷ 0 ∷ n ∷ 0 ∷ 0 ∷ [] }

-- an answer in the paper's numbers: its cause and place, twice 0 where there is no refusal
abbrev pub read_told : reader.Answer → ℕ × ℕ
read_told (read.Accepted n grant) = (0, 0)
read_told (read.Refused k p) = (cause_number k, p)

abbrev pub audit_told : Verdict → ℕ × ℕ
audit_told (Ok _) = (0, 0)
audit_told (Err fault) = (cause_number fault.cause, fault.place)

-- the answers to calls one after the other, each with the ledger that the last one handed back
abbrev pub answers_to : Ledger → List (Call (List ℕ)) → List (ℕ × ℕ)
answers_to s [] = []
answers_to s (x ∷ xs) = audit_told (auditing s x.number x.container).answer ∷ answers_to (auditing s x.number x.container).ledger xs

-- a call of direction d
abbrev pub call : ℕ → List (ℕ × ℕ) → Call (List ℕ)
call d bs = record { number = d; container = with_bytes bs }

-- in format X: a header that grants n credits of pool 9 (P4 is byte 190), and one that grants n of pool 11 (P2 is byte 188 and P6 byte 252)
abbrev pub grants_responses : ℕ → List (ℕ × ℕ)
grants_responses n = (190, n) ∷ []

abbrev pub grants_data : ℕ → List (ℕ × ℕ)
grants_data n = (188, 1) ∷ (252, n) ∷ []

-- in format X: a DataS that shared credit pays starts in G9, the second bit of P1 (byte 127), at byte 192
abbrev pub data_at_g9 : List (ℕ × ℕ)
data_at_g9 = (127, 2) ∷ (192, 22) ∷ []

-- in format Y: a Resp starts in G3 and a ReqL in G4 (P0, byte 246); the last byte of G4 and the first of G6 are marked
abbrev pub req_at_g4 : List ℕ
req_at_g4 = with_bytes ((246, 24) ∷ (64, 3) ∷ (84, 2) ∷ (103, 7) ∷ (128, 9) ∷ [])

-- a DataL starts in G9, at byte 192: P1 is byte 127 in X and byte 247 in Y
abbrev pub long_at_g9 : ℕ → List ℕ
long_at_g9 p1 = with_bytes ((p1, 2) ∷ (192, 7) ∷ [])

-- in format X: messages of three types start in group 0 (P0 is byte 126)
abbrev pub group_of : ℕ → ℕ → ℕ → List ℕ
group_of a b c = with_bytes ((126, 7) ∷ (0, a) ∷ (20, b) ∷ (40, c) ∷ [])

-- no grant
abbrev pub no_grant : Grant
no_grant = grant_of 0 0 0 0 0

pub record Marked : Type 0 where
  -- M1 "all-zero container: accepted, no records"
  pub m1_x : (reading (reader_with 0 []) (with_bytes []) 352).answer ≡ read.Accepted 0 no_grant
  pub m1_y : (reading (reader_with 1 []) (with_bytes []) 352).answer ≡ read.Accepted 0 no_grant
  -- M2 "list 0A 03 and nine zeros, format X, no grant: byte 0 is 03, byte 126 is 01, every other byte zero"
  pub m2 : fill_bytes (writer_with 0 []) (10 ∷ 3 ∷ replicate 9 0) no_grant (replicate 256 255) ≡ with_bytes ((0, 3) ∷ (126, 1) ∷ [])
  -- M3 "ReqL at G4 in Y lies in G4 and G6"
  pub m3 : records (reader_with 1 []) req_at_g4 ≡ records_of ((3 ∷ replicate 9 0) ∷ (granule (format_of 1) 4 req_at_g4 ++ granule (format_of 1) 6 req_at_g4) ∷ [])
  pub m3_read : (reading (reader_with 1 []) req_at_g4 352).answer ≡ read.Accepted 52 no_grant
  -- M4 "DataL at G9 in X leaves a carry of 60 bytes"; M5 "in Y, 40"
  pub m4 : (reading (reader_with 0 []) (long_at_g9 127) 352).reader.carry.len ≡ 60
  pub m5 : (reading (reader_with 1 []) (long_at_g9 247) 352).reader.carry.len ≡ 40
  -- M6 "Resp2, Resp2, Resp in group 0: cause 12, place 0"; M7 "Resp, Resp2, Resp: accepted"
  pub m6 : read_told (reading (reader_with 0 []) (group_of 4 4 3) 352).answer ≡ (12, 0)
  pub m7 : (reading (reader_with 0 []) (group_of 3 4 3) 352).answer ≡ read.Accepted 43 no_grant
  -- M8 "capacity 2: granting 2 passes, granting 3 is cause 16"
  pub m8 : answers_to (fresh_ledger 0 (receiver_with 2) (receiver_with 2)) (call 0 (grants_responses 2) ∷ []) ≡ (0, 0) ∷ []
  pub m8_refused : answers_to (fresh_ledger 0 (receiver_with 2) (receiver_with 2)) (call 0 (grants_responses 3) ∷ []) ≡ (16, 9) ∷ []
  -- M9 "300 is AC 02; 80 00 is broken"
  pub m9 : number 300 ≡ 172 ∷ 2 ∷ []
  pub m9_read : read_number (172 ∷ 2 ∷ []) ≡ Value 300 2
  pub m9_broken : read_number (128 ∷ 0 ∷ []) ≡ Broken
  -- M10 "pool 11, capacity 1, one granted; DataS begins at G9 in X. A new grant of 1 now is cause 16, and passes after the next container
  -- finishes it."
  pub m10 : answers_to (fresh_ledger 0 (receiver_with 1) (receiver_with 1)) (call 1 (grants_data 1) ∷ call 0 data_at_g9 ∷ call 1 (grants_data 1) ∷ call 0 [] ∷ call 1 (grants_data 1) ∷ [])
      ≡ (0, 0) ∷ (0, 0) ∷ (16, 11) ∷ (0, 0) ∷ (0, 0) ∷ []
