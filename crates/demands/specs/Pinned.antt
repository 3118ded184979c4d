-- Cause and place of short examples, in the paper's numbers, as one statement about the definitions: each reading cause, the granules that
-- 14 and 21 name, the pools that 15 and 16 name, what a Resp2 pays, and the writer's.
use Rattle.std.specs.Prelude.{ℕ, ◌≡◌, Bool, true, false, List, [], ◌∷◌, ◌++◌, replicate}
use Rattle.cause.specs.Causes.{cause_number}
use Rattle.reader.specs.Reading.{reader_with, reading}
use Rattle.reader.specs.declared.reader.Answer.TheVariants as read
use Rattle.writer.specs.Filling.{writer_with, filling}
use Rattle.writer.specs.declared.writer.Answer.{Answer}
use Rattle.writer.specs.declared.writer.Answer.TheVariants.{Accepted, Refused}
use Rattle.ledger.specs.Audit.{fresh_ledger}
use Rattle.pools.specs.declared.receiver.Receiver.{Receiver}
use Rattle.history.specs.Calls.{Call}
use Rattle.demands.specs.Marked.{with_bytes, receiver_with, read_told, answers_to, call, grants_responses}

-- cause and place of a container of zeros but for some bytes, read by a new reader; in X P0 is byte 126, in Y byte 246
abbrev pub x : List (ℕ × ℕ) → ℕ × ℕ
x bs = read_told (reading (reader_with 0 []) (with_bytes bs) 352).answer

abbrev pub y : List (ℕ × ℕ) → ℕ × ℕ
y bs = read_told (reading (reader_with 1 []) (with_bytes bs) 352).answer

-- a receiver of so many planes, with push or without, and no buffers
abbrev pub bare : ℕ → Bool → Receiver
bare n push = record { planes = n; push = push; capacities = replicate 14 0 }

-- the audit's answer to one entry in X, with these receivers of directions 0 and 1
abbrev pub audited_between : Receiver → Receiver → ℕ → List (ℕ × ℕ) → List (ℕ × ℕ)
audited_between a b d bs = answers_to (fresh_ledger 0 a b) (call d bs ∷ [])

-- the same with two receivers alike
abbrev pub audited : ℕ → Bool → ℕ → List (ℕ × ℕ) → List (ℕ × ℕ)
audited n push = audited_between (bare n push) (bare n push)

-- the audit's answers to entries in X, with two buffers of pools 9 and 11 in each direction
abbrev pub answered : List (Call (List ℕ)) → List (ℕ × ℕ)
answered = answers_to (fresh_ledger 0 (receiver_with 2) (receiver_with 2))

-- a response of type t in G0: 3 is a Resp, 4 a Resp2
abbrev pub response : ℕ → List (ℕ × ℕ)
response t = (126, 1) ∷ (0, t) ∷ []

-- cause and place of a fill in X
abbrev pub fill_told : Answer → ℕ × ℕ
fill_told (Accepted used) = (0, 0)
fill_told (Refused k p) = (cause_number k, p)

abbrev pub fills : List ℕ → Bool → ℕ → ℕ × ℕ
fills l shc rp = fill_told (filling (writer_with 0 []) l (record { shc = shc; rp = rp; req = 0; rsp = 0; snp = 0; dat = 0 }) 256).answer

pub record Pinned : Type 0 where
  -- 19, 1 and 2: a format that is none, a container of 255 bytes, a room of 351
  pub format : read_told (reading (reader_with 2 []) (replicate 255 0) 351).answer ≡ (19, 0)
  pub short : read_told (reading (reader_with 0 []) (replicate 255 0) 351).answer ≡ (1, 0)
  pub room : read_told (reading (reader_with 0 []) (with_bytes ((127, 16) ∷ [])) 351).answer ≡ (2, 0)
  -- 3: the high half of P1 in X, P9 in Y; 4: ShC 1 with RP 1
  pub high_half : x ((127, 16) ∷ (188, 3) ∷ []) ≡ (3, 0)
  pub ninth : y ((255, 1) ∷ []) ≡ (3, 0)
  pub shared_plane : x ((188, 3) ∷ []) ≡ (4, 0)
  -- 5: a ReqS starts in G1, where the ReqL of G0 goes on
  pub inside : x ((126, 3) ∷ (0, 2) ∷ (20, 1) ∷ []) ≡ (5, 1)
  -- 6: type 11 in G3, a MiscU of op 5 in G0, type 0 in G5 of Y, where no such place is
  pub type_11 : x ((126, 8) ∷ (64, 11) ∷ []) ≡ (6, 3)
  pub op_5 : x ((126, 1) ∷ (0, 10) ∷ (1, 5) ∷ []) ≡ (6, 0)
  pub type_0 : y ((246, 32) ∷ []) ≡ (6, 5)
  -- 7: LinkStatus in G1; in Y Resp2 in G5, and in G11 a CrdtGrant
  pub link_status_place : x ((126, 2) ∷ (20, 10) ∷ []) ≡ (7, 1)
  pub resp2 : y ((246, 32) ∷ (104, 4) ∷ []) ≡ (7, 5)
  pub crdt_grant_place : y ((247, 8) ∷ (232, 10) ∷ (233, 2) ∷ []) ≡ (7, 11)
  -- 8: bit 4 of a Resp, bit 5 of a DataS, byte 1 of a WrReqDataS, Activation 0 and 6, and not 5
  pub resp_bit : x ((126, 1) ∷ (0, 19) ∷ []) ≡ (8, 0)
  pub data_bit : x ((126, 1) ∷ (0, 38) ∷ []) ≡ (8, 0)
  pub push_bit : x ((126, 1) ∷ (0, 8) ∷ (1, 2) ∷ []) ≡ (8, 0)
  pub activation_0 : x ((126, 1) ∷ (0, 10) ∷ (1, 1) ∷ []) ≡ (8, 0)
  pub activation_5 : x ((126, 1) ∷ (0, 10) ∷ (1, 1) ∷ (2, 5) ∷ []) ≡ (0, 0)
  pub activation_6 : x ((126, 1) ∷ (0, 10) ∷ (1, 1) ∷ (2, 6) ∷ []) ≡ (8, 0)
  -- 8: the high half of a CrdtGrant's form, and its byte 15
  pub grant_half : x ((126, 1) ∷ (0, 10) ∷ (1, 2) ∷ (2, 16) ∷ []) ≡ (8, 0)
  pub grant_last : x ((126, 1) ∷ (0, 10) ∷ (1, 2) ∷ (15, 1) ∷ []) ≡ (8, 0)
  -- 9: byte 10 of the granule of a Resp, byte 16 of that of a CrdtGrant, a byte of G7
  pub behind_resp : x ((126, 1) ∷ (0, 3) ∷ (10, 1) ∷ []) ≡ (9, 0)
  pub behind_grant : x ((126, 1) ∷ (0, 10) ∷ (1, 2) ∷ (16, 1) ∷ []) ≡ (9, 0)
  pub empty : x ((148, 1) ∷ []) ≡ (9, 7)
  -- 10: G2 behind G1, G10 behind G9; 11: Connect in G3 and G4; 12: Resp2, Resp2, Resp in G9, G10, G11; 13: Activation beside a count
  pub gap_0 : x ((126, 5) ∷ (0, 3) ∷ (40, 3) ∷ []) ≡ (10, 0)
  pub gap_3 : x ((127, 4) ∷ (212, 3) ∷ []) ≡ (10, 3)
  pub second_misc : x ((126, 24) ∷ (64, 10) ∷ (65, 3) ∷ (84, 10) ∷ (85, 3) ∷ []) ≡ (11, 1)
  pub many : x ((127, 14) ∷ (192, 4) ∷ (212, 4) ∷ (232, 3) ∷ []) ≡ (12, 3)
  pub beside : x ((126, 1) ∷ (0, 10) ∷ (1, 1) ∷ (2, 1) ∷ (190, 1) ∷ []) ≡ (13, 0)
  -- the answer hands out the header's grant: P2 8 is plane 4, and P3 to P6 are 1, 2, 3, 4
  pub grant : (reading (reader_with 0 []) (with_bytes ((188, 8) ∷ (189, 1) ∷ (190, 2) ∷ (191, 3) ∷ (252, 4) ∷ [])) 352).answer
      ≡ read.Accepted 0 (record { shc = false; rp = 4; req = 1; rsp = 2; snp = 3; dat = 4 })
  -- 19 of the audit: direction 2
  pub direction : audited 2 true 2 [] ≡ (19, 0) ∷ []
  -- 14 of messages, at their granule: ReqS of plane 3, also in G3, which shared credit does not excuse; a DataS without push; a WrReqDataS
  -- without push, which shared DAT does not excuse, and with push and one plane
  pub plane_3 : audited 2 true 0 ((126, 1) ∷ (0, 97) ∷ []) ≡ (14, 0) ∷ []
  pub plane_3_g3 : audited 2 true 0 ((126, 8) ∷ (64, 97) ∷ []) ≡ (14, 3) ∷ []
  pub plane_3_shared : audited 2 true 0 ((126, 1) ∷ (0, 113) ∷ []) ≡ (14, 0) ∷ []
  pub data_no_push : audited 2 false 0 ((126, 1) ∷ (0, 6) ∷ []) ≡ (14, 0) ∷ []
  pub push_no_push : audited 2 false 0 ((126, 1) ∷ (0, 8) ∷ []) ≡ (14, 0) ∷ []
  pub push_shared : audited 2 false 0 ((126, 1) ∷ (0, 8) ∷ (1, 1) ∷ []) ≡ (14, 0) ∷ []
  pub push_one_plane : audited 1 true 0 ((126, 1) ∷ (0, 8) ∷ []) ≡ (14, 0) ∷ []
  -- 21 of grants, at 12 for the header and at the granule of a CrdtGrant: plane 5 with four zero counts, in the header and in G3; DAT of
  -- plane 0 and of plane 1 without push
  pub grant_plane : audited 2 true 0 ((188, 10) ∷ []) ≡ (21, 12) ∷ []
  pub crdt_plane : audited 2 true 0 ((126, 8) ∷ (64, 10) ∷ (65, 2) ∷ (66, 10) ∷ []) ≡ (21, 3) ∷ []
  pub grant_dat_0 : audited 2 false 0 ((252, 1) ∷ []) ≡ (21, 12) ∷ []
  pub grant_dat_1 : audited 2 false 0 ((188, 2) ∷ (252, 1) ∷ []) ≡ (21, 12) ∷ []
  -- a message in G3 comes before the header's grant, and that before a CrdtGrant in G0
  pub message_first : audited 2 true 0 ((126, 8) ∷ (64, 97) ∷ (188, 10) ∷ []) ≡ (14, 3) ∷ []
  pub header_first : audited 2 true 0 ((126, 1) ∷ (0, 10) ∷ (1, 2) ∷ (2, 10) ∷ (188, 10) ∷ []) ≡ (21, 12) ∷ []
  -- one plane in direction 0 and two in direction 1: a ReqS of plane 1 is judged by its own direction, a grant to plane 1 by the opposite one
  pub own_0 : audited_between (bare 1 true) (bare 2 true) 0 ((126, 1) ∷ (0, 33) ∷ []) ≡ (14, 0) ∷ []
  pub own_1 : audited_between (bare 1 true) (bare 2 true) 1 ((126, 1) ∷ (0, 33) ∷ []) ≡ (15, 2) ∷ []
  pub opposite_0 : audited_between (bare 1 true) (bare 2 true) 0 ((188, 2) ∷ []) ≡ (0, 0) ∷ []
  pub opposite_1 : audited_between (bare 1 true) (bare 2 true) 1 ((188, 2) ∷ []) ≡ (21, 12) ∷ []
  -- 15: a Resp and a Snoop without a credit; 16: one SNP, one REQ of plane 1 and one shared DAT without a buffer; 15 before 16
  pub no_rsp : audited 2 true 1 ((126, 1) ∷ (0, 3) ∷ []) ≡ (15, 9) ∷ []
  pub no_snp : audited 2 true 1 ((126, 1) ∷ (0, 5) ∷ []) ≡ (15, 10) ∷ []
  pub over_snp : audited 2 true 0 ((191, 1) ∷ []) ≡ (16, 10) ∷ []
  pub over_req : audited 2 true 0 ((188, 2) ∷ (189, 1) ∷ []) ≡ (16, 2) ∷ []
  pub over_dat : audited 2 true 0 ((188, 1) ∷ (252, 1) ∷ []) ≡ (16, 11) ∷ []
  pub begun_first : audited 2 true 0 ((126, 1) ∷ (0, 5) ∷ (190, 1) ∷ []) ≡ (15, 10) ∷ []
  -- a Resp2 pays two (document 02, K3), with two buffers of pool 9: one credit is not enough, two are and both are gone, and a Resp beside it
  -- needs a third; two slots come back, where a Resp gives one back
  pub resp2_on_one : answered (call 1 (grants_responses 1) ∷ call 0 (response 4) ∷ []) ≡ (0, 0) ∷ (15, 9) ∷ []
  pub resp2_on_two : answered (call 1 (grants_responses 2) ∷ call 0 (response 4) ∷ call 0 (response 3) ∷ []) ≡ (0, 0) ∷ (0, 0) ∷ (15, 9) ∷ []
  pub resp_beside : answered (call 1 (grants_responses 2) ∷ call 0 ((126, 3) ∷ (0, 3) ∷ (20, 4) ∷ []) ∷ []) ≡ (0, 0) ∷ (15, 9) ∷ []
  pub two_slots : answered (call 1 (grants_responses 2) ∷ call 0 (response 4) ∷ call 1 (grants_responses 2) ∷ []) ≡ (0, 0) ∷ (0, 0) ∷ (0, 0) ∷ []
  pub one_slot : answered (call 1 (grants_responses 2) ∷ call 0 (response 3) ∷ call 1 (grants_responses 2) ∷ []) ≡ (0, 0) ∷ (0, 0) ∷ (16, 9) ∷ []
  -- 4 and 17 of the writer: plane 8, ShC 1 with plane 1; the second record, at byte 11, is broken
  pub plane_8 : fills [] false 8 ≡ (4, 0)
  pub fill_shared : fills (128 ∷ 0 ∷ []) true 1 ≡ (4, 0)
  pub broken : fills ((10 ∷ 3 ∷ replicate 9 0) ++ (128 ∷ 0 ∷ [])) false 0 ≡ (17, 11)
