-- Examples of request K8 of document 02: what lies beneath a longer message, as one statement about the definitions.
use Rattle.std.specs.Prelude.{ℕ, ◌≡◌, List, [], ◌∷◌, length, replicate}
use Rattle.record.specs.Records.{records_of}
use Rattle.reader.specs.Reading.{reader_with, records}
use Rattle.writer.specs.Filling.{writer_with, filling, fill_bytes}
use Rattle.round_trip.specs.Calls.{zero_grant}
use Rattle.writer.specs.declared.writer.Step.{Step}
use Rattle.writer.specs.declared.writer.Answer.TheVariants.{Accepted}
use Rattle.demands.specs.Marked.{with_bytes}

-- messages whose bytes behind the head are zero
abbrev pub req_s : List ℕ
req_s = 1 ∷ replicate 19 0

abbrev pub req_l : List ℕ
req_l = 2 ∷ replicate 39 0

abbrev pub resp : List ℕ
resp = 3 ∷ replicate 9 0

abbrev pub data_s : List ℕ
data_s = 6 ∷ replicate 79 0

abbrev pub activation : List ℕ
activation = 10 ∷ 1 ∷ 1 ∷ replicate 7 0

-- the container that a new writer of a format fills from messages, with no grant
abbrev pub filled_from : ℕ → List (List ℕ) → List ℕ
filled_from f ms = fill_bytes (writer_with f []) (records_of ms) zero_grant (replicate 256 0)

-- what it answers, and the writer then
abbrev pub step_from : ℕ → List (List ℕ) → Step
step_from f ms = filling (writer_with f []) (records_of ms) zero_grant 256

pub record Beneath : Type 0 where
  -- in Y: DataS in G0 to G3, ReqL in G4 and G6, Resp beneath it in G5, ReqS in G7
  pub under_g5 : filled_from 1 (data_s ∷ req_l ∷ resp ∷ req_s ∷ []) ≡ with_bytes ((246, 177) ∷ (0, 6) ∷ (84, 2) ∷ (104, 3) ∷ (148, 1) ∷ [])
  -- the Resp ends first and comes out first
  pub under_g5_read : records (reader_with 1 []) (filled_from 1 (data_s ∷ req_l ∷ resp ∷ req_s ∷ [])) ≡ records_of (data_s ∷ resp ∷ req_l ∷ req_s ∷ [])
  -- in X: ReqL in G4 and G5, Resp above it in G6
  pub in_x : filled_from 0 (data_s ∷ req_l ∷ resp ∷ req_s ∷ []) ≡ with_bytes ((126, 209) ∷ (0, 6) ∷ (84, 2) ∷ (128, 3) ∷ (148, 1) ∷ [])
  -- in Y: an Activation is not taken early; G5 stays empty, and it starts in G7
  pub never_early_fill : filled_from 1 (data_s ∷ req_l ∷ activation ∷ resp ∷ []) ≡ with_bytes ((246, 145) ∷ (247, 1) ∷ (0, 6) ∷ (84, 2) ∷ (148, 10) ∷ (149, 1) ∷ (150, 1) ∷ (168, 3) ∷ [])
  -- in Y: ReqL in G10 goes on in the next container, with a Resp beneath it in G11; all of the list is used, and 20 bytes are owed
  pub under_g11 : step_from 1 (data_s ∷ data_s ∷ req_s ∷ req_l ∷ resp ∷ []) ≡ record { writer = writer_with 1 (replicate 20 0); answer = Accepted (length (records_of (data_s ∷ data_s ∷ req_s ∷ req_l ∷ resp ∷ []))) }
  pub under_g11_bytes : filled_from 1 (data_s ∷ data_s ∷ req_s ∷ req_l ∷ resp ∷ []) ≡ with_bytes ((246, 17) ∷ (247, 14) ∷ (0, 6) ∷ (84, 6) ∷ (192, 1) ∷ (212, 2) ∷ (232, 3) ∷ [])
