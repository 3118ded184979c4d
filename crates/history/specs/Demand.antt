-- Demand 3 as one claim about a list of audit calls; it is proved of every list, so of every one of at most 16,777,215 calls. It "reads
-- 'responses' for 'messages' in pool 9" (document 02, K3).
use Rattle.std.specs.Prelude.{ℕ, ◌+◌, ◌≡◌}
use Rattle.history.specs.Trace.{Trace, ◌⊑◌}
use Rattle.history.specs.Link.{Direction, Link}
use Rattle.history.specs.History.{Event, tap_record, ungranted, returning, held_at_sender, in_flight, buffered, Flows, History, Tapped}
use Rattle.history.specs.Bounds.{granted, begun, finished}
use Rattle.history.specs.Calls.{Call, Auditor, after, accepted, Exactly}

-- demand 3 holds of the audit U over the calls xs from its fresh ledger; `now` is the start of xs or follows a call
pub record Closed (K : Link) (U : Auditor K.Container) (xs : Trace (Call K.Container)) : Type 0 where
  -- "A call accepts exactly when .. the entries accepted before it, and then its own, are the tap record of some history of two
  -- rule-keeping ends."
  pub accepts_exactly : Exactly U (Tapped K) xs
  -- "At the start and after every call, the audit reports for each direction and pool granted minus begun"
  pub credits : (now : Trace (Call K.Container)) → now ⊑ xs → (d : Direction) (p : ℕ)
      → U.held (after U now) d p + begun K d p (accepted U now) ≡ granted K d p (accepted U now)
  -- "and begun minus finished, counted over the accepted entries"
  pub messages : (now : Trace (Call K.Container)) → now ⊑ xs → (d : Direction) (p : ℕ)
      → U.unfinished (after U now) d p + finished K d p (accepted U now) ≡ begun K d p (accepted U now)
  -- "In every such history with these entries as its tap record, at each moment, for each direction and pool", none of the five is cut
  -- off at zero
  pub counted : (now : Trace (Call K.Container)) → now ⊑ xs → (h m : Trace (Event K.Container)) → History K h → tap_record h ≡ accepted U now → m ⊑ h
      → (d : Direction) (p : ℕ) → Flows K d p m
  -- "ungranted slots + credits returning + credits held + messages in flight + messages buffered = the receiver's buffers"
  pub adds_up : (now : Trace (Call K.Container)) → now ⊑ xs → (h m : Trace (Event K.Container)) → History K h → tap_record h ≡ accepted U now → m ⊑ h
      → (d : Direction) (p : ℕ) → ungranted K d p m + returning K d p m + held_at_sender K d p m + in_flight K d p m + buffered K d p m ≡ K.capacity d p
