-- A Resp2 in a history (document 02, K3), as one statement about the definitions: two responses in flight, then two buffered, and each freed
-- by an event of its own. The link has two buffers of pool 9 in each direction.
use Rattle.std.specs.Prelude.{ℕ, ◌≡◌, List, [], ◌∷◌}
use Rattle.history.specs.Trace.{Trace, start, ◌▷◌}
use Rattle.history.specs.Link.{direction0, direction1}
use Rattle.history.specs.History.{Event, leaves, passes, arrives, frees, ungranted, returning, held_at_sender, in_flight, buffered, Enabled, History}
use Rattle.demands.specs.Marked.{with_bytes, grants_responses}
use Rattle.demands.specs.Delayed.{link}

-- a container whose header grants n credits of pool 9, and one in which a Resp2 starts, in G0
abbrev pub granting : ℕ → List ℕ
granting n = with_bytes (grants_responses n)

abbrev pub resp2 : List ℕ
resp2 = with_bytes ((126, 1) ∷ (0, 4) ∷ [])

-- n credits of direction 0 have left in direction 1, and have arrived
abbrev pub grant_left : ℕ → Trace (Event (List ℕ))
grant_left n = start ▷ leaves direction1 (granting n)

abbrev pub grant_arrived : ℕ → Trace (Event (List ℕ))
grant_arrived n = grant_left n ▷ passes direction1 (granting n) ▷ arrives direction1 (granting n)

-- the Resp2 has left on two credits, and has arrived
abbrev pub resp2_left : Trace (Event (List ℕ))
resp2_left = grant_arrived 2 ▷ leaves direction0 resp2

abbrev pub resp2_arrived : Trace (Event (List ℕ))
resp2_arrived = resp2_left ▷ passes direction0 resp2 ▷ arrives direction0 resp2

-- one of its slots is freed, and then the other
abbrev pub one_freed : Trace (Event (List ℕ))
one_freed = resp2_arrived ▷ frees direction0 9

abbrev pub both_freed : Trace (Event (List ℕ))
both_freed = one_freed ▷ frees direction0 9

-- the five of demand 3, of direction 0 and pool 9: ungranted, returning, held, in flight, buffered
abbrev pub five : Trace (Event (List ℕ)) → List ℕ
five h =
    ungranted link direction0 9 h
    ∷ returning link direction0 9 h
    ∷ held_at_sender link direction0 9 h
    ∷ in_flight link direction0 9 h
    ∷ buffered link direction0 9 h
    ∷ []

pub record TwoResponses : Type 0 where
  -- two rule-keeping ends do this
  pub history : History link both_freed
  -- two credits are granted and held
  pub at_start : five start ≡ 2 ∷ 0 ∷ 0 ∷ 0 ∷ 0 ∷ []
  pub two_returning : five (grant_left 2) ≡ 0 ∷ 2 ∷ 0 ∷ 0 ∷ 0 ∷ []
  pub two_held : five (grant_arrived 2) ≡ 0 ∷ 0 ∷ 2 ∷ 0 ∷ 0 ∷ []
  -- "Resp2 pays two RSP credits, opens two"
  pub two_in_flight : five resp2_left ≡ 0 ∷ 0 ∷ 0 ∷ 2 ∷ 0 ∷ []
  -- "and finishes two"
  pub two_buffered : five resp2_arrived ≡ 0 ∷ 0 ∷ 0 ∷ 0 ∷ 2 ∷ []
  -- a slot comes back by an event, the other by one more, and then there is none to free
  pub one_back : five one_freed ≡ 1 ∷ 0 ∷ 0 ∷ 0 ∷ 1 ∷ []
  pub both_back : five both_freed ≡ 2 ∷ 0 ∷ 0 ∷ 0 ∷ 0 ∷ []
  pub none_left : Enabled link both_freed (frees direction0 9) → ⊥
  -- two credits are granted anew when both slots are back, and not before
  pub not_before : Enabled link one_freed (leaves direction1 (granting 2)) → ⊥
  pub anew : Enabled link both_freed (leaves direction1 (granting 2))
  -- no Resp2 leaves where one credit is held: "when both aren't there"
  pub one_held : five (grant_arrived 1) ≡ 1 ∷ 0 ∷ 1 ∷ 0 ∷ 0 ∷ []
  pub not_on_one : Enabled link (grant_arrived 1) (leaves direction0 resp2) → ⊥
