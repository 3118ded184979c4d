-- "delays are arbitrary" (document 01, "Pools and the audit"): what is under way waits or goes on, in each direction by itself.
use Rattle.std.specs.Prelude.{ℕ, ◌+◌, ◌≤◌, ◌≡◌, true}
use Rattle.history.specs.Trace.{Trace, start, ◌▷◌, ◌⊑◌}
use Rattle.history.specs.Link.{Direction, opposite, Link}
use Rattle.history.specs.History.{Event, left, passed, arrived, freed, state_after, total, History}

-- the containers l have left in direction d, of these the containers p have passed, and of these the containers a have arrived
abbrev pub UnderWay : {A : Type 0} → Direction → (l p a : Trace A) → Trace (Event A) → Type 0
UnderWay d l p a h = (left d h ≡ l) × (passed d h ≡ p) × (arrived d h ≡ a)

module _ (K : Link) where
  open K use {Container, reads, grants, begins, finishes, pools, capacity}

  -- each container reads in the state behind those before it
  abbrev pub Readable : Direction → Trace Container → Type 0
  Readable d start = Unit {0}
  Readable d (cs ▷ c) = Readable d cs × (reads d (state_after K d cs) c ≡ true)

  -- containers that read, grant nothing to any pool and begin no message that pays one
  abbrev pub Plain : Direction → Trace Container → Type 0
  Plain d cs = Readable d cs × ((p : ℕ) → total K grants d cs p ≡ 0) × ((p : ℕ) → total K begins d cs p ≡ 0)

  -- what direction d may come to behind the history h: containers l left, p passed and a arrived, and f q slots freed of each pool q
  pub record Ahead (h : Trace (Event Container)) (d : Direction) (l p a : Trace Container) (f : ℕ → ℕ) : Type 0 where
    -- nothing is taken back
    pub left_before : left d h ⊑ l
    pub passed_before : passed d h ⊑ p
    pub arrived_before : arrived d h ⊑ a
    pub freed_before : (q : ℕ) → freed d q h ≤ f q
    -- only what has left passes, and only what has passed arrives
    pub passes_left : p ⊑ l
    pub arrives_passed : a ⊑ p
    -- all that leaves reads, and the slots ungranted and the credits held at the end of h are enough for it
    pub readable : Readable d l
    pub slots : (q : ℕ) → total K grants d l q ≤ capacity (opposite d) q + freed (opposite d) q h
    pub credits : (q : ℕ) → total K begins d l q ≤ total K grants (opposite d) (arrived (opposite d) h) q
    -- only messages that have arrived whole are freed, of the pools that there are
    pub messages : (q : ℕ) → f q ≤ total K finishes d a q
    pub of_pools : (q : ℕ) → pools ≤ q → f q ≡ freed d q h

  pub record Delays : Type 0 where
    -- any number of plain containers may have left in each direction, any number of these have passed, and any number of these arrived
    pub any_delay : (l p a : Direction → Trace Container) → ((d : Direction) → (a d ⊑ p d) × (p d ⊑ l d) × Plain d (l d))
        → (h : Trace (Event Container)) × History K h × ((d : Direction) → UnderWay d (l d) (p d) (a d) h)
    -- the same behind any history, with credits and messages under way: all that its slots and credits are enough for may leave before
    -- anything more passes, arrives or is freed, and then any of it may pass, arrive and be freed
    pub from_any_moment : (h : Trace (Event Container)) → History K h → (l p a : Direction → Trace Container) (f : Direction → ℕ → ℕ)
        → ((d : Direction) → Ahead h d (l d) (p d) (a d) (f d))
        → (k : Trace (Event Container)) × (h ⊑ k) × History K k × ((d : Direction) → UnderWay d (l d) (p d) (a d) k)
        × ((d : Direction) (q : ℕ) → freed d q k ≡ f d q)
