-- Entries as a list of calls of the audit, and at the front of bytes.
use Rattle.std.specs.Prelude.{ℕ, ◌+◌, ◌%◌, ◌≤◌, ◌<◌, ◌≡◌, List, [], ◌∷◌, ◌++◌, length, take, drop}
use Rattle.record.specs.Number.{read_number, Value}
use Rattle.ledger.specs.Audit.{auditing}
use Rattle.ledger.specs.declared.ledger.Ledger.{Ledger}
use Rattle.cause.specs.Checks.{Accepted}

-- what an entry hands to the audit
pub record Entry : Type 0 where
  pub direction : ℕ
  pub container : List ℕ

-- the audit accepts each of them, from this ledger on
abbrev pub AllAccepted : Ledger → List Entry → Type 0
AllAccepted s [] = Unit {0}
AllAccepted s (e ∷ es) =
    ((auditing s e.direction e.container).answer ≡ Accepted) × AllAccepted (auditing s e.direction e.container).ledger es

-- the ledger behind entries
abbrev pub behind : Ledger → List Entry → Ledger
behind s [] = s
behind s (e ∷ es) = behind (auditing s e.direction e.container).ledger es

-- ---- "each the number 2·ticks + direction and 256 container bytes" (document 01, "The log and the host")

-- the entry at the front of l, whose number is v and has u bytes
abbrev pub entry_of : List ℕ → ℕ → ℕ → Entry
entry_of l v u = record { direction = v % 2; container = take 256 (drop u l) }

-- l begins with these entries, which end at byte n
pub data Enters (l : List ℕ) : List Entry → ℕ → Type 0 where
  none : Enters l [] 0
  next : {es : List Entry} {n : ℕ} (v u : ℕ) → Enters l es n → read_number (drop n l) ≡ Value v u → u + 256 ≤ length (drop n l)
      → Enters l (es ++ (entry_of (drop n l) v u ∷ [])) (n + (u + 256))

-- no whole entry is at the front of l
abbrev pub NoEntry : List ℕ → Type 0
NoEntry l = (v u : ℕ) → read_number l ≡ Value v u → length l < u + 256
