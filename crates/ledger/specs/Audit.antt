-- The audit (document 01, "Pools and the audit" and "Causes and places"): the ledger, its validity, and the audit of an entry.
use Rattle.std.specs.Prelude.{ℕ, zero, suc, ◌+◌, ◌-◌, ◌*◌, Bool, true, ◌&&◌, List, [], ◌∷◌, ◌++◌, length, get_or, replicate, eqb, ltb, leb, Result}
use Rattle.lists.specs.Pick.{pick}
use Rattle.cause.specs.Checks.{Check, check, first_fault, when_accepted, given, handed, Accepted, Refused}
use Rattle.cause.specs.declared.Fault.{Fault}
use Rattle.cause.specs.declared.Cause.TheVariants.{InvalidState, ContainerLength, BegunOverGranted, GrantedOverCapacity}
use Rattle.container.specs.Layout.{format_of, container_size}
use Rattle.container.specs.declared.grant.Grant.{Grant}
use Rattle.message.specs.Charges.{charges}
use Rattle.reader.specs.Reading.{carry_with, reader_ok, carried, next_reader}
use Rattle.reader.specs.declared.reader.Reader.{Reader}
use Rattle.pools.specs.Pools.{receiver_ok, payable, charged_to, paid_to, granted_to, pool_count}
use Rattle.pools.specs.Rows.{table}
use Rattle.pools.specs.declared.receiver.Receiver.{Receiver}
use Rattle.ledger.specs.Entries.{starts_in, ends_in, grants_of, checks_then}
use Rattle.ledger.specs.declared.ledger.Ledger.{Ledger}
use Rattle.ledger.specs.declared.ledger.Step.{Step}
use Rattle.ledger.specs.declared.ledger.Report.{Report}

-- the receiver of direction d, and the reader of its containers
abbrev pub receiver_of : Ledger → ℕ → Receiver
receiver_of s d = pick (eqb d 0) s.receiver0 s.receiver1

abbrev pub reader_of : Ledger → ℕ → Reader
reader_of s d = record { format = s.format; carry = pick (eqb d 0) s.carry0 s.carry1 }

-- credits held and messages open, of direction d and pool p
abbrev pub held_of : Ledger → ℕ → ℕ → ℕ
held_of s d p = get_or s.held (pool_count * d + p) 0

abbrev pub open_of : Ledger → ℕ → ℕ → ℕ
open_of s d p = get_or s.opened (pool_count * d + p) 0

-- pool p of direction d: open messages follow from the carry, and held plus open is at most capacity
abbrev pub pool_ok : Ledger → ℕ → ℕ → Bool
pool_ok s d p =
    eqb (open_of s d p) (charged_to p (charges (carried (reader_of s d)))) && leb (held_of s d p + open_of s d p) (get_or (receiver_of s d).capacities p 0)

-- k pools of direction d from p on
unfoldable pub pools_ok : Ledger → ℕ → ℕ → ℕ → Bool
pools_ok s d zero p = true
pools_ok s d (suc k) p = pool_ok s d p && pools_ok s d k (p + 1)

-- direction d of a valid ledger: its configuration, its carry, whose message would pass 14, and its pools
abbrev pub direction_ok : Ledger → ℕ → Bool
direction_ok s d =
    receiver_ok (receiver_of s d)
    && (reader_ok (reader_of s d) && (payable (receiver_of s d) (carried (reader_of s d)) && pools_ok s d pool_count 0))

abbrev pub ledger_ok : Ledger → Bool
ledger_ok s = direction_ok s 0 && direction_ok s 1

-- a grant in a container pays the opposite direction
abbrev pub opposite : ℕ → ℕ
opposite d = 1 - d

-- the messages that start and that end in an entry of direction d, and its grants
unfoldable pub begun : Ledger → ℕ → List ℕ → List (List ℕ)
begun s d c = starts_in (reader_of s d) c

unfoldable pub finished : Ledger → ℕ → List ℕ → List (List ℕ)
finished s d c = ends_in (reader_of s d) c

unfoldable pub granted : Ledger → ℕ → List ℕ → List Grant
granted s d c = grants_of (format_of s.format) c (begun s d c)

-- 15: begun over granted, k pools from p on
unfoldable pub credit_checks : Ledger → ℕ → List (List ℕ) → ℕ → ℕ → List Check
credit_checks s d ms zero p = []
credit_checks s d ms (suc k) p = check (leb (paid_to p ms) (held_of s d p)) BegunOverGranted p ∷ credit_checks s d ms k (p + 1)

-- 16: granted over capacity + finished, k pools from p on
unfoldable pub capacity_checks : Ledger → ℕ → List Grant → ℕ → ℕ → List Check
capacity_checks s d ns zero p = []
capacity_checks s d ns (suc k) p =
    check (leb (held_of s d p + (granted_to p ns + open_of s d p)) (get_or (receiver_of s d).capacities p 0)) GrantedOverCapacity p
    ∷ capacity_checks s d ns k (p + 1)

-- 19, 1; the reader's 3 to 13; 14 by started messages; 21 by the header's grant and the CrdtGrants; then 15, then 16
unfoldable pub audit_checks : Ledger → ℕ → List ℕ → List Check
audit_checks s d c =
    check (ltb d 2 && ledger_ok s) InvalidState 0
    ∷ check (eqb (length c) container_size) ContainerLength 0
    ∷ checks_then (receiver_of s d) (receiver_of s (opposite d)) (reader_of s d) c
    (credit_checks s d (begun s d c) pool_count 0 ++ capacity_checks s (opposite d) (granted s d c) pool_count 0)

-- the numbers of direction e and pool p behind an accepted entry of direction d
abbrev pub held_after : Ledger → ℕ → List ℕ → ℕ → ℕ → ℕ
held_after s d c e p = pick (eqb e d) (held_of s e p - paid_to p (begun s d c)) (held_of s e p + granted_to p (granted s d c))

abbrev pub open_after : Ledger → ℕ → List ℕ → ℕ → ℕ → ℕ
open_after s d c e p = pick (eqb e d) ((open_of s e p + paid_to p (begun s d c)) - paid_to p (finished s d c)) (open_of s e p)

unfoldable pub next_ledger : Ledger → ℕ → List ℕ → Ledger
next_ledger s d c = record {
  format = s.format;
  receiver0 = s.receiver0;
  receiver1 = s.receiver1;
  carry0 = pick (eqb d 0) (next_reader (reader_of s d) c).carry s.carry0;
  carry1 = pick (eqb d 0) s.carry1 (next_reader (reader_of s d) c).carry;
  held = table (held_after s d c);
  opened = table (open_after s d c);
}

-- the audit of an entry: answer and next ledger
unfoldable pub auditing : Ledger → ℕ → List ℕ → Step
auditing s d c = record {
  ledger = when_accepted (first_fault (audit_checks s d c)) (next_ledger s d c) s;
  answer = first_fault (audit_checks s d c);
}

-- the step of an entry that is accepted and changes nothing
abbrev pub unchanged : Ledger → Step
unchanged s = record { ledger = s; answer = Accepted }

-- a ledger's start: nothing carried, held or open
abbrev pub fresh_ledger : ℕ → Receiver → Receiver → Ledger
fresh_ledger f a b = record {
  format = f;
  receiver0 = a;
  receiver1 = b;
  carry0 = carry_with [];
  carry1 = carry_with [];
  held = replicate (2 * pool_count) 0;
  opened = replicate (2 * pool_count) 0;
}

-- a format and receivers are valid
abbrev pub configured : ℕ → Receiver → Receiver → Bool
configured f a b = ltb f 2 && (receiver_ok a && receiver_ok b)

-- a new ledger; a configuration that is none is 19, beside a ledger that every step refuses
abbrev pub new_ledger : ℕ → Receiver → Receiver → Result Ledger (Ledger × Fault)
new_ledger f a b = handed (pick (configured f a b) Accepted (Refused InvalidState 0)) (fresh_ledger f a b)

-- the report of direction d and pool p: granted minus begun, and begun minus finished; a direction or pool that is none, and a ledger that
-- is not valid, are 19
abbrev pub reported : Ledger → ℕ → ℕ → Result Report Fault
reported s d p =
    given (pick (ltb d 2 && (ltb p pool_count && ledger_ok s)) Accepted (Refused InvalidState 0))
    (record { held = record { 0 = held_of s d p }; opened = record { 0 = open_of s d p } })
