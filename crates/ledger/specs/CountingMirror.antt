-- A mirror of the code's shape, not a rule: the checks of pools and the next ledger by rows of counts, proved equal to `Audit`.
use Rattle.std.specs.Prelude.{ℕ, zero, suc, ◌+◌, ◌-◌, Bool, true, ◌&&◌, List, [], ◌∷◌, ◌++◌, get_or, eqb, leb}
use Rattle.lists.specs.Pick.{pick}
use Rattle.cause.specs.Checks.{Check, check, first_fault, when_accepted}
use Rattle.cause.specs.declared.Cause.TheVariants.{BegunOverGranted, GrantedOverCapacity}
use Rattle.container.specs.Layout.{format_of}
use Rattle.container.specs.Idle.{idle}
use Rattle.message.specs.Charges.{charges}
use Rattle.reader.specs.Reading.{bytes_in, carried}
use Rattle.reader.specs.declared.carry.Carry.{Carry}
use Rattle.pools.specs.Pools.{payable, charged_to}
use Rattle.pools.specs.Rows.{row, nested, flattened, entry_of, rows}
use Rattle.ledger.specs.Audit.{receiver_of, reader_of, pools_ok}
use Rattle.ledger.specs.declared.ledger.Ledger.{Ledger}
use Rattle.ledger.specs.declared.ledger.Step.{Step}

-- 15 and 16 by rows of counts, k pools from p on
unfoldable pub credit_row_checks : List ℕ → List ℕ → ℕ → ℕ → List Check
credit_row_checks held begun zero p = []
credit_row_checks held begun (suc k) p = check (leb (get_or begun p 0) (get_or held p 0)) BegunOverGranted p ∷ credit_row_checks held begun k (p + 1)

unfoldable pub capacity_row_checks : List ℕ → List ℕ → List ℕ → List ℕ → ℕ → ℕ → List Check
capacity_row_checks held opened granted capacities zero p = []
capacity_row_checks held opened granted capacities (suc k) p =
    check (leb (get_or held p 0 + (get_or granted p 0 + get_or opened p 0)) (get_or capacities p 0)) GrantedOverCapacity p
    ∷ capacity_row_checks held opened granted capacities k (p + 1)

-- k pools from p on: open messages are what the carry pays, and held plus open is at most capacity
unfoldable pub rows_ok : List ℕ → List ℕ → List ℕ → List ℕ → ℕ → ℕ → Bool
rows_ok held opened paid capacities zero p = true
rows_ok held opened paid capacities (suc k) p =
    (eqb (get_or opened p 0) (get_or paid p 0) && leb (get_or held p 0 + get_or opened p 0) (get_or capacities p 0))
    && rows_ok held opened paid capacities k (p + 1)

-- held behind an entry of direction d: less by what was begun there, more by what was granted to the other
abbrev pub settled_held : ℕ → List (List ℕ) → List ℕ → List ℕ → ℕ → ℕ → ℕ
settled_held d held begun granted e p = pick (eqb e d) (entry_of held e p - get_or begun p 0) (entry_of held e p + get_or granted p 0)

-- open behind an entry of direction d: there, what the carry pays
abbrev pub settled_open : ℕ → List (List ℕ) → List ℕ → ℕ → ℕ → ℕ
settled_open d opened paid e p = pick (eqb e d) (get_or paid p 0) (entry_of opened e p)

-- direction d: the carried message would pass 14, and the pools are in order
abbrev pub pooled : Ledger → ℕ → Bool
pooled s d = payable (receiver_of s d) (carried (reader_of s d)) && pools_ok s d 14 0

-- an idle entry: nothing is carried in its direction, and it has nothing but zeros outside the link header
abbrev pub idle_entry : Ledger → ℕ → List ℕ → Bool
idle_entry s d c = eqb (reader_of s d).carry.len 0 && idle (format_of s.format) c

-- the ledger behind an accepted entry of direction d, by the next carry and the tables of counts
abbrev pub entered : Ledger → ℕ → Carry → List ℕ → List ℕ → Ledger
entered s d next held opened = record {
  format = s.format;
  receiver0 = s.receiver0;
  receiver1 = s.receiver1;
  carry0 = pick (eqb d 0) next s.carry0;
  carry1 = pick (eqb d 0) s.carry1 next;
  held = held;
  opened = opened;
}

-- 15 in direction d, then 16 in the opposite one, by what was begun and granted
abbrev pub count_checks : Ledger → ℕ → List ℕ → List ℕ → List Check
count_checks s d begun granted =
    credit_row_checks (get_or (nested s.held) d []) begun 14 0
    ++ capacity_row_checks (get_or (nested s.held) (1 - d) []) (get_or (nested s.opened) (1 - d) []) granted (receiver_of s (1 - d)).capacities 14 0

-- the step of an entry that reads and whose pools exist, by the next carry and what was begun and granted
unfoldable pub settling : Ledger → ℕ → Carry → List ℕ → List ℕ → Step
settling s d next begun granted = record {
  ledger = when_accepted (first_fault (count_checks s d begun granted))
      (entered s d next (flattened (rows (settled_held d (nested s.held) begun granted)))
      (flattened (rows (settled_open d (nested s.opened) (row (λ p. charged_to p (charges (bytes_in next))) 14 0))))) s;
  answer = first_fault (count_checks s d begun granted);
}
