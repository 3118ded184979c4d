-- A mirror of the code's shape, not a rule: what the code keeps of a writer inside a container: where the bytes owed lie, and the counts of the present group.
use Rattle.std.specs.Prelude.{ℕ, zero, suc, ◌+◌, ◌-◌, ◌%◌, ◌^◌, ◌≤◌, ◌<◌, ◌≡◌, Bool, true, false, ◌&&◌, ◌||◌, not, List, [], length, take, drop, replicate, eqb, leb}
use Rattle.lists.specs.Pick.{pick}
use Rattle.lists.specs.Parts.{part, put, pad}
use Rattle.container.specs.Layout.{Format, start, wide}
use Rattle.container.specs.Grants.{no_counts}
use Rattle.container.specs.declared.grant.Grant.{Grant}
use Rattle.message.specs.Heads.{type_of, op_of, misc_by, activation}
use Rattle.message.specs.Places.{placed_by, responses_by, miscs_by}
use Rattle.record.specs.Records.{first_of, message_of}
use Rattle.record.specs.declared.list.First.{First}
use Rattle.record.specs.declared.list.First.TheVariants.{Empty, Bad, Whole}
use Rattle.writer.specs.declared.group.Group.{Group}
use Rattle.writer.specs.declared.cursor.Cursor.{Cursor}

-- a group with no cell yet
abbrev pub no_group : Group
no_group = record { full = true; miscs = 0; responses = 0 }

-- a group behind the cell of granule g, which is populated or not, with so many MiscU and responses starting there
abbrev pub group_next : ℕ → Group → Bool → ℕ → ℕ → Group
group_next g e b m r =
    pick (eqb (g % 3) 2) no_group (record { full = e.full && b; miscs = e.miscs + m; responses = e.responses + r })

-- a message of this type and op may start at granule g behind a group
abbrev pub legal_by : Format → Grant → ℕ → Group → ℕ → ℕ → Bool
legal_by fm n g e t o =
    (placed_by fm g t o && (not (misc_by t o activation) || no_counts n))
    && (e.full && (leb (e.miscs + miscs_by t) 1 && leb (e.responses + responses_by t) 4))

-- it may lie beneath what is owed
abbrev pub beneath_by : Format → Grant → ℕ → Group → ℕ → ℕ → Bool
beneath_by fm n g e t o = not (misc_by t o activation) && legal_by fm n g e t o

-- it may start at granule g under a cursor, which owes nothing or bytes that pass over the granule
abbrev pub may_by : Format → Grant → ℕ → Cursor → ℕ → ℕ → Bool
may_by fm n g p t o = pick (eqb p.left 0) (legal_by fm n g p.group t o) (beneath_by fm n g p.group t o)

-- the bytes owed: a part of the old tail, or of the list
abbrev pub owed_of : List ℕ → List ℕ → Cursor → List ℕ
owed_of t l p = part p.from p.left (pick p.tail t l)

-- what a cursor refers to lies inside the tail and the list, whole granules are owed, and its counts are small, when granule g is reached
pub record Sane (t l : List ℕ) (g : ℕ) (p : Cursor) : Type 0 where
  pub within : 0 < p.left → p.from + p.left ≤ length (pick p.tail t l)
  pub granules : p.left % 20 ≡ 0
  pub most : p.left ≤ 100
  pub start_low : p.from ≤ 4300
  pub used : p.at ≤ length l
  pub starts_low : p.msgstart < 2 ^ g
  pub few : (p.group.miscs ≤ 2) × (p.group.responses ≤ 4)

-- granule g stays empty
abbrev pub cursor_empty : ℕ → Cursor → Cursor
cursor_empty g p = record {
  tail = p.tail;
  from = p.from;
  left = p.left;
  at = p.at;
  msgstart = p.msgstart;
  group = group_next g p.group false 0 0;
}

-- what is owed goes on in granule g
abbrev pub cursor_on : ℕ → Cursor → Cursor
cursor_on g p = record {
  tail = p.tail;
  from = p.from + 20;
  left = p.left - 20;
  at = p.at;
  msgstart = p.msgstart;
  group = group_next g p.group true 0 0;
}

-- the record up to e of what is left of the list starts in granule g, with type t, and what is owed stays owed
abbrev pub cursor_used : ℕ → Cursor → ℕ → ℕ → Cursor
cursor_used g p e t = record {
  tail = p.tail;
  from = p.from;
  left = p.left;
  at = p.at + e;
  msgstart = p.msgstart + 2 ^ g;
  group = group_next g p.group true (miscs_by t) (responses_by t);
}

-- the record from s to e of what is left of the list starts in granule g of n bytes, with type t, and its rest is owed
abbrev pub cursor_start : ℕ → ℕ → Cursor → ℕ → ℕ → ℕ → Cursor
cursor_start n g p s e t = record {
  tail = false;
  from = p.at + (s + n);
  left = (e - s) - n;
  at = p.at + e;
  msgstart = p.msgstart + 2 ^ g;
  group = group_next g p.group true (miscs_by t) (responses_by t);
}

-- that record is taken: beneath what is owed, if bytes are
abbrev pub cursor_taken : ℕ → ℕ → Cursor → ℕ → ℕ → ℕ → Cursor
cursor_taken n g p s e t = pick (eqb p.left 0) (cursor_start n g p s e t) (cursor_used g p e t)

-- the next cursor where nothing goes on, by the first record of what is left of the list
abbrev pub cursor_first : Format → Grant → List ℕ → ℕ → Cursor → First → Cursor
cursor_first fm n l g p Empty = cursor_empty g p
cursor_first fm n l g p Bad = cursor_empty g p
cursor_first fm n l g p (Whole s e) =
    pick (may_by fm n g p (type_of (message_of (drop p.at l) s e)) (op_of (message_of (drop p.at l) s e)))
    (cursor_taken (fm.size g) g p s e (type_of (message_of (drop p.at l) s e)))
    (cursor_empty g p)

-- the bytes of the granule then, before the zeros behind them
abbrev pub bytes_first : Format → Grant → List ℕ → ℕ → Cursor → First → List ℕ
bytes_first fm n l g p Empty = []
bytes_first fm n l g p Bad = []
bytes_first fm n l g p (Whole s e) =
    pick (may_by fm n g p (type_of (message_of (drop p.at l) s e)) (op_of (message_of (drop p.at l) s e)))
    (take (fm.size g) (message_of (drop p.at l) s e))
    []

-- the cursor behind granule g
unfoldable pub cursor_next : Format → Grant → List ℕ → List ℕ → ℕ → Cursor → Cursor
cursor_next fm n t l g p =
    pick (eqb p.left 0) (cursor_first fm n l g p (first_of (drop p.at l)))
    (pick (wide fm g) (cursor_on g p) (cursor_first fm n l g p (first_of (drop p.at l))))

-- the bytes that granule g is given, before the zeros behind them
unfoldable pub bytes_next : Format → Grant → List ℕ → List ℕ → ℕ → Cursor → List ℕ
bytes_next fm n t l g p =
    pick (eqb p.left 0) (bytes_first fm n l g p (first_of (drop p.at l)))
    (pick (wide fm g) (take 20 (owed_of t l p)) (bytes_first fm n l g p (first_of (drop p.at l))))

-- the cursor at the start of a container whose tail is t
abbrev pub cursor_starting : List ℕ → Cursor
cursor_starting t = record { tail = true; from = 0; left = length t; at = 0; msgstart = 0; group = no_group }

-- the cursor when granule g is reached
unfoldable pub cursor_at : Format → Grant → List ℕ → List ℕ → ℕ → Cursor
cursor_at fm n t l zero = cursor_starting t
cursor_at fm n t l (suc g) = cursor_next fm n t l g (cursor_at fm n t l g)

-- a container of zeros with the granules below g filled
unfoldable pub laid_to : Format → Grant → List ℕ → List ℕ → ℕ → List ℕ
laid_to fm n t l zero = replicate 256 0
laid_to fm n t l (suc g) = put (start g) (pad (fm.size g) (bytes_next fm n t l g (cursor_at fm n t l g))) (laid_to fm n t l g)
