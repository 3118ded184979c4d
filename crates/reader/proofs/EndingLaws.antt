-- The messages that end in a container that passes: each is whole with a right head, and none is lost. Assumes nothing.
use Prim.Native.Nat.{ℕ, zero, suc, ◌+◌, ◌≤◌, ◌<◌}
use mathlib.Core.Path.{◌≡◌, refl, sym, ap, ◌∙◌}
use mathlib.Core.Bool.{true, false, ◌&&◌}
use mathlib.Core.List.{List, [], ◌∷◌, ◌++◌}
use mathlib.Core.Logic.{⊎_elim}
use native.Mathlib.Omega.{arith}
use lib.ListN.{length, take, drop, length-append, take-append-drop}
use lib.Dec.{eqb}
use lib.Seq.{length-take-le}
use borrow.Author.Tests.{lt-ltb, eq-eqb, ne_eqb, leb-true}
use Rattle.lists.specs.Pick.{pick}
use Rattle.lists.proofs.Tests.{cases, and_both}
use Rattle.cause.specs.Checks.{Pass}
use Rattle.container.specs.Layout.{Format, format_of}
use Rattle.message.specs.Heads.{type_of, op_of, msg_size, known, well_headed, is_message, is_misc, crdt_grant}
use Rattle.message.proofs.HeadLaws.{size_of, size_append, headed_append, grant_size}
use Rattle.record.specs.Records.{records_of, AllMessages}
use Rattle.record.proofs.RecordLaws.{Listed}
use Rattle.placement.specs.Cells.{Cell, cell_at, whole, after, ended, cells, carry_after, endings, startings, carry_ok}
use Rattle.placement.specs.Checking.{granule_checks}
use Rattle.reader.proofs.CarryLaws.{Granules, Cased, goes, begins, fits, rests, whole_of, left_of, Passing, first_cased, rest_passing, all_passing}

-- what x begins with, where its head is right and all its bytes are there, is a whole message
front_message : (x : List ℕ) → 0 < msg_size x → whole x ≡ true → well_headed x ≡ true → is_message (take (msg_size x) x) ≡ true
front_message x p w h = by (msg_size x) refl
  where
    by : (n : ℕ) → msg_size x ≡ n → is_message (take n x) ≡ true
    by n e =
        let a = (size_of (type_of x) (op_of x) p).least in
        let all : n ≤ length x = rw e at (leb-true (msg_size x) (length x) w) in
        let l : length (take n x) ≡ n = length-take-le n x all in
        let s : msg_size (take n x) ≡ msg_size x = sym (size_append (take n x) (drop n x) (omega arith)) ∙ ap msg_size (take-append-drop n x) in
        let t : well_headed (take n x) ≡ true =
        sym (headed_append (take n x) (drop n x) (omega arith) (λ (g : is_misc (take n x) crdt_grant ≡ true). omega (arith, grant_size (take n x) g)))
        ∙ ap well_headed (take-append-drop n x) ∙ h in
        and_both (eqb (msg_size (take n x)) (length (take n x))) (known (take n x) && well_headed (take n x)) (eq-eqb (msg_size (take n x)) (length (take n x)) (omega arith))
        (and_both (known (take n x)) (well_headed (take n x)) (lt-ltb 0 (msg_size (take n x)) (omega arith)) t)

-- ---- whole messages
whole_message : (x : List ℕ) → Granules x → AllMessages (whole_of x)
whole_message x h =
    ⊎_elim (λ (t : whole x ≡ true). rw t (front_message x h.known t h.headed, tt)) (λ (t : whole x ≡ false). rw t tt) (cases (whole x))

-- what ends in a cell
cell_messages : {fm : Format} {g : ℕ} {e : Cell} {m : List ℕ} → Cased fm g e m → AllMessages (ended e m)
cell_messages {e = e} {m = m} (goes eo es h x) = rw eo (whole_message (m ++ e.bytes) x)
cell_messages {e = e} (begins eo es ew z x) = rw (eo, es) (whole_message e.bytes x)
cell_messages {e = e} (fits eo es ew t p h) = rw (eo, es, t) (front_message e.bytes p t h, tt)
cell_messages (rests eo es) = rw (eo, es) tt

all_append : (a b : List (List ℕ)) → AllMessages a → AllMessages b → AllMessages (a ++ b)
all_append [] b p q = q
all_append (m ∷ a) b p q = (p.0, all_append a b p.1 q)

-- ---- none lost
-- a message in progress counts one
abbrev pub under_way : List ℕ → ℕ
under_way m = pick (eqb (length m) 0) 0 1

some_way : (m : List ℕ) → 20 ≤ length m → under_way m ≡ 1
some_way m h = rw (ne_eqb (length m) 0 (λ (z : length m ≡ 0). omega arith))

whole_count : (x : List ℕ) → 20 ≤ length x → length (whole_of x) + under_way (left_of x) ≡ 1
whole_count x h =
    ⊎_elim (λ (t : whole x ≡ true). rw t) (λ (t : whole x ≡ false). rw t (omega (arith, some_way x h))) (cases (whole x))

-- what ends in a cell or is in progress behind it started there or was in progress
cell_count : {fm : Format} {g : ℕ} {e : Cell} {m : List ℕ} → Cased fm g e m
    → length (ended e m) + under_way (after fm g e m) ≡ length (pick e.starts (e.bytes ∷ []) []) + under_way m
cell_count {e = e} {m = m} (goes eo es h x) = rw (eo, es, some_way m h.begun.some) (whole_count (m ++ e.bytes) x.some)
cell_count {e = e} (begins eo es ew z x) = rw (eo, es, ew, z) (whole_count e.bytes x.some)
cell_count (fits eo es ew t p h) = rw (eo, es, ew, t)
cell_count (rests eo es) = rw (eo, es)

module _ (f : ℕ) (c : List ℕ) (n : length c ≡ 256) where
  abbrev fm : Format
  fm = format_of f

  cells_messages : (k g : ℕ) (m : List ℕ) → Passing f c n k g m → AllMessages (endings fm g (cells fm c k g m) m)
  unfolding cells endings
  cells_messages zero g m p = tt
  cells_messages (suc k) g m p =
      let e = cell_at fm g c m in
      all_append (ended e m) (endings fm (g + 1) (cells fm c k (g + 1) (after fm g e m)) (after fm g e m))
      (cell_messages (first_cased f c n k g m p)) (cells_messages k (g + 1) (after fm g e m) (rest_passing f c n k g m p))

  cells_count : (k g : ℕ) (m : List ℕ) → Passing f c n k g m
      → length (endings fm g (cells fm c k g m) m) + under_way (carry_after fm g (cells fm c k g m) m) ≡ length (startings (cells fm c k g m)) + under_way m
  unfolding cells endings carry_after startings
  cells_count zero g m p = refl
  cells_count (suc k) g m p =
      let e = cell_at fm g c m in
      let r = after fm g e m in
      let h = cell_count (first_cased f c n k g m p) in
      let i = cells_count k (g + 1) r (rest_passing f c n k g m p) in
      rw (length-append (ended e m) (endings fm (g + 1) (cells fm c k (g + 1) r) r), length-append (pick e.starts (e.bytes ∷ []) []) (startings (cells fm c k (g + 1) r)))
      (omega arith)

module _ (f : ℕ) (c m : List ℕ) (n : length c ≡ 256) (h : carry_ok m ≡ true) (p : Pass (granule_checks (format_of f) 0 (cells (format_of f) c 12 0 m))) where
  -- each message that ends is whole with a right head
  pub all_whole : AllMessages (endings (format_of f) 0 (cells (format_of f) c 12 0 m) m)
  all_whole = cells_messages f c n 12 0 m (all_passing f c n m h p)

  -- so what is written is a list of records
  pub records_listed : Listed (records_of (endings (format_of f) 0 (cells (format_of f) c 12 0 m) m))
  records_listed = record { messages = endings (format_of f) 0 (cells (format_of f) c 12 0 m) m; joined = refl; all = all_whole }

  -- each message that was carried in or starts ends here or is carried on
  pub none_lost : length (endings (format_of f) 0 (cells (format_of f) c 12 0 m) m) + pick (eqb (length (carry_after (format_of f) 0 (cells (format_of f) c 12 0 m) m)) 0) 0 1
      ≡ length (startings (cells (format_of f) c 12 0 m)) + pick (eqb (length m) 0) 0 1
  none_lost = cells_count f c n 12 0 m (all_passing f c n m h p)
