-- The bytes of the link header change no answer, no next reader and no room. Assumes nothing.
use Prim.Native.Nat.{ℕ, zero, suc, ◌+◌, ◌≤◌, ◌<◌}
use mathlib.Core.Path.{◌≡◌, refl, sym, ap, ◌∙◌}
use mathlib.Core.Bool.{Bool, true, false}
use mathlib.Core.List.{List, ◌∷◌}
use mathlib.Core.Logic.{◌⊎◌, inl, inr, ⊎_elim}
use native.Mathlib.Omega.{arith}
use native.Mathlib.Nat.{le_of_suc-le-suc, eq-or-lt_of_le}
use lib.ListN.{length, get_or}
use lib.Dec.{eqb, ltb, leb}
use borrow.Author.Tests.{lt-ltb, le-leb, eq-eqb}
use Rattle.lists.specs.Pick.{pick}
use Rattle.lists.proofs.Tests.{and_both}
use Rattle.lists.proofs.PartLaws.{part_same}
use Rattle.cause.specs.Checks.{first_fault, when_accepted}
use Rattle.container.specs.Layout.{Format, format_of, start, granule, header, msg_start}
use Rattle.container.specs.Lawful.{Lawful, in_granule, how_many}
use Rattle.container.specs.Grants.{header_grant}
use Rattle.container.specs.declared.grant.Grant.{Grant}
use Rattle.container.proofs.Formats.{lawful_of}
use Rattle.placement.specs.Cells.{Cell, cell_at, after, cells}
use Rattle.placement.specs.Checking.{container_checks}
use Rattle.reader.specs.Reading.{carried, state_checks, judge_checks, read_checks, next_reader, records, answer_of, reading, read_room, judge_answer_of, judging}
use Rattle.reader.specs.declared.reader.Reader.{Reader}

-- one that passes is counted
some_passes : (n : ℕ) (p : ℕ → Bool) (k : ℕ) → k < n → p k ≡ true → 1 ≤ how_many n p
some_passes zero p k b t = absurd (omega arith)
some_passes (suc n) p k b t =
    ⊎_elim (λ (e : k ≡ n). rw (← e, t) (omega arith)) (λ (l : k < n). omega (arith, some_passes n p k l t)) (eq-or-lt_of_le (le_of_suc-le-suc b))

-- a byte with one owner, which is counted in a or in b
no_link : (a b : ℕ) (l : Bool) → a + (b + pick l 1 0) ≡ 1 → (1 ≤ a) ⊎ (1 ≤ b) → l ≡ false
no_link a b true e h = absurd (⊎_elim (λ (x : 1 ≤ a). omega arith) (λ (y : 1 ≤ b). omega arith) h)
no_link a b false e h = refl

-- two containers that agree outside the link header, in a lawful format
module _ (fm : Format) (w : Lawful fm) (c d : List ℕ) (nc : length c ≡ 256) (nd : length d ≡ 256) (same : (i : ℕ) → i < 256 → fm.link i ≡ false → get_or c i 0 ≡ get_or d i 0) where
  agree : (i : ℕ) → i < 256 → (1 ≤ how_many 12 (λ g. in_granule fm g i)) ⊎ (1 ≤ how_many 10 (λ k. eqb (fm.place k) i)) → get_or c i 0 ≡ get_or d i 0
  agree i b h = same i b (no_link (how_many 12 (λ g. in_granule fm g i)) (how_many 10 (λ k. eqb (fm.place k) i)) (fm.link i) (w.owned i b) h)

  header_same : (j : ℕ) → j < 10 → header fm c j ≡ header fm d j
  header_same j b =
      agree (fm.place j) (w.header_inside j b) (inr (some_passes 10 (λ k. eqb (fm.place k) (fm.place j)) j b (eq-eqb (fm.place j) (fm.place j) refl)))

  granule_same : (g : ℕ) → g < 12 → granule fm g c ≡ granule fm g d
  granule_same g b = part_same (start g) (fm.size g) c d (rw nc (w.inside g b)) (nc ∙ sym nd) at
    where
      at : (i : ℕ) → start g ≤ i → i < start g + fm.size g → get_or c i 0 ≡ get_or d i 0
      at i l u =
          agree i (omega (arith, w.inside g b))
          (inl (some_passes 12 (λ h. in_granule fm h i) g b (and_both (leb (start g) i) (ltb i (start g + fm.size g)) (le-leb (start g) i l) (lt-ltb i (start g + fm.size g) u))))

  starts_same : msg_start fm c ≡ msg_start fm d
  starts_same = rw (header_same 0 (omega arith), header_same 1 (omega arith))

  grant_same : header_grant fm c ≡ header_grant fm d
  grant_same = rw (header_same 2 (omega arith), header_same 3 (omega arith), header_same 4 (omega arith), header_same 5 (omega arith), header_same 6 (omega arith))

  cell_same : (g : ℕ) (m : List ℕ) → g < 12 → cell_at fm g c m ≡ cell_at fm g d m
  cell_same g m b = rw (starts_same, granule_same g b)

  cells_same : (k g : ℕ) (m : List ℕ) → g + k ≤ 12 → cells fm c k g m ≡ cells fm d k g m
  unfolding cells
  cells_same zero g m b = refl
  cells_same (suc k) g m b =
      ap (λ (e : Cell). e ∷ cells fm c k (g + 1) (after fm g e m)) (cell_same g m (omega arith))
      ∙ ap (λ (es : List Cell). cell_at fm g d m ∷ es) (cells_same k (g + 1) (after fm g (cell_at fm g d m) m) (omega arith))

  container_same : (es : List Cell) → container_checks fm c es ≡ container_checks fm d es
  unfolding container_checks
  container_same es =
      rw (header_same 1 (omega arith), header_same 2 (omega arith), header_same 3 (omega arith), header_same 4 (omega arith), header_same 5 (omega arith), header_same 6 (omega arith), header_same 7 (omega arith), header_same 8 (omega arith), header_same 9 (omega arith))

module _ (s : Reader) (c d : List ℕ) (nc : length c ≡ 256) (nd : length d ≡ 256) (same : (i : ℕ) → i < 256 → (format_of s.format).link i ≡ false → get_or c i 0 ≡ get_or d i 0) where
  abbrev fm : Format
  fm = format_of s.format

  scan_same : cells fm c 12 0 (carried s) ≡ cells fm d 12 0 (carried s)
  scan_same = cells_same fm (lawful_of s.format) c d nc nd same 12 0 (carried s) (omega arith)

  checks_same : state_checks s c ≡ state_checks s d
  unfolding state_checks
  checks_same = container_same fm (lawful_of s.format) c d nc nd same (cells fm c 12 0 (carried s)) ∙ ap (container_checks fm d) scan_same

  judged_same : judge_checks s c ≡ judge_checks s d
  unfolding judge_checks
  judged_same = rw (nc, nd, checks_same)

  read_same : (n : ℕ) → read_checks s c n ≡ read_checks s d n
  unfolding read_checks
  read_same n = rw (nc, nd, checks_same)

  next_same : next_reader s c ≡ next_reader s d
  unfolding next_reader
  next_same = rw scan_same

  records_same : records s c ≡ records s d
  unfolding records
  records_same = rw scan_same

  header_grant_same : header_grant fm c ≡ header_grant fm d
  header_grant_same = grant_same fm (lawful_of s.format) c d nc nd same

  -- the same answer and next reader
  pub reading_same : (n : ℕ) → reading s c n ≡ reading s d n
  unfolding reading
  reading_same n =
      rw (read_same n, next_same, records_same)
      (ap (λ (grant : Grant). record { reader = when_accepted (first_fault (read_checks s d n)) (next_reader s d) s; answer = answer_of (first_fault (read_checks s d n)) (length (records s d)) grant }) header_grant_same)

  -- the same room
  pub room_same : (room : List ℕ) → read_room s c room ≡ read_room s d room
  unfolding read_room
  room_same room = rw (read_same (length room), records_same)

  -- the same answer and next reader
  pub judging_same : judging s c ≡ judging s d
  unfolding judging
  judging_same =
      rw (judged_same, next_same)
      (ap (λ (grant : Grant). record { reader = when_accepted (first_fault (judge_checks s d)) (next_reader s d) s; answer = judge_answer_of (first_fault (judge_checks s d)) grant (msg_start fm c) }) header_grant_same
      ∙ ap (λ (starts : ℕ). record { reader = when_accepted (first_fault (judge_checks s d)) (next_reader s d) s; answer = judge_answer_of (first_fault (judge_checks s d)) (header_grant fm d) starts }) (starts_same fm (lawful_of s.format) c d nc nd same))
