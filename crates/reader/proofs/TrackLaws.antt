-- The numbers that the code keeps follow the message in progress. Assumes nothing.
use Prim.Native.Nat.{ℕ, zero, suc, ◌+◌, ◌-◌, ◌%◌, ◌≤◌, ◌<◌}
use mathlib.Core.Path.{◌≡◌, refl, sym, ap, ◌∙◌, subst}
use mathlib.Core.Bool.{true, false, ◌&&◌}
use mathlib.Core.List.{List, [], ◌++◌, append_assoc, append-nil}
use mathlib.Core.Logic.{⊎_elim}
use native.Mathlib.Omega.{arith}
use native.Mathlib.Numerals.{add-one}
use lib.ListN.{length, take, length-append}
use lib.Seq.{take-length}
use lib.Dec.{eqb, ltb, leb}
use borrow.Author.Tests.{lt-ltb, ltb-true, le-leb, lt-leb, leb-true, leb-false, eqb-true, eqb-false}
use Rattle.lists.specs.Pick.{pick}
use Rattle.lists.proofs.Tests.{cases, and_left, and_right}
use Rattle.container.specs.Layout.{Format, format_of, wide, granule, msg_start, bit}
use Rattle.container.proofs.Formats.{granule_length}
use Rattle.message.specs.Heads.{type_of, op_of, msg_size}
use Rattle.message.proofs.HeadLaws.{size_append, size_of, size_most}
use Rattle.placement.specs.Cells.{Cell, owed, cell_at, whole, after, ended, carry_ok}
use Rattle.placement.proofs.Keeps.{progress}
use Rattle.placement.proofs.FirmLaws.{Firm, carry_firm, firm_left}
use Rattle.reader.specs.TrackingMirror.{track_of, track_after, track_at, gathered, gathered_message, in_progress, ended_by, Ending, Begun}
use Rattle.reader.specs.declared.track.Track.{Track}

-- the track of a message in progress of which p was read, when granule g is reached
pub record Follows (fm : Format) (c m : List ℕ) (g : ℕ) (t : Track) (p : List ℕ) : Type 0 where
  pub owes : t.owed ≡ owed p
  pub from_below : t.from ≤ g
  pub kept_within : t.kept ≤ length m
  pub sized : 0 < t.owed → t.size ≡ msg_size p
  pub bytes : 0 < t.owed → p ≡ gathered_message fm c m t g
  pub begun : 0 < t.owed → 20 ≤ length p

-- one granule more of a message that was gathered up to granule g
gathered_next : (fm : Format) (c m : List ℕ) (t : Track) (g : ℕ) → t.from ≤ g
    → gathered_message fm c m t (g + 1) ≡ gathered_message fm c m t g ++ pick (wide fm g) (granule fm g c) []
unfolding gathered
gathered_next fm c m t g h =
    let k : (g + 1) - t.from ≡ suc (g - t.from) = omega arith in
    let e : t.from + (g - t.from) ≡ g = omega arith in
    rw (k, e) (sym (append_assoc (take t.kept m) (gathered fm c t.from (g - t.from)) (pick (wide fm g) (granule fm g c) [])))

-- nothing is owed of a message that is whole
nothing_owed : (fm : Format) (c m : List ℕ) (g : ℕ) (t : Track) → t.owed ≡ 0 → t.from ≤ g → t.kept ≤ length m → Follows fm c m g t []
nothing_owed fm c m g t z b k = record {
  owes = z;
  from_below = b;
  kept_within = k;
  sized = λ h. absurd (omega arith);
  bytes = λ h. absurd (omega arith);
  begun = λ h. absurd (omega arith);
}

-- granule g of a container of 256 bytes, with p read of the message in progress
module _ (f : ℕ) (c m : List ℕ) (g : ℕ) (t : Track) (p : List ℕ) (b : g < 12) (n : length c ≡ 256) (h : Follows (format_of f) c m g t p) where
  abbrev fm : Format
  fm = format_of f

  abbrev e : Cell
  e = cell_at fm g c p

  abbrev bytes_here : List ℕ
  bytes_here = granule fm g c

  length_here : length bytes_here ≡ fm.size g
  length_here = granule_length f g c b n

  same_on : (ltb 0 t.owed && wide fm g) ≡ (ltb 0 (owed p) && wide fm g)
  same_on = ap (λ (k : ℕ). ltb 0 k && wide fm g) h.owes

  -- where the message goes on
  module _ (o : (ltb 0 t.owed && wide fm g) ≡ true) where
    on_owed : 0 < t.owed
    on_owed = ltb-true 0 t.owed (and_left (ltb 0 t.owed) (wide fm g) o)

    on_wide : wide fm g ≡ true
    on_wide = and_right (ltb 0 t.owed) (wide fm g) o

    on_cell_held : e.goes_on ≡ true
    on_cell_held = sym same_on ∙ o

    on_size : msg_size (p ++ bytes_here) ≡ msg_size p
    on_size = let k = h.begun on_owed in size_append p bytes_here (omega arith)

    on_length : length (p ++ bytes_here) ≡ length p + 20
    on_length = length-append p bytes_here ∙ ap (λ (k : ℕ). length p + k) (length_here ∙ eqb-true (fm.size g) 20 on_wide)

    on_whole : whole (p ++ bytes_here) ≡ leb t.owed 20
    on_whole =
        ⊎_elim (λ (x : leb t.owed 20 ≡ true). let k = leb-true t.owed 20 x in rw (on_size, on_length, x) (le-leb (msg_size p) (length p + 20) (low k)))
        (λ (x : leb t.owed 20 ≡ false). let k = leb-false t.owed 20 x in rw (on_size, on_length, x) (lt-leb (msg_size p) (length p + 20) (high k)))
        (cases (leb t.owed 20))
      where
        low : t.owed ≤ 20 → msg_size p ≤ length p + 20
        low k = let q = h.owes in omega arith

        high : 20 < t.owed → length p + 20 < msg_size p
        high k = let q = h.owes in omega arith

    on_bytes : p ++ bytes_here ≡ gathered_message fm c m t (g + 1)
    on_bytes =
        ap (λ (l : List ℕ). l ++ bytes_here) (h.bytes on_owed)
        ∙ sym (gathered_next fm c m t g h.from_below ∙ rw on_wide)

    follows_on : Follows fm c m (g + 1) (track_after fm c (msg_start fm c) g t) (after fm g e p)
    unfolding track_after
    follows_on = ⊎_elim last more (cases (leb t.owed 20))
      where
        Goal : Type 0
        Goal = Follows fm c m (g + 1) (track_after fm c (msg_start fm c) g t) (after fm g e p)

        last : leb t.owed 20 ≡ true → Goal
        last x =
            let k = leb-true t.owed 20 x in
            let j = h.from_below in
            rw (o, on_cell_held, on_whole, x) (nothing_owed fm c m (g + 1) _ (omega arith) (omega arith) h.kept_within)

        more : leb t.owed 20 ≡ false → Goal
        more x =
            let k = leb-false t.owed 20 x in
            let q = h.owes in
            let j = h.from_below in
            rw (o, on_cell_held, on_whole, x)
            (record {
              owes = rw (on_size, on_length) (omega arith);
              from_below = omega arith;
              kept_within = h.kept_within;
              sized = λ _. h.sized on_owed ∙ sym on_size;
              bytes = λ _. on_bytes;
              begun = λ _. rw on_length (omega arith);
            })

  -- where it does not
  module _ (o : (ltb 0 t.owed && wide fm g) ≡ false) where
    off_cell : e.goes_on ≡ false
    off_cell = sym same_on ∙ o

    follows_start : (bit (msg_start fm c) g && wide fm g) ≡ true → Follows fm c m (g + 1) (track_after fm c (msg_start fm c) g t) (after fm g e p)
    unfolding track_after gathered
    follows_start s = ⊎_elim last more (cases (leb (msg_size bytes_here) 20))
      where
        Goal : Type 0
        Goal = Follows fm c m (g + 1) (track_after fm c (msg_start fm c) g t) (after fm g e p)

        w : wide fm g ≡ true
        w = and_right (bit (msg_start fm c) g) (wide fm g) s

        long : length bytes_here ≡ 20
        long = length_here ∙ eqb-true (fm.size g) 20 w

        last : leb (msg_size bytes_here) 20 ≡ true → Goal
        last x =
            let k = leb-true (msg_size bytes_here) 20 x in
            rw (o, off_cell, s, long, x) (nothing_owed fm c m (g + 1) _ (omega arith) (omega arith) (omega arith))

        more : leb (msg_size bytes_here) 20 ≡ false → Goal
        more x =
            let k = leb-false (msg_size bytes_here) 20 x in
            let one : (g + 1) - g ≡ 1 = omega arith in
            let z : g + 0 ≡ g = omega arith in
            rw (o, off_cell, s, long, x)
            (record {
              owes = rw long;
              from_below = omega arith;
              kept_within = omega arith;
              sized = λ _. refl;
              bytes = λ _. rw (one, z, w);
              begun = λ _. rw long (omega arith);
            })

    follows_idle : (bit (msg_start fm c) g && wide fm g) ≡ false → Follows fm c m (g + 1) (track_after fm c (msg_start fm c) g t) (after fm g e p)
    unfolding track_after
    follows_idle s =
        let j = h.from_below in
        rw (o, off_cell, s)
        (record {
          owes = h.owes;
          from_below = omega arith;
          kept_within = h.kept_within;
          sized = h.sized;
          bytes = λ k. h.bytes k ∙ sym (gathered_next fm c m t g h.from_below ∙ rw (narrow k) (append-nil (gathered_message fm c m t g)));
          begun = h.begun;
        })
      where
        narrow : 0 < t.owed → wide fm g ≡ false
        narrow k = rw (lt-ltb 0 t.owed k) at o

  pub follows_step : Follows fm c m (g + 1) (track_after fm c (msg_start fm c) g t) (after fm g e p)
  follows_step =
      ⊎_elim follows_on (λ o. ⊎_elim (follows_start o) (follows_idle o) (cases (bit (msg_start fm c) g && wide fm g))) (cases (ltb 0 t.owed && wide fm g))

  -- the message whose last granule is g, where what was read of it is whole granules
  module _ (firm : 0 < t.owed → length p % 20 ≡ 0) where
    last_sized : (o : (ltb 0 t.owed && wide fm g) ≡ true) → t.owed ≤ 20 → msg_size p ≡ length p + 20
    last_sized o k =
        let q = h.owes in
        let pos = on_owed o in
        let some = h.begun pos in
        let whole_granules = firm pos in
        ⊎_elim (λ (s : msg_size p ≤ 20). absurd (omega arith)) (λ s. let r = s.0 in omega arith) (size_of (type_of p) (op_of p) (omega arith)).kind

    pub ended_by_law : ended_by fm c m (msg_start fm c) t g ≡ ended e p
    ended_by_law = ⊎_elim on off (cases (ltb 0 t.owed && wide fm g))
      where
        on : (ltb 0 t.owed && wide fm g) ≡ true → ended_by fm c m (msg_start fm c) t g ≡ ended e p
        on o = ⊎_elim last more (cases (leb t.owed 20))
          where
            last : leb t.owed 20 ≡ true → ended_by fm c m (msg_start fm c) t g ≡ ended e p
            last x =
                let size : msg_size (p ++ bytes_here) ≡ length (p ++ bytes_here) = on_size o ∙ last_sized o (leb-true t.owed 20 x) ∙ sym (on_length o) in
                rw (o, on_cell_held o, on_whole o, x, size, take-length (p ++ bytes_here), on_bytes o)

            more : leb t.owed 20 ≡ false → ended_by fm c m (msg_start fm c) t g ≡ ended e p
            more x = rw (o, on_cell_held o, on_whole o, x)

        off : (ltb 0 t.owed && wide fm g) ≡ false → ended_by fm c m (msg_start fm c) t g ≡ ended e p
        off o = rw (o, off_cell o, length_here)

    pub ending_sized : Ending fm c m t g
    ending_sized pos w k =
        let o : (ltb 0 t.owed && wide fm g) ≡ true = rw (lt-ltb 0 t.owed pos, w) in
        let size = last_sized o k in
        (h.sized pos ∙ size ∙ sym (on_length o) ∙ ap length (on_bytes o), rw (h.sized pos) (size_most p))

-- the track when granule g is reached
module _ (f : ℕ) (c m : List ℕ) (n : length c ≡ 256) (begun : Begun m) where
  pub follows : (g : ℕ) → g ≤ 12 → Follows (format_of f) c m g (track_at (format_of f) c (msg_start (format_of f) c) (track_of m) g) (progress (format_of f) c m g)
  unfolding track_at progress gathered
  follows zero b = record {
    owes = refl;
    from_below = omega arith;
    kept_within = omega arith;
    sized = λ _. refl;
    bytes = λ _. sym (append-nil (take (length m) m) ∙ take-length m);
    begun = begun;
  }
  follows (suc g) b =
      subst (λ (k : ℕ). Follows (format_of f) c m k (track_after (format_of f) c (msg_start (format_of f) c) g (track_at (format_of f) c (msg_start (format_of f) c) (track_of m) g)) (after (format_of f) g (cell_at (format_of f) g c (progress (format_of f) c m g)) (progress (format_of f) c m g)))
      (add-one g)
      (follows_step f c m g (track_at (format_of f) c (msg_start (format_of f) c) (track_of m) g) (progress (format_of f) c m g) b n (follows g (omega arith)))

module _ (f : ℕ) (c : List ℕ) (n : length c ≡ 256) where
  firm_step : (g : ℕ) (p : List ℕ) → g < 12 → Firm p → Firm (after (format_of f) g (cell_at (format_of f) g c p) p)
  firm_step g p b h = ⊎_elim on off (cases (ltb 0 (owed p) && wide (format_of f) g))
    where
      Goal : Type 0
      Goal = Firm (after (format_of f) g (cell_at (format_of f) g c p) p)

      here : length (granule (format_of f) g c) ≡ (format_of f).size g
      here = granule_length f g c b n

      on : (ltb 0 (owed p) && wide (format_of f) g) ≡ true → Goal
      on o =
          let w : (format_of f).size g ≡ 20 = eqb-true ((format_of f).size g) 20 (and_right (ltb 0 (owed p)) (wide (format_of f) g) o) in
          let l : length (p ++ granule (format_of f) g c) ≡ length p + 20 = length-append p (granule (format_of f) g c) ∙ ap (λ (k : ℕ). length p + k) (here ∙ w) in
          let r = h.granular in
          rw o (firm_left (p ++ granule (format_of f) g c) (rw l (omega arith)) (rw l (omega arith)))

      off : (ltb 0 (owed p) && wide (format_of f) g) ≡ false → Goal
      off o = ⊎_elim starts stays (cases (bit (msg_start (format_of f) c) g && wide (format_of f) g))
        where
          starts : (bit (msg_start (format_of f) c) g && wide (format_of f) g) ≡ true → Goal
          starts s =
              let l : length (granule (format_of f) g c) ≡ 20 = here ∙ eqb-true ((format_of f).size g) 20 (and_right (bit (msg_start (format_of f) c) g) (wide (format_of f) g) s) in
              rw (o, s) (firm_left (granule (format_of f) g c) (rw l) (rw l (omega arith)))

          stays : (bit (msg_start (format_of f) c) g && wide (format_of f) g) ≡ false → Goal
          stays s = rw (o, s) h

  -- from a valid carry on, what is in progress is firm at every granule
  pub firm : (m : List ℕ) → carry_ok m ≡ true → (g : ℕ) → g ≤ 12 → Firm (progress (format_of f) c m g)
  unfolding progress
  firm m e zero b = carry_firm m e
  firm m e (suc g) b = firm_step g (progress (format_of f) c m g) b (firm m e g (omega arith))

  -- what the code gathers is what is in progress
  pub gathered_progress : (m : List ℕ) → carry_ok m ≡ true → (g : ℕ) → g ≤ 12
      → in_progress (format_of f) c m (track_at (format_of f) c (msg_start (format_of f) c) (track_of m) g) g ≡ progress (format_of f) c m g
  gathered_progress m e g b =
      let k = firm m e g b in
      let h = follows f c m n (carry_firm m e).begun g b in
      by (track_at (format_of f) c (msg_start (format_of f) c) (track_of m) g) k h
    where
      positive : (k : ℕ) → (k ≡ 0 → ⊥) → 0 < k
      positive k d = omega arith

      by : (t : Track) → Firm (progress (format_of f) c m g) → Follows (format_of f) c m g t (progress (format_of f) c m g) → in_progress (format_of f) c m t g ≡ progress (format_of f) c m g
      by t k h =
          ⊎_elim (λ (z : eqb t.owed 0 ≡ true). rw z (sym (k.idle (sym h.owes ∙ eqb-true t.owed 0 z))))
          (λ (z : eqb t.owed 0 ≡ false). rw z (sym (h.bytes (positive t.owed (eqb-false t.owed 0 z)))))
          (cases (eqb t.owed 0))
