-- The numbers that the code keeps follow the plan, granule by granule. Assumes nothing.
use Prim.Native.Nat.{ℕ, zero, suc, ◌+◌, ◌-◌, ◌%◌, ◌^◌, ◌≤◌, ◌<◌}
use mathlib.Core.Path.{◌≡◌, refl, sym, ap, ◌∙◌, subst}
use mathlib.Core.Bool.{Bool, true, false, ◌&&◌, not}
use mathlib.Core.List.{List, [], ◌∷◌, ◌++◌, append-nil}
use mathlib.Core.Logic.{⊎_elim}
use native.Mathlib.Omega.{arith}
use native.Mathlib.Nat.{zero-add}
use lib.ListN.{length, take, drop, replicate}
use lib.Seq.{take-length, take-nil, drop-drop, get_or-take, length-take-le}
use lib.Dec.{eqb}
use borrow.Author.Tests.{eqb-true, eqb-false}
use Rattle.lists.specs.Pick.{pick}
use Rattle.lists.specs.Parts.{pad}
use Rattle.lists.proofs.Tests.{cases}
use Rattle.lists.proofs.PartLaws.{length_part, get_d_pad}
use Rattle.container.specs.Layout.{Format, format_of, wide}
use Rattle.container.specs.declared.grant.Grant.{Grant}
use Rattle.container.proofs.Formats.{lawful_of}
use Rattle.message.specs.Heads.{type_of, op_of, is_misc, activation}
use Rattle.message.specs.Places.{responses, responses_by, miscs, miscs_by}
use Rattle.record.specs.Records.{first_of, message_of}
use Rattle.record.specs.declared.list.First.{First}
use Rattle.record.specs.declared.list.First.TheVariants.{Empty, Bad, Whole}
use Rattle.placement.specs.Cells.{Cell}
use Rattle.placement.specs.Checking.{populated, starting, sum_of}
use Rattle.writer.specs.Plan as planned
use Rattle.writer.specs.Plan.{Given, empty_cell, start_cell, on_cell, legal, beneath, nothing, start_next, give, group_after, cursor_after, plan, cursor_last, cursor_of}
use Rattle.writer.specs.Laying.{start_bits, header_bytes, set_all, lay_cells, container_of, filled, owes_after, used_of}
use Rattle.writer.specs.HoldingMirror.{group_next, legal_by, beneath_by, owed_of, Sane, cursor_empty, cursor_on, cursor_used, cursor_start, cursor_first, bytes_first, cursor_next, bytes_next, cursor_at, laid_to}
use Rattle.writer.specs.declared.group.Group.{Group}
use Rattle.writer.specs.declared.cursor.Cursor.{Cursor}
use Rattle.writer.proofs.PlanLaws.{cursor_last_more, plan_more, plan_length, bits_more, lay_more}
use Rattle.writer.proofs.GroupLaws.{all_populated, all_more, sum_more, gap_more}
use Rattle.writer.proofs.SaneLaws.{sane_at}

-- ---- the present group, by its counts

-- the counts of the cells of a group
abbrev pub group_of : List Cell → Group
group_of es = record { full = all_populated es; miscs = sum_of miscs es; responses = sum_of responses es }

group_more : (g : ℕ) (es : List Cell) (e : Cell) → group_next g (group_of es) (populated e) (starting miscs e) (starting responses e) ≡ group_of (group_after g es e)
group_more g es e =
    ⊎_elim (λ (t : eqb (g % 3) 2 ≡ true). rw t) (λ (t : eqb (g % 3) 2 ≡ false). rw (t, all_more es e, sum_more miscs es e, sum_more responses es e)) (cases (eqb (g % 3) 2))

-- the type of what starts in a cell
type_cell : (k : ℕ) (m : List ℕ) → 0 < k → type_of (pad k (take k m)) ≡ type_of m
type_cell k m h = ap (λ (b : ℕ). b % 16) (get_d_pad k (take k m) 0 ∙ get_or-take k m 0 0 h)

-- a message may start by the cells of its group, or by their counts
legal_same : (fm : Format) (n : Grant) (g : ℕ) (es : List Cell) (m : List ℕ) → 0 < fm.size g
    → legal_by fm n g (group_of es) (type_of m) (op_of m) ≡ legal fm n g es m
legal_same fm n g es m h =
    rw (
      gap_more es (start_cell (fm.size g) m) refl,
      sum_more miscs es (start_cell (fm.size g) m),
      sum_more responses es (start_cell (fm.size g) m),
      type_cell (fm.size g) m h,
    )

-- ---- one granule

drop_take : {A : Type 0} (n k : ℕ) (l : List A) → drop n (take k l) ≡ take (k - n) (drop n l)
drop_take zero k l = let e : k - 0 ≡ k = omega arith in rw e
drop_take (suc n) zero l = let e : 0 - suc n ≡ 0 = omega arith in rw e
drop_take (suc n) (suc k) [] = sym (take-nil (suc k - suc n))
drop_take (suc n) (suc k) (x ∷ l) = let e : suc k - suc n ≡ k - n = omega arith in rw e (drop_take n k l)

-- what is owed, and how long it is
pub owed_length : (t l : List ℕ) (g : ℕ) (p : Cursor) → Sane t l g p → length (owed_of t l p) ≡ p.left
owed_length t l g p h = ⊎_elim none some (cases (eqb p.left 0))
  where
    none : eqb p.left 0 ≡ true → length (owed_of t l p) ≡ p.left
    none e = let z : p.left ≡ 0 = eqb-true p.left 0 e in rw z

    some : eqb p.left 0 ≡ false → length (owed_of t l p) ≡ p.left
    some e =
        let d : p.left ≡ 0 → ⊥ = eqb-false p.left 0 e in
        length_part p.from p.left (pick p.tail t l) (h.within (omega arith))

-- the code's cursor p and the plan's cursor w: the same bytes owed, the same place in the list, the same group
pub record Matches (t l : List ℕ) (p : Cursor) (w : planned.Cursor) : Type 0 where
  pub owes : owed_of t l p ≡ w.owes
  pub at : p.at ≡ w.at
  pub group : p.group ≡ group_of w.group

-- granule g takes the bytes b and leaves the cursor p', and the plan gives v there: the same cursor, bytes and MsgStart
pub record Steps (fm : Format) (t l : List ℕ) (g : ℕ) (p : Cursor) (w : planned.Cursor) (p' : Cursor) (b : List ℕ) (v : Given) : Type 0 where
  pub next : Matches t l p' (cursor_after g w v)
  pub bytes : pad (fm.size g) b ≡ v.cell.bytes
  pub starts : p'.msgstart ≡ p.msgstart + pick v.cell.starts (2 ^ g) 0

-- two choices by the same test
pick_same : {A B C : Type 0} (P : A → B → C → Type 0) (c d : Bool) {a a' : A} {b b' : B} {v v' : C} → c ≡ d → (c ≡ true → P a b v) → (c ≡ false → P a' b' v')
    → P (pick c a a') (pick c b b') (pick d v v')
pick_same P true d e here there = rw (← e) (here refl)
pick_same P false d e here there = rw (← e) (there refl)

module _ (fm : Format) (n : Grant) (t l : List ℕ) (g : ℕ) (wide_enough : 0 < fm.size g) (p : Cursor) (h : Sane t l g p) (es : List Cell) (q : p.group ≡ group_of es) where
  -- the plan's cursor that matches
  abbrev w : planned.Cursor
  w = record { owes = owed_of t l p; at = p.at; group = es }

  step_nothing : Steps fm t l g p w (cursor_empty g p) [] (nothing fm g w)
  step_nothing =
      let z : fm.size g - 0 ≡ fm.size g = omega arith in
      record {
        next = record { owes = refl; at = refl; group = ap (λ (e : Group). group_next g e false 0 0) q ∙ group_more g es (empty_cell (fm.size g)) };
        bytes = rw z;
        starts = omega arith;
      }

  step_on : wide fm g ≡ true → (p.left ≡ 0 → ⊥)
      → Steps fm t l g p w (cursor_on g p) (take 20 (owed_of t l p)) (record { cell = on_cell (fm.size g) (owed_of t l p); owes = drop (fm.size g) (owed_of t l p); at = p.at })
  step_on broad some =
      let k : fm.size g ≡ 20 = eqb-true (fm.size g) 20 broad in
      let in-granules = h.granules in
      let long : 20 ≤ length (owed_of t l p) = rw (owed_length t l g p h) (omega arith) in
      let cut : length (take 20 (owed_of t l p)) ≡ 20 = length-take-le 20 (owed_of t l p) long in
      record {
        next = record {
          owes = rw (k, drop_take 20 p.left (drop p.from (pick p.tail t l)), drop-drop 20 p.from (pick p.tail t l));
          at = refl;
          group = ap (λ (e : Group). group_next g e true 0 0) q ∙ group_more g es (on_cell (fm.size g) (owed_of t l p));
        };
        bytes = rw (k, cut) (append-nil (take 20 (owed_of t l p)));
        starts = omega arith;
      }

  step_start : (s e : ℕ)
      → Steps fm t l g p w (cursor_start (fm.size g) g p s e (type_of (message_of (drop p.at l) s e))) (take (fm.size g) (message_of (drop p.at l) s e)) (record { cell = start_cell (fm.size g) (message_of (drop p.at l) s e); owes = drop (fm.size g) (message_of (drop p.at l) s e); at = p.at + e })
  step_start s e =
      let m = message_of (drop p.at l) s e in
      let a : (p.at + s) + fm.size g ≡ p.at + (s + fm.size g) = omega arith in
      let y : type_of m ≡ type_of (pad (fm.size g) (take (fm.size g) m)) = sym (type_cell (fm.size g) m wide_enough) in
      record {
        next = record {
          owes = rw (drop_take (fm.size g) (e - s) (drop s (drop p.at l)), drop-drop s p.at l, drop-drop (fm.size g) (p.at + s) l, a);
          at = refl;
          group = ap (λ (e : Group). group_next g e true (miscs_by (type_of m)) (responses_by (type_of m))) q
              ∙ ap (λ (k : ℕ). group_next g (group_of es) true (miscs_by k) (responses_by k)) y
              ∙ group_more g es (start_cell (fm.size g) m);
        };
        bytes = refl;
        starts = refl;
      }

  step_used : (s e : ℕ)
      → Steps fm t l g p w (cursor_used g p e (type_of (message_of (drop p.at l) s e))) (take (fm.size g) (message_of (drop p.at l) s e)) (record { cell = start_cell (fm.size g) (message_of (drop p.at l) s e); owes = owed_of t l p; at = p.at + e })
  step_used s e = record { next = record { owes = refl; at = refl; group = (step_start s e).next.group }; bytes = refl; starts = refl }

  same_legal : (m : List ℕ) → legal_by fm n g p.group (type_of m) (op_of m) ≡ legal fm n g es m
  same_legal m = ap (λ (d : Group). legal_by fm n g d (type_of m) (op_of m)) q ∙ legal_same fm n g es m wide_enough

  step_first : eqb p.left 0 ≡ true → (r : First)
      → Steps fm t l g p w (cursor_first fm n l g p r) (bytes_first fm n l g p r) (start_next fm l g w (legal fm n g es) (λ m. drop (fm.size g) m) r)
  step_first none Empty = step_nothing
  step_first none Bad = step_nothing
  step_first none (Whole s e) =
      let m = message_of (drop p.at l) s e in
      rw none (pick_same (Steps fm t l g p w) (legal_by fm n g p.group (type_of m) (op_of m)) (legal fm n g es m) (same_legal m) (λ _. step_start s e) (λ _. step_nothing))

  step_beneath : eqb p.left 0 ≡ false → (r : First)
      → Steps fm t l g p w (cursor_first fm n l g p r) (bytes_first fm n l g p r) (start_next fm l g w (beneath fm n g es) (λ m. owed_of t l p) r)
  step_beneath some Empty = step_nothing
  step_beneath some Bad = step_nothing
  step_beneath some (Whole s e) =
      let m = message_of (drop p.at l) s e in
      rw some (pick_same (Steps fm t l g p w) (beneath_by fm n g p.group (type_of m) (op_of m)) (beneath fm n g es m)
      (ap (λ (b : Bool). not (is_misc m activation) && b) (same_legal m)) (λ _. step_used s e) (λ _. step_nothing))

  step_given : Steps fm t l g p w (cursor_next fm n t l g p) (bytes_next fm n t l g p) (give fm n l g w)
  unfolding cursor_next bytes_next
  step_given =
      pick_same (Steps fm t l g p w) (eqb p.left 0) (eqb (length (owed_of t l p)) 0) (ap (λ (k : ℕ). eqb k 0) (sym (owed_length t l g p h)))
      (λ none. step_first none (first_of (drop p.at l)))
      (λ some. pick_same (Steps fm t l g p w) (wide fm g) (wide fm g) refl (λ broad. step_on broad (eqb-false p.left 0 some)) (λ _. step_beneath some (first_of (drop p.at l))))

-- a cursor by what it owes and where it is in the list
cursor_same : (w : planned.Cursor) (o : List ℕ) (a : ℕ) → o ≡ w.owes → a ≡ w.at → ◌≡◌ {A = planned.Cursor} (record { owes = o; at = a; group = w.group }) w
cursor_same w o a e f = λ i. record { owes = e i; at = f i; group = w.group }

step_matched : (fm : Format) (n : Grant) (t l : List ℕ) (g : ℕ) (p : Cursor) (w : planned.Cursor) → 0 < fm.size g → Sane t l g p → Matches t l p w
    → Steps fm t l g p w (cursor_next fm n t l g p) (bytes_next fm n t l g p) (give fm n l g w)
step_matched fm n t l g p w k h m =
    subst (λ (v : planned.Cursor). Steps fm t l g p v (cursor_next fm n t l g p) (bytes_next fm n t l g p) (give fm n l g v))
    (cursor_same w (owed_of t l p) p.at m.owes m.at)
    (step_given fm n t l g k p h w.group m.group)

-- ---- all granules

-- when granule g is reached: the cursor that the code keeps is the plan's, and MsgStart and the container are those of the plan so far
pub record Held (f : ℕ) (n : Grant) (t l : List ℕ) (g : ℕ) : Type 0 where
  pub owes : owed_of t l (cursor_at (format_of f) n t l g) ≡ (cursor_last (format_of f) n l g 0 (cursor_of t)).owes
  pub left : length (cursor_last (format_of f) n l g 0 (cursor_of t)).owes ≡ (cursor_at (format_of f) n t l g).left
  pub at : (cursor_at (format_of f) n t l g).at ≡ (cursor_last (format_of f) n l g 0 (cursor_of t)).at
  pub group : (cursor_at (format_of f) n t l g).group ≡ group_of (cursor_last (format_of f) n l g 0 (cursor_of t)).group
  pub starts : (cursor_at (format_of f) n t l g).msgstart ≡ start_bits (plan (format_of f) n l g 0 (cursor_of t))
  pub laid : laid_to (format_of f) n t l g ≡ lay_cells 0 (plan (format_of f) n l g 0 (cursor_of t)) (replicate 256 0)

-- one granule more
held_next : (f : ℕ) (n : Grant) (t l : List ℕ) (g : ℕ) → g < 12 → Sane t l g (cursor_at (format_of f) n t l g) → Sane t l (suc g) (cursor_at (format_of f) n t l (suc g)) → Held f n t l g → Held f n t l (suc g)
unfolding cursor_at laid_to
held_next f n t l g b h h' d =
    let fm = format_of f in
    let w = cursor_last fm n l g 0 (cursor_of t) in
    let least = (lawful_of f).least g b in
    let s = step_matched fm n t l g (cursor_at fm n t l g) w (omega arith) h (record { owes = d.owes; at = d.at; group = d.group }) in
    let pe : cursor_after g w (give fm n l g w) ≡ cursor_last fm n l (suc g) 0 (cursor_of t) = sym (rw zero-add at (cursor_last_more fm n l g 0 (cursor_of t))) in
    let next : Matches t l (cursor_at fm n t l (suc g)) (cursor_last fm n l (suc g) 0 (cursor_of t)) = subst (Matches t l (cursor_at fm n t l (suc g))) pe s.next in
    let ce : plan fm n l (suc g) 0 (cursor_of t) ≡ plan fm n l g 0 (cursor_of t) ++ ((give fm n l g w).cell ∷ []) = rw zero-add at (plan_more fm n l g 0 (cursor_of t)) in
    let k : length (plan fm n l g 0 (cursor_of t)) ≡ g = plan_length fm n l g 0 (cursor_of t) in
    record {
      owes = next.owes;
      left = ap length (sym next.owes) ∙ owed_length t l (suc g) (cursor_at fm n t l (suc g)) h';
      at = next.at;
      group = next.group;
      starts = rw (ce, bits_more (plan fm n l g 0 (cursor_of t)) (give fm n l g w).cell, k, ← d.starts) s.starts;
      laid = rw (ce, lay_more 0 (plan fm n l g 0 (cursor_of t)) (give fm n l g w).cell (replicate 256 0), k, zero-add g, ← d.laid, ← s.bytes);
    }

held_start : (f : ℕ) (n : Grant) (t l : List ℕ) → Held f n t l 0
unfolding cursor_at laid_to plan cursor_last lay_cells
held_start f n t l = record { owes = take-length t; left = refl; at = refl; group = refl; starts = refl; laid = refl }

module _ (f : ℕ) (n : Grant) (t l : List ℕ) (short : length t ≤ 100) (whole : length t % 20 ≡ 0) (fits : length l ≤ 4096) where
  pub held : (g : ℕ) → g ≤ 12 → Held f n t l g
  held zero b = held_start f n t l
  held (suc g) b =
      held_next f n t l g b (sane_at f n t l short whole fits g (omega arith)) (sane_at f n t l short whole fits (suc g) b) (held g (omega arith))

  -- the container, what is owed, and the bytes of the list used, behind all granules
  pub held_filled : filled (format_of f) n t l ≡ set_all (format_of f).place 0 (header_bytes n (cursor_at (format_of f) n t l 12).msgstart) (laid_to (format_of f) n t l 12)
  unfolding filled container_of
  held_filled = let h = held 12 (omega arith) in rw (h.starts, h.laid)

  pub held_owes : owes_after (format_of f) n t l ≡ owed_of t l (cursor_at (format_of f) n t l 12)
  unfolding owes_after
  held_owes = sym (held 12 (omega arith)).owes

  pub held_used : used_of (format_of f) n t l ≡ (cursor_at (format_of f) n t l 12).at
  unfolding used_of
  held_used = sym (held 12 (omega arith)).at
