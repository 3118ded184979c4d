-- A container that is made of cells shows these cells, and its header what it was given. Assumes nothing.
use Prim.Native.Nat.{ℕ, zero, suc, ◌+◌, ◌*◌, ◌/◌, ◌%◌, ◌^◌, ◌≤◌, ◌<◌}
use mathlib.Core.Path.{◌≡◌, refl, sym, ap, ◌∙◌}
use mathlib.Core.Bool.{Bool, true, false}
use mathlib.Core.List.{List, [], ◌∷◌}
use mathlib.Core.Logic.{⊎_elim}
use native.Mathlib.Omega.{arith}
use native.Mathlib.Nat.{pow-suc, div-div-eq-div-mul, zero-add}
use native.Mathlib.Numerals.{add-one}
use lib.ListN.{get_or, length, set, replicate, length-set, get_or-replicate}
use lib.Seq.{get_or-set_same, get_or-set_other}
use lib.Dec.{eqb, ltb, leb}
use borrow.Author.Tests.{eq-eqb, ne_eqb, lt-ltb, ltb-false, leb-false, eqb-false}
use Rattle.lists.specs.Pick.{pick}
use Rattle.lists.specs.Parts.{put}
use Rattle.lists.proofs.Tests.{cases}
use Rattle.lists.proofs.Order.{lt_or_le}
use Rattle.lists.proofs.PartLaws.{part_put, length_put, get_d_put_low, get_d_put_high, part_put_below, part_set}
use Rattle.container.specs.Layout.{Format, start, granule, header, msg_start, bit}
use Rattle.container.specs.Grants.{header_grant, reserved_ok}
use Rattle.container.specs.Lawful.{in_granule, how_many, Lawful}
use Rattle.container.specs.declared.grant.Grant.{Grant}
use Rattle.placement.specs.Cells.{Cell, after}
use Rattle.writer.specs.Laying.{start_bits, form_byte, header_bytes, set_all, lay_cells, container_of}
use Rattle.writer.proofs.Run.{Written, Shows}

-- each cell has its granule's size
abbrev pub Sized : Format → ℕ → List Cell → Type 0
Sized fm g [] = Unit {0}
Sized fm g (e ∷ es) = (length e.bytes ≡ fm.size g) × Sized fm (g + 1) es

pub written_sized : (fm : Format) (es : List Cell) (g : ℕ) (m : List ℕ) → Written fm g m es → Sized fm g es
written_sized fm [] g m a = tt
written_sized fm (e ∷ es) g m a = (a.0.long, written_sized fm es (g + 1) (after fm g e m) a.1)

-- the bytes of each cell stand in its granule
abbrev Holds : Format → List ℕ → ℕ → List Cell → Type 0
Holds fm c g [] = Unit {0}
Holds fm c g (e ∷ es) = (granule fm g c ≡ e.bytes) × Holds fm c (g + 1) es

module _ (fm : Format) (law : Lawful fm) where
  -- ---- the granules

  -- a cell that is laid at granule g
  module _ (g : ℕ) (e : Cell) (c : List ℕ) (b : g < 12) (s : length e.bytes ≡ fm.size g) (n : length c ≡ 256) where
    room : start g + length e.bytes ≤ length c
    room = rw (s, n) (law.inside g b)

    laid_length : length (put (start g) e.bytes c) ≡ 256
    laid_length = length_put (start g) e.bytes c room ∙ n

    laid : granule fm g (put (start g) e.bytes c) ≡ e.bytes
    laid = rw (← s) (part_put (start g) e.bytes c room)

    laid_below : (j : ℕ) → j < g → granule fm j (put (start g) e.bytes c) ≡ granule fm j c
    laid_below j l = part_put_below (start g) e.bytes c room (start j) (fm.size j) (law.apart j g l b)

  lay_length : (es : List Cell) (g : ℕ) (c : List ℕ) → g + length es ≤ 12 → Sized fm g es → length c ≡ 256 → length (lay_cells g es c) ≡ 256
  unfolding lay_cells
  lay_length [] g c b s n = n
  lay_length (e ∷ es) g c b s n = lay_length es (g + 1) (put (start g) e.bytes c) (omega arith) s.1 (laid_length g e c (omega arith) s.0 n)

  lay_keeps : (es : List Cell) (g j : ℕ) (c : List ℕ) → g + length es ≤ 12 → j < g → Sized fm g es → length c ≡ 256 → granule fm j (lay_cells g es c) ≡ granule fm j c
  unfolding lay_cells
  lay_keeps [] g j c b k s n = refl
  lay_keeps (e ∷ es) g j c b k s n =
      lay_keeps es (g + 1) j (put (start g) e.bytes c) (omega arith) (omega arith) s.1 (laid_length g e c (omega arith) s.0 n)
      ∙ laid_below g e c (omega arith) s.0 n j k

  lay_holds : (es : List Cell) (g : ℕ) (c : List ℕ) → g + length es ≤ 12 → Sized fm g es → length c ≡ 256 → Holds fm (lay_cells g es c) g es
  unfolding lay_cells
  lay_holds [] g c b s n = tt
  lay_holds (e ∷ es) g c b s n =
      let c' = put (start g) e.bytes c in
      let n' = laid_length g e c (omega arith) s.0 n in
      (lay_keeps es (g + 1) g c' (omega arith) (omega arith) s.1 n' ∙ laid g e c (omega arith) s.0 n, lay_holds es (g + 1) c' (omega arith) s.1 n')

  -- ---- the header

  set_length : (vs : List ℕ) (i : ℕ) (c : List ℕ) → length (set_all fm.place i vs c) ≡ length c
  unfolding set_all
  set_length [] i c = refl
  set_length (v ∷ vs) i c = set_length vs (i + 1) (set c (fm.place i) v) ∙ length-set c (fm.place i) v

  set_keeps : (vs : List ℕ) (i g : ℕ) (c : List ℕ) → i + length vs ≤ 10 → g < 12 → length c ≡ 256 → granule fm g (set_all fm.place i vs c) ≡ granule fm g c
  unfolding set_all
  set_keeps [] i g c b k n = refl
  set_keeps (v ∷ vs) i g c b k n =
      set_keeps vs (i + 1) g (set c (fm.place i) v) (omega arith) k (length-set c (fm.place i) v ∙ n)
      ∙ part_set (start g) (fm.size g) (fm.place i) v c (rw n (law.inside g k)) off
    where
      off : (j : ℕ) → start g ≤ j → j < start g + fm.size g → j ≡ fm.place i → ⊥
      off j lo hi e =
          ⊎_elim (λ (x : fm.place i < start g). omega arith) (λ (x : start g + fm.size g ≤ fm.place i). omega arith) (law.header_outside g i k (omega arith))

  set_before : (vs : List ℕ) (i j : ℕ) (c : List ℕ) → i + length vs ≤ 10 → j < i → header fm (set_all fm.place i vs c) j ≡ header fm c j
  unfolding set_all
  set_before [] i j c b k = refl
  set_before (v ∷ vs) i j c b k =
      set_before vs (i + 1) j (set c (fm.place i) v) (omega arith) (omega arith)
      ∙ get_or-set_other c (fm.place i) (fm.place j) v 0 (law.header_distinct j i k (omega arith))

  set_header : (vs : List ℕ) (i : ℕ) (c : List ℕ) → i + length vs ≤ 10 → length c ≡ 256 → (k : ℕ) → k < length vs
      → header fm (set_all fm.place i vs c) (i + k) ≡ get_or vs k 0
  unfolding set_all
  set_header [] i c b n k h = absurd (omega arith)
  set_header (v ∷ vs) i c b n zero h =
      let e : i + 0 ≡ i = omega arith in
      rw e (set_before vs (i + 1) i (set c (fm.place i) v) (omega arith) (omega arith) ∙ get_or-set_same c (fm.place i) v 0 (rw n (law.header_inside i (omega arith))))
  set_header (v ∷ vs) i c b n (suc k) h =
      let e : i + suc k ≡ (i + 1) + k = omega arith in
      rw e (set_header vs (i + 1) (set c (fm.place i) v) (omega arith) (length-set c (fm.place i) v ∙ n) k (omega arith))

-- ---- the bytes elsewhere

-- where a test holds nowhere
none_counted : (k : ℕ) (p : ℕ → Bool) → how_many k p ≡ 0 → (j : ℕ) → j < k → p j ≡ false
none_counted zero p e j b = absurd (omega arith)
none_counted (suc k) p e j b =
    ⊎_elim (λ (t : p k ≡ true). let z : 1 + how_many k p ≡ 0 = rw t at e in absurd (omega arith))
    (λ (t : p k ≡ false).
    let z : 0 + how_many k p ≡ 0 = rw t at e in
    ⊎_elim (λ (x : j < k). none_counted k p (omega arith) j x) (λ (x : k ≤ j). let q : j ≡ k = omega arith in rw q t) (lt_or_le j k))
    (cases (p k))

module _ (fm : Format) (law : Lawful fm) (i : ℕ) where
  lay_elsewhere : (es : List Cell) (g : ℕ) (c : List ℕ) → g + length es ≤ 12 → Sized fm g es → length c ≡ 256
      → ((j : ℕ) → j < 12 → in_granule fm j i ≡ false) → get_or (lay_cells g es c) i 0 ≡ get_or c i 0
  unfolding lay_cells
  lay_elsewhere [] g c b s n off = refl
  lay_elsewhere (e ∷ es) g c b s n off =
      lay_elsewhere es (g + 1) (put (start g) e.bytes c) (omega arith) s.1 (laid_length fm law g e c (omega arith) s.0 n) off
      ∙ ⊎_elim (λ (x : leb (start g) i ≡ true). get_d_put_high (start g) e.bytes c (room fm law g e c (omega arith) s.0 n) i (above x))
      (λ (x : leb (start g) i ≡ false). get_d_put_low (start g) e.bytes c (room fm law g e c (omega arith) s.0 n) i (leb-false (start g) i x))
      (cases (leb (start g) i))
    where
      above : leb (start g) i ≡ true → start g + length e.bytes ≤ i
      above x =
          let o : ltb i (start g + fm.size g) ≡ false = rw x at (off g (omega arith)) in
          rw s.0 (ltb-false i (start g + fm.size g) o)

  set_elsewhere : (vs : List ℕ) (k : ℕ) (c : List ℕ) → k + length vs ≤ 10 → ((j : ℕ) → j < 10 → eqb (fm.place j) i ≡ false)
      → get_or (set_all fm.place k vs c) i 0 ≡ get_or c i 0
  unfolding set_all
  set_elsewhere [] k c b off = refl
  set_elsewhere (v ∷ vs) k c b off =
      set_elsewhere vs (k + 1) (set c (fm.place k) v) (omega arith) off
      ∙ get_or-set_other c (fm.place k) i v 0 (λ e. eqb-false (fm.place k) i (off k (omega arith)) (sym e))

-- ---- the start bits

starts_bound : (es : List Cell) → start_bits es < 2 ^ length es
starts_bound [] = omega arith
starts_bound (e ∷ es) =
    let h = starts_bound es in
    let p : 2 ^ suc (length es) ≡ 2 ^ length es * 2 = pow-suc 2 (length es) in
    ⊎_elim (λ (t : e.starts ≡ true). rw (t, p) (omega arith)) (λ (t : e.starts ≡ false). rw (t, p) (omega arith)) (cases e.starts)

abbrev Bits : ℕ → ℕ → List Cell → Type 0
Bits w g [] = Unit {0}
Bits w g (e ∷ es) = (bit w g ≡ e.starts) × Bits w (g + 1) es

bits_from : (es : List Cell) (w g : ℕ) → w / 2 ^ g ≡ start_bits es → Bits w g es
bits_from [] w g h = tt
bits_from (e ∷ es) w g h = (here, bits_from es w (g + 1) next)
  where
    by : (b : Bool) → e.starts ≡ b → (bit w g ≡ b) × (w / 2 ^ g / 2 ≡ start_bits es)
    by true t =
        let q : w / 2 ^ g ≡ 1 + 2 * start_bits es = rw t at h in
        (eq-eqb (w / 2 ^ g % 2) 1 (rw q (omega arith)), rw q (omega arith))
    by false t =
        let q : w / 2 ^ g ≡ 0 + 2 * start_bits es = rw t at h in
        (ne_eqb (w / 2 ^ g % 2) 1 (λ z. odd (start_bits es) (sym (ap (λ (k : ℕ). k % 2) q) ∙ z)), rw q (omega arith))
      where
        odd : (k : ℕ) → (0 + 2 * k) % 2 ≡ 1 → ⊥
        odd k z = omega arith

    here : bit w g ≡ e.starts
    here = (by e.starts refl).0

    next : w / 2 ^ (g + 1) ≡ start_bits es
    next = rw (add-one g, pow-suc 2 g, ← div-div-eq-div-mul w (2 ^ g) 2) (by e.starts refl).1

holds_shows : (fm : Format) (c : List ℕ) (es : List Cell) (g : ℕ) → Holds fm c g es → Bits (msg_start fm c) g es → Shows fm c g es
holds_shows fm c [] g a b = tt
holds_shows fm c (e ∷ es) g a b = ((a.0, b.0), holds_shows fm c es (g + 1) a.1 b.1)

-- ---- the first byte of a grant form

form_shared : (b : Bool) (r : ℕ) → eqb ((pick b 1 0 + 2 * r) % 2) 1 ≡ b
form_shared true r = eq-eqb ((1 + 2 * r) % 2) 1 (omega arith)
form_shared false r = ne_eqb ((0 + 2 * r) % 2) 1 (λ z. omega arith)

form_plane : (b : Bool) (r : ℕ) → r < 8 → (pick b 1 0 + 2 * r) / 2 % 8 ≡ r
form_plane true r h = let q : (1 + 2 * r) / 2 ≡ r = omega arith in rw q (omega arith)
form_plane false r h = let q : (0 + 2 * r) / 2 ≡ r = omega arith in rw q (omega arith)

form_small : (b : Bool) (r : ℕ) → r < 8 → pick b 1 0 + 2 * r < 16
form_small true r h = omega arith
form_small false r h = omega arith

-- ---- the container
module _ (fm : Format) (law : Lawful fm) (n : Grant) (es : List Cell) (count : length es ≡ 12) (sized : Sized fm 0 es) where
  abbrev laid_out : List ℕ
  laid_out = lay_cells 0 es (replicate 256 0)

  abbrev box : List ℕ
  box = container_of fm n es

  laid_out_length : length laid_out ≡ 256
  laid_out_length = lay_length fm law es 0 (replicate 256 0) (rw count (omega arith)) sized refl

  pub box_length : length box ≡ 256
  unfolding container_of
  box_length = set_length fm law (header_bytes n (start_bits es)) 0 laid_out ∙ laid_out_length

  pub box_header : (i : ℕ) → i < 10 → header fm box i ≡ get_or (header_bytes n (start_bits es)) i 0
  unfolding container_of
  box_header i h = rw (zero-add i) at (set_header fm law (header_bytes n (start_bits es)) 0 laid_out (omega arith) laid_out_length i h)

  holds_set : (ds : List Cell) (g : ℕ) → g + length ds ≤ 12 → Holds fm laid_out g ds → Holds fm box g ds
  unfolding container_of
  holds_set [] g b h = tt
  holds_set (d ∷ ds) g b h =
      (set_keeps fm law (header_bytes n (start_bits es)) 0 g laid_out (omega arith) (omega arith) laid_out_length ∙ h.0, holds_set ds (g + 1) (omega arith) h.1)

  -- the link header is zero
  pub box_link : (i : ℕ) → i < 256 → fm.link i ≡ true → get_or box i 0 ≡ 0
  unfolding container_of
  box_link i b e =
      let o : how_many 12 (λ g. in_granule fm g i) + (how_many 10 (λ k. eqb (fm.place k) i) + 1) ≡ 1 = rw e at (law.owned i b) in
      set_elsewhere fm law i (header_bytes n (start_bits es)) 0 laid_out (omega arith) (none_counted 10 (λ k. eqb (fm.place k) i) (omega arith))
      ∙ lay_elsewhere fm law i es 0 (replicate 256 0) (rw count (omega arith)) sized refl (none_counted 12 (λ g. in_granule fm g i) (omega arith))
      ∙ get_or-replicate 256 i 0 0 b

  starts_small : start_bits es < 4096
  starts_small = rw count at (starts_bound es)

  pub box_starts : msg_start fm box ≡ start_bits es
  box_starts = rw (box_header 0 (omega arith), box_header 1 (omega arith)) (let h = starts_small in omega arith)

  pub box_shows : Shows fm box 0 es
  box_shows =
      holds_shows fm box es 0 (holds_set es 0 (rw count (omega arith)) (lay_holds fm law es 0 (replicate 256 0) (rw count (omega arith)) sized refl))
      (rw box_starts (bits_from es (start_bits es) 0 (omega arith)))

  module _ (low : n.rp < 8) where
    pub box_grant : header_grant fm box ≡ n
    box_grant =
        let a : header fm box 2 ≡ form_byte n = box_header 2 (omega arith) in
        let shared : eqb (header fm box 2 % 2) 1 ≡ n.shc = ap (λ (k : ℕ). eqb (k % 2) 1) a ∙ form_shared n.shc n.rp in
        let plane : header fm box 2 / 2 % 8 ≡ n.rp = ap (λ (k : ℕ). k / 2 % 8) a ∙ form_plane n.shc n.rp low in
        let r = box_header 3 (omega arith) in
        let p = box_header 4 (omega arith) in
        let s = box_header 5 (omega arith) in
        let d = box_header 6 (omega arith) in
        λ i. record { shc = shared i; rp = plane i; req = r i; rsp = p i; snp = s i; dat = d i }

    pub box_reserved : reserved_ok fm box ≡ true
    box_reserved =
        let h = starts_small in
        rw (
          box_header 1 (omega arith),
          box_header 2 (omega arith),
          box_header 7 (omega arith),
          box_header 8 (omega arith),
          box_header 9 (omega arith),
          lt-ltb (start_bits es / 256) 16 (omega arith),
          lt-ltb (form_byte n) 16 (form_small n.shc n.rp low),
        )
