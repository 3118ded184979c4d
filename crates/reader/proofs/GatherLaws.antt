-- The bytes of a longer message, gathered granule by granule. Assumes nothing.
use Prim.Native.Nat.{ℕ, zero, suc, ◌+◌, ◌-◌, ◌≤◌, ◌<◌}
use mathlib.Core.Path.{◌≡◌, refl, sym, ap, ◌∙◌}
use mathlib.Core.List.{List, [], ◌++◌, append-nil}
use native.Mathlib.Omega.{arith}
use native.Mathlib.Numerals.{add-one}
use lib.ListN.{length, take, drop, replicate, length-append, length-take}
use lib.Seq.{length-take-le}
use lib.Dec.{eqb}
use borrow.Author.Tests.{eq-eqb, ne_eqb}
use Rattle.lists.specs.Pick.{pick}
use Rattle.lists.specs.Parts.{put}
use Rattle.lists.proofs.PartLaws.{length_put}
use Rattle.lists.proofs.PutLaws.{put_none, put_more}
use Rattle.lists.proofs.Fill.{put_zeros}
use Rattle.slices.proofs.CopyLaws.{copied_into, copied_whole}
use Rattle.container.specs.Layout.{Format, format_of, start, wide, granule}
use Rattle.container.proofs.Formats.{granule_length}
use Rattle.reader.specs.Reading.{carry_with}
use Rattle.reader.specs.TrackingMirror.{gathered}
use Rattle.reader.specs.declared.carry.Carry.{Carry}
use Rattle.reader.proofs.TrackCases.{wide_part}

module _ (fm : Format) (c : List ℕ) (s : ℕ) where
  -- one granule more
  gathered_next : (k : ℕ) → gathered fm c s (k + 1) ≡ gathered fm c s k ++ pick (wide fm (s + k)) (granule fm (s + k) c) []
  unfolding gathered
  gathered_next k = ap (gathered fm c s) (add-one k)

  gathered_wide : (k : ℕ) → fm.size (s + k) ≡ 20 → gathered fm c s (k + 1) ≡ gathered fm c s k ++ granule fm (s + k) c
  gathered_wide k e = gathered_next k ∙ rw (eq-eqb (fm.size (s + k)) 20 e)

  gathered_narrow : (k : ℕ) → (fm.size (s + k) ≡ 20 → ⊥) → gathered fm c s (k + 1) ≡ gathered fm c s k
  gathered_narrow k e = gathered_next k ∙ rw (ne_eqb (fm.size (s + k)) 20 e) (append-nil (gathered fm c s k))

  -- more granules have no fewer bytes
  gathered_least : (k d : ℕ) → length (gathered fm c s k) ≤ length (gathered fm c s (k + d))
  gathered_least k zero = let e : k + 0 ≡ k = omega arith in rw e (omega arith)
  gathered_least k (suc d) =
      let e : k + suc d ≡ (k + d) + 1 = omega arith in
      let h = gathered_least k d in
      let n = ap length (gathered_next (k + d)) ∙ length-append (gathered fm c s (k + d)) (pick (wide fm (s + (k + d))) (granule fm (s + (k + d)) c) []) in
      rw e (omega arith)

-- the wide ones among granules s, .., g - 1 are copied into d from an offset on, over d₀
pub record Gathering (f : ℕ) (c : List ℕ) (s to at : ℕ) (d₀ d : List ℕ) (g end : ℕ) : Type 0 where
  pub begun : s ≤ g
  pub within : g - s ≤ to - s
  pub reached : end ≡ at + length (gathered (format_of f) c s (g - s))
  pub is : d ≡ put at (gathered (format_of f) c s (g - s)) d₀
  pub long : length d ≡ length d₀

pub gathering_none : (f : ℕ) (c : List ℕ) (s to at : ℕ) (d : List ℕ) → Gathering f c s to at d d s at
unfolding gathered
gathering_none f c s to at d =
    let z : s - s ≡ 0 = omega arith in
    record { begun = omega arith; within = omega arith; reached = rw z (omega arith); is = rw z (sym (put_none at d)); long = refl }

module _ (f : ℕ) (c : List ℕ) (s to at : ℕ) (d₀ d : List ℕ) (g end : ℕ) (whole : length c ≡ 256) (inside : to ≤ 12)
    (fits : at + length (gathered (format_of f) c s (to - s)) ≤ length d₀) (h : Gathering f c s to at d₀ d g end) where
  abbrev fm : Format
  fm = format_of f

  abbrev k : ℕ
  k = g - s

  -- granule g has w bytes
  module _ (l : g < to) (w : ℕ) (ew : w ≡ fm.size g) where
    here : g ≡ s + k
    here = let b = h.begun in omega arith

    next : (g + 1) - s ≡ k + 1
    next = let b = h.begun in omega arith

    sized : w ≡ fm.size (s + k)
    sized = ew ∙ ap fm.size here

    -- it is passed over where it is narrow
    pub gathering_over : (w ≡ 20 → ⊥) → (e : List ℕ) → e ≡ d → (end' : ℕ) → end' ≡ end → Gathering f c s to at d₀ e (g + 1) end'
    gathering_over z e q end' v =
        let b = h.begun in
        let same = next in
        let x = gathered_narrow fm c s k (λ (y : fm.size (s + k) ≡ 20). z (sized ∙ y)) in
        record { begun = omega arith; within = omega arith; reached = rw (same, x) (v ∙ h.reached); is = rw (same, x) (q ∙ h.is); long = ap length q ∙ h.long }

    -- it is copied where it is wide
    module _ (z : w ≡ 20) where
      more : length (gathered fm c s (k + 1)) ≡ length (gathered fm c s k) + 20
      more =
          let p = here in
          ap length (gathered_wide fm c s k (sym sized ∙ z)) ∙ length-append (gathered fm c s k) (granule fm (s + k) c)
          ∙ ap (λ (j : ℕ). length (gathered fm c s k) + j) (granule_length f (s + k) c (omega arith) whole ∙ sym sized ∙ z)

      room : at + length (gathered fm c s (k + 1)) ≤ length d₀
      room =
          let b = h.begun in
          let e : (k + 1) + (to - (g + 1)) ≡ to - s = omega arith in
          let m = rw e at (gathered_least fm c s (k + 1) (to - (g + 1))) in
          omega arith

      pub gathering_room : end + 20 ≤ length d
      gathering_room =
          let r = h.reached in
          let u = h.long in
          let m = more in
          let j = room in
          omega arith

      part_fits : (a : ℕ) → end + length (take ((a + 20) - a) (drop a c)) ≤ length d
      part_fits a =
          let r = gathering_room in
          let e : (a + 20) - a ≡ 20 = omega arith in
          simp (e, length-take) (omega arith)

      pub gathering_more : (a : ℕ) → a ≡ start g → (e : List ℕ) → e ≡ copied_into end (take ((a + 20) - a) (drop a c)) d
          → (end' : ℕ) → end' ≡ end + 20 → Gathering f c s to at d₀ e (g + 1) end'
      gathering_more a ea e q end' v =
          let b = h.begun in
          let x = gathered fm c s k in
          let y = granule fm (s + k) c in
          let r = h.reached in
          let m = more in
          let j = room in
          let same = next in
          let is : e ≡ put at (gathered fm c s (k + 1)) d₀ =
          q ∙ copied_whole end (take ((a + 20) - a) (drop a c)) d (part_fits a) ∙ ap (λ (t : List ℕ). put end t d) (wide_part fm (s + k) a w c (ea ∙ ap start here) sized z)
          ∙ ap (λ (t : List ℕ). put end y t) h.is ∙ ap (λ (i : ℕ). put i y (put at x d₀)) r
          ∙ put_more at x y d₀ (omega arith) ∙ ap (λ (t : List ℕ). put at t d₀) (sym (gathered_wide fm c s k (sym sized ∙ z))) in
          record {
            begun = omega arith;
            within = omega arith;
            reached = rw same (omega arith);
            is = rw same is;
            long = ap length is ∙ length_put at (gathered fm c s (k + 1)) d₀ j;
          }

-- the first k bytes of m, and then y, put into l from an offset on
module _ (m : List ℕ) (k at : ℕ) (y l : List ℕ) (kept : k ≤ length m) (fits : at + length (take k m ++ y) ≤ length l) where
  front_length : length (take k m) ≡ k
  front_length = length-take-le k m kept

  both_length : length (take k m ++ y) ≡ k + length y
  both_length = length-append (take k m) y ∙ ap (λ (n : ℕ). n + length y) front_length

  front_fits : at + length (take k m) ≤ length l
  front_fits = let n = both_length in rw front_length (omega arith)

  module _ (d : List ℕ) (q : d ≡ copied_into at (take k m) l) where
    front_put : d ≡ put at (take k m) l
    front_put = q ∙ copied_whole at (take k m) l front_fits

    pub both_put : (e : List ℕ) → e ≡ put (at + k) y d → e ≡ put at (take k m ++ y) l
    both_put e r =
        let n = both_length in
        let x = take k m in
        r ∙ ap (put (at + k) y) front_put
        ∙ ap (λ (j : ℕ). put (at + j) y (put at x l)) (sym front_length)
        ∙ put_more at x y l (rw front_length (omega arith))

-- what is carried on: nothing where nothing is owed, and else the message x, over zeros
module _ (o : ℕ) (x : List ℕ) where
  pub carried_none : o ≡ 0 → carry_with [] ≡ carry_with (pick (eqb o 0) [] x)
  carried_none e = rw (eq-eqb o 0 e)

  pub carried_some : (o ≡ 0 → ⊥) → (n : ℕ) → n ≡ o + length x → (d : List ℕ) → d ≡ put 0 x (replicate 100 0)
      → ◌≡◌ {A = Carry} (record { bytes = d; len = n - o }) (carry_with (pick (eqb o 0) [] x))
  carried_some some n e d q =
      let k : n - o ≡ length x = omega arith in
      rw (ne_eqb o 0 some, k, q, put_zeros 100 x)
