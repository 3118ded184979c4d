-- The message whose last granule is g, as the code finds it, case by case. Assumes nothing.
use Prim.Native.Nat.{ℕ, ◌+◌, ◌-◌, ◌≤◌, ◌<◌}
use mathlib.Core.Path.{◌≡◌, sym, ap, ◌∙◌}
use mathlib.Core.Bool.{Bool, true, false, ◌&&◌, not}
use mathlib.Core.List.{List, [], ◌∷◌}
use native.Mathlib.Omega.{arith}
use lib.ListN.{length, take, drop, length-take}
use lib.Seq.{take-take}
use lib.Dec.{ltb}
use borrow.Author.Tests.{lt-ltb, le-ltb, le-leb, lt-leb, eq-eqb, ne_eqb, not-true, not-false}
use Rattle.lists.proofs.Tests.{and_false}
use Rattle.container.specs.Layout.{Format, format_of, start, wide, granule, bit}
use Rattle.message.specs.Heads.{msg_size}
use Rattle.reader.specs.TrackingMirror.{gathered_message, ended_by, Ending}
use Rattle.reader.specs.declared.track.Track.{Track}

-- granule g of a container of a format, behind what was carried in, where the track stands
pub record Here : Type 0 where
  pub format : ℕ
  pub container : List ℕ
  pub carry : List ℕ
  pub starts : ℕ
  pub track : Track
  pub g : ℕ

-- the message whose last granule it is
abbrev pub ended_here : Here → List (List ℕ)
ended_here h = ended_by (format_of h.format) h.container h.carry h.starts h.track h.g

-- the longer message that may end there
abbrev pub gathered_here : Here → List ℕ
gathered_here h = gathered_message (format_of h.format) h.container h.carry h.track (h.g + 1)

-- the granule has w bytes
module _ (h : Here) {w : ℕ} (ew : w ≡ (format_of h.format).size h.g) where
  abbrev fm : Format
  fm = format_of h.format

  abbrev g : ℕ
  g = h.g

  abbrev t : Track
  t = h.track

  abbrev c : List ℕ
  c = h.container

  -- a message goes on there
  module _ (on : 0 < t.owed) (z : w ≡ 20) where
    is_wide : wide fm g ≡ true
    is_wide = eq-eqb (fm.size g) 20 (sym ew ∙ z)

    pub ended_long : t.owed ≤ 20 → ended_here h ≡ gathered_here h ∷ []
    ended_long k = rw (lt-ltb 0 t.owed on, is_wide, le-leb t.owed 20 k)

    pub ended_later : 20 < t.owed → ended_here h ≡ []
    ended_later k = rw (lt-ltb 0 t.owed on, is_wide, lt-leb t.owed 20 k)

    pub long_sized : Ending fm c h.carry t g → t.owed ≤ 20 → (t.size ≡ length (gathered_here h)) × (t.size ≤ 120)
    long_sized e k = e on is_wide k

  -- none goes on there
  pub off_idle : t.owed ≤ 0 → (ltb 0 t.owed && wide fm g) ≡ false
  off_idle k = rw (le-ltb 0 t.owed k)

  pub off_narrow : (w ≡ 20 → ⊥) → (ltb 0 t.owed && wide fm g) ≡ false
  off_narrow d = rw (ne_eqb (fm.size g) 20 (λ (y : fm.size g ≡ 20). d (ew ∙ y))) (and_false (ltb 0 t.owed))

  module _ (off : (ltb 0 t.owed && wide fm g) ≡ false) {b : Bool} (eb : b ≡ bit h.starts g) where
    pub ended_none : not b ≡ true → ended_here h ≡ []
    ended_none f = rw (off, sym eb ∙ not-true b f)

    -- a message of n bytes starts there, at a
    module _ (s : not b ≡ false) {a : ℕ} (ea : a ≡ start g) {n : ℕ} (en : n ≡ msg_size (take ((a + w) - a) (drop a c))) where
      here : take ((a + w) - a) (drop a c) ≡ granule fm g c
      here = let k : (a + w) - a ≡ fm.size g = omega arith in rw (k, ea)

      size_here : n ≡ msg_size (granule fm g c)
      size_here = en ∙ ap msg_size here

      pub ended_over : w < n → ended_here h ≡ []
      ended_over l = let k : fm.size g < msg_size (granule fm g c) = omega (arith, size_here) in rw (off, sym eb ∙ not-false b s, lt-leb (msg_size (granule fm g c)) (fm.size g) k)

      pub ended_short : n ≤ w → ended_here h ≡ take ((a + n) - a) (drop a c) ∷ []
      ended_short l =
          let k : msg_size (granule fm g c) ≤ fm.size g = omega (arith, size_here) in
          let j : (a + n) - a ≡ msg_size (granule fm g c) = omega (arith, size_here) in
          rw (off, sym eb ∙ not-false b s, le-leb (msg_size (granule fm g c)) (fm.size g) k)
          (ap (λ (x : List ℕ). x ∷ []) (take-take (msg_size (granule fm g c)) (fm.size g) (drop (start g) c) k ∙ rw (j, ea)))

      pub short_small : n ≤ w → fm.size g ≤ 20 → length (take ((a + n) - a) (drop a c)) ≤ 20
      short_small l k = simp length-take (omega arith)
