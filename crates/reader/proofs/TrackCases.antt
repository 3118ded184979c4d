-- One step of a track, case by case. Assumes nothing.
use Prim.Native.Nat.{ℕ, ◌+◌, ◌-◌}
use mathlib.Core.Path.{◌≡◌, sym, ◌∙◌}
use mathlib.Core.Bool.{Bool, true, false}
use mathlib.Core.List.{List}
use native.Mathlib.Omega.{arith}
use lib.ListN.{take, drop}
use Rattle.container.specs.Layout.{Format, start, granule, bit}
use Rattle.message.specs.Heads.{msg_size}
use Rattle.reader.specs.TrackingMirror.{track_by, track_after}
use Rattle.reader.specs.declared.track.Track.{Track}

-- granule g of a container, where b says whether a message starts
module _ (fm : Format) (c : List ℕ) (starts g : ℕ) (t : Track) {b : Bool} (eb : b ≡ bit starts g) where
  pub pass_start : b ≡ true → {n : ℕ} → n ≡ msg_size (granule fm g c) → track_by fm g true n t ≡ track_after fm c starts g t
  unfolding track_after
  pass_start s en = λ i. track_by fm g ((sym s ∙ eb) i) (en i) t

  pub pass_idle : b ≡ false → track_by fm g false 0 t ≡ track_after fm c starts g t
  unfolding track_after
  pass_idle s = let z : bit starts g ≡ false = sym eb ∙ s in rw z

-- the bytes of granule g as the code takes them
pub wide_part : (fm : Format) (g a n : ℕ) (c : List ℕ) → a ≡ start g → n ≡ fm.size g → n ≡ 20 → take ((a + 20) - a) (drop a c) ≡ granule fm g c
wide_part fm g a n c ea en z = let d : (a + 20) - a ≡ fm.size g = omega arith in rw (d, ea)
