-- What every format keeps: facts about its granules, its header bytes and its link header.
use Rattle.std.specs.Prelude.{ℕ, zero, suc, ◌+◌, ◌%◌, ◌≤◌, ◌<◌, ◌≡◌, Bool, true, false, ◌&&◌, ◌⊎◌, eqb, ltb, leb}
use Rattle.lists.specs.Pick.{pick}
use Rattle.container.specs.Layout.{Format, start, wide}

-- byte i lies in granule g
abbrev pub in_granule : Format → ℕ → ℕ → Bool
in_granule fm g i = leb (start g) i && ltb i (start g + fm.size g)

-- how many of 0, .., n - 1 pass a test
abbrev pub how_many : ℕ → (ℕ → Bool) → ℕ
how_many zero p = 0
how_many (suc n) p = pick (p n) 1 0 + how_many n p

-- how many granules, header bytes and link headers claim byte i
abbrev pub owners : Format → ℕ → ℕ
owners fm i = how_many 12 (λ g. in_granule fm g i) + (how_many 10 (λ k. eqb (fm.place k) i) + pick (fm.link i) 1 0)

-- a format that keeps them
pub record Lawful (fm : Format) : Type 0 where
  -- the granules lie inside the container, one behind the other
  pub inside : (g : ℕ) → g < 12 → start g + fm.size g ≤ 256
  pub apart : (g h : ℕ) → g < h → h < 12 → start g + fm.size g ≤ start h
  -- the header bytes lie inside, no two at one place, and none in a granule
  pub header_inside : (i : ℕ) → i < 10 → fm.place i < 256
  pub header_distinct : (i j : ℕ) → i < j → j < 10 → fm.place i ≡ fm.place j → ⊥
  pub header_outside : (g i : ℕ) → g < 12 → i < 10 → (fm.place i < start g) ⊎ (start g + fm.size g ≤ fm.place i)
  -- a granule has 10 to 20 bytes, and one of fewer than 20 is the last of its group
  pub least : (g : ℕ) → g < 12 → 10 ≤ fm.size g
  pub most : (g : ℕ) → g < 12 → fm.size g ≤ 20
  pub narrow_last : (g : ℕ) → g < 12 → wide fm g ≡ false → g % 3 ≡ 2
  -- G0 to G4 have 20 bytes
  pub first_wide : (g : ℕ) → g < 5 → wide fm g ≡ true
  -- each byte of a container is a granule's, a header byte, or link header
  pub owned : (i : ℕ) → i < 256 → owners fm i ≡ 1
