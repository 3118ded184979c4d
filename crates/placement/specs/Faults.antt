-- "Causes and places" (document 01), the table of a container: a constructor a row, its number and place at the end.
use Rattle.std.specs.Prelude.{ℕ, ◌+◌, ◌*◌, ◌/◌, ◌%◌, ◌≤◌, ◌<◌, ◌≡◌, List, ◌⊎◌}
use Rattle.container.specs.Layout.{Format, granule, header}
use Rattle.message.specs.HeadRules.{byte, type, Bytes, Misc, RightHead, MayStart}
use Rattle.placement.specs.Rules.{Starts, Origin, GoesOn, Populated, Unused, responses_at}

-- rows 3 to 13, of a container c of 256 bytes with m carried in
pub data ContainerFault (fm : Format) (m c : List ℕ) : ℕ → ℕ → Type 0 where
  -- 3 | reserved header bit set: "The high halves of P1 and P2, and P7 to P9" | 0
  reserved : (16 ≤ header fm c 1) ⊎ (16 ≤ header fm c 2) ⊎ (0 < header fm c 7) ⊎ (0 < header fm c 8) ⊎ (0 < header fm c 9) → ContainerFault fm m c 3 0
  -- 4 | header grant with ShC 1, RP not 0: "P2 bit 0 is ShC, bits 1-3 RP" | 0
  form : header fm c 2 % 2 ≡ 1 → 0 < header fm c 2 / 2 % 8 → ContainerFault fm m c 4 0
  -- 5 | start where a message goes on | granule
  inside : (g : ℕ) (o : Origin) (n : ℕ) → g < 12 → Starts fm c g → GoesOn fm m c o n g → ContainerFault fm m c 5 g
  -- 6 | type or op unknown | granule
  unknown : (g : ℕ) → g < 12 → Starts fm c g → ((n : ℕ) → Bytes (granule fm g c) n → ⊥) → ContainerFault fm m c 6 g
  -- 7 | place not allowed | granule
  place : (g : ℕ) → g < 12 → Starts fm c g → (MayStart fm g (granule fm g c) → ⊥) → ContainerFault fm m c 7 g
  -- 8 | head bits or bytes wrong | granule
  head : (g : ℕ) → g < 12 → Starts fm c g → (RightHead (granule fm g c) → ⊥) → ContainerFault fm m c 8 g
  -- 9 | unused byte not zero | granule
  unused : (g i : ℕ) → g < 12 → Unused fm m c g i → 0 < byte (granule fm g c) i → ContainerFault fm m c 9 g
  -- 10 | gap: a populated granule behind one that is not | group
  gap : (q g h : ℕ) → q < 4 → g / 3 ≡ q → h / 3 ≡ q → g < h → (Populated fm m c g → ⊥) → Populated fm m c h → ContainerFault fm m c 10 q
  -- 11 | second MiscU | group
  second : (q g h : ℕ) → q < 4 → g / 3 ≡ q → h / 3 ≡ q → g < h → Starts fm c g → type (granule fm g c) ≡ 10 → Starts fm c h → type (granule fm h c) ≡ 10
      → ContainerFault fm m c 11 q
  -- 12 | over four responses, Resp2 counting two | group
  many : (q : ℕ) → q < 4 → 4 < responses_at fm c (3 * q) + (responses_at fm c (3 * q + 1) + responses_at fm c (3 * q + 2)) → ContainerFault fm m c 12 q
  -- 13 | header grant beside Activation: a count that is not zero | 0
  beside : (g : ℕ) → g < 12 → Starts fm c g → Misc (granule fm g c) 1 → (0 < header fm c 3) ⊎ (0 < header fm c 4) ⊎ (0 < header fm c 5) ⊎ (0 < header fm c 6)
      → ContainerFault fm m c 13 0
