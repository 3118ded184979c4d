-- The packing rules of a container in the papers' words (003, section 3.3.1; document 01, "Container bytes" and "Placement").
use Rattle.std.specs.Prelude.{ℕ, zero, suc, ◌+◌, ◌*◌, ◌/◌, ◌%◌, ◌^◌, ◌≤◌, ◌<◌, ◌≡◌, ◌&&◌, List, [], ◌∷◌, ◌++◌, ◌⊎◌, length, eqb, leb}
use Rattle.lists.specs.Pick.{pick}
use Rattle.container.specs.Layout.{Format, granule, header}
use Rattle.message.specs.HeadRules.{byte, type, Bytes, Misc, RightHead, MayStart, response_count}

-- "P0 and the low four bits of P1 are MsgStart, bit g for granule g."
abbrev pub start_bit : Format → List ℕ → ℕ → ℕ
start_bit fm c g = (header fm c 0 + 256 * (header fm c 1 % 16)) / 2 ^ g % 2

abbrev pub Starts : Format → List ℕ → ℕ → Type 0
Starts fm c g = start_bit fm c g ≡ 1

-- a message of a container: the one carried in, or the one that starts in granule s
pub data Origin : Type 0 where
  carry : Origin
  at : ℕ → Origin

abbrev pub There : Format → List ℕ → Origin → Type 0
There fm c carry = Unit {0}
There fm c (at s) = (s < 12) × Starts fm c s

-- what was carried of it, or the granule that it starts in
abbrev pub front : Format → List ℕ → List ℕ → Origin → List ℕ
front fm m c carry = m
front fm m c (at s) = granule fm s c

-- the first granule that it may go on in: it "goes on in G0 of the next container"
abbrev pub next : Origin → ℕ
next carry = 0
next (at s) = s + 1

-- the granules of 20 bytes among s, .., g - 1, upwards
unfoldable pub full : Format → ℕ → ℕ → List ℕ
full fm s zero = []
full fm s (suc g) = full fm s g ++ pick (leb s g && eqb (fm.size g) 20) (g ∷ []) []

-- how many bytes it has room for before granule g: what was carried or its first granule, and the granules of 20 bytes from the next on
abbrev pub before : Format → List ℕ → List ℕ → Origin → ℕ → ℕ
before fm m c o g = length (front fm m c o) + 20 * length (full fm (next o) g)

-- "A longer message runs on through the next granules, passing over G5 and G11 in Y": message o, of n bytes, goes on in granule g
pub record GoesOn (fm : Format) (m c : List ℕ) (o : Origin) (n g : ℕ) : Type 0 where
  pub there : There fm c o
  pub bytes : Bytes (front fm m c o) n
  pub later : next o ≤ g
  pub wide : fm.size g ≡ 20
  pub more : before fm m c o g < n

-- "A granule is populated if a message starts or goes on there."
abbrev pub Populated : Format → List ℕ → List ℕ → ℕ → Type 0
Populated fm m c g = Starts fm c g ⊎ ((o : Origin) × (n : ℕ) × GoesOn fm m c o n g)

-- byte i of granule g is unused
pub data Unused (fm : Format) (m c : List ℕ) (g i : ℕ) : Type 0 where
  -- "All bytes after a message's end in its granule,": in its only one, and in its last one
  rest : (n : ℕ) → Starts fm c g → Bytes (granule fm g c) n → n ≤ i → Unused fm m c g i
  last : (o : Origin) (n : ℕ) → GoesOn fm m c o n g → n ≤ before fm m c o g + i → Unused fm m c g i
  -- "and all of an unpopulated granule,"
  empty : (Populated fm m c g → ⊥) → Unused fm m c g i

pub record GranuleRules (fm : Format) (m c : List ℕ) (g : ℕ) : Type 0 where
  -- what starts is a message of the table, where it may start, with a right head
  pub known : Starts fm c g → (n : ℕ) × Bytes (granule fm g c) n
  pub place : Starts fm c g → MayStart fm g (granule fm g c)
  pub head : Starts fm c g → RightHead (granule fm g c)
  -- "A message begins at a granule's first byte": none starts where another goes on
  pub alone : Starts fm c g → (o : Origin) (n : ℕ) → GoesOn fm m c o n g → ⊥
  -- "All bytes after a message's end in its granule, and all of an unpopulated granule, are zero."
  pub zero : (i : ℕ) → Unused fm m c g i → byte (granule fm g c) i ≡ 0

-- what starts in granule g, counted among the responses
abbrev pub responses_at : Format → List ℕ → ℕ → ℕ
responses_at fm c g = pick (eqb (start_bit fm c g) 1) (response_count (granule fm g c)) 0

-- "In each group G0-2, G3-5, G6-8, G9-11"
pub record GroupRules (fm : Format) (m c : List ℕ) (q : ℕ) : Type 0 where
  -- "the populated ones come first,"
  pub first : (g h : ℕ) → g / 3 ≡ q → h / 3 ≡ q → g < h → Populated fm m c h → Populated fm m c g
  -- "at most one MiscU starts,"
  pub one_misc : (g h : ℕ) → g / 3 ≡ q → h / 3 ≡ q → Starts fm c g → type (granule fm g c) ≡ 10 → Starts fm c h → type (granule fm h c) ≡ 10 → g ≡ h
  -- "and at most four responses start, Resp2 counting two."
  pub four : responses_at fm c (3 * q) + (responses_at fm c (3 * q + 1) + responses_at fm c (3 * q + 2)) ≤ 4

-- a container c, with m carried in
pub record Rules (fm : Format) (m c : List ℕ) : Type 0 where
  -- "The high halves of P1 and P2, and P7 to P9, are reserved zero."
  pub reserved : (header fm c 1 / 16 ≡ 0) × (header fm c 2 / 16 ≡ 0) × (header fm c 7 ≡ 0) × (header fm c 8 ≡ 0) × (header fm c 9 ≡ 0)
  -- "P2 bit 0 is ShC, bits 1-3 RP; .. ShC 1 requires RP 0."
  pub shared : header fm c 2 % 2 ≡ 1 → header fm c 2 / 2 % 8 ≡ 0
  pub granules : (g : ℕ) → g < 12 → GranuleRules fm m c g
  pub groups : (q : ℕ) → q < 4 → GroupRules fm m c q
  -- "A container in which an Activation starts has four zero counts in its header."
  pub quiet : (g : ℕ) → g < 12 → Starts fm c g → Misc (granule fm g c) 1
      → (header fm c 3 ≡ 0) × (header fm c 4 ≡ 0) × (header fm c 5 ≡ 0) × (header fm c 6 ≡ 0)
