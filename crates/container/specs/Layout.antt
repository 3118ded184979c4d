-- Container bytes (document 01): where the granules, the protocol header and the link header lie.
use Rattle.std.specs.Prelude.{ℕ, ◌+◌, ◌*◌, ◌/◌, ◌%◌, ◌^◌, Bool, ◌&&◌, ◌||◌, List, get_or, eqb, ltb, leb}
use Rattle.lists.specs.Pick.{pick}
use Rattle.lists.specs.Parts.{part}

-- a format's column of the table: the size of granule g, where header byte Pi lies, and whether byte i is link header
pub record Format : Type 0 where
  pub size : ℕ → ℕ
  pub place : ℕ → ℕ
  pub link : ℕ → Bool

-- i is one of a, .., b
abbrev pub within : ℕ → ℕ → ℕ → Bool
within a b i = leb a i && leb i b

-- granule sizes: 20 each; 20, but G5 is 16 and G11 is 10
abbrev pub size_x : ℕ → ℕ
size_x g = 20

abbrev pub size_y : ℕ → ℕ
size_y g = pick (eqb g 5) 16 (pick (eqb g 11) 10 20)

-- protocol header P0..P9: 126, 127, 188-191, 252-255; 246-255
abbrev pub place_x : ℕ → ℕ
place_x i = pick (ltb i 2) (126 + i) (pick (ltb i 6) (186 + i) (246 + i))

abbrev pub place_y : ℕ → ℕ
place_y i = 246 + i

-- link header: 60-63, 124, 125; 60-63, 120-127, 188-191, 242-245
abbrev pub link_x : ℕ → Bool
link_x i = within 60 63 i || within 124 125 i

abbrev pub link_y : ℕ → Bool
link_y i = within 60 63 i || (within 120 127 i || (within 188 191 i || within 242 245 i))

-- format X is 0 and Y is 1
abbrev pub format_of : ℕ → Format
format_of f = record {
  size = λ g. pick (eqb f 0) (size_x g) (size_y g);
  place = λ i. pick (eqb f 0) (place_x i) (place_y i);
  link = λ i. pick (eqb f 0) (link_x i) (link_y i);
}

-- the bytes of a container, and its granules
abbrev pub container_size : ℕ
container_size = 256

abbrev pub granules : ℕ
granules = 12

-- granule g starts at byte 64·(g/3, whole part) + 20·(g mod 3)
abbrev pub start : ℕ → ℕ
start g = 64 * (g / 3) + 20 * (g % 3)

-- a granule that a longer message goes on in: in Y all but G5 and G11
abbrev pub wide : Format → ℕ → Bool
wide fm g = eqb (fm.size g) 20

-- the bytes of granule g
abbrev pub granule : Format → ℕ → List ℕ → List ℕ
granule fm g c = part (start g) (fm.size g) c

-- header byte Pi
abbrev pub header : Format → List ℕ → ℕ → ℕ
header fm c i = get_or c (fm.place i) 0

-- MsgStart: P0 and the low four bits of P1
abbrev pub msg_start : Format → List ℕ → ℕ
msg_start fm c = header fm c 0 + 256 * (header fm c 1 % 16)

-- bit g of a number
abbrev pub bit : ℕ → ℕ → Bool
bit w g = eqb (w / 2 ^ g % 2) 1
