-- The table of document 01, "Container bytes", with its numbers.
use Rattle.std.specs.Prelude.{ℕ, zero, suc, ◌+◌, ◌*◌, ◌/◌, ◌%◌, ◌<◌, ◌≡◌, List, [], ◌∷◌, ◌++◌, map, length, get_or, eqb}
use Rattle.lists.specs.Pick.{pick}
use Rattle.container.specs.Layout.{Format, format_of, granule, header}
use Rattle.container.specs.Grants.{header_grant}

-- the numbers of the granules, and those of the header bytes
abbrev pub granules : List ℕ
granules = 0 ∷ 1 ∷ 2 ∷ 3 ∷ 4 ∷ 5 ∷ 6 ∷ 7 ∷ 8 ∷ 9 ∷ 10 ∷ 11 ∷ []

abbrev pub headers : List ℕ
headers = 0 ∷ 1 ∷ 2 ∷ 3 ∷ 4 ∷ 5 ∷ 6 ∷ 7 ∷ 8 ∷ 9 ∷ []

-- the bytes of a container at some places
abbrev pub bytes_at : List ℕ → List ℕ → List ℕ
bytes_at c places = map (λ p. get_or c p 0) places

-- the places below n that are link header, upwards
unfoldable pub linked : Format → ℕ → List ℕ
linked fm zero = []
linked fm (suc n) = linked fm n ++ pick (fm.link n) (n ∷ []) []

pub record Table : Type 0 where
  -- "Granule g (0 to 11) starts at byte 64·(g/3, whole part) + 20·(g mod 3).", and has as many bytes as its size says
  pub starts : (f g i : ℕ) (c : List ℕ) → g < 12 → i < (format_of f).size g → get_or (granule (format_of f) g c) i 0 ≡ get_or c (64 * (g / 3) + 20 * (g % 3) + i) 0
  pub long : (f g : ℕ) (c : List ℕ) → g < 12 → length c ≡ 256 → length (granule (format_of f) g c) ≡ (format_of f).size g
  -- "granule sizes | 20 each | 20, but G5 is 16 and G11 is 10"
  pub sizes_x : map (format_of 0).size granules ≡ 20 ∷ 20 ∷ 20 ∷ 20 ∷ 20 ∷ 20 ∷ 20 ∷ 20 ∷ 20 ∷ 20 ∷ 20 ∷ 20 ∷ []
  pub sizes_y : map (format_of 1).size granules ≡ 20 ∷ 20 ∷ 20 ∷ 20 ∷ 20 ∷ 16 ∷ 20 ∷ 20 ∷ 20 ∷ 20 ∷ 20 ∷ 10 ∷ []
  -- "link header | 60-63, 124, 125 | 60-63, 120-127, 188-191, 242-245"
  pub link_x : linked (format_of 0) 256 ≡ 60 ∷ 61 ∷ 62 ∷ 63 ∷ 124 ∷ 125 ∷ []
  pub link_y : linked (format_of 1) 256 ≡ 60 ∷ 61 ∷ 62 ∷ 63 ∷ 120 ∷ 121 ∷ 122 ∷ 123 ∷ 124 ∷ 125 ∷ 126 ∷ 127 ∷ 188 ∷ 189 ∷ 190 ∷ 191 ∷ 242 ∷ 243 ∷ 244 ∷ 245 ∷ []
  -- "protocol header P0..P9 | 126, 127, 188-191, 252-255 | 246-255"
  pub header_x : (c : List ℕ) → map (header (format_of 0) c) headers ≡ bytes_at c (126 ∷ 127 ∷ 188 ∷ 189 ∷ 190 ∷ 191 ∷ 252 ∷ 253 ∷ 254 ∷ 255 ∷ [])
  pub header_y : (c : List ℕ) → map (header (format_of 1) c) headers ≡ bytes_at c (246 ∷ 247 ∷ 248 ∷ 249 ∷ 250 ∷ 251 ∷ 252 ∷ 253 ∷ 254 ∷ 255 ∷ [])
  -- "P2 to P6 are a grant form: P2 bit 0 is ShC, bits 1-3 RP; P3 to P6 are the REQ, RSP, SNP and DAT counts"
  pub form : (fm : Format) (c : List ℕ)
      → header_grant fm c ≡ record { shc = eqb (header fm c 2 % 2) 1; rp = header fm c 2 / 2 % 8; req = header fm c 3; rsp = header fm c 4; snp = header fm c 5; dat = header fm c 6 }
