-- The inverse flags of the text cells in their bytes. This file alone knows their form: a byte for each flag, 0 or 1.
use Rattle.std.specs.Prelude.{Bool, true, cond, ◌&&◌, List, [], ◌∷◌, map, ℕ, zero, suc, leb, eqb, take}

-- how many bytes n flags have
abbrev pub flag_bytes : ℕ → ℕ
flag_bytes n = n

abbrev pub flag_of : ℕ → Bool
flag_of b = eqb b 1

abbrev pub flag_byte : Bool → ℕ
flag_byte f = cond f 1 0

-- the n flags in bytes
unfoldable pub flags_in : ℕ → List ℕ → List Bool
flags_in n c = map flag_of (take n c)

-- the bytes of flags
unfoldable pub bytes_of_flags : List Bool → List ℕ
bytes_of_flags fs = map flag_byte fs

-- the bytes of n flags pass STATE: each is 0 or 1
unfoldable pub flags_fit : ℕ → List ℕ → Bool
flags_fit zero c = true
flags_fit (suc n) [] = true
flags_fit (suc n) (b ∷ c) = leb b 1 && flags_fit n c
