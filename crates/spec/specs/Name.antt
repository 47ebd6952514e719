-- Item 1, str.rs: the name of a process. A name is any bytes; it is kept in 28, cut where it is longer.
-- Assumes nothing.
use Rattle.std.specs.Prelude.{ℕ, zero, suc, ◌-◌, List, [], ◌∷◌, ◌++◌, length, take, get_or, replicate}
use Rattle.spec.specs.Tests.{◌is◌, ◌below◌, within, ◌⇒◌else◌, has, ascii}

-- a name is what follows its last `/` (byte 47), perhaps empty
abbrev pub elem : List ℕ → List ℕ
elem [] = []
elem (c ∷ name) =
    has 47 name ⇒ elem name else
    c is 47 ⇒ name else
    c ∷ name

-- the largest place up to n where no byte 128 to 191 starts; place 0 always counts
abbrev pub cut : List ℕ → ℕ → ℕ
cut s zero = 0
cut s (suc n) = within 128 192 (get_or s (suc n) 0) ⇒ cut s n else suc n

-- into 28 bytes, the rest zeroed
abbrev pub padded : List ℕ → List ℕ
padded s = s ++ replicate (28 - length s) 0

-- up to 27 bytes are copied; longer: cut at the largest such place up to 24, then `...`
abbrev pub kstrcpy : List ℕ → List ℕ
kstrcpy s =
    length s below 28 ⇒ padded s else
    padded (take (cut s 24) s ++ ascii "...")
