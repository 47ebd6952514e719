-- The machine numbers in a file: worked examples of what is read.
use Prim.Native.Nat.{ℕ}
use mathlib.Core.Path.{◌≡◌, refl}
use mathlib.Core.Bool.{true}
use mathlib.Core.List.{List, [], ◌∷◌, ◌++◌}
use Rattle.spec.specs.Tests.{◌is◌, all, ascii}
use Rattle.spec.specs.Numbers.{setup_ok, deposit}
use Rattle.spec.specs.SetupText.{setup_text, read_setup}

-- the deposit's numbers are written as the request says
pub deposit-text : setup_text deposit ≡ ascii "UTZERO=65536\nUSTKTOP=140737488355328\nUSTKSIZE=16384\nUADDRTOP=140737488355328\n"
unfolding setup_text
deposit-text = refl

-- and read back
pub deposit-read : read_setup (setup_text deposit) ≡ record { error = 0; setup = deposit }
unfolding setup_text read_setup setup_ok
deposit-read = refl

abbrev rest : List ℕ
rest = ascii "USTKTOP=140737488355328\nUSTKSIZE=16384\nUADDRTOP=140737488355328\n"

abbrev texts : List (List ℕ × ℕ)
texts =
    ([], 37)
    ∷ (ascii "UTZERO=0\n" ++ rest, 37)
    ∷ (ascii "UTZERO=065536\n" ++ rest, 37)
    ∷ (ascii "UTZERO=\n" ++ rest, 37)
    ∷ (ascii "UTZERO=1000000000000000\n" ++ rest, 37)
    ∷ (ascii "UTZERO=999999999999999\n" ++ rest, 38)
    ∷ (ascii "UTZERO= 65536\n" ++ rest, 37)
    ∷ (ascii "UTZERO=65536\r\n" ++ rest, 37)
    ∷ (ascii "UTZERO=65536\n\n" ++ rest, 37)
    ∷ (ascii "utzero=65536\n" ++ rest, 37)
    ∷ (ascii "UTZERO=65536\n" ++ rest ++ ascii "\n", 37)
    ∷ (ascii "UTZERO=65537\n" ++ rest, 38)
    ∷ (ascii "UTZERO=65536\nUSTKSIZE=16384\nUSTKTOP=140737488355328\nUADDRTOP=140737488355328\n", 37)
    ∷ (ascii "UTZERO=65537\nUSTKTOP=140737488355328\nUSTKSIZE=16384\nUADDRTOP=140737488355328", 37)
    ∷ []

pub texts-hold : all (λ row. (read_setup row.0).error is row.1) texts ≡ true
unfolding read_setup setup_ok
texts-hold = refl
