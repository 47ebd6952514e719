-- The machine numbers (request 5), whole pages, and numbers in bytes. Every rule below that needs a machine number or the
-- flag table is handed the setup that has it.
-- Assumes nothing.
use Rattle.std.specs.Prelude.{ℕ, zero, suc, ◌+◌, ◌*◌, ◌-◌, ◌/◌, ◌%◌, ◌^◌, ◌≤◌, ◌<◌, Bool, true, not, ◌&&◌, ◌≡◌, List, [], ◌∷◌, get_or, replicate}
use Rattle.spec.specs.Tests.{◌is◌, ◌below◌, ◌above◌, ◌⇒◌else◌}
use Rattle.spec.specs.Flags.{built_in, flags_ok}
use Rattle.spec.specs.declared.Setup.{Setup}

-- ---- machine numbers. A page is 4,096 bytes, and that number is written out, since a proof divides by numerals only.

-- no user address space ends above this
abbrev pub max_top : ℕ
max_top = 2 ^ 47

-- the deposit machine's, with the built-in flag table
abbrev pub deposit : Setup
deposit = record { utzero = 65536; ustktop = 2 ^ 47; ustksize = 16384; uaddrtop = 2 ^ 47; flags = built_in }

-- "limit": one guard page lies above it
abbrev pub limit : Setup → ℕ
limit setup = setup.ustktop - setup.ustksize - 4096

-- the argument limit: a quarter of the stack
abbrev pub arg_limit : Setup → ℕ
arg_limit setup = setup.ustksize / 4

-- 38 (request 5): all are multiples of 4,096; UTZERO and USTKSIZE are at least 4,096; USTKSIZE is at most 65,536 and below USTKTOP;
-- UTZERO + 8,192 is at most USTKTOP − USTKSIZE; USTKTOP is at most UADDRTOP, and that at most 2^47
unfoldable pub setup_ok : Setup → Bool
setup_ok setup =
    setup.utzero % 4096 is 0 && setup.ustktop % 4096 is 0 && setup.ustksize % 4096 is 0 && setup.uaddrtop % 4096 is 0
    && not (setup.utzero below 4096) && not (setup.ustksize below 4096)
    && not (setup.ustksize above 65536) && setup.ustksize below setup.ustktop
    && not (setup.utzero + 8192 above setup.ustktop - setup.ustksize)
    && not (setup.ustktop above setup.uaddrtop) && not (setup.uaddrtop above max_top)

-- what a setup is refused with: 38, then 39 for its flag table (request 7); or 0
unfoldable pub setup_error : Setup → ℕ
setup_error setup =
    not (setup_ok setup) ⇒ 38 else
    not (flags_ok setup.flags) ⇒ 39 else
    0

-- an accepted setup, as facts
pub record SetupOk (setup : Setup) : Type 0 where
  pub pages : (setup.utzero % 4096 ≡ 0) × (setup.ustktop % 4096 ≡ 0) × (setup.ustksize % 4096 ≡ 0) × (setup.uaddrtop % 4096 ≡ 0)
  pub text-least : 4096 ≤ setup.utzero
  pub stack-least : 4096 ≤ setup.ustksize
  pub stack-most : setup.ustksize ≤ 65536
  pub stack-fits : setup.ustksize < setup.ustktop
  pub room : setup.utzero + 8192 ≤ setup.ustktop - setup.ustksize
  pub in-space : setup.ustktop ≤ setup.uaddrtop
  pub space-most : setup.uaddrtop ≤ max_top
  pub table : flags_ok setup.flags ≡ true

-- frames 1 to 1,024; processes numbered 1 to 16
abbrev pub max_frames : ℕ
max_frames = 1024

abbrev pub max_procs : ℕ
max_procs = 16

-- ---- whole pages

-- an address rounded down and up to a page
abbrev pub page_down : ℕ → ℕ
page_down a = a / 4096 * 4096

abbrev pub page_up : ℕ → ℕ
page_up a = (a + 4095) / 4096 * 4096

-- ---- bytes

-- the number that k bytes from place `at` on stand for, little-endian
abbrev pub le : ℕ → List ℕ → ℕ → ℕ
le zero s at = 0
le (suc k) s at = get_or s at 0 + 256 * le k s (at + 1)

-- and big-endian
abbrev pub be : ℕ → List ℕ → ℕ → ℕ
be zero s at = 0
be (suc k) s at = 256 ^ k * get_or s at 0 + be k s (at + 1)

-- a number as k bytes, little-endian
abbrev pub le_bytes : ℕ → ℕ → List ℕ
le_bytes zero n = []
le_bytes (suc k) n = n % 256 ∷ le_bytes k (n / 256)

-- f a, f (a + 1) and so on, k of them
abbrev pub bytes_from : (ℕ → ℕ) → ℕ → ℕ → List ℕ
bytes_from f a zero = []
bytes_from f a (suc k) = f a ∷ bytes_from f (a + 1) k

-- the bytes of the page at an address, by a rule; and a page of zeros. Both are kept shut: written out they are 4,096 elements.
unfoldable pub page_bytes : (ℕ → ℕ) → ℕ → List ℕ
page_bytes f a = bytes_from f a 4096

unfoldable pub zero_page : ℕ → List ℕ
zero_page a = replicate 4096 0
