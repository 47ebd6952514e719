-- Item 3, uaccess.rs: a process's access to its own memory. What is asked is what stands at each address, whether in frames or in
-- the plain machine.
-- Assumes nothing.
use Rattle.std.specs.Prelude.{ℕ, zero, suc, ◌+◌, ◌-◌, ◌≤◌, ◌<◌, min, ◌≡◌, Bool, true, false, List, [], ◌∷◌, length, get_or, Result, Ok, Err, Option, None, Some}
use Rattle.spec.specs.Tests.{◌is◌, ◌above◌, within, ◌⇒◌else◌}
use Rattle.spec.specs.Frames.{Cell, Mem}
use Rattle.spec.specs.Numbers.{bytes_from}
use Rattle.spec.specs.declared.Setup.{Setup}

-- a page is mapped, and is data for writing
abbrev pub cell_ok : Bool → Option Cell → Bool
cell_ok write None = false
cell_ok true (Some c) = c.perm is 3
cell_ok false (Some c) = true

-- what a check comes to: every byte can be accessed, or the address of one that can't
abbrev pub Checked : Type 0
Checked = Result (Unit {0}) ℕ

-- what follows a check: an answer by the bad address, or the rest
infixr 20 ◌names◌else◌
abbrev pub ◌names◌else◌ : {A : Type 0} → Checked → (ℕ → A) → A → A
(Ok _) names f else rest = rest
Err address names f else rest = f address

-- the lowest of k byte addresses from a on whose page isn't mapped, or isn't data for writing
abbrev pub lowest_bad : Mem → Bool → ℕ → ℕ → Checked
lowest_bad mem write a zero = Ok tt
lowest_bad mem write a (suc k) = cell_ok write (mem a) ⇒ lowest_bad mem write (a + 1) k else Err a

-- `user_range_ok` (request 4): a range that starts above the top, UADDRTOP, is bad at its own start, empty or not; otherwise it is bad at
-- the lowest byte address below the top that can't be accessed; otherwise, where it reaches past the top, at the top. An empty range
-- that starts at or below the top passes.
unfoldable pub access : Setup → Mem → Bool → ℕ → ℕ → Checked
access setup mem write addr len =
    addr above setup.uaddrtop ⇒ Err addr else
    lowest_bad mem write addr (min len (setup.uaddrtop - addr)) names Err else
    addr + len above setup.uaddrtop ⇒ Err setup.uaddrtop else
    Ok tt

-- no address is named
abbrev pub user_range_ok : Setup → Mem → Bool → ℕ → ℕ → Bool
user_range_ok setup mem write addr len = access setup mem write addr len names (λ address. false) else true

-- the rule, as a reader would ask for it: a byte can be accessed if it lies below the top, in a page that is mapped, and is data for
-- writing
abbrev pub Reached : Setup → Mem → Bool → ℕ → Type 0
Reached setup mem write a = (a < setup.uaddrtop) × (cell_ok write (mem a) ≡ true)

-- the lowest byte of a range that can't be, the top among them where the range reaches past it; of an empty range its own start, above
-- the top
pub record Lowest (setup : Setup) (mem : Mem) (write : Bool) (addr len address : ℕ) : Type 0 where
  pub in-range : 1 ≤ len → (addr ≤ address) × (address < addr + len)
  pub empty : len ≡ 0 → (address ≡ addr) × (setup.uaddrtop < addr)
  pub unreached : Reached setup mem write address → ⊥
  pub lower : (a : ℕ) → addr ≤ a → a < address → Reached setup mem write a

-- a range that passes starts at or below the top
pub record Passed (setup : Setup) (mem : Mem) (write : Bool) (addr len : ℕ) : Type 0 where
  pub start : addr ≤ setup.uaddrtop
  pub each : (a : ℕ) → addr ≤ a → a < addr + len → Reached setup mem write a

-- that is what the rule names, and what it passes
pub record AccessMeans : Type 0 where
  pub named : (setup : Setup) (mem : Mem) (write : Bool) (addr len address : ℕ) → access setup mem write addr len ≡ Err address → Lowest setup mem write addr len address
  pub passed : (setup : Setup) (mem : Mem) (write : Bool) (addr len : ℕ) → access setup mem write addr len ≡ Ok tt → Passed setup mem write addr len

-- the bytes that `copy_from_user` gives
abbrev pub byte_of : Option Cell → ℕ
byte_of None = 0
byte_of (Some c) = c.byte

abbrev pub bytes_at : Mem → ℕ → ℕ → List ℕ
bytes_at mem addr len = bytes_from (λ a. byte_of (mem a)) addr len

-- what `copy_to_user` leaves: bytes written over, from an address on
abbrev pub rewrite : ℕ → Option Cell → Option Cell
rewrite byte None = None
rewrite byte (Some c) = Some (record { perm = c.perm; byte = byte })

abbrev pub write : ℕ → List ℕ → Mem → Mem
write addr bytes mem a = within addr (addr + length bytes) a ⇒ rewrite (get_or bytes (a - addr) 0) (mem a) else mem a

-- what `try_copy_str_from_user` comes to: whether every byte that it needed could be read, the length, and the buffer afterwards
pub record Str : Type 0 where
  pub access : Checked
  pub size : ℕ
  pub buffer : List ℕ

abbrev pub longer : ℕ → Str → Str
longer byte s = record { access = s.access; size = s.size + 1; buffer = byte ∷ s.buffer }

-- it copies up to a NUL, which isn't stored, and leaves the rest of the buffer unchanged; with no NUL the length is the buffer's;
-- on a bad page the bytes before it stay copied
abbrev pub copy_str : Setup → Mem → List ℕ → ℕ → Str
copy_str setup mem [] a = record { access = Ok tt; size = 0; buffer = [] }
copy_str setup mem (d ∷ dst) a =
    let more : Str = longer (byte_of (mem a)) (copy_str setup mem dst (a + 1)) in
    access setup mem false a 1 names (λ address. record { access = Err address; size = 0; buffer = d ∷ dst }) else
    byte_of (mem a) is 0 ⇒ record { access = Ok tt; size = 0; buffer = d ∷ dst } else
    more
