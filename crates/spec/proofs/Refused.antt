-- The table of refusals: no number in it is 0, so that a check's number says whether it passed.
use Rattle.std.specs.Prelude.{◌≤◌, ◌≡◌}
use Rattle.std.proofs.Common.{arith}
use Rattle.spec.specs.Elf.{error_number}
use Rattle.spec.specs.Refusals.{refusal_number}
use Rattle.spec.specs.declared.ElfError.{ElfError}
use Rattle.spec.specs.declared.ElfError.TheVariants.{Truncated, BadMagic, NotElf64, NotLittleEndian, BadVersion, NotExecutable, NotAarch64, BadPhentsize, MisalignedEntry, PhdrsOutOfRange, FileszOverMemsz, SegmentOutOfRange, Misaligned, BadAlign, Overflow, BadFlags, Unordered, EntryNotInText}
use Rattle.spec.specs.declared.Refusal.{Refusal}
use Rattle.spec.specs.declared.Refusal.TheVariants.{Sizes, Torn, Number, Dead, Taken, Elf, BadExec, Segments, BadArg, NoMemory, Overlap, Top, SetupLines, SetupNumbers, FlagTable, NotAout, AoutOutOfRange}

pub elf-numbers : (e : ElfError) → (11 ≤ error_number e) × (error_number e ≤ 28)
elf-numbers Truncated = (omega arith, omega arith)
elf-numbers BadMagic = (omega arith, omega arith)
elf-numbers NotElf64 = (omega arith, omega arith)
elf-numbers NotLittleEndian = (omega arith, omega arith)
elf-numbers BadVersion = (omega arith, omega arith)
elf-numbers NotExecutable = (omega arith, omega arith)
elf-numbers NotAarch64 = (omega arith, omega arith)
elf-numbers BadPhentsize = (omega arith, omega arith)
elf-numbers MisalignedEntry = (omega arith, omega arith)
elf-numbers PhdrsOutOfRange = (omega arith, omega arith)
elf-numbers FileszOverMemsz = (omega arith, omega arith)
elf-numbers SegmentOutOfRange = (omega arith, omega arith)
elf-numbers Misaligned = (omega arith, omega arith)
elf-numbers BadAlign = (omega arith, omega arith)
elf-numbers Overflow = (omega arith, omega arith)
elf-numbers BadFlags = (omega arith, omega arith)
elf-numbers Unordered = (omega arith, omega arith)
elf-numbers EntryNotInText = (omega arith, omega arith)

pub refusal-positive : (r : Refusal) → 1 ≤ refusal_number r
refusal-positive Sizes = omega arith
refusal-positive Torn = omega arith
refusal-positive Number = omega arith
refusal-positive Dead = omega arith
refusal-positive Taken = omega arith
refusal-positive (Elf e) = omega (arith, (elf-numbers e).0)
refusal-positive BadExec = omega arith
refusal-positive Segments = omega arith
refusal-positive BadArg = omega arith
refusal-positive NoMemory = omega arith
refusal-positive Overlap = omega arith
refusal-positive Top = omega arith
refusal-positive SetupLines = omega arith
refusal-positive SetupNumbers = omega arith
refusal-positive FlagTable = omega arith
refusal-positive NotAout = omega arith
refusal-positive AoutOutOfRange = omega arith

-- a refusal's number is never 0
pub refused-not-0 : {P : Type 0} (r : Refusal) → refusal_number r ≡ 0 → P
refused-not-0 r e = let h = refusal-positive r in let z : ⊥ = omega arith in absurd z

pub elf-not-0 : {P : Type 0} (e : ElfError) → error_number e ≡ 0 → P
elf-not-0 r e = let h = (elf-numbers r).0 in let z : ⊥ = omega arith in absurd z
