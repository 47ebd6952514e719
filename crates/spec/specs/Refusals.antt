-- The table of refusals: the number of each, and the number that a check comes to. 35 comes with a bad address and stands in Access.
-- Assumes nothing.
use Rattle.std.specs.Prelude.{ℕ, Result, Ok, Err}
use Rattle.spec.specs.Elf.{error_number}
use Rattle.spec.specs.declared.ElfError.{ElfError}
use Rattle.spec.specs.declared.Refusal.{Refusal}
use Rattle.spec.specs.declared.Refusal.TheVariants.{Sizes, Torn, Number, Dead, Taken, Elf, BadExec, Segments, BadArg, NoMemory, Overlap, Top, SetupLines, SetupNumbers, FlagTable, NotAout, AoutOutOfRange}

abbrev pub refusal_number : Refusal → ℕ
refusal_number Sizes = 1
refusal_number Torn = 2
refusal_number Number = 3
refusal_number Dead = 4
refusal_number Taken = 5
refusal_number (Elf e) = error_number e
refusal_number BadExec = 30
refusal_number Segments = 31
refusal_number BadArg = 32
refusal_number NoMemory = 33
refusal_number Overlap = 34
refusal_number Top = 36
refusal_number SetupLines = 37
refusal_number SetupNumbers = 38
refusal_number FlagTable = 39
refusal_number NotAout = 42
refusal_number AoutOutOfRange = 43

-- the number that a check refuses with, or 0
abbrev pub number_of : {A : Type 0} → Result A Refusal → ℕ
number_of (Ok _) = 0
number_of (Err r) = refusal_number r

-- the same of the ELF reader's checks
abbrev pub elf_number : {A : Type 0} → Result A ElfError → ℕ
elf_number (Ok _) = 0
elf_number (Err e) = error_number e
