-- What a program header that was read stands for in the specification. The checks are the specification's own, over that.
-- Assumes nothing.
use Rattle.spec.specs.Elf.{Phdr}
use Rattle.elf_header.specs.declared.phdr.Phdr.{Phdr as Read}

-- a program header that was read, as the specification has it
abbrev pub phdr_of : Read → Phdr
phdr_of p = record { type = p.kind; flags = p.flags; offset = p.offset; vaddr = p.vaddr; filesz = p.filesz; memsz = p.memsz; align = p.align }
