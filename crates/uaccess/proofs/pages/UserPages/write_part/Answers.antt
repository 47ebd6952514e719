-- `write_part` meets its contract.
use mathlib.Core.Path.{sym, ◌∙◌}
use Rattle.uaccess.proofs.CopyParts.{write-page}
use Rattle.uaccess.proofs.pages.UserPages.write_part.Goals as goal

pub returns : goal.returns
returns c =
    let a = c.args in
    write-page a.frames.now _ a.self.now.book.now a.bytes.now a.self.now.number a.va _ _ c.requires.frames_len (sym c.frame_at.ensures ∙ c.in-Some.is) c.requires.bytes_bound.0 c.phys.ensures c.write_phys.ensures
