-- `pagealloc::pages::load_frame` meets its contract: the two steps make the page.
use mathlib.Core.Path.{ap, ◌∙◌}
use lib.ListN.{length}
use native.Mathlib.Omega.{arith}
use Rattle.pagealloc.specs.Contents.{cleared}
use Rattle.pagealloc.proofs.Parts.{part_at}
use Rattle.pagealloc.proofs.Steps.{copy-clear}
use Rattle.pagealloc.proofs.pages.load_frame.Goals as goal

pub copy_file-requires : goal.copy_file-requires
copy_file-requires c =
    let p = part_at c.args.page c.args.vaddr (length c.args.file.now) _ c.file_part-part.ensures in
    (c.requires.0, p.order, p.in-page, p.in-file)

pub clear_rest-requires : goal.clear_rest-requires
clear_rest-requires c =
    let p = part_at c.args.page c.args.vaddr (length c.args.file.now) _ c.file_part-part.ensures in
    (omega arith, p.order, p.in-page)

pub returns : goal.returns
returns c =
    let a = c.args in
    let part = c.file_part-part.result in
    let p = part_at a.page a.vaddr (length a.file.now) part c.file_part-part.ensures in
    c.clear_rest.ensures ∙ ap (λ frames. cleared frames a.at.0 part) c.copy_file.ensures
    ∙ copy-clear a.at.0 a.page a.vaddr a.file.now part p a.frames.now c.requires.0
