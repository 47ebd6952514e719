-- `pagealloc::pages::copy_frame` meets its contract.
use Rattle.pagealloc.proofs.Filled.{put-copied}
use Rattle.pagealloc.proofs.pages.copy_frame.Goals as goal

pub returns : goal.returns
returns c = put-copied c.args.frames.now _ _ c.args.from.0 c.args.to.0 c.copy_from_slice.ensures.after c.copy_from_slice-2.ensures.after c.requires.0 c.requires.1
