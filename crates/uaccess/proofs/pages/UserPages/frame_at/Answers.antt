-- `frame_at` meets its contract: the lookup is ready for the book.
use Prim.Native.Nat.{ℕ}
use mathlib.Core.Path.{ap, ◌∙◌}
use Rattle.std.proofs.Math.Logic.{∥∥₁_elim}
use Rattle.std.proofs.Props.{props}
use Rattle.spec.specs.Book.{frame_of}
use Rattle.uaccess.proofs.pages.UserPages.frame_at.Goals as goal

pub frame_at-requires : goal.frame_at-requires
frame_at-requires c = let u = c.args.self.now in
    ∥∥₁_elim u.ready (hlevel props) (λ r. (u.numbered.0, u.numbered.1, r.plan, r.few))

pub returns : goal.returns
returns c = let u = c.args.self.now in
    ∥∥₁_elim u.ready (hlevel props) (λ r. c.frame_at.ensures u.book.now r ∙ ap (λ (p : ℕ). frame_of u.book.now u.number p) c.page_down.ensures)
