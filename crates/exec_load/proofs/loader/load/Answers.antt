-- `loader::load` meets its contract: segments, bss and stack are placed one after the other.
use mathlib.Core.Path.{ap, ◌∙◌}
use mathlib.Core.List.{[], ◌∷◌}
use Prim.Native.Nat.{ℕ}
use native.Mathlib.Omega.{arith}
use Rattle.spec.specs.Frames.{place, pages_of, store}
use Rattle.spec.specs.Numbers.{zero_page}
use Rattle.spec.specs.Book.{segment, stack}
use Rattle.spec.specs.declared.Setup.{Setup}
use Rattle.image.specs.Images.{program}
use Rattle.exec.specs.declared.Plan.{Plan}
use Rattle.exec.proofs.Planned.{plan-means}
use Rattle.exec_load.proofs.Whole.{Fits, bss-fits, all_placed}
use Rattle.exec_load.proofs.loader.load.Goals as goal

fits : (plan : Plan) → Fits plan.bss
fits plan = bss-fits plan.image.setup plan.image.setup_ok (program plan.image) plan.bss (plan-means plan) plan.behind

pub load_segments-top-requires-clause-frames_len : goal.load_segments-top-requires-clause-frames_len
load_segments-top-requires-clause-frames_len c = let p = c.requires in (p.0, p.1, p.2, (fits c.args.plan.now).start)

pub page_up-requires : goal.page_up-requires
page_up-requires c = omega (arith, (fits c.args.plan.now).start)

pub map_zeroed-next-requires-clause-start_value : goal.map_zeroed-next-requires-clause-start_value
map_zeroed-next-requires-clause-start_value c = let f = fits c.args.plan.now in (omega (arith, c.page_up.ensures), f.aligned, omega (arith, f.end))

pub returns : goal.returns
returns c =
    let a = c.args in
    let plan = a.plan.now in
    let top = c.load_segments-top.new in
    let next = c.map_zeroed-next.new in
    all_placed plan.image.setup plan.image.setup_ok (store a.frames.now a.book.now) _ _ _ a.owner _ plan.bss (plan-means plan) plan.behind
    c.load_segments-top.ensures.book_after
    (c.map_zeroed-next.ensures.book_after ∙ ap (λ (s : ℕ). place (store top.frames top.book) a.owner (pages_of zero_page (segment s plan.bss.end 3 ∷ []))) c.page_up.ensures)
    (c.map_zeroed.ensures.book_after ∙ ap (λ (s : Setup). place (store next.frames next.book) a.owner (pages_of zero_page (stack s ∷ []))) c.setup-setup.ensures)
