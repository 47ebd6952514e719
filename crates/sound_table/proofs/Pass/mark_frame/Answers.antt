-- `mark_frame` meets its contract.
use Prim.Native.Nat.{ℕ, ◌+◌, ◌*◌, ◌-◌}
use native.Mathlib.Omega.{arith}
use mathlib.Core.Path.{◌≡◌, sym, ap, ◌∙◌}
use lib.ListN.{get_or}
use Rattle.spec.specs.Book.{owner_of, perm_of}
use Rattle.sound_table.proofs.RowPass.{row-start, word-is, pass-free, pass-more, pass-whole, fail-owner, fail-base, fail-data, fail-entered}
use Rattle.sound_table.proofs.Pass.mark_frame.Goals as goal
use Rattle.sound_table.proofs.Pass.mark_frame.Goals.{then-seen-ne0+else-b-base+else-perm_of-eq-DATA, else-seen-ne0, After-unowned-b}

-- a word whose owner is the place's
module _ (c : After-unowned-b) where
  abbrev i : ℕ
  i = c.loop-i.i

  abbrev w : ℕ
  w = get_or c.args.self.now.book.now (17 * c.args.k + i) 0

  owner-is : owner_of w ≡ i + 1
  owner-is = sym c.owner_of.ensures ∙ c.if-owner_of-i.false

  base-is : c.unowned-b.result ≡ w - 16 * (i + 1)
  base-is = c.unowned-b.ensures ∙ ap (λ (o : ℕ). w - 16 * o) owner-is

pub loop-i-init : goal.loop-i-init
loop-i-init c = row-start _ _ _ _ _ _ _ _ c.requires.planned.0 c.requires.planned.1

pub returns-then-owner_of-i : goal.returns-then-owner_of-i
returns-then-owner_of-i c =
    let l = c.loop-i in
    let p = c.args.self.now in
    let k = c.args.k in
    fail-owner p.book.now _ _ p.own p.pages k p.planned l.notes.bits l.table l.i l.base l.seen (omega arith) l.invariant _ (word-is p.book.now k l.i) (omega arith) c.if-w-eq0.false _ _ (λ e. c.if-owner_of-i.true (c.owner_of.ensures ∙ e))

pub returns-then-b-base : goal.returns-then-b-base
returns-then-b-base c =
    let l = c.loop-i in
    let p = c.args.self.now in
    let k = c.args.k in
    fail-base p.book.now _ _ p.own p.pages k p.planned l.notes.bits l.table l.i l.base l.seen (omega arith) l.invariant _ (word-is p.book.now k l.i) (omega arith) c.if-w-eq0.false _ _ c.if-seen-ne0.true (λ e. c.if-b-base.true (base-is (goal.at.returns-then-b-base c).After-unowned-b ∙ e))

pub returns-then-perm_of-eq-DATA : goal.returns-then-perm_of-eq-DATA
returns-then-perm_of-eq-DATA c =
    let l = c.loop-i in
    let p = c.args.self.now in
    let k = c.args.k in
    fail-data p.book.now _ _ p.own p.pages k p.planned l.notes.bits l.table l.i l.base l.seen (omega arith) l.invariant _ (word-is p.book.now k l.i) (omega arith) c.if-w-eq0.false _ _ c.if-seen-ne0.true (ap perm_of (sym (base-is (goal.at.returns-then-perm_of-eq-DATA c).After-unowned-b)) ∙ sym c.perm_of.ensures ∙ c.if-perm_of-eq-DATA.true)

pub mark_word-requires : goal.mark_word-requires
mark_word-requires c = (c.requires.k_bound.0, omega (arith, owner-is (goal.at.mark_word-requires c).After-unowned-b))

pub returns-then-not-mark_word : goal.returns-then-not-mark_word
returns-then-not-mark_word c =
    let l = c.loop-i in
    let p = c.args.self.now in
    let k = c.args.k in
    fail-entered p.book.now _ _ p.own p.pages k p.planned l.notes.bits l.table l.i l.base l.seen (omega arith) l.invariant _ (word-is p.book.now k l.i) (omega arith) c.if-w-eq0.false _ _ _ c.if-not-mark_word.true c.mark_word.ensures

pub loop-i-preserved : goal.loop-i-preserved
loop-i-preserved c =
    let l = c.loop-i in
    let p = c.args.self.now in
    let k = c.args.k in
    rw (base-is (goal.at.loop-i-preserved c).After-unowned-b) (pass-more p.book.now _ _ p.own p.pages k p.planned l.notes.bits l.table l.i l.base l.seen (omega arith) l.invariant _ (word-is p.book.now k l.i) c.if-w-eq0.false (owner-is (goal.at.loop-i-preserved c).After-unowned-b)
    (λ ne. elim c.if-seen-ne0.branch [ then-seen-ne0+else-b-base+else-perm_of-eq-DATA w ↦ (sym (base-is (goal.at.loop-i-preserved c).After-unowned-b) ∙ w.if-b-base.false, λ z. w.if-perm_of-eq-DATA.false (w.perm_of.ensures ∙ ap perm_of w.if-b-base.false ∙ z)) | else-seen-ne0 w ↦ absurd (ne w.if-seen-ne0.false) ])
    _ _ _ c.if-not-mark_word.false c.mark_word.ensures)

pub loop-i-preserved-then-w-eq0 : goal.loop-i-preserved-then-w-eq0
loop-i-preserved-then-w-eq0 c =
    let l = c.loop-i in
    let p = c.args.self.now in
    let k = c.args.k in
    pass-free p.book.now _ _ p.own p.pages k p.planned l.notes.bits l.table l.i l.base l.seen (omega arith) l.invariant _ (word-is p.book.now k l.i) c.if-w-eq0.true

pub returns : goal.returns
returns c =
    let l = c.loop-i in
    let p = c.args.self.now in
    let e : l.i ≡ 16 = omega arith in
    pass-whole p.book.now _ _ p.own p.pages l.notes.bits l.table c.args.k l.base l.seen (omega arith) (rw e at l.invariant)
