-- A fork that nothing forbids: its list's pages, then the bss's, can be copied, and are the pages that the specification places.
use Prim.Native.Nat.{ℕ, ◌*◌, ◌^◌, ◌≤◌, ◌<◌}
use native.Mathlib.Omega.{arith}
use mathlib.Core.Path.{◌≡◌, sym, ap, subst, ◌∙◌}
use mathlib.Core.Bool.{true}
use mathlib.Core.List.{List, [], ◌∷◌}
use lib.ListN.{length, get_or}
use Rattle.spec.specs.Tests.{same}
use Rattle.spec.specs.Numbers.{page_up}
use Rattle.spec.specs.Book.{frame_count, frame_of, same_segment, unused, used, zero_segment, bss_segment, pieces, pieces_of, data_only, proc_at}
use Rattle.spec.specs.Sound.{Sound, Shape}
use Rattle.spec.specs.Frames.{Store, pages_of, place, share, frame_bytes, store}
use Rattle.spec.specs.World.{State, state_of}
use Rattle.spec.specs.declared.UserSegment.{UserSegment}
use Rattle.spec.specs.declared.Procs.{Procs}
use Rattle.spec.proofs.Bools.{split}
use Rattle.spec.proofs.Lists.{same-means}
use Rattle.spec_laws.proofs.Lists.{Each, each_at}
use Rattle.spec_laws.proofs.Held.{valid-low, valid-high}
use Rattle.spec_laws.proofs.Share.{share-length}
use Rattle.spec_laws.proofs.Record.{Whole, same-is}
use Rattle.call_front.proofs.FirstNumbers.{Forks, fork-none, fork-other, sizes-words}
use Rattle.call_front.proofs.Living.{passed-sound, living-shape}
use Rattle.call_fork.specs.Lent.{Copyable, Tells, Kept}
use Rattle.call_front.specs.Numbers.{fork_error}
use Rattle.sound.specs.declared.Lookup.{Lookup}
use Rattle.sound.specs.Table.{Ready}
use Rattle.spec.specs.declared.Setup.{Setup}
use Rattle.spec.specs.declared.Proc.{Proc}
use Rattle.call_fork.proofs.Forked.{mapped-still, bytes_same, copyable-segments, copyable-bss}
use Rattle.call_fork.proofs.Told.{tells-share}

-- what holds of every place holds of the used ones
each-used : (P : UserSegment → Type 0) (gs : List UserSegment) → Each P gs → Each P (used gs)
each-used P [] e = tt
each-used P (g ∷ gs) e = split (unused g) (λ q. rw q tt) (λ q. rw q (e.0, each-used P gs e.1))

module _ (setup : Setup) (frames was book : List ℕ) (procs : Procs) (number child : ℕ) (gs : List UserSegment) (l : Lookup) (whole : Whole procs)
    (passed : fork_error (state_of setup frames was procs) number child ≡ 0) (ready : Ready was number l)
    (shared : store frames book ≡ share (store frames was) number child) (alike : same same_segment gs (used (proc_at procs number).segments) ≡ true) where
  abbrev state : State
  state = state_of setup frames was procs

  abbrev first : Store
  first = store frames was

  abbrev p : Proc
  p = proc_at procs number

  forks : Forks state number child
  forks = fork-none state number child passed

  other : number ≡ child → ⊥
  other = fork-other state number child forks

  sound : Sound setup was procs
  sound = passed-sound state number _ whole forks.passed

  shape : (image : List UserSegment) × Shape setup p image
  shape = living-shape state number _ whole forks.passed forks.parent

  told-kept : Tells book l number × Kept first (store frames book) number
  told-kept = tells-share first (store frames book) l number child forks.passed.number forks.second other ready shared

  list-is : gs ≡ used p.segments
  list-is = same-means same_segment same-is gs (used p.segments) alike

  still : (g : UserSegment) → Copyable was number g → Copyable book number g
  still g y = record { start = y.start; end = y.end; high = y.high; mapped = mapped-still first (store frames book) number g.range.start g.range.end told-kept.1 y.mapped }

  -- what a copy of the pages asks
  pub asks-numbers : (length frames ≡ 4096 * frame_count book) × (1 ≤ number) × (number ≤ 16) × (1 ≤ child) × (child ≤ 16) × (number ≡ child → ⊥)
  asks-numbers =
      let long : length book ≡ length was = ap (λ (x : Store). length x.book) shared ∙ share-length first number child forks.passed.number forks.second (λ e. other (sym e)) in
      (omega (arith, (sizes-words frames was forks.passed.sizes).0, long), valid-low number forks.passed.number, valid-high number forks.passed.number, valid-low child forks.second, valid-high child forks.second, other)

  pub asks-segments : (i : ℕ) → i < length gs → Copyable book number (get_or gs i zero_segment)
  asks-segments i h =
      let e = copyable-segments was procs whole sound number forks.passed.number shape.0 shape.1 in
      let u = each-used (Copyable was number) p.segments e in
      still (get_or gs i zero_segment) (each_at (Copyable was number) zero_segment gs (subst (Each (Copyable was number)) (sym list-is) u) i h)

  pub asks-bss : (page_up p.bss.start < 2 ^ 64) × Copyable book number (bss_segment p.bss)
  asks-bss =
      let b = shape.1 in
      (omega (arith, b.bss-order, b.bss-end.1, sound.accepted), still (bss_segment p.bss) (copyable-bss was procs whole sound number forks.passed.number shape.0 shape.1))

  pub asks-told : Tells book l number
  asks-told = told-kept.0

  -- and what it leaves
  pub copied-is : (t : Store) → t ≡ place (store frames book) child (pages_of (λ a. frame_bytes frames (frame_of book number a)) (data_only (pieces gs p.bss)))
      → t ≡ place (share first number child) child (pages_of (λ a. frame_bytes frames (frame_of was number a)) (data_only (pieces_of p)))
  copied-is t h =
      h ∙ ap (place (store frames book) child) (bytes_same first (store frames book) number (data_only (pieces gs p.bss)) told-kept.1)
      ∙ ap (λ (x : Store). place x child (pages_of (λ a. frame_bytes frames (frame_of was number a)) (data_only (pieces gs p.bss)))) shared
      ∙ ap (λ (xs : List UserSegment). place (share first number child) child (pages_of (λ a. frame_bytes frames (frame_of was number a)) (data_only (pieces xs p.bss)))) list-is
