-- `try_copy_str_from_user` meets its contract. The loop's invariant: the first `n` bytes are copied, the others are as they
-- were, and the copy goes on from there.
use Prim.Native.Nat.{ℕ, ◌+◌, ◌-◌, ◌%◌, ◌≤◌}
use native.Mathlib.Omega.{arith}
use mathlib.Core.Path.{◌≡◌, refl, sym, ap, ◌∙◌}
use mathlib.Core.Bool.{false}
use lib.ListN.{length}
use borrow.Rule.Slice.PartMut.{put_mid, mid_len}
use Rattle.std.specs.Prelude.{Ok, Err, is_ok, Result}
use Rattle.std.proofs.Common.{rules}
use Rattle.std.proofs.lemmas.Result.{err_from_is_err_and}
use Rattle.uaccess.specs.declared.strings.Unread.{Unread}
use Rattle.spec.specs.Numbers.{max_top, SetupOk}
use Rattle.spec.specs.Frames.{Mem, mem_of, store}
use Rattle.spec.specs.Access.{access, Checked, Reached, byte_of, bytes_at}
use Rattle.spec.specs.declared.Setup.{Setup}
use Rattle.spec_laws.proofs.Contents.{length-bytes}
use Rattle.kstr.specs.Nul.{to_nul}
use Rattle.kstr.proofs.BeforeNul.{nul-most}
use Rattle.uaccess.specs.Copied.{copied}
use Rattle.spec_laws.proofs.Allowed.{cell-page}
use Rattle.uaccess.proofs.InRange.{Paged}
use Rattle.uaccess.proofs.StringCopy.{str-none, str-end, str-bad, str-part, str-nul, str-whole}
use Rattle.uaccess.proofs.Checks.{checked_ok, checked_err}
use Rattle.spec_laws.proofs.Overwrite.{mix, mix-none}
use Rattle.spec.proofs.Ranges.{access-passed}
use Rattle.uaccess.proofs.pages.UserPages.try_copy_str_from_user.Goals as goal
use Rattle.uaccess.proofs.pages.UserPages.try_copy_str_from_user.Goals.{After-copy_to_nul-k, After-in_page-chunk, In_ok-map_err, Start}

module _ (s : Start) where
  abbrev setup : Setup
  setup = s.args.self.now.setup

  abbrev memory : Mem
  memory = mem_of (store s.args.frames.now s.args.self.now.book.now) s.args.self.now.number

  accepted : SetupOk setup
  accepted = s.args.self.now.accepted

  pages : Paged memory
  pages a write = cell-page (store s.args.frames.now s.args.self.now.book.now) s.args.self.now.number a write

-- where the page has been checked
module _ (c : In_ok-map_err) where
  abbrev s : Start
  s = (goal.at.In_ok-map_err c).Start

  abbrev n : ℕ
  n = c.loop-n.n

  ok : ◌≡◌ {A = Checked} (access (setup s) (memory s) false (c.args.src + n) 1) (Ok tt)
  ok = sym (c.user_range_ok.ensures c.args.frames.now) ∙ checked_ok c.user_range_ok.result (sym c.map_err.ensures.variant ∙ ap is_ok c.in_ok-map_err.was)

  reached : Reached (setup s) (memory s) false (c.args.src + n)
  reached = (access-passed (setup s) (memory s) false (c.args.src + n) 1 ok).each (c.args.src + n) (omega arith) (omega arith)

  top : c.args.src + n + 1 ≤ max_top
  top = omega (arith, accepted s, reached.0)

-- where the part that the page fills is known
module _ (c : After-in_page-chunk) where
  abbrev checked : In_ok-map_err
  checked = (goal.at.After-in_page-chunk c).In_ok-map_err

  abbrev chunk : ℕ
  chunk = c.in_page-chunk.result

  room : n checked + chunk ≤ length c.args.dst.now
  room = omega (arith, c.in_page-chunk.ensures)

  page : (c.args.src + n checked) % 4096 + chunk ≤ 4096
  page = omega (arith, c.in_page-chunk.ensures)

-- where it has been copied
module _ (c : After-copy_to_nul-k) where
  abbrev filled : After-in_page-chunk
  filled = (goal.at.After-copy_to_nul-k c).After-in_page-chunk

  abbrev begun : Start
  begun = (goal.at.After-copy_to_nul-k c).Start

  abbrev part : ℕ → ℕ
  part a = byte_of (memory begun a)

  -- how many bytes, and what they leave
  count : c.copy_to_nul-k.result ≡ to_nul (bytes_at (memory begun) (c.args.src + c.loop-n.n) (chunk filled))
  count = c.copy_to_nul-k.ensures.0 ∙ ap to_nul c.user_bytes-s.ensures

  abbrev k : ℕ
  k = c.copy_to_nul-k.result

  most : k ≤ chunk filled
  most = omega (arith, count, nul-most (bytes_at (memory begun) (c.args.src + c.loop-n.n) (chunk filled)), length-bytes part (c.args.src + c.loop-n.n) (chunk filled))

  left : put_mid c.loop-n.n (c.loop-n.n + chunk filled - c.loop-n.n) c.loop-n.dst c.copy_to_nul-k.new.d ≡ mix (bytes_at (memory begun) c.args.src (length c.args.dst.now)) c.args.dst.now (c.loop-n.n + k)
  left =
      str-part (setup begun) (accepted begun) (memory begun) (pages begun) c.args.dst.now c.args.src c.loop-n.n (chunk filled) (room filled) (ok (checked filled)) (page filled) k count
      _ _ _ c.loop-n.invariant.3 c.user_bytes-s.ensures c.copy_to_nul-k.ensures.1

pub loop-n-init : goal.loop-n-init
loop-n-init c = let s = (goal.at.loop-n-init c).Start in
    (omega arith, refl, omega arith, mix-none _ _, str-none (setup s) (accepted s) (memory s) (pages s) c.args.dst.now c.args.src)

pub returns-in_err-map_err : goal.returns-in_err-map_err
returns-in_err-map_err c =
    let l = c.loop-n in
    let s = (goal.at.returns-in_err-map_err c).Start in
    let p = checked_err c.user_range_ok.result c.map_err.result _ c.map_err.ensures.cases _ c.in_err-map_err.was in
    let bad : Unread = record { address = p.0; size = l.n } in
    let made : c.in_err-map_err.field-0.0 ≡ bad = search rules in
    let r = err_from_is_err_and c.from_residual.result c.from_residual.ensures.1 in
    let told : c.from_residual.result ≡ Err bad = r.1 ∙ ap Err (r.2 ∙ made) in
    ap (λ (t : Result ℕ Unread). copied t l.dst) told
    ∙ sym (l.invariant.4 ∙ str-bad (setup s) (accepted s) (memory s) (pages s) c.args.dst.now c.args.src l.n p.0 (omega arith) (sym (c.user_range_ok.ensures c.args.frames.now) ∙ p.1) ∙ ap (copied (Err bad)) (sym l.invariant.3))

pub user_bytes-s-requires-clause-n_bound : goal.user_bytes-s-requires-clause-n_bound
user_bytes-s-requires-clause-n_bound c = let f = (goal.at.user_bytes-s-requires-clause-n_bound c).After-in_page-chunk in (page f, (reached (checked f)).1)

pub copy_to_nul-k-requires : goal.copy_to_nul-k-requires
copy_to_nul-k-requires c =
    let f = (goal.at.copy_to_nul-k-requires c).After-in_page-chunk in
    let n : ℕ = c.loop-n.n in
    let q : n + chunk f - n ≡ chunk f = omega arith in
    mid_len n (n + chunk f) _ (omega (arith, room f)) ∙ q ∙ sym (ap length c.user_bytes-s.ensures ∙ length-bytes (λ a. byte_of (memory (goal.at.copy_to_nul-k-requires c).Start a)) (c.args.src + n) (chunk f))

pub overflow_add-n-in-loop-n : goal.overflow_add-n-in-loop-n
overflow_add-n-in-loop-n c = let k = (goal.at.overflow_add-n-in-loop-n c).After-copy_to_nul-k in
    omega (arith, most k, page (filled k), top (checked (filled k)))

pub returns-then-k-chunk : goal.returns-then-k-chunk
returns-then-k-chunk c =
    let d = (goal.at.returns-then-k-chunk c).After-copy_to_nul-k in
    let s = (goal.at.returns-then-k-chunk c).Start in
    sym (c.loop-n.invariant.4
    ∙ str-nul (setup s) (accepted s) (memory s) (pages s) c.args.dst.now c.args.src c.loop-n.n (chunk (filled d)) (room (filled d)) (ok (checked (filled d))) (page (filled d)) (k d) (count d) c.if-k-chunk.true
    ∙ ap (copied (Ok (c.loop-n.n + k d))) (sym (left d)))

pub loop-n-preserved : goal.loop-n-preserved
loop-n-preserved c =
    let d = (goal.at.loop-n-preserved c).After-copy_to_nul-k in
    let s = (goal.at.loop-n-preserved c).Start in (
      omega (arith, most d, room (filled d)),
      omega (arith, c.loop-n.invariant.1),
      omega (arith, most d, page (filled d), top (checked (filled d))),
      left d,
      c.loop-n.invariant.4
          ∙ str-whole (setup s) (accepted s) (memory s) (pages s) c.args.dst.now c.args.src c.loop-n.n (chunk (filled d)) (room (filled d)) (ok (checked (filled d))) (page (filled d)) (k d) (count d) c.if-k-chunk.false,
    )

pub returns : goal.returns
returns c =
    let l = c.loop-n in
    let s = (goal.at.returns c).Start in
    sym (l.invariant.4 ∙ str-end (setup s) (accepted s) (memory s) (pages s) c.args.dst.now c.args.src l.n (omega arith) (omega arith) ∙ ap (copied (Ok l.n)) (sym l.invariant.3))
