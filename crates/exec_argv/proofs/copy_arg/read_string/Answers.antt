-- `read_string` meets its contract: the definition's buffer is the room behind the bytes so far and, where that is full, as many
-- bytes as those are.
use mathlib.Core.Path.{◌≡◌, ap, ◌∙◌}
use Prim.Native.Nat.{ℕ, ◌+◌, ◌-◌, ◌≤◌, ◌<◌}
use native.Mathlib.Omega.{arith}
use mathlib.Core.List.{List}
use lib.ListN.{length, take, length-drop}
use lib.Seq.{length-take-le}
use borrow.Rule.Slice.PartMut.{mid_of, put_mid, same_len_mid}
use Rattle.std.specs.Prelude.{Result, Ok, Err}
use Rattle.std.proofs.lemmas.Result.{err_from_is_err_and}
use Rattle.spec.specs.Numbers.{arg_limit}
use Rattle.spec.specs.Frames.{Mem, mem_of, store}
use Rattle.uaccess.specs.Copied.{copied}
use Rattle.uaccess.specs.declared.strings.Unread.{Unread}
use Rattle.exec_argv.proofs.Buffered.{size_of, copied-before, copied-most, told-short, told-low, told-full}
use Rattle.exec_argv.proofs.copy_arg.read_string.Goals as goal
use Rattle.exec_argv.proofs.copy_arg.read_string.Goals.{After-try_copy_str_from_user, After-try_copy_str_from_user-2, Else-n-room}

-- where the room has been read into
module _ (c : After-try_copy_str_from_user) where
  abbrev memory : Mem
  memory = mem_of (store c.args.frames.now c.args.pages.now.book.now) c.args.pages.now.number

  abbrev limit : ℕ
  limit = arg_limit c.args.pages.now.setup

  abbrev buf : List ℕ
  buf = c.args.buf.now

  abbrev part : List ℕ
  part = c.try_copy_str_from_user.new.dst

  low : c.args.used < limit
  low = c.requires.in_bounds.1

  room : limit ≤ length buf
  room = c.requires.in_bounds.0

  after : length (put_mid c.args.used (limit - c.args.used) buf part) ≡ length buf
  after = same_len_mid c.args.used (limit - c.args.used) buf part c.try_copy_str_from_user.auto.dst

  behind-used : length (mid_of c.args.used (limit - c.args.used) buf) ≡ limit - c.args.used
  behind-used = length-take-le (limit - c.args.used) _ (omega (arith, low, room, length-drop c.args.used buf))

-- where it is full
module _ (c : Else-n-room) where
  abbrev read : After-try_copy_str_from_user
  read = (goal.at.Else-n-room c).After-try_copy_str_from_user

  next : c.args.s + (limit read - c.args.used) ≤ c.args.pages.now.setup.uaddrtop
  next = told-low c.args.pages.now.setup (memory read) c.args.buf.now c.args.used (low read) (room read) c.args.s (Ok c.in_ok-n.n) (part read) c.in_ok-n.ensures c.if-n-room.false

-- where it has been read on
module _ (c : After-try_copy_str_from_user-2) where
  abbrev full : Else-n-room
  full = (goal.at.After-try_copy_str_from_user-2 c).Else-n-room

  abbrev front : List ℕ
  front = take c.args.used (put_mid c.args.used (limit (read full) - c.args.used) c.args.buf.now (part (read full)))

  more : length front ≡ c.args.used
  more = length-take-le c.args.used _ (omega (arith, after (read full), low (read full), room (read full)))

  rest-most : size_of c.try_copy_str_from_user-2.result ≤ c.args.used
  rest-most = omega (arith, more, copied-most c.args.pages.now.setup (memory (read full)) front (c.args.s + (limit (read full) - c.args.used)) c.try_copy_str_from_user-2.result c.try_copy_str_from_user-2.new.dst c.try_copy_str_from_user-2.ensures)

pub returns-in_err-n : goal.returns-in_err-n
returns-in_err-n c =
    let d = (goal.at.returns-in_err-n c).After-try_copy_str_from_user in
    let u : Unread = c.in_err-n.field-0.0 in
    let r = err_from_is_err_and c.from_residual.result c.from_residual.ensures.1 in
    let told : c.from_residual.result ≡ Err u = r.1 ∙ ap Err r.2 in
    let few : u.size < limit d - c.args.used = omega (arith, behind-used d, copied-before c.args.pages.now.setup (memory d) (mid_of c.args.used (limit d - c.args.used) c.args.buf.now) c.args.s u (part d) c.in_err-n.ensures) in
    told-short c.args.pages.now.setup (memory d) c.args.buf.now c.args.used (low d) (room d) c.args.s c.from_residual.result (part d)
    (ap (λ (t : Result ℕ Unread). copied t (part d)) told ∙ c.in_err-n.ensures) (omega (arith, ap size_of told, few))

pub returns-then-n-room : goal.returns-then-n-room
returns-then-n-room c =
    let d = (goal.at.returns-then-n-room c).After-try_copy_str_from_user in
    told-short c.args.pages.now.setup (memory d) c.args.buf.now c.args.used (low d) (room d) c.args.s (Ok c.in_ok-n.n) (part d) c.in_ok-n.ensures c.if-n-room.true

pub overflow_add-next : goal.overflow_add-next
overflow_add-next c = omega (arith, c.args.pages.now.accepted, next c)

pub overflow_add-result : goal.overflow_add-result
overflow_add-result c =
    let d = (goal.at.overflow_add-result c).After-try_copy_str_from_user-2 in
    omega (arith, c.args.pages.now.accepted, rest-most d, ap size_of c.in-Ok.is)

pub overflow_add-result-in-Err : goal.overflow_add-result-in-Err
overflow_add-result-in-Err c =
    let d = (goal.at.overflow_add-result-in-Err c).After-try_copy_str_from_user-2 in
    omega (arith, c.args.pages.now.accepted, rest-most d, ap size_of c.in-Err.is)

pub returns-in-Ok : goal.returns-in-Ok
returns-in-Ok c =
    let d = (goal.at.returns-in-Ok c).After-try_copy_str_from_user-2 in
    let e = read (full d) in
    told-full c.args.pages.now.setup (memory e) c.args.buf.now c.args.used (low e) (room e) c.args.s (Ok c.in_ok-n.n) (part e) c.in_ok-n.ensures c.if-n-room.false (front d) (Ok c.in-Ok.rest) c.try_copy_str_from_user-2.new.dst _ (more d) c.in-Ok.ensures

pub returns-in-Err : goal.returns-in-Err
returns-in-Err c =
    let d = (goal.at.returns-in-Err c).After-try_copy_str_from_user-2 in
    let e = read (full d) in
    told-full c.args.pages.now.setup (memory e) c.args.buf.now c.args.used (low e) (room e) c.args.s (Ok c.in_ok-n.n) (part e) c.in_ok-n.ensures c.if-n-room.false (front d) (Err c.in-Err.e) c.try_copy_str_from_user-2.new.dst _ (more d) c.in-Err.ensures
