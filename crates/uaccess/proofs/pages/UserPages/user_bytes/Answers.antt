-- `user_bytes` meets its contract.
use Prim.Native.Nat.{ℕ, ◌+◌, ◌-◌}
use native.Mathlib.Omega.{arith}
use mathlib.Core.Path.{◌≡◌, sym, ap, ◌∙◌}
use lib.ListN.{take, drop}
use Rattle.uaccess.proofs.CopyParts.{bytes-page}
use Rattle.uaccess.proofs.pages.UserPages.user_bytes.Goals as goal

pub returns : goal.returns
returns c =
    let a = c.args in
    let at = c.phys-at.result.0 in
    let n : at + a.n - at ≡ a.n = omega arith in
    ap (λ (i : ℕ). take i (drop at a.frames.now)) n ∙ ap (λ (i : ℕ). take a.n (drop i a.frames.now)) c.phys-at.ensures
    ∙ bytes-page a.frames.now a.self.now.book.now a.self.now.number a.va _ a.n c.requires.frames_len (sym c.frame_at.ensures ∙ c.in-Some.is) c.requires.n_bound.0
