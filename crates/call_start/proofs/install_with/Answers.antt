-- `install_with` meets its contract: arguments that pass fit a buffer, and are installed from it.
use Prim.Native.Nat.{ℕ}
use native.Mathlib.Omega.{arith}
use mathlib.Core.List.{List}
use lib.ListN.{length}
use Rattle.spec.specs.Exec.{args_of}
use Rattle.spec.proofs.Args.{args-means}
use Rattle.exec_args.proofs.Cut.{cut-count, cut-size}
use Rattle.exec_load.specs.Installing.{Fitting}
use Rattle.call_start.proofs.install_with.Goals as goal
use Rattle.call_start.proofs.install_with.Goals.{After-args_into-size, Start}

abbrev args : Start → List (List ℕ)
args s = args_of s.args.bytes.now s.args.lengths.now

-- where they are laid
fitting : (c : After-args_into-size) → Fitting c.args.plan.now.image.setup (args (goal.at.After-args_into-size c).Start) c.args_into-size.new.buf c.args_into-size.result (length c.args.lengths.now)
fitting c = record { laid = rw c.setup.ensures at c.args_into-size.ensures; counted = cut-count c.args.bytes.now c.args.lengths.now; passed = c.requires.lengths_value.1 }

pub args_into-size-requires : goal.args_into-size-requires
args_into-size-requires c =
    let setup = c.args.plan.now.image.setup in
    let n = cut-size c.args.bytes.now c.args.lengths.now c.requires.lengths_value.0 in
    let k = cut-count c.args.bytes.now c.args.lengths.now in
    let m = (args-means setup (args (goal.at.args_into-size-requires c).Start) c.requires.lengths_value.1).1 in
    let o = c.args.plan.now.image.setup_ok in
    (c.requires.lengths_value.0, omega (arith, n, k, m, o), rw c.setup.ensures (omega (arith, n, m, o)))

pub install-requires : goal.install-requires
install-requires c =
    record { installable = c.requires.installable; by_index = (args (goal.at.install-requires c).Start, fitting (goal.at.install-requires c).After-args_into-size) }

pub returns : goal.returns
returns c =
    let p = c.install.ensures (args (goal.at.returns c).Start) (fitting (goal.at.returns c).After-args_into-size) in record { book_after = p.0; value = p.1 }
