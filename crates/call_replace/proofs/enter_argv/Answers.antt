-- `enter_argv` meets its contract: the arguments are read, and the pointers put behind them, before pages are freed.
use Prim.Native.Nat.{ℕ}
use native.Mathlib.Omega.{arith}
use mathlib.Core.Path.{◌≡◌, refl, sym, ap, ◌∙◌}
use mathlib.Core.List.{List}
use lib.ListN.{length, take, replicate}
use Rattle.std.specs.Prelude.{Err}
use Rattle.spec.specs.Frames.{mem_of, store}
use Rattle.spec.specs.Exec.{strings, Argv, read, copy_argv, args_error}
use Rattle.spec.specs.declared.Answer.TheVariants.{EndedAt}
use Rattle.spec.specs.declared.Setup.{Setup}
use Rattle.spec.proofs.Args.{args-means}
use Rattle.spec_laws.proofs.Argv.{argv-fits}
use Rattle.spec_laws.proofs.Owned.{valid-means}
use Rattle.exec_args.specs.Laid.{Standing}
use Rattle.exec_argv.specs.declared.Strings.{Strings}
use Rattle.exec_argv.specs.Reading.{left_in, Reads}
use Rattle.exec_argv.proofs.SoFar.{read-strings, was-bad, was-over, was_read}
use Rattle.exec_load.specs.Installing.{Fitting}
use Rattle.call_replace.specs.Becoming.{ends, stays, enters}
use Rattle.call_replace.proofs.enter_argv.Goals as goal
use Rattle.call_replace.proofs.enter_argv.Goals.{After-copy_argv, After-pointers_behind, In-Ok}

-- where the arguments have been read
module _ (c : After-copy_argv) where
  abbrev setup : Setup
  setup = c.args.plan.now.image.setup

  abbrev argv : Argv
  argv = copy_argv setup (mem_of (store c.args.frames.now c.args.book.now) c.args.number) c.args.argv

  abbrev before : List ℕ
  before = replicate 16384 0

  told : Reads argv before c.copy_argv.result c.copy_argv.new.buf
  told = rw c.setup-setup.ensures at c.copy_argv.ensures

-- and are neither bad nor over the limit
module _ (c : In-Ok) where
  abbrev at : After-copy_argv
  at = (goal.at.In-Ok c).After-copy_argv

  abbrev held : Strings
  held = c.in-Ok.strings

  were : (args : List (List ℕ)) × (argv at ≡ read args) × (held ≡ record { used = length (strings args); count = length args })
  were = was_read (argv at) held (sym (told at).said ∙ c.in-Ok.is)

  abbrev args : List (List ℕ)
  args = were.0

  used : held.used ≡ length (strings args)
  used = ap (λ (x : Strings). x.used) were.2

  count : held.count ≡ length args
  count = ap (λ (x : Strings). x.count) were.2

  fits : args_error (setup at) args ≡ 0
  fits = argv-fits (setup at) c.args.plan.now.image.setup_ok (mem_of (store c.args.frames.now c.args.book.now) c.args.number) c.args.argv (read args) (sym were.1)

  standing : Standing args (take held.used c.copy_argv.new.buf) held.count
  standing = record {
    bytes-are = read-strings args (before at) c.copy_argv.new.buf held.used used ((told at).bytes ∙ ap (left_in (before at)) were.1);
    counted = sym count;
    no_nul = (args-means (setup at) args fits).0;
  }

-- the pointers are behind them
fitting : (c : After-pointers_behind) → let d = (goal.at.After-pointers_behind c).In-Ok in Fitting (setup (at d)) (args d) c.pointers_behind.new.buf (held d).used (held d).count
fitting c =
    let d = (goal.at.After-pointers_behind c).In-Ok in
    record { laid = rw c.setup-setup.ensures at c.pointers_behind.ensures (args d) (standing d); counted = (standing d).counted; passed = fits d }

pub invariant_of-pages : goal.invariant_of-pages
invariant_of-pages c = record { accepted = rw c.setup-setup.ensures c.args.plan.now.image.setup_ok; ready = ∣ c.requires.ready ∣₁; numbered = valid-means _ c.requires.enterable.number }

pub copy_argv-requires : goal.copy_argv-requires
copy_argv-requires c =
    let o = c.args.plan.now.image.setup_ok in
    record { frames_len = c.requires.enterable.sizes; in_bounds = rw c.setup-setup.ensures (omega (arith, o)) }

pub pointers_behind-requires : goal.pointers_behind-requires
pointers_behind-requires c =
    let d = (goal.at.pointers_behind-requires c).In-Ok in
    let m = (args-means (setup (at d)) (args d) (fits d)).1 in
    let o = c.args.plan.now.image.setup_ok in
    record { by_index = (args d, standing d); count_in_bounds = (omega (arith, m, o, used d, count d), rw c.setup-setup.ensures (omega (arith, m, o, used d))) }

pub enter-requires : goal.enter-requires
enter-requires c = record { enterable = c.requires.enterable; by_index = (args (goal.at.enter-requires c).In-Ok, fitting (goal.at.enter-requires c).After-pointers_behind) }

pub returns-in-Ok : goal.returns-in-Ok
returns-in-Ok c =
    let d = (goal.at.returns-in-Ok c).In-Ok in
    let left = c.enter.ensures (args d) (fitting (goal.at.returns-in-Ok c).After-pointers_behind) in
    enters (args d) (were d).1 left.0 left.1

pub end_process-requires : goal.end_process-requires
end_process-requires c = c.requires.enterable.number

pub returns-in-Err-Bad : goal.returns-in-Err-Bad
returns-in-Err-Bad c =
    let d = (goal.at.returns-in-Err-Bad c).After-copy_argv in
    ends c.in-Err-Bad.address (was-bad (argv d) _ (sym (told d).said ∙ c.in-Err-Bad.is ∙ ap Err c.in-Err-Bad.field-0-is)) (c.end_process.ensures (setup d) c.args.frames.now) (ap EndedAt c.in-Err-Bad.address-is)

pub returns-in-Err-Over : goal.returns-in-Err-Over
returns-in-Err-Over c =
    let d = (goal.at.returns-in-Err-Over c).After-copy_argv in
    stays (was-over (argv d) (sym (told d).said ∙ c.in-Err-Over.is ∙ ap Err c.in-Err-Over.field-0-is)) refl c.from.ensures
