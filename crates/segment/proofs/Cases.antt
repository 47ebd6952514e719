-- `ibrk`'s rule for a bss that is set, case by case.
use Prim.Native.Nat.{ℕ, ◌+◌, ◌*◌, ◌-◌, ◌/◌, ◌^◌, ◌≤◌, ◌<◌}
use native.Mathlib.Omega.{arith}
use mathlib.Core.Path.{◌≡◌}
use Rattle.std.specs.Prelude.{Some}
use borrow.Author.Tests.{eq-eqb, ne_eqb, lt-ltb, le-ltb}
use Rattle.spec.proofs.Bools.{split}
use Rattle.spec.specs.Tests.{◌below◌}
use Rattle.spec.specs.Numbers.{limit, page_up}
use Rattle.spec.specs.Segment.{refused_by, ends_at, ibrk}
use Rattle.spec.specs.declared.VirtRange.{VirtRange}
use Rattle.spec.specs.declared.Setup.{Setup}

module _ (setup : Setup) where
  module _ (bss : VirtRange) (addr free : ℕ) where
    pub zero-start : addr ≡ 0 → ibrk setup (Some bss) addr free ≡ record { error = 0; value = bss.start; bss = Some bss }
    unfolding ibrk
    zero-start z = rw (eq-eqb addr 0 z)

    module _ (some-addr : addr ≡ 0 → ⊥) where
      pub below-start : addr < bss.start → ibrk setup (Some bss) addr free ≡ refused_by 33 bss
      unfolding ibrk
      below-start l = rw (ne_eqb addr 0 some-addr, lt-ltb addr bss.start l)

      module _ (low : bss.start ≤ addr) where
        pub past-64 : 2 ^ 64 ≤ page_up addr → ibrk setup (Some bss) addr free ≡ refused_by 33 bss
        unfolding ibrk
        past-64 l = rw (ne_eqb addr 0 some-addr, le-ltb addr bss.start low, le-ltb (page_up addr) (2 ^ 64) l)

        module _ (fits : page_up addr < 2 ^ 64) where
          pub above-limit : limit setup < page_up addr → ibrk setup (Some bss) addr free ≡ refused_by 34 bss
          unfolding ibrk
          above-limit l = rw (ne_eqb addr 0 some-addr, le-ltb addr bss.start low, lt-ltb (page_up addr) (2 ^ 64) fits, lt-ltb (limit setup) (page_up addr) l)

          module _ (under : page_up addr ≤ limit setup) where
            -- growth is weighed by the pages that it touches
            pub short : bss.end ≤ page_up addr → free < (page_up addr - bss.end + 4095) / 4096 → ibrk setup (Some bss) addr free ≡ refused_by 33 bss
            unfolding ibrk
            short l h =
                rw (
                  ne_eqb addr 0 some-addr,
                  le-ltb addr bss.start low,
                  lt-ltb (page_up addr) (2 ^ 64) fits,
                  le-ltb (limit setup) (page_up addr) under,
                  le-ltb (page_up addr) bss.end l,
                  lt-ltb (4096 * free) (page_up addr - bss.end) (omega arith),
                )

            -- to a lower end, or to a higher one within the free frames
            pub moves : (page_up addr - bss.end + 4095) / 4096 ≤ free → ibrk setup (Some bss) addr free ≡ ends_at (page_up addr) bss
            unfolding ibrk
            moves h =
                rw (
                  ne_eqb addr 0 some-addr,
                  le-ltb addr bss.start low,
                  lt-ltb (page_up addr) (2 ^ 64) fits,
                  le-ltb (limit setup) (page_up addr) under,
                )
                (split (page_up addr below bss.end) (λ q. rw q) (λ q. rw (q, le-ltb (4096 * free) (page_up addr - bss.end) (omega arith))))
