-- A program's segments, then its bss, then the stack, placed one after the other, are all that a start places.
use Prim.Native.Nat.{ℕ, ◌%◌, ◌≤◌}
use native.Mathlib.Omega.{arith}
use mathlib.Core.Path.{◌≡◌, sym, ap, ◌∙◌}
use mathlib.Core.List.{List, [], ◌∷◌, ◌++◌}
use Rattle.spec.specs.Numbers.{max_top, page_up, page_bytes, zero_page, SetupOk}
use Rattle.spec.specs.Book.{stack, bss_segment}
use Rattle.spec.specs.Frames.{Store, Page, pages_of, place}
use Rattle.spec.specs.Program.{Program}
use Rattle.spec.specs.Exec.{program_bss, start_pieces, file_byte}
use Rattle.spec.specs.declared.VirtRange.{VirtRange}
use Rattle.spec.specs.declared.Setup.{Setup}
use Rattle.spec_laws.proofs.Place.{place-append}
use Rattle.spec_laws.proofs.Accepted.{Accepted, program-recorded}
use Rattle.exec_load.specs.Pages.{segment_pages}
use Rattle.exec_load.proofs.Segments.{start-pages}

pub record Fits (bss : VirtRange) : Type 0 where
  pub start : bss.start ≤ max_top
  pub order : page_up bss.start ≤ bss.end
  pub aligned : bss.end % 4096 ≡ 0
  pub end : bss.end ≤ max_top

pub bss-fits : (setup : Setup) (ok : SetupOk setup) (p : Program) (bss : VirtRange) → Accepted setup p → bss ≡ program_bss p → Fits bss
bss-fits setup ok p bss z e =
    let b = (program-recorded setup ok p z).bss-ok in
    rw e (record {
      start = omega (arith, b.order, b.low);
      order = omega (arith, b.order, b.aligned);
      aligned = b.aligned;
      end = omega (arith, b.low);
    })

pub all_placed : (setup : Setup) (ok : SetupOk setup) (m m₁ m₂ m₃ : Store) (n : ℕ) (p : Program) (bss : VirtRange) → Accepted setup p → bss ≡ program_bss p
    → m₁ ≡ place m n (segment_pages bss p.segments) → m₂ ≡ place m₁ n (pages_of zero_page (bss_segment bss ∷ [])) → m₃ ≡ place m₂ n (pages_of zero_page (stack setup ∷ []))
    → m₃ ≡ place m n (pages_of (page_bytes (file_byte p.segments)) (start_pieces setup p))
all_placed setup ok m m₁ m₂ m₃ n p bss z b e₁ e₂ e₃ =
    let xs : List Page = segment_pages (program_bss p) p.segments in
    let ys : List Page = pages_of zero_page (bss_segment (program_bss p) ∷ []) in
    let zs : List Page = pages_of zero_page (stack setup ∷ []) in
    e₃
    ∙ ap (λ (x : Store). place x n zs) (e₂ ∙ ap (λ (x : Store). place x n (pages_of zero_page (bss_segment bss ∷ []))) e₁ ∙ ap (λ (r : VirtRange). place (place m n (segment_pages r p.segments)) n (pages_of zero_page (bss_segment r ∷ []))) b)
    ∙ sym (place-append (place m n xs) n ys zs)
    ∙ sym (place-append m n xs (ys ++ zs))
    ∙ ap (place m n) (sym (start-pages setup ok p z))
