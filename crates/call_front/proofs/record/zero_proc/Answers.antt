-- `zero_proc` meets its contract: each place of the default's arrays is zero.
use Rattle.std.proofs.Common.{◌≡◌, ℕ, List, replicate, sym, ◌∙◌, arith}
use Rattle.std.proofs.lemmas.List.{length-replicate, get_or-replicate}
use lib.Seq.{ext_get_or}
use Rattle.std.specs.Array.{AllOfLen}
use Rattle.spec.specs.Book.{zero_segment}
use Rattle.call_front.proofs.record.zero_proc.Goals as goal

-- a list of which each element is d
all_same : {A : Type 0} (P : A → Type 0) (xs : List A) (n : ℕ) (d : A) → ((x : A) → P x → x ≡ d) → AllOfLen P xs n → xs ≡ replicate n d
all_same P xs n d is h = ext_get_or d xs (replicate n d) (h.long ∙ sym (length-replicate n d)) (λ i l. is _ (h.at i d (omega (arith, h.long))) ∙ sym (get_or-replicate n i d d (omega (arith, h.long))))

pub returns : goal.returns
returns c =
    let e = c.default.ensures in
    let gs = all_same _ c.default.result.segments 16 zero_segment (λ x p. λ i. record { range = record { start = p.0.0 i; end = p.0.1 i }; perm = p.1 i }) e.0 in
    let ts = all_same _ c.default.result.text 28 0 (λ x p. p) e.1.0 in
    λ i. record { segments = gs i; text = ts i; bss = record { start = e.1.1.0 i; end = e.1.1.1 i } }
