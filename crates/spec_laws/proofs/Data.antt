-- The data among pieces: what it gives each address, and that it is pieces again.
use Prim.Native.Nat.{ℕ}
use native.Mathlib.Omega.{arith}
use mathlib.Core.Path.{◌≡◌, refl, sym, ap, ◌∙◌}
use Rattle.std.specs.Prelude.{Option, None, Some}
use mathlib.Core.List.{List, [], ◌∷◌}
use borrow.Author.Tests.{eqb-true}
use Rattle.spec.specs.Tests.{◌is◌, ◌⇒◌else◌}
use Rattle.spec.specs.Book.{data_only, in_segment, perm_at}
use Rattle.spec.specs.declared.UserSegment.{UserSegment}
use Rattle.spec.proofs.Bools.{split}
use Rattle.spec_laws.proofs.Pieces.{Pieces}

abbrev pub only_data : Option ℕ → Option ℕ
only_data None = None
only_data (Some q) = q is 3 ⇒ Some q else None

-- data gives an address what the pieces give it, if that is data
pub data-perm : (gs : List UserSegment) → Pieces gs → (a : ℕ) → perm_at (data_only gs) a ≡ only_data (perm_at gs a)
data-perm [] p a = refl
data-perm (g ∷ gs) p a =
    let ih = data-perm gs p.1 a in
    split (g.perm is 3)
    (λ d. rw d (split (in_segment a g) (λ i. rw (i, d)) (λ i. rw i ih)))
    (λ d. rw d (split (in_segment a g) (λ i. rw (i, d) (ih ∙ ap only_data (p.0.apart a i))) (λ i. rw i ih)))

pub data-was : (gs : List UserSegment) → Pieces gs → (a q : ℕ) → perm_at (data_only gs) a ≡ Some q → (perm_at gs a ≡ Some q) × (q ≡ 3)
data-was gs p a q e = go (perm_at gs a) refl (sym (data-perm gs p a) ∙ e)
  where
    go : (o : Option ℕ) → perm_at gs a ≡ o → only_data o ≡ Some q → (perm_at gs a ≡ Some q) × (q ≡ 3)
    go None f h = absurd (let z : ◌≡◌ {A = ℕ} 0 1 = cc in omega arith)
    go (Some x) f h =
        split (x is 3)
        (λ d. let w : Some x ≡ Some q = rw d at h in let z : x ≡ q = cc in (f ∙ w, sym z ∙ eqb-true x 3 d))
        (λ d. let w : None ≡ Some q = rw d at h in absurd (let z : ◌≡◌ {A = ℕ} 0 1 = cc in omega arith))

pub data-pieces : (gs : List UserSegment) → Pieces gs → Pieces (data_only gs)
data-pieces [] p = tt
data-pieces (g ∷ gs) p =
    let more = data-pieces gs p.1 in
    split (g.perm is 3)
    (λ d. rw d (record { start = p.0.start; end = p.0.end; apart = λ a i. data-perm gs p.1 a ∙ ap only_data (p.0.apart a i) }, more))
    (λ d. rw d more)
