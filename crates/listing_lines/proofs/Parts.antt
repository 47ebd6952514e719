-- The texts that are kept shut, by their parts.
-- Assumes nothing.
use mathlib.Core.Path.{◌≡◌, refl}
use mathlib.Core.List.{List, [], ◌∷◌, ◌++◌}
use Prim.Native.Nat.{ℕ, ◌+◌, ◌<◌}
use lib.ListN.{length, get_or, take}
use Rattle.spec.specs.Tests.{ascii}
use Rattle.spec.specs.declared.VirtRange.{VirtRange}
use Rattle.spec.specs.declared.UserSegment.{UserSegment}
use Rattle.spec.proofs.Lists.{flat-next}
use Rattle.text.specs.Text.{number_text}
use Rattle.listing_lines.specs.Lines.{span_text, lines_text, line_text}

pub span-text : (r : VirtRange) → number_text r.start ++ ascii " " ++ number_text r.end ++ (10 ∷ []) ≡ span_text r
unfolding number_text span_text
span-text r = refl

pub lines_none : lines_text [] ≡ []
unfolding lines_text
lines_none = refl

lines-some : (u : UserSegment) (us : List UserSegment) → lines_text (u ∷ us) ≡ line_text u ++ lines_text us
unfolding lines_text span_text
lines-some u us = refl

-- one more line
pub lines_next : (us : List UserSegment) (d : UserSegment) (i : ℕ) → i < length us → lines_text (take i us) ++ line_text (get_or us i d) ≡ lines_text (take (i + 1) us)
lines_next us d i h = flat-next line_text lines_text lines_none lines-some us i d h
