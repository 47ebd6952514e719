-- What fork's functions promise each other: the lookup that the check of the book leaves, while pages are shared with and placed for
-- the child. The book changes as the child's pages come in, but not where the parent's stand.
-- Assumes nothing.
use Rattle.std.specs.Prelude.{ℕ, ◌%◌, ◌^◌, ◌<◌, ◌≡◌, List}
use Rattle.spec.specs.Book.{frame_count, mapping, holders, frame_of}
use Rattle.spec.specs.Frames.{Store, frame_bytes}
use Rattle.spec.specs.declared.UserSegment.{UserSegment}
use Rattle.sound.specs.declared.Lookup.{Lookup}
use Rattle.sound.specs.Table.{Ready}
use Rattle.pagealloc.specs.Lent.{Mapped}

-- a segment whose pages can be copied: whole pages, each of which process n has
pub record Copyable (book : List ℕ) (n : ℕ) (g : UserSegment) : Type 0 where
  pub start : g.range.start % 4096 ≡ 0
  pub end : g.range.end % 4096 ≡ 0
  pub high : g.range.end < 2 ^ 63
  pub mapped : Mapped book n g.range.start g.range.end

-- none of process n's frames is free
abbrev pub Held : List ℕ → ℕ → Type 0
Held book n = (k : ℕ) → k < frame_count book → (mapping book k n ≡ 0 → ⊥) → holders book k ≡ 0 → ⊥

-- the lookup tells the frames of process n's pages: in the book that it was made for, these pages have the frames that they have
-- now; and none of its frames is free
pub record Tells (book : List ℕ) (l : Lookup) (n : ℕ) : Type 0 where
  pub checked : List ℕ
  pub ready : Ready checked n l
  pub same : (page : ℕ) → frame_of book n page ≡ frame_of checked n page
  pub held : Held book n

-- from m to t, the pages of process n stay in their frames, with their bytes
pub record Kept (m t : Store) (n : ℕ) : Type 0 where
  pub same : (page : ℕ) → frame_of t.book n page ≡ frame_of m.book n page
  pub bytes : (page : ℕ) → frame_bytes t.frames (frame_of t.book n page) ≡ frame_bytes m.frames (frame_of m.book n page)
