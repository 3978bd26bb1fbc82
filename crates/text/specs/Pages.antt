-- Pages: lent bytes that are filled from the front. Definitions only.
use Rattle.std.specs.Prelude.{◌≡◌, ℕ, ◌+◌, ◌≤◌, List, length}
use Rattle.text.specs.declared.Page.{Page}
use Rattle.text.specs.Text.{Put}

-- There is room for n more bytes.
abbrev pub HasRoom : Page → ℕ → Type 0
HasRoom p n = p.end + n ≤ length p.bytes.now

-- What a page is after s is put into it: the same bytes, with s from the end on.
pub record Puts (old : Page) (s : List ℕ) (new : Page) : Type 0 where
  pub same_bytes : new.bytes.ghost_name ≡ old.bytes.ghost_name
  pub put : Put old.bytes.now old.end s new.bytes.now new.end
