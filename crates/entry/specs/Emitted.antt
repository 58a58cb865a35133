-- What code that writes some entries has done to the writer.
use Rattle.std.specs.Prelude.{ℕ, ◌+◌, ◌≡◌, List, length}
use Rattle.std.specs.Borrow.{MutBor}
use Rattle.entry.specs.declared.Entry.{Entry}
use Rattle.entry.specs.declared.Entries.{Entries}
use Rattle.entry.specs.Wrote.{put_all}

-- from the writer `before` to the writer `after`, exactly the entries es were written, to the same buffer
pub record Emitted (before after : Entries) (es : List Entry) : Type 0 where
  pub same : after.out.ghost_name ≡ before.out.ghost_name
  pub count : after.n ≡ before.n + length es
  pub bytes : after.out.now ≡ put_all before.out.now before.n es

-- a writer made of a buffer
pub record Fresh (out : MutBor (List ℕ)) (w : Entries) : Type 0 where
  pub same : w.out.ghost_name ≡ out.ghost_name
  pub count : w.n ≡ 0
  pub bytes : w.out.now ≡ out.now
