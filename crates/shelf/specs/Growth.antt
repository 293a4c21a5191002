-- An old file that grows by radials (demand 3; document 02, #102): what was refused stays refused, with number and place, and what is
-- written of the longer one begins with what was written of the shorter one.
use Rattle.std.specs.Prelude.{◌≡◌, ℕ, List, ◌++◌}
use Rattle.generic.specs.declared.Generic.{Generic}
use Rattle.site.specs.declared.Site.{Site}
use Rattle.task.specs.declared.Task.{Task}
use Rattle.writer.specs.declared.order.Answer.TheVariants.{Taken}
use Rattle.retold.specs.Many.{written_in}
use Rattle.shelf.specs.Import.{refused_whole, import_of}

pub record ImportGrows (g : Generic) (s : Site) (t : Task) (c A C room : List ℕ) : Type 0 where
  pub refused : (n p : ℕ) → import_of g s t c A room ≡ refused_whole n p room → import_of g s t c (A ++ C) room ≡ refused_whole n p room
  pub taken : (import_of g s t c (A ++ C) room).answer ≡ Taken → (import_of g s t c A room).answer ≡ Taken
  pub begins : (import_of g s t c (A ++ C) room).answer ≡ Taken
      → (more : List ℕ) × (written_in (import_of g s t c (A ++ C) room) ≡ written_in (import_of g s t c A room) ++ more)
