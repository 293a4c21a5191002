-- Growth of answers by the index: the statement of specs/Growth, by citing that of reading and of the questions. Assumes nothing.
use Prim.Native.Nat.{ℕ, ◌<◌}
use mathlib.Core.Bool.{false}
use mathlib.Core.List.{List, [], ◌∷◌, ◌++◌}
use mathlib.Core.Path.{◌≡◌, ap, subst, ◌∙◌}
use lib.ListN.{length}
use Rattle.gates.specs.Gates.{Values}
use Rattle.gates.specs.Telling.{Telling}
use Rattle.reading.specs.declared.Stretch.{Stretch}
use Rattle.reading.specs.Reading.{nth, stretches, told}
use Rattle.reading.proofs.Grown as reading
use Rattle.ask.proofs.Growing.{nth-kept}
use Rattle.ask.proofs.Grown as ask
use Rattle.index.specs.Answer.{complete, right_for, same}
use Rattle.index.specs.Forms.{start_of_found}
use Rattle.index.proofs.Says.{leads}
use Rattle.engine.specs.Growth.{EngineGrows}
use Rattle.engine.specs.Meaning.{Stands}

-- no index is right for a refused file
refused-59 : (f x : List ℕ) (number place : ℕ) → told f ≡ 2 ∷ number ∷ place ∷ [] → right_for f x ≡ false
unfolding right_for complete same
refused-59 f x number place e = rw e

pub engine-grows : (A C : List ℕ) → 0 < length C → EngineGrows A C
engine-grows A C some =
    let g = reading.grows A C some in
    let a = ask.answers-grow A C some in
    record {
      complete = λ e x. refused-59 (A ++ C) x 25 (length A) (g.complete e);
      refused = λ number place e x. refused-59 (A ++ C) x number place (g.refused number place e ∙ e);
      leads = λ x bs r n s e. leads (A ++ C) x bs r n ∙ ap start_of_found (ap (λ (l : List Stretch). nth l n) g.radials ∙ nth-kept (stretches A) g.later n s e);
      stands = λ n s e t i k h w. subst (λ (y : Telling Values). Stands y k h) ((a.whole n s e).gate t i) w;
    }
