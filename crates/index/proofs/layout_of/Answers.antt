-- What reading tells, with the cuts as the task's bytes have them. Assumes nothing.
use Prim.Native.Nat.{ℕ}
use mathlib.Core.List.{[], ◌∷◌}
use mathlib.Core.Path.{◌≡◌, sym, ap, ap₂, ◌∙◌}
use Rattle.reading.specs.Reading.{verdict_told, told}
use Rattle.index.specs.Answer.{same, complete}
use Rattle.index.specs.Making.{layout_for, layout_of}
use Rattle.index.proofs.Walked.{cuts-read}
use Rattle.index.proofs.layout_of.Goals as goal

pub returns-in-Complete : goal.returns-in-Complete
unfolding verdict_told same complete layout_of
returns-in-Complete c =
    let a = c.args in
    let r = c.read-told.ensures in
    let t : told a.file.now ≡ 0 ∷ [] = sym r.verdict ∙ ap verdict_told c.in-Complete.is in
    c.layout_for.ensures
    ∙ ap₂ (λ (m n : ℕ). layout_for m n a.len) (c.u32_at-cuts.ensures ∙ sym (cuts-read a.file.now t)) r.radials
    ∙ rw t

pub returns-in-Open : goal.returns-in-Open
unfolding verdict_told same complete layout_of
returns-in-Open c = let r = c.read-told.ensures in rw (sym r.verdict ∙ ap verdict_told c.in-Open.is)

pub returns-in-Refused : goal.returns-in-Refused
unfolding verdict_told same complete layout_of
returns-in-Refused c = let r = c.read-told.ensures in rw (sym r.verdict ∙ ap verdict_told c.in-Refused.is)
