-- A step where it is known which block is due: what it says, what is due behind it, and what it is to an advance. Assumes
-- nothing.
use Prim.Native.Nat.{ℕ, ◌+◌, ◌-◌, ◌<◌, ◌≤◌}
use native.Mathlib.Omega.{arith}
use mathlib.Core.Path.{◌≡◌, refl, sym, ap, subst, subst⁻¹, ◌∙◌}
use mathlib.Core.Bool.{true, false}
use mathlib.Core.List.{List}
use lib.ListN.{length, take}
use borrow.Author.Tests.{eq-eqb, ne_eqb}
use Rattle.walk.specs.declared.due.Due.{Due}
use Rattle.walk.specs.declared.due.Due.TheVariants as due
use Rattle.walk.specs.declared.due.Walk.{Walk}
use Rattle.walk.specs.Due.{size_at, is_end, ends_radial, due_if}
use Rattle.reading.specs.declared.Onward.TheVariants.{Whole}
use Rattle.reading.specs.declared.step.Step.{Step}
use Rattle.reading.specs.declared.step.Step.TheVariants.{Took, Open, Refused, Complete}
use Rattle.reading.specs.Step.{take_radial, take_moment, block_at, say_block, step_of}
use Rattle.reading.specs.Reading.{stretch, advance_if, advance_of}
use Rattle.reading.proofs.Loops.{advance-step}
use Rattle.reading.proofs.Run.{is-here, is-short, settle-took, took_more, taken, Stays}

-- a step that took no block, as the code tells it from the others
pub not-took : (s : Step) → ((n : Walk) → s ≡ Took n → ⊥) → Stays s
unfolding Stays
not-took (Took n) h = absurd (h n refl)
not-took (Open m) h = tt
not-took (Refused n p) h = tt
not-took Complete h = tt

module _ (f : List ℕ) (w : Walk) (d : Due) (is : w.due ≡ d) where
  pub known-here : is_end d ≡ false → w.at + size_at d w.rest.length ≤ length f → step_of f w ≡ say_block d (take (w.at + size_at d w.rest.length) f) w
  known-here i h =
      is-here f w (ap is_end is ∙ i) (subst⁻¹ (λ (d : Due). w.at + size_at d w.rest.length ≤ length f) is h)
      ∙ ap (λ (d : Due). say_block d (take (w.at + size_at d w.rest.length) f) w) is

  pub known-short : is_end d ≡ false → length f < w.at + size_at d w.rest.length → step_of f w ≡ Open (w.at + size_at d w.rest.length - length f)
  known-short i h =
      is-short true f w (ap is_end is ∙ i) (subst⁻¹ (λ (d : Due). length f < w.at + size_at d w.rest.length) is h)
      ∙ ap (λ (d : Due). Open (w.at + size_at d w.rest.length - length f)) is

  known-block : (n : Walk) → step_of f w ≡ Took n → block_at d (take (w.at + size_at d w.rest.length) f) w ≡ Took n
  known-block n e = subst (λ (d : Due). block_at d (take (w.at + size_at d w.rest.length) f) w ≡ Took n) is (taken f w n e).block

  -- a block that does not end a radial: the advance goes on behind it
  known_on : (n : Walk) → ends_radial d w.rest.todo ≡ false → step_of f w ≡ Took n → advance_of f w ≡ advance_of f n
  unfolding advance_if
  known_on n b e = advance-step f w n false e (ap (λ (d : Due). ends_radial d w.rest.todo) is ∙ b)

module _ (f : List ℕ) (w n : Walk) (e : step_of f w ≡ Took n) where
  -- behind a radial header a moment header is due, and behind that its data
  pub radial-then : w.due ≡ due.Radial → n.due ≡ due.Moment
  unfolding block_at take_radial
  radial-then is = ap (λ (x : Walk). x.due) (sym (settle-took _ _ _ n (known-block f w due.Radial is n e)))

  pub moment-then : w.due ≡ due.Moment → n.due ≡ due.Data
  unfolding block_at take_moment
  moment-then is = ap (λ (x : Walk). x.due) (sym (settle-took _ _ _ n (known-block f w due.Moment is n e)))

  pub radial-on : w.due ≡ due.Radial → advance_of f w ≡ advance_of f n
  unfolding ends_radial
  radial-on is = known_on f w due.Radial is n refl e

  pub moment-on : w.due ≡ due.Moment → advance_of f w ≡ advance_of f n
  unfolding ends_radial
  moment-on is = known_on f w due.Moment is n refl e

  -- behind data a moment header, while moments are to come
  pub data-then : w.due ≡ due.Data → (w.rest.todo ≡ 0 → ⊥) → n.due ≡ due.Moment
  unfolding block_at due_if
  data-then is t = sym (ap (λ (x : Walk). x.due) (took_more w n (omega arith) (known-block f w due.Data is n e)))

  pub data-on : w.due ≡ due.Data → (w.rest.todo ≡ 0 → ⊥) → advance_of f w ≡ advance_of f n
  unfolding ends_radial
  data-on is t = known_on f w due.Data is n (ne_eqb w.rest.todo 0 t) e

  -- the last data makes the radial whole
  pub data-last : w.due ≡ due.Data → w.rest.todo ≡ 0 → advance_of f w ≡ Whole (stretch w n) n
  unfolding advance_if ends_radial
  data-last is t = advance-step f w n true e (ap (λ (d : Due). ends_radial d w.rest.todo) is ∙ eq-eqb w.rest.todo 0 t)
