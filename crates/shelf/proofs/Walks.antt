-- How far the counts of every walk go that a reading reaches. Assumes nothing.
use Rattle.std.proofs.Common.{◌≡◌, ℕ, ◌+◌, ◌≤◌, Bool, true, false, ltb, List, subst, arith}
use Rattle.rules.specs.Ranges.{most_radials, most_sequence}
use Rattle.rules.proofs.Judged.{all_hold}
use Rattle.radial.specs.Radial.{radial_at, radial_check, radial_rules}
use Rattle.radial.proofs.Header.{header}
use Rattle.walk.specs.declared.due.Due.{Due}
use Rattle.walk.specs.declared.due.Due.TheVariants as due
use Rattle.walk.specs.declared.due.Walk.{Walk}
use Rattle.walk.specs.Due.{at_start, radial_due}
use Rattle.walk.specs.After.{after_data, after_data_if, closes_cut}
use Rattle.reading.specs.declared.step.Step.TheVariants.{Took}
use Rattle.reading.specs.Reading.{fuel, stop}
use Rattle.reading.specs.Step.{take_generic, take_site, take_task, take_cut, take_radial, take_moment, take_data, cut_in, block_at}
use Rattle.reading.proofs.Run.{settle-took, settle-fine, took-inj, taken, last-holds}

pub record Small (w : Walk) : Type 0 where
  pub whole : w.count.whole ≤ most_sequence
  pub in_cut : w.count.in_cut ≤ most_radials
  pub sequence : w.present.sequence ≤ most_sequence

small-radial : (p : List ℕ) (w m : Walk) → Small w → take_radial (radial_at p w.at) (cut_in p w) w ≡ Took m → Small m
unfolding take_radial radial_check
small-radial p w m h e =
    let r = radial_at p w.at in
    let k = header r (radial_due w) (all_hold (radial_rules r (radial_due w)) (settle-fine _ _ _ m e)) in
    let n = k.number in
    let s = k.sequence in
    let v = k.in-volume in
    let l = k.in-layer in
    subst Small (settle-took _ _ _ m e) (record { whole = h.whole; in_cut = omega arith; sequence = omega arith })

small-data : (more closes later : Bool) (w : Walk) (end : ℕ) → Small w → Small (after_data_if more closes later w end)
small-data true closes later w end h = record { whole = h.whole; in_cut = h.in_cut; sequence = h.sequence }
small-data false true later w end h = record { whole = h.sequence; in_cut = omega arith; sequence = h.sequence }
small-data false false later w end h = record { whole = h.sequence; in_cut = h.in_cut; sequence = h.sequence }

small-on : (d : Due) (p : List ℕ) (w m : Walk) → Small w → block_at d p w ≡ Took m → Small m
unfolding block_at take_generic take_site take_task take_cut take_moment take_data after_data
small-on due.Generic p w m h e = subst Small (settle-took _ _ _ m e) (record { whole = h.whole; in_cut = h.in_cut; sequence = h.sequence })
small-on due.Site p w m h e = subst Small (settle-took _ _ _ m e) (record { whole = h.whole; in_cut = h.in_cut; sequence = h.sequence })
small-on due.Task p w m h e = subst Small (settle-took _ _ _ m e) (record { whole = h.whole; in_cut = h.in_cut; sequence = h.sequence })
small-on due.Cut p w m h e = subst Small (settle-took _ _ _ m e) (record { whole = h.whole; in_cut = h.in_cut; sequence = h.sequence })
small-on due.Radial p w m h e = small-radial p w m h e
small-on due.Moment p w m h e = subst Small (settle-took _ _ _ m e) (record { whole = h.whole; in_cut = h.in_cut; sequence = h.sequence })
small-on due.Data p w m h e = subst Small (took-inj _ m e) (small-data (ltb 0 w.rest.todo) (closes_cut w) (ltb w.count.cut w.plan.cuts) w (w.at + w.rest.length) h)
small-on due.Nothing p w m h e = absurd (let z : ◌≡◌ {A = ℕ} 0 1 = cc in omega arith)

pub small : (f : List ℕ) (w : Walk) → stop f ≡ w → Small w
small f w e =
    subst Small e
    (last-holds true f Small (λ v m q h. small-on v.due _ v m h (taken f v m q).block) (fuel f) at_start
    (record { whole = omega arith; in_cut = omega arith; sequence = omega arith }))
