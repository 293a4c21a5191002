-- Each field by the call that gives it. Assumes nothing.
use Prim.Native.Nat.{ℕ, ◌+◌, ◌-◌}
use mathlib.Core.Path.{◌≡◌, ap, ◌∙◌}
use native.Mathlib.Nat.{add-zero}
use lib.ListN.{length}
use Rattle.le.specs.Le.{le}
use Rattle.radial.specs.Radial.{radial_at}
use Rattle.mend.specs.Mend.{field_of}
use Rattle.mend.proofs.Fields.{state-in}
use Rattle.mend.proofs.report.report_of.Goals as goal

pub returns : goal.returns
returns c =
    let f = c.args.file.now in
    let s = c.args.s in
    let cuts = c.cut_number-cuts.ensures in
    let gap = c.dropped_bytes.ensures in
    let old : c.u32_at-old.result ≡ (radial_at f s.start).state =
    c.u32_at-old.ensures ∙ ap (le 4 f) (add-zero s.start) ∙ state-in f s.start in
    let number = c.field_of-cut_number.ensures ∙ ap (λ (n : ℕ). field_of 336 336 n s.cut) cuts in
    let state = rw (gap, old, c.last_state.ensures) at c.field_of-state.ensures in
    λ i. record {
      cut_number = number i;
      state = state i;
      first_dropped = s.cut + 1;
      dropped_cuts = cuts i - s.cut;
      from = s.end;
      to = length f;
    }
