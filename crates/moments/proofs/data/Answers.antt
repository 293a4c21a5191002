-- Where b ends before the data do, taking as many as the header says takes all that is left. Assumes nothing.
use mathlib.Core.Path.{◌≡◌, sym, ◌∙◌}
use mathlib.Core.List.{[]}
use Prim.Native.Nat.{◌+◌, ◌-◌, ◌≤◌}
use native.Mathlib.Omega.{arith}
use borrow.Author.Tests.{leb-true, leb-false}
use lib.ListN.{length, drop, drop_of_length-le}
use lib.Seq.{take-nil, drop-length}
use Rattle.le.proofs.Laws.{to_end}
use Rattle.moments.specs.Moments.{data_at}
use Rattle.moments.proofs.data.Goals as goal

-- what the test says: the header's bytes are there
fits : (c : goal.Then-has) → c.args.at + 32 ≤ length c.args.b.now
fits c = leb-true _ _ (sym c.has.ensures ∙ c.if-has.true)

pub overflow_add-from : goal.overflow_add-from
overflow_add-from c = omega (arith, fits c)

fits-2 : (c : goal.After-length_at-n) → c.args.at + 32 ≤ length c.args.b.now
fits-2 c = leb-true _ _ (sym c.has.ensures ∙ c.if-has.true)

pub overflow_sub-end : goal.overflow_sub-end
overflow_sub-end c = omega (arith, fits-2 c)

fits-3 : (c : goal.Then-n-end) → c.args.at + 32 ≤ length c.args.b.now
fits-3 c = leb-true _ _ (sym c.has.ensures ∙ c.if-has.true)

pub overflow_add-to : goal.overflow_add-to
overflow_add-to c = omega (arith, fits-3 c)

pub slice_bounds-result-end : goal.slice_bounds-result-end
slice_bounds-result-end c = omega (arith, fits-3 c)

pub returns-then-n-end : goal.returns-then-n-end
unfolding data_at
returns-then-n-end c =
    let a = c.args in
    let n = c.length_at-n.result in
    let e : a.at + 32 + n - (a.at + 32) ≡ n = omega arith in
    rw (e, c.length_at-n.ensures)

fits-4 : (c : goal.Else-n-end) → c.args.at + 32 ≤ length c.args.b.now
fits-4 c = leb-true _ _ (sym c.has.ensures ∙ c.if-has.true)

pub slice_bounds-result-count-then-has : goal.slice_bounds-result-count-then-has
slice_bounds-result-count-then-has c = omega (arith, fits-4 c)

pub slice_bounds-result-start-then-has : goal.slice_bounds-result-start-then-has
slice_bounds-result-start-then-has c = omega (arith, fits-4 c)

fits-5 : (c : goal.After-result-then-has-1) → c.args.at + 32 ≤ length c.args.b.now
fits-5 c = leb-true _ _ (sym c.has.ensures ∙ c.if-has.true)

pub returns-then-has : goal.returns-then-has
unfolding data_at
returns-then-has c =
    let a = c.args in
    let b = a.b.now in
    let from = a.at + 32 in
    let h = fits-5 c in
    rw (← c.length_at-n.ensures)
    (to_end b from (length b - from) (omega arith) ∙ sym (to_end b from c.length_at-n.result (omega arith)))

pub returns : goal.returns
unfolding data_at
returns c =
    let a = c.args in
    let h = leb-false (a.at + 32) (length a.b.now) (sym c.has.ensures ∙ c.if-has.false) in
    let gone : drop (a.at + 32) a.b.now ≡ [] = drop_of_length-le a.b.now {i = a.at + 32} (omega arith) in
    simp (gone, drop-length, take-nil)

pub length_at-n-requires : goal.length_at-n-requires
length_at-n-requires c = fits c
